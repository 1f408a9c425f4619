-- A stage that fails is enough to say no, and all together say yes.
use Rattle.std.proofs.Common.{◌≡◌, true, Bool, ◌&&◌, List, ℤ, sym, ◌∙◌}
use Rattle.numbers.proofs.Tests.{same_truth, and_true, and_left, and_right}
use Rattle.definitions.specs.Order.{header_in_order, root_in_order, in_order}
use Rattle.records.specs.Record.{records_in_order}
use Rattle.order.proofs.Verdict.{stages, from_stages, out_of_order_law, testable, waiting_small, depth_small}
use Rattle.order.proofs.passes.Goals as goal

-- What is known past the first test.
record Shaped (t : List ℤ) : Type 0 where
  pub header : header_in_order t ≡ true
  pub root : root_in_order t ≡ true
  pub records : records_in_order t ≡ true

shaped : (t : List ℤ) {h r e : Bool} → h ≡ header_in_order t → r ≡ root_in_order t → e ≡ records_in_order t → (h && r && e) ≡ true → Shaped t
shaped t {h} {r} {e} header root records all =
    record {
      header = sym header ∙ and_left h r (and_left (h && r) e all);
      root = sym root ∙ and_right h r (and_left (h && r) e all);
      records = sym records ∙ and_right (h && r) e all;
    }

pub returns-then-not-header-root : goal.returns-then-not-header-root
returns-then-not-header-root c =
    let header = c.header_in_order-header in
    let root = c.root_in_order-root in
    let each = c.records_in_order-each in
    out_of_order_law _ (header.result && root.result && each.result)
    (λ s. and_true (header.result && root.result) each.result (and_true header.result root.result (header.ensures ∙ s.header) (root.ensures ∙ s.root)) (each.ensures ∙ s.records))
    c.if-not-header-root.true

pub totals-requires : goal.totals-requires
totals-requires c =
    let first = shaped _ c.header_in_order-header.ensures c.root_in_order-root.ensures c.records_in_order-each.ensures c.if-not-header-root.false in
    (first.records, c.none-sums.ensures _)

pub classes_cover-requires : goal.classes_cover-requires
classes_cover-requires c =
    let first = shaped _ c.header_in_order-header.ensures c.root_in_order-root.ensures c.records_in_order-each.ensures c.if-not-header-root.false in
    (first.records, c.totals.ensures)

pub returns-then-not-classes_cover : goal.returns-then-not-classes_cover
returns-then-not-classes_cover c = out_of_order_law _ c.classes_cover.result (λ s. c.classes_cover.ensures ∙ s.classes) c.if-not-classes_cover.true

pub rates_in_order-rates-requires : goal.rates_in_order-rates-requires
rates_in_order-rates-requires c =
    let first = shaped _ c.header_in_order-header.ensures c.root_in_order-root.ensures c.records_in_order-each.ensures c.if-not-header-root.false in
    let covered = sym c.classes_cover.ensures ∙ c.if-not-classes_cover.false in
    (testable _ c.told-table first.root first.records covered, c.totals.ensures.shares)

pub queues_in_order-queues-requires : goal.queues_in_order-queues-requires
queues_in_order-queues-requires c =
    let first = shaped _ c.header_in_order-header.ensures c.root_in_order-root.ensures c.records_in_order-each.ensures c.if-not-header-root.false in
    (waiting_small _ first.records, depth_small _ first.records)

-- The last two tests, in whichever order the code joins them.
pub returns : goal.returns
returns c =
    let first = shaped _ c.header_in_order-header.ensures c.root_in_order-root.ensures c.records_in_order-each.ensures c.if-not-header-root.false in
    let rates = c.rates_in_order-rates in
    let queues = c.queues_in_order-queues in
    same_truth _ (in_order c.args.table.now)
    (λ h.
    let are_rates : rates.result ≡ true = search (and_left, and_right, h) in
    let are_queues : queues.result ≡ true = search (and_left, and_right, h) in
    from_stages _
    (record {
      long = c.told-table;
      header = first.header;
      root = first.root;
      records = first.records;
      classes = sym c.classes_cover.ensures ∙ c.if-not-classes_cover.false;
      rates = sym rates.ensures ∙ are_rates;
      queues = sym queues.ensures ∙ are_queues;
    }))
    (λ h.
    let s = stages _ h in
    let are_rates = rates.ensures ∙ s.rates in
    let are_queues = queues.ensures ∙ s.queues in
    search (and_true, are_rates, are_queues))
