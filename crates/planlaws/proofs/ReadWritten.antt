-- Reading an accepted plan and writing the table in the edition that was met gives the same bytes. The nodes of the table are
-- those of the plan's entries, and both the plan's order and the writer's rise by level, then by number: so they are one. No
-- entry of the first edition asks for a stated node, so the table has none.
use Prim.Native.Nat.{ℕ, ◌≤◌, ◌<◌}
use mathlib.Core.Path.{◌≡◌, refl, sym, ap, ap₂, ◌∙◌}
use mathlib.Core.Bool.{true, false}
use mathlib.Core.List.{List}
use native.Mathlib.Omega.{arith}
use native.Mathlib.Decide.{dec_lt, ℕ_discrete}
use borrow.Author.Tests.{ne_eqb, ltb-true}
use lib.ListN.{length}
use lib.IntN.{ℤ}
use Rattle.numbers.specs.Whole.{plus}
use Rattle.numbers.proofs.Tests.{true_false}
use Rattle.numbers.proofs.Parts.{plus_pos}
use Rattle.numbers.proofs.All.{all_at}
use Rattle.definitions.specs.Limits.{nodes, stated, root, first_port}
use Rattle.definitions.specs.Places.{port}
use Rattle.definitions.specs.Tree.{Tree, tree_of, there, is_stated}
use Rattle.definitions.specs.Order.{in_order}
use Rattle.definitions.proofs.Facts.{root_unstated, from_facts}
use Rattle.definitions.proofs.Ports.{port_beyond}
use Rattle.planformat.specs.Bytes.{byte_values, byte_at}
use Rattle.planformat.specs.declared.Edition.{Edition}
use Rattle.planformat.specs.declared.Edition.TheVariants.{First, Second}
use Rattle.planformat.specs.Kinds.{client_weighted, client_stated, kind_of}
use Rattle.planformat.specs.Format.{Entry, Plan, last_kind, edition_in, plan_in}
use Rattle.planlaws.specs.Reading.{joined_for, standing, rising, plan_refusal, plan_table}
use Rattle.planlaws.specs.Writing.{order, entry_of, plan_of, plan_bytes, any_stated, unwritable}
use Rattle.planformat.proofs.EachKind.{kind_again, first_unstated}
use Rattle.planformat.proofs.Editions.{last_kind_small}
use Rattle.planformat.proofs.Codec.{SamePlan, same_entry, same_bytes_law, formed_facts, read_bytes}
use Rattle.planlaws.proofs.Rising.{Rises, rises_by_steps, found_below, Within, rising_same, rising_short}
use Rattle.planlaws.proofs.Listing.{listed, listed_node, listed_found, listed_rises, level_listed, standing_apart}
use Rattle.planlaws.proofs.Planned.{level_small, Unstated, of_unstated}
use Rattle.planlaws.proofs.Accepted.{plan_accepted, plan_table_law, entries_each}
use Rattle.planlaws.proofs.Entered.{Shown, shown_there, Entered, entered}

-- A node that shows an entry is written as that entry.
shown_entry : (tree : Tree) (e : Entry) → e.kind ≤ client_stated → Shown tree e → entry_of tree e.node ≡ e
unfolding entry_of
shown_entry tree e known s =
    same_entry (entry_of tree e.node) e refl s.parent (ap₂ kind_of s.sort s.kind ∙ kind_again e.kind known) s.share s.depth

-- A table that shows the entries of a plan, which rise and have known kinds, is written as that plan.
module _ (p : Plan) (u : List ℤ) (known : (i : ℕ) → i < p.count → (p.entry i).kind ≤ client_stated) (en : Entered p p.count u) (r : rising (tree_of u) p ≡ true) where
  -- The node of entry i.
  entered_node : ℕ → ℕ
  entered_node i = (p.entry i).node

  entered_rises : Rises (standing (tree_of u)) p.count entered_node
  unfolding entered_node rising
  entered_rises =
      rises_by_steps (standing (tree_of u)) p.count entered_node
      (λ i h. ltb-true _ _ (all_at _ _ r i (omega arith)))

  listed_within : Within (length (order (tree_of u))) p.count (listed (tree_of u)) entered_node
  unfolding entered_node
  listed_within =
      record {
        member = λ i hi.
            let l = listed_node (tree_of u) i hi in
            elim (found_below p.count entered_node (listed (tree_of u) i)) [
              | yes f ↦ f
              | no nobody ↦ absurd (true_false l.there (en.free (listed (tree_of u) i) l.small l.below (λ j hj e. nobody (j, hj, e))))
            ];
      }

  entered_within : Within p.count (length (order (tree_of u))) entered_node (listed (tree_of u))
  unfolding entered_node
  entered_within =
      record {
        member = λ i hi.
            let s = en.node i hi in
            let here = shown_there (tree_of u) (p.entry i) s in
            listed_found (tree_of u) (p.entry i).node (level_listed (tree_of u) (p.entry i).node s.small s.below here (level_small u (p.entry i).node en.order s.small here));
      }

  apart : (i j : ℕ) → i < length (order (tree_of u)) → j < p.count → standing (tree_of u) (listed (tree_of u) i) ≡ standing (tree_of u) (entered_node j) → listed (tree_of u) i ≡ entered_node j
  unfolding entered_node
  apart i j hi hj = standing_apart (tree_of u) (listed (tree_of u) i) (entered_node j) (listed_node (tree_of u) i hi).small (en.node j hj).small

  same_count : length (order (tree_of u)) ≡ p.count
  same_count =
      let few = rising_short (standing (tree_of u)) (length (order (tree_of u))) p.count (listed (tree_of u)) entered_node (listed_rises (tree_of u)) entered_rises listed_within entered_within apart in
      let many = rising_short (standing (tree_of u)) p.count (length (order (tree_of u))) entered_node (listed (tree_of u)) entered_rises (listed_rises (tree_of u)) entered_within listed_within (λ i j hi hj e. sym (apart j i hj hi (sym e))) in
      omega arith

  same_node_law : (i : ℕ) → i < p.count → listed (tree_of u) i ≡ entered_node i
  same_node_law i hi =
      rising_same (standing (tree_of u)) (length (order (tree_of u))) p.count (listed (tree_of u)) entered_node (listed_rises (tree_of u)) entered_rises listed_within entered_within apart i (omega (arith, same_count))

  pub entered_plan : SamePlan (plan_of u) p
  unfolding plan_of listed entered_node
  entered_plan =
      record {
        rate = en.disk;
        depth = en.depth;
        count = same_count;
        entry = λ i hi. ap (entry_of (tree_of u)) (same_node_law i hi) ∙ shown_entry (tree_of u) (p.entry i) (known i hi) (en.node i hi);
      }

-- Where no kind is one of a stated node, no node of a table that shows the entries is stated.
entered_unstated : (p : Plan) (n : ℕ) (u : List ℤ) → ((i : ℕ) → i < n → (p.entry i).kind ≤ client_weighted) → Entered p n u → Unstated (tree_of u)
unfolding is_stated
entered_unstated p n u known en =
    record {
      node = λ k hk e.
          elim (ℕ_discrete k root) [
            | yes z ↦ rw z (root_unstated u en.order.root)
            | no ne ↦
                elim (found_below n (λ i. (p.entry i).node) k) [
                  | yes w ↦
                      ne_eqb ((tree_of u).kind k) stated
                      (λ s. omega (arith, s, ap (tree_of u).kind w.2, (en.node w.0 w.1).kind, first_unstated (p.entry w.0).kind (known w.0 w.1)))
                  | no nobody ↦ absurd (true_false e (en.free k hk ne (λ i hi is. nobody (i, hi, is))))
                ]
          ];
    }

-- What an accepted plan leaves.
pub plan_entered : (t : List ℤ) (s : List ℕ) → plan_refusal t s ≡ 0 → Entered (plan_in s) (plan_in s).count (joined_for t (plan_in s))
unfolding joined_for
plan_entered t s h =
    let a = plan_accepted t s h in
    entered t (plan_in s) a.opening (plan_in s).count (entries_each _ (plan_in s) (plan_in s).count a.joining)

pub plan_keeps : (t : List ℤ) (s : List ℕ) → plan_refusal t s ≡ 0 → in_order (plan_table t s) ≡ true
plan_keeps t s h = rw (plan_table_law t s h) (from_facts _ (plan_entered t s h).order)

-- Every client is on the first port.
pub plan_port : (t : List ℤ) (s : List ℕ) → plan_refusal t s ≡ 0 → (k : ℕ) → port (plan_table t s) k ≡ first_port
unfolding port
plan_port t s h k =
    let e = plan_entered t s h in
    rw (plan_table_law t s h)
    (elim (dec_lt k nodes) [ yes hk ↦ ap plus (e.port k hk) ∙ plus_pos first_port | no high ↦ port_beyond (joined_for t (plan_in s)) k e.order.long high ])

-- Its edition has a kind for each node of the table.
entered_writable : (e : Edition) (p : Plan) (n : ℕ) (u : List ℤ) → ((i : ℕ) → i < n → (p.entry i).kind ≤ last_kind e) → Entered p n u → unwritable e (tree_of u) ≡ false
unfolding unwritable any_stated last_kind
entered_writable First p n u known en = of_unstated (tree_of u) (entered_unstated p n u known en)
entered_writable Second p n u known en = refl

pub plan_writable : (t : List ℤ) (s : List ℕ) → plan_refusal t s ≡ 0 → unwritable (edition_in s) (tree_of (plan_table t s)) ≡ false
unfolding plan_in
plan_writable t s h =
    rw (plan_table_law t s h) (entered_writable (edition_in s) _ _ _ (formed_facts s (plan_accepted t s h).formed).kind (plan_entered t s h))

-- What is read from an accepted plan is written as that plan: as what it says, and to the byte.
pub read_plan_law : (t : List ℤ) (s : List ℕ) → plan_refusal t s ≡ 0 → SamePlan (plan_of (plan_table t s)) (plan_in s)
unfolding plan_in
read_plan_law t s h =
    let a = plan_accepted t s h in
    let f = formed_facts s a.formed in
    rw (plan_table_law t s h) (entered_plan (plan_in s) (joined_for t (plan_in s)) (λ i hi. omega (arith, f.kind i hi, last_kind_small (edition_in s))) (plan_entered t s h) a.rising)

pub read_written : (t : List ℤ) (s : List ℕ) → plan_refusal t s ≡ 0 → ((i : ℕ) → i < length s → byte_at s i < byte_values) → plan_bytes (edition_in s) (plan_table t s) ≡ s
unfolding plan_bytes
read_written t s h small = same_bytes_law (edition_in s) (plan_of (plan_table t s)) (plan_in s) (read_plan_law t s h) ∙ read_bytes s (plan_accepted t s h).formed small
