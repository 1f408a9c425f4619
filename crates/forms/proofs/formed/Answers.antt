-- A wrong length or count, or all entries.
use Rattle.std.proofs.Common.{◌≡◌, ℕ, ◌≤◌, List, length, false, sym, ap, ap₂, ◌∙◌, arith}
use Rattle.numbers.specs.Below.{all_below}
use Rattle.numbers.proofs.Tests.{by_test}
use Rattle.planformat.specs.Format.{start_of, last_count, plan_length, edition_in, count_in, entry_formed, formed}
use Rattle.planformat.proofs.Codec.{Formed, formed_facts, formed_rest}
use Rattle.forms.proofs.formed.Goals as goal

not_formed : (s : List ℕ) → (Formed s → ⊥) → false ≡ formed s
not_formed s none = sym (by_test (formed s) (λ e. absurd (none (formed_facts s e))) (λ e. e))

pub returns-then-s-start_of : goal.returns-then-s-start_of
returns-then-s-start_of c =
    not_formed _ (λ f. omega (arith, c.start_of.ensures.start ∙ ap start_of c.edition_in-edition.ensures, f.long))

pub returns-then-n-gt-LAST_COUNT : goal.returns-then-n-gt-LAST_COUNT
returns-then-n-gt-LAST_COUNT c = not_formed _ (λ f. omega (arith, c.count_in-n.ensures, f.count))

pub returns-then-s-plan_length : goal.returns-then-s-plan_length
returns-then-s-plan_length c =
    not_formed _ (λ f. omega (arith, c.plan_length.ensures ∙ ap₂ plan_length c.edition_in-edition.ensures c.count_in-n.ensures, f.long))

pub returns : goal.returns
returns c =
    let s = c.args.s.now in
    let few : count_in s ≤ last_count = omega (arith, c.count_in-n.ensures) in
    let long : length s ≡ plan_length (edition_in s) (count_in s) =
    omega (arith, c.plan_length.ensures ∙ ap₂ plan_length c.edition_in-edition.ensures c.count_in-n.ensures) in
    c.entries_formed.ensures ∙ ap (λ (n : ℕ). all_below n (entry_formed s)) c.count_in-n.ensures ∙ sym (formed_rest s few long)
