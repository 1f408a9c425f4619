-- The sum under a class of the nodes below a bound, node by node.
use Prim.Native.Nat.{ℕ, ◌+◌, ◌*◌, ◌≤◌, ◌<◌, ◌^◌, min}
use mathlib.Core.Path.{◌≡◌, refl, sym, ap, ◌∙◌}
use mathlib.Core.Bool.{true, false}
use mathlib.Core.List.{List}
use native.Mathlib.Omega.{arith}
use native.Mathlib.Decide.{ℕ_discrete}
use lib.ListN.{length, get_or, set, length-set, replicate, length-replicate, get_or-replicate}
use lib.Seq.{get_or-set_same, get_or-set_other}
use lib.IntN.{ℤ}
use Rattle.numbers.specs.Below.{sum_below}
use Rattle.numbers.proofs.Tests.{by_test, true_false}
use Rattle.numbers.proofs.Parts.{one_is_zero}
use Rattle.numbers.proofs.Sums.{sum_next, sum_bound}
use Rattle.definitions.specs.Limits.{nodes, kinds, greatest_rate}
use Rattle.definitions.specs.Places.{balance}
use Rattle.definitions.specs.Tree.{Tree, tree_of, there, child_of, count_if, sum_under}
use Rattle.definitions.specs.Rates.{kind_share, kind_sum}
use Rattle.definitions.proofs.ShareKinds.{own_share, other_share, kind_share_le}
use Rattle.treelaws.proofs.Children.{child_facts, child_of_law, counted, uncounted}
use Rattle.sums.specs.declared.Summand.{Summand}
use Rattle.sums.specs.declared.Summand.TheVariants.{Credits, Debts}
use Rattle.sums.specs.Sums.{term, Summable, under_below, SumsBelow, Shareable, share_sums, sum_at, ShareSums}

module _ (tree : Tree) (c : ℕ) (f : ℕ → ℕ) where
  pub under_start : under_below 0 tree c f ≡ 0
  unfolding under_below sum_below
  under_start = refl

  pub under_next : (n : ℕ) → under_below (n + 1) tree c f ≡ under_below n tree c f + count_if (child_of tree c n) f n
  unfolding under_below
  under_next n = sum_next n (λ k. count_if (child_of tree c k) f k)

  pub under_end : under_below nodes tree c f ≡ sum_under tree c f
  unfolding under_below sum_under
  under_end = refl

  -- A node that is not a child, or has 0 to add, adds nothing.
  under_skip : (n : ℕ) → (child_of tree c n ≡ true → f n ≡ 0) → under_below (n + 1) tree c f ≡ under_below n tree c f
  under_skip n nothing =
      by_test (child_of tree c n) (λ e. omega (arith, under_next n, counted (child_of tree c n) f n e, nothing e)) (λ e. omega (arith, under_next n, uncounted (child_of tree c n) f n e))

  -- The root is nobody's child.
  under_root : under_below 1 tree c f ≡ 0
  under_root = under_skip 0 (λ e. absurd ((child_facts tree c 0 e).below refl)) ∙ under_start

-- A term adds at most 2^57.
pub child_small : (which : Summand) (t : List ℤ) → Summable which t → (c k : ℕ) → k < nodes → count_if (child_of (tree_of t) c k) (term which t) k ≤ 2 ^ 57
child_small which t s c k hk =
    by_test (child_of (tree_of t) c k)
    (λ e.
    let child = child_facts (tree_of t) c k e in
    omega (arith, counted (child_of (tree_of t) c k) (term which t) k e, s.small k hk child.there child.below))
    (λ e. omega (arith, uncounted (child_of (tree_of t) c k) (term which t) k e))

pub under_small : (which : Summand) (t : List ℤ) → Summable which t → (n c : ℕ) → n ≤ nodes → under_below n (tree_of t) c (term which t) ≤ n * 2 ^ 57
unfolding under_below
under_small which t s n c h = sum_bound n (2 ^ 57) (λ k. count_if (child_of (tree_of t) c k) (term which t) k) (λ k hk. child_small which t s c k (omega arith))

-- An amount is added at one place of a list of sums: what it does to the sum of f under class c that stands there, and to one that
-- stands at another place.
module _ (tree : Tree) (c : ℕ) (f : ℕ → ℕ) (k : ℕ) (sums : List ℕ) (i : ℕ) (so_far : get_or sums i 0 ≡ under_below k tree c f) (a n : ℕ) where
  added_here : i ≡ a → a < length sums → child_of tree c k ≡ true → n ≡ f k → get_or (set sums a (get_or sums a 0 + n)) i 0 ≡ under_below (k + 1) tree c f
  added_here e room child amount =
      ap (λ (j : ℕ). get_or (set sums a (get_or sums a 0 + n)) j 0) e
      ∙ get_or-set_same sums a (get_or sums a 0 + n) 0 room
      ∙ omega (arith, amount, so_far, ap (λ (j : ℕ). get_or sums j 0) e, under_next tree c f k, counted (child_of tree c k) f k child)

  added_elsewhere : (i ≡ a → ⊥) → (child_of tree c k ≡ true → f k ≡ 0) → get_or (set sums a (get_or sums a 0 + n)) i 0 ≡ under_below (k + 1) tree c f
  added_elsewhere ne nothing = get_or-set_other sums a i (get_or sums a 0 + n) 0 ne ∙ so_far ∙ sym (under_skip tree c f k nothing)

-- All sums at once: node k's term is added to the sum of its parent.
module _ (which : Summand) (t : List ℤ) where
  pub sums_start : SumsBelow which t 1 (replicate nodes 0)
  sums_start = record { long = length-replicate {A = ℕ} nodes 0; at = λ c hc. get_or-replicate nodes c 0 0 hc ∙ sym (under_root (tree_of t) c (term which t)) }

  pub sums_end : (sums : List ℕ) → SumsBelow which t nodes sums → (c : ℕ) → c < nodes → get_or sums c 0 ≡ sum_under (tree_of t) c (term which t)
  sums_end sums f c hc = f.at c hc ∙ under_end (tree_of t) c (term which t)

  pub sums_small : Summable which t → (n : ℕ) → n ≤ nodes → (sums : List ℕ) → SumsBelow which t n sums → (c : ℕ) → c < nodes → get_or sums c 0 ≤ n * 2 ^ 57
  sums_small s n hn sums f c hc = omega (arith, f.at c hc, under_small which t s n c hn)

  -- A node that is not there, or has 0 to add, leaves all sums.
  pub sums_same : (sums : List ℕ) (k : ℕ) → (there (tree_of t) k ≡ true → term which t k ≡ 0) → SumsBelow which t k sums → SumsBelow which t (k + 1) sums
  sums_same sums k nothing f =
      record { long = f.long; at = λ c hc. f.at c hc ∙ sym (under_skip (tree_of t) c (term which t) k (λ e. nothing (child_facts (tree_of t) c k e).there)) }

  pub sums_next : (sums : List ℕ) (k p n : ℕ) → there (tree_of t) k ≡ true → (k ≡ 0 → ⊥) → (tree_of t).parent k ≡ p → p < nodes → n ≡ term which t k → SumsBelow which t k sums → SumsBelow which t (k + 1) (set sums p (get_or sums p 0 + n))
  sums_next sums k p n here below parent hp amount f =
      record {
        long = length-set sums p (get_or sums p 0 + n) ∙ f.long;
        at = λ c hc.
            elim (ℕ_discrete c p) [
              | yes e ↦
                  (let child = child_of_law (tree_of t) c k (record { there = here; below = below; parent = parent ∙ sym e }) in
                  added_here (tree_of t) c (term which t) k sums c (f.at c hc) p n e (omega (arith, f.long)) child amount)
              | no ne ↦ added_elsewhere (tree_of t) c (term which t) k sums c (f.at c hc) p n ne (λ child. absurd (ne (sym (child_facts (tree_of t) c k child).parent ∙ parent)))
            ];
      }

-- A node that is there: the sum of its class has room for its term, and has it once it is added.
module _ (which : Summand) (t : List ℤ) (k : ℕ) (s : Summable which t) (above : 0 < k) (low : k < nodes) (here : there (tree_of t) k ≡ true) where
  pub sums_room : (p n : ℕ) (sums : List ℕ) → SumsBelow which t k sums → p ≡ (tree_of t).parent k → n ≡ term which t k → (p < nodes) × (get_or sums p 0 + n < 2 ^ 64)
  sums_room p n sums f is amount =
      let parent : p < nodes = omega (arith, s.parent k low here (λ e. omega arith)) in
      (parent, omega (arith, s.small k low here (λ e. omega arith), sums_small which t s k (omega arith) sums f p parent))

  pub sums_added : (p n : ℕ) (sums new : List ℕ) → SumsBelow which t k sums → p ≡ (tree_of t).parent k → n ≡ term which t k → new ≡ set sums p (get_or sums p 0 + n) → SumsBelow which t (k + 1) new
  sums_added p n sums new f is amount e =
      rw e (sums_next which t sums k p n here (λ z. omega arith) (sym is) (omega (arith, s.parent k low here (λ z. omega arith))) amount f)

-- A balance is not on both sides of 0.
pub one_side : (t : List ℤ) (k : ℕ) → min (term Credits t k) (term Debts t k) ≡ 0
unfolding term
one_side t k = one_is_zero (balance t k)

-- All sums of shares at once: node k's share is added to the sum of its kind under its parent.
module _ (tree : Tree) where
  pub share_sums_start : ShareSums tree 1 (replicate share_sums 0)
  share_sums_start = record { long = length-replicate {A = ℕ} share_sums 0; at = λ c kind hc hk. get_or-replicate share_sums (sum_at c kind) 0 0 (omega arith) ∙ sym (under_root tree c (kind_share tree kind)) }

  pub share_sums_end : (sums : List ℕ) → ShareSums tree nodes sums → (c kind : ℕ) → c < nodes → kind < kinds → get_or sums (sum_at c kind) 0 ≡ kind_sum tree kind c
  unfolding kind_sum
  share_sums_end sums f c kind hc hk = f.at c kind hc hk ∙ under_end tree c (kind_share tree kind)

  -- A share adds at most the greatest rate.
  share_small : Shareable tree → (kind c k : ℕ) → k < nodes → count_if (child_of tree c k) (kind_share tree kind) k ≤ greatest_rate
  share_small s kind c k hk =
      by_test (child_of tree c k)
      (λ e.
      let child = child_facts tree c k e in
      omega (arith, counted (child_of tree c k) (kind_share tree kind) k e, kind_share_le tree kind k, s.small k hk child.there child.below))
      (λ e. omega (arith, uncounted (child_of tree c k) (kind_share tree kind) k e))

  pub share_sums_small : Shareable tree → (n : ℕ) → n ≤ nodes → (sums : List ℕ) → ShareSums tree n sums → (c kind a : ℕ) → c < nodes → kind < kinds → a ≡ sum_at c kind → get_or sums a 0 ≤ n * greatest_rate
  unfolding under_below
  share_sums_small s n hn sums f c kind a hc hk at =
      omega (arith, ap (λ (i : ℕ). get_or sums i 0) at, f.at c kind hc hk, sum_bound n greatest_rate (λ k. count_if (child_of tree c k) (kind_share tree kind) k) (λ k h. share_small s kind c k (omega arith)))

  -- A node that is not there leaves all sums.
  pub share_sums_same : (sums : List ℕ) (k : ℕ) → there tree k ≡ false → ShareSums tree k sums → ShareSums tree (k + 1) sums
  share_sums_same sums k gone f =
      record {
        long = f.long;
        at = λ c kind hc hk. f.at c kind hc hk ∙ sym (under_skip tree c (kind_share tree kind) k (λ e. absurd (true_false (child_facts tree c k e).there gone)));
      }

  pub share_sums_next : (sums : List ℕ) (k p d a n : ℕ) → there tree k ≡ true → (k ≡ 0 → ⊥) → tree.parent k ≡ p → p < nodes → tree.kind k ≡ d → d < kinds → a ≡ sum_at p d → n ≡ tree.share k → ShareSums tree k sums → ShareSums tree (k + 1) (set sums a (get_or sums a 0 + n))
  share_sums_next sums k p d a n here below parent hp own hd at amount f =
      record {
        long = length-set sums a (get_or sums a 0 + n) ∙ f.long;
        at = λ c kind hc hk.
            let shares = kind_share tree kind in
            elim (ℕ_discrete (sum_at c kind) a) [
              | yes e ↦
                  (let child = child_of_law tree c k (record { there = here; below = below; parent = omega (arith, parent) }) in
                  added_here tree c shares k sums (sum_at c kind) (f.at c kind hc hk) a n e (omega (arith, f.long)) child (amount ∙ sym (own_share tree kind k (omega (arith, own)))))
              | no ne ↦
                  added_elsewhere tree c shares k sums (sum_at c kind) (f.at c kind hc hk) a n ne
                  (λ child. other_share tree kind k (λ e. ne (omega (arith, (child_facts tree c k child).parent))))
            ];
      }

  -- A node that is there: the sum of its kind under its class has room for its share, and has it once it is added.
  module _ (k : ℕ) (s : Shareable tree) (above : 0 < k) (low : k < nodes) (here : there tree k ≡ true) (a n : ℕ) (sums : List ℕ) (f : ShareSums tree k sums) (at : a ≡ sum_at (tree.parent k) (tree.kind k)) (amount : n ≡ tree.share k) where
    below : k ≡ 0 → ⊥
    below e = omega arith

    pub share_room : get_or sums a 0 + n < 2 ^ 64
    share_room =
        omega (arith, s.small k low here below, share_sums_small s k (omega arith) sums f (tree.parent k) (tree.kind k) a (s.parent k low here below) (s.kind k low here below) at)

    pub share_added : ShareSums tree (k + 1) (set sums a (get_or sums a 0 + n))
    share_added =
        share_sums_next sums k (tree.parent k) (tree.kind k) a n here below refl (s.parent k low here below) refl (s.kind k low here below) at amount f
