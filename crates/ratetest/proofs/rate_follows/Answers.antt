-- A stated rate is the share; else the class's rate and the sums under it are known.
use Rattle.std.proofs.Common.{◌≡◌, ◌<◌, ◌≤◌, ◌*◌, ◌/◌, ◌∙◌, ℕ, ℤ, List, true, eqb, sym, ap, ap₂, arith}
use Rattle.numbers.specs.Whole.{minus}
use Rattle.numbers.proofs.Parts.{within_parts}
use Rattle.definitions.specs.Limits.{nodes, parent_at, share_at, rate_at, greatest_rate}
use Rattle.definitions.specs.Places.{place, rate}
use Rattle.definitions.specs.Tree.{tree_of, there, is_stated, test_if}
use Rattle.definitions.specs.Rates.{child_rate}
use Rattle.definitions.proofs.Facts.{Limits, limits_of_law}
use Rattle.definitions.proofs.ShareKinds.{limit_le}
use Rattle.treelaws.proofs.Children.{class_there}
use Rattle.treelaws.proofs.Rounding.{stated_child}
use Rattle.sums.specs.Rated.{Placed}
use Rattle.records.proofs.Joined.{test_here, test_past}
use Rattle.dividing.specs.declared.Division.{Division}
use Rattle.dividing.proofs.Divided.{divided}
use Rattle.ratetest.specs.Following.{rate_follows, Testable}
use Rattle.ratetest.proofs.Following.{rate_le, child_follows}
use Rattle.ratetest.proofs.rate_follows.Goals as goal

-- A node that is there, and not the root.
module _ (t : List ℤ) (f : Testable t) (k : ℕ) (above : 0 < k) (low : k < nodes) (here : there (tree_of t) k ≡ true) where
  placed : Placed (tree_of t) k
  placed = f.rated.node k low here (λ e. omega arith)

  limits : Limits t k
  limits = limits_of_law t k (f.limits k low here)

  rate_unsigned : minus (place t k rate_at) ≡ 0
  rate_unsigned = (within_parts _ _ _ (f.within k low here)).0

  share_unsigned : minus (place t k share_at) ≡ 0
  share_unsigned = (within_parts _ _ _ limits.share).0

  parent_unsigned : minus (place t k parent_at) ≡ 0
  parent_unsigned = (within_parts _ _ _ limits.parent).0

  share_small : (tree_of t).share k ≤ greatest_rate
  share_small = omega (arith, placed.most, limit_le ((tree_of t).kind k))

  -- Its parent, as the code reads it.
  parent_low : (p : ℕ) → p ≡ (tree_of t).parent k → p < nodes
  parent_low p is = omega (arith, placed.parent)

  parent_here : (p : ℕ) → p ≡ (tree_of t).parent k → there (tree_of t) p ≡ true
  parent_here p is = ap (there (tree_of t)) is ∙ class_there _ _ placed.class

  parent_rate_unsigned : (p : ℕ) → p ≡ (tree_of t).parent k → minus (place t p rate_at) ≡ 0
  parent_rate_unsigned p is = (within_parts _ _ _ (f.within p (parent_low p is) (parent_here p is))).0

  parent_rate_le : (p : ℕ) → p ≡ (tree_of t).parent k → rate t p ≤ greatest_rate
  parent_rate_le p is = rate_le t f p (parent_low p is) (parent_here p is)

  -- Its test, where it is stated and where it is not.
  stated : (r s : ℕ) → r ≡ rate t k → s ≡ (tree_of t).share k → is_stated (tree_of t) k ≡ true → eqb r s ≡ test_if (there (tree_of t) k) (rate_follows t) k
  stated r s e h is =
      ap₂ eqb e (h ∙ sym (stated_child (tree_of t) (rate t ((tree_of t).parent k)) k is)) ∙ sym (child_follows t k above) ∙ sym (test_here _ (rate_follows t) k here)

  unstated : (p r s a : ℕ) (by : Division) → p ≡ (tree_of t).parent k → r ≡ rate t k → s ≡ (tree_of t).share k → a ≡ rate t p → child_rate (tree_of t) a k ≡ by.whole * (tree_of t).share k / by.parts → eqb r (by.whole * s / by.parts) ≡ test_if (there (tree_of t) k) (rate_follows t) k
  unstated p r s a by is e h of divides =
      ap₂ eqb e (ap (λ (x : ℕ). by.whole * x / by.parts) h ∙ sym divides ∙ ap (λ (x : ℕ). child_rate (tree_of t) x k) (of ∙ ap (rate t) is))
      ∙ sym (child_follows t k above)
      ∙ sym (test_here _ (rate_follows t) k here)

pub returns-then-not-there : goal.returns-then-not-there
returns-then-not-there c = sym (test_past _ _ _ (sym c.there.ensures ∙ c.if-not-there.true))

pub unsigned-rate-requires : goal.unsigned-rate-requires
unsigned-rate-requires c =
    (omega arith, omega arith, rate_unsigned _ c.requires.0 _ c.requires.2 c.requires.3 (sym c.there.ensures ∙ c.if-not-there.false))

pub unsigned-share-requires : goal.unsigned-share-requires
unsigned-share-requires c =
    (omega arith, omega arith, share_unsigned _ c.requires.0 _ c.requires.2 c.requires.3 (sym c.there.ensures ∙ c.if-not-there.false))

pub returns-then-is_stated : goal.returns-then-is_stated
unfolding tree_of rate
returns-then-is_stated c =
    stated _ c.requires.0 _ c.requires.2 c.requires.3 (sym c.there.ensures ∙ c.if-not-there.false) _ _ c.unsigned-rate.ensures c.unsigned-share.ensures (sym c.is_stated.ensures ∙ c.if-is_stated.true)

pub unsigned-parent-requires : goal.unsigned-parent-requires
unsigned-parent-requires c =
    (omega arith, omega arith, parent_unsigned _ c.requires.0 _ c.requires.2 c.requires.3 (sym c.there.ensures ∙ c.if-not-there.false))

pub unsigned-class_rate-requires : goal.unsigned-class_rate-requires
unfolding tree_of
unsigned-class_rate-requires c =
    let here = sym c.there.ensures ∙ c.if-not-there.false in
    (parent_low _ c.requires.0 _ c.requires.2 c.requires.3 here _ c.unsigned-parent.ensures, omega arith, parent_rate_unsigned _ c.requires.0 _ c.requires.2 c.requires.3 here _ c.unsigned-parent.ensures)

pub under-requires : goal.under-requires
unfolding tree_of
under-requires c = parent_low _ c.requires.0 _ c.requires.2 c.requires.3 (sym c.there.ensures ∙ c.if-not-there.false) _ c.unsigned-parent.ensures

pub division_of-by-requires : goal.division_of-by-requires
unfolding tree_of rate
division_of-by-requires c =
    let here = sym c.there.ensures ∙ c.if-not-there.false in (
      divided _ _ c.requires.0.rated _ _ _ _ _ c.requires.2 c.requires.3 here c.unsigned-parent.ensures c.requires.1 c.under.ensures
          (omega (arith, c.unsigned-class_rate.ensures, parent_rate_le _ c.requires.0 _ c.requires.2 c.requires.3 here _ c.unsigned-parent.ensures)),
      sym c.is_stated.ensures ∙ c.if-is_stated.false,
    )

pub is_part-requires : goal.is_part-requires
unfolding tree_of rate
is_part-requires c =
    let here = sym c.there.ensures ∙ c.if-not-there.false in (
      omega (arith, c.unsigned-rate.ensures, rate_le _ c.requires.0 _ c.requires.3 here),
      omega (arith, c.unsigned-share.ensures, share_small _ c.requires.0 _ c.requires.2 c.requires.3 here),
      c.division_of-by.ensures.small,
      c.division_of-by.ensures.some,
      c.division_of-by.ensures.few,
    )

pub returns : goal.returns
unfolding tree_of rate
returns c =
    c.is_part.ensures
    ∙ unstated _ c.requires.0 _ c.requires.2 c.requires.3 (sym c.there.ensures ∙ c.if-not-there.false) _ _ _ _ _ c.unsigned-parent.ensures c.unsigned-rate.ensures c.unsigned-share.ensures c.unsigned-class_rate.ensures c.division_of-by.ensures.rate
