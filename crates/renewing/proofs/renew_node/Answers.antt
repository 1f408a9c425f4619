-- A node of another level or outside the class is passed, one below the class gets the rate of its parent's child.
use Rattle.std.proofs.Common.{◌≡◌, ◌<◌, ◌+◌, ◌*◌, ◌∙◌, ℕ, ℤ, pos, List, Bool, true, false, ◌||◌, eqb, get_or, set, sym, ap, arith}
use Rattle.definitions.specs.Limits.{nodes, rate_at}
use Rattle.definitions.specs.Places.{rate, put}
use Rattle.definitions.specs.Tree.{tree_of}
use Rattle.definitions.specs.Rates.{child_rate}
use Rattle.definitions.specs.Renewal.{below, rate_below}
use Rattle.dividing.proofs.Divided.{divided}
use Rattle.renewing.specs.Renewal.{at_level, Descent, Onward}
use Rattle.renewing.proofs.Descent.{level_at_law, placed, below_root, here_there, marks_tell, parent_le, child_renewed, renewed_small, passed_level, passed_class, renewed_next}
use Rattle.renewing.proofs.renew_node.Goals as goal

-- A node at this level whose turn it is: its parent p as the code reads it.
module _ (t : List ℤ) (c l k : ℕ) (marks : List Bool) (d : Descent t c (l * nodes + k) marks) (some : 0 < l) (low : k < nodes) (at : at_level (tree_of t) l k ≡ true) (p : ℕ) (is : p ≡ (tree_of t).parent k) where
  parent_low : p < nodes
  parent_low = omega (arith, (placed t c l k marks d some low at).parent)

  -- Whether it stands below the class, as the parent tells.
  tells : below (tree_of t) c k ≡ (eqb p c || get_or marks p false)
  tells = rw is (marks_tell t c l k marks d some low at)

  -- The rate that is worked out from the parent's.
  worked_out : (r v : ℕ) → r ≡ rate t p → v ≡ child_rate (tree_of t) r k → below (tree_of t) c k ≡ true → v ≡ rate_below (tree_of t) c (rate t c) k
  worked_out r v e h here =
      h ∙ ap (λ (x : ℕ). child_rate (tree_of t) x k) (e ∙ ap (rate t) is) ∙ child_renewed t c l k marks d some low at here

  written : (r v : ℕ) (u : List ℤ) → r ≡ rate t p → v ≡ child_rate (tree_of t) r k → below (tree_of t) c k ≡ true → u ≡ put t k rate_at (pos v) → Onward t u c (l * nodes + k + 1) (set marks k true)
  written r v u e h here is_u =
      rw is_u (renewed_next t c l k marks low d v here (level_at_law (tree_of t) l k low at).level (worked_out r v e h here))

pub returns-then-not-at_level : goal.returns-then-not-at_level
returns-then-not-at_level c = passed_level _ _ _ _ _ c.requires.3 c.requires.0 (sym c.at_level.ensures ∙ c.if-not-at_level.true)

pub bounds-below-parent : goal.bounds-below-parent
unfolding tree_of
bounds-below-parent c =
    parent_low _ _ _ _ _ c.requires.0 c.requires.2 c.requires.3 (sym c.at_level.ensures ∙ c.if-not-at_level.false) _ c.natural-parent.ensures

pub returns-then-not-is_below : goal.returns-then-not-is_below
unfolding tree_of
returns-then-not-is_below c =
    passed_class _ _ _ _ _ c.requires.3 c.requires.0
    (tells _ _ _ _ _ c.requires.0 c.requires.2 c.requires.3 (sym c.at_level.ensures ∙ c.if-not-at_level.false) _ c.natural-parent.ensures ∙ c.if-not-is_below.true)

pub child_rate-renewed-requires : goal.child_rate-renewed-requires
unfolding tree_of rate
child_rate-renewed-requires c =
    let at = sym c.at_level.ensures ∙ c.if-not-at_level.false in
    let here = tells _ _ _ _ _ c.requires.0 c.requires.2 c.requires.3 at _ c.natural-parent.ensures ∙ c.if-not-is_below.false in
    divided _ _ c.requires.0.rated _ _ _ _ _ (below_root _ _ _ _ _ c.requires.0 c.requires.2 c.requires.3 at) c.requires.3 (here_there _ _ _ _ _ c.requires.0 c.requires.2 c.requires.3 at) c.natural-parent.ensures c.requires.1 c.under.ensures
    (omega (arith, ap (rate c.args.table.now) c.natural-parent.ensures, c.natural-rate.ensures, parent_le _ _ _ _ _ c.requires.0 c.requires.2 c.requires.3 at here))

pub put_natural-requires : goal.put_natural-requires
unfolding tree_of rate
put_natural-requires c =
    let at = sym c.at_level.ensures ∙ c.if-not-at_level.false in
    let here = tells _ _ _ _ _ c.requires.0 c.requires.2 c.requires.3 at _ c.natural-parent.ensures ∙ c.if-not-is_below.false in (
      omega arith,
      omega arith,
      omega (
        arith,
        worked_out _ _ _ _ _ c.requires.0 c.requires.2 c.requires.3 at _ c.natural-parent.ensures _ _ c.natural-rate.ensures c.child_rate-renewed.ensures here,
        renewed_small _ _ _ _ _ c.requires.0 c.requires.2 c.requires.3 at here,
      ),
    )

pub returns : goal.returns
unfolding tree_of rate
returns c =
    let at = sym c.at_level.ensures ∙ c.if-not-at_level.false in
    written _ _ _ _ _ c.requires.0 c.requires.2 c.requires.3 at _ c.natural-parent.ensures _ _ _ c.natural-rate.ensures c.child_rate-renewed.ensures
    (tells _ _ _ _ _ c.requires.0 c.requires.2 c.requires.3 at _ c.natural-parent.ensures ∙ c.if-not-is_below.false) c.put_natural.ensures
