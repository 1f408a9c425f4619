-- The three claims over a stretch, from the laws of one call. Five depths are one at the start and four at the end; by the level of a
-- class, four less its level.
use Prim.Native.Nat.{ℕ, suc, ◌+◌, ◌*◌, ◌-◌, ◌≤◌}
use mathlib.Core.Path.{◌≡◌, refl, ap, ap₂, ◌∙◌}
use mathlib.Core.Bool.{true, not}
use mathlib.Core.Logic.{⊎_elim}
use mathlib.Core.List.{List, [], ◌∷◌}
use native.Mathlib.Omega.{arith}
use native.Mathlib.Nat.{suc-mul, mul-le-mul_right}
use borrow.Author.Tests.{eq-eqb}
use lib.IntN.{ℤ}
use Rattle.numbers.specs.Whole.{plus, minus}
use Rattle.numbers.proofs.Every.{none_left, holds_with}
use Rattle.numbers.proofs.Parts.{zarith, plus_pos, minus_pos, within_parts}
use Rattle.definitions.specs.Limits.{depth_at, root, last_level, greatest_depth, grain_scale}
use Rattle.definitions.specs.Places.{place, balance, depth_grains}
use Rattle.definitions.specs.Tree.{Tree, tree_of, there, is_class, is_client}
use Rattle.definitions.proofs.Facts.{InOrder, facts}
use Rattle.treelaws.proofs.Children.{class_there}
use Rattle.treelaws.proofs.Sorts.{client_there}
use Rattle.treelaws.proofs.Floors.{grounds, class_floor}
use Rattle.runs.specs.Runs.{Call, after, event_of, events, table_after_all}
use Rattle.bounds.specs.Observer.{Observer, observed, observed_all}
use Rattle.bounds.specs.Counts.{rates_over, grains_over, charged_over, stays_throughout}
use Rattle.bounds.specs.Demand.{Bounds}
use Rattle.bounds.specs.Levels.{LevelBounds}
use Rattle.bounds.proofs.Simulation.{Agrees, there_below, Steps}
use Rattle.bounds.proofs.Telescope.{agrees_all, ClassOver, class_over, client_over}

-- No call takes the root out.
pub root_stays : Steps → (t : List ℤ) (o : Observer) (calls : List Call) → Agrees t o → stays_throughout root (events t calls) ≡ true
unfolding stays_throughout events
root_stays laws t o [] a = refl
root_stays laws t o (call ∷ calls) a =
    let step = laws t o call a in
    holds_with _ _ (ap not step.stays) (holds_with _ _ (root_stays laws (after t call).table (observed o (event_of t call)) calls step.agrees) none_left)

root_class : (t : List ℤ) → InOrder t → is_class (tree_of t) 0 ≡ true
unfolding is_class tree_of
root_class t f = eq-eqb _ 1 (ap plus f.root.sort ∙ plus_pos 1)

depth_in_grains : (t : List ℤ) (o : Observer) (k : ℕ) → Agrees t o → depth_grains t k ≡ o.tree.depth k * grain_scale
unfolding depth_grains tree_of
depth_in_grains t o k a = ap (λ (tree : Tree). tree.depth k * grain_scale) a.tree

client_depth : (t : List ℤ) (k : ℕ) → InOrder t → is_client (tree_of t) k ≡ true → 1 ≤ (tree_of t).depth k
unfolding tree_of
client_depth t k f e =
    let here = client_there (tree_of t) k e in
    let depth = (f.limits k (there_below t k f.long here) here).depth in
    omega (arith, within_parts 1 greatest_depth (place t k depth_at) depth)

-- Every entry of a stretch is charged to the root, whatever it names.
pub all_charged : Steps → (t : List ℤ) (o : Observer) (calls : List Call) → Agrees t o → charged_over o root (events t calls) ≡ grains_over (events t calls)
unfolding events charged_over grains_over
all_charged laws t o [] a = refl
all_charged laws t o (call ∷ calls) a =
    let step = laws t o call a in
    omega (arith, step.all, all_charged laws (after t call).table (observed o (event_of t call)) calls step.agrees)

-- The balance of a class before and after a stretch that it is joined throughout: at most its depth, and at most four less its level
-- depths below zero.
record ClassEnds (t u : List ℤ) (o : Observer) (c : ℕ) : Type 0 where
  before : plus (balance t c) ≤ minus (balance t c) + o.tree.depth c * grain_scale
  after : minus (balance u c) ≤ (last_level - o.tree.level c) * (o.tree.depth c * grain_scale)

-- Each claim is proved as `Bounds` states it, from the lines that telescope.
module _ (laws : Steps) (t : List ℤ) (o : Observer) (a : Agrees t o) (calls : List Call) where
  f : InOrder t
  f = facts t a.order

  abbrev u : List ℤ
  u = table_after_all t calls

  b : Agrees u (observed_all o (events t calls))
  b = agrees_all laws t o calls a

  g : InOrder u
  g = facts u b.order

  class_ends : (c : ℕ) → is_class o.tree c ≡ true → ClassOver t o calls c → ClassEnds t u o c
  class_ends c e over =
      let here = class_there (tree_of t) c (rw a.tree e) in
      let still : is_class (tree_of u) c ≡ true = rw b.tree over.class in
      let low = there_below t c f.long here in
      record {
        before = omega (arith, zarith, (f.balances c low here).most, depth_in_grains t o c a, plus_pos (depth_grains t c), minus_pos (depth_grains t c));
        after =
            omega (
              arith,
              class_floor u (grounds u g) c low still,
              ap₂ (λ (l d : ℕ). (last_level - l) * d) (ap (λ (tree : Tree). tree.level c) b.tree ∙ over.level)
                  (depth_in_grains u (observed_all o (events t calls)) c b ∙ ap (λ (d : ℕ). d * grain_scale) over.depth),
            );
      }

  pub levels_from : LevelBounds o (events t calls)
  unfolding LevelBounds
  levels_from c e h =
      let over = class_over laws t o calls a c e h in
      let ends = class_ends c e over in
      omega (arith, over.line, ends.before, ends.after, suc-mul (last_level - o.tree.level c) (o.tree.depth c * grain_scale))

  -- So whatever its level, by at most five depths.
  five_depths : (c : ℕ) → is_class o.tree c ≡ true → stays_throughout c (events t calls) ≡ true → charged_over o c (events t calls) ≤ rates_over o c (events t calls) + 5 * (o.tree.depth c * grain_scale)
  unfolding LevelBounds
  five_depths c e h =
      let most : suc (last_level - o.tree.level c) ≤ 5 = omega arith in
      omega (arith, levels_from c e h, mul-le-mul_right (o.tree.depth c * grain_scale) most)

  pub bounds_from : Bounds o (events t calls)
  bounds_from =
      record {
        clients = λ k e h.
            let over = client_over laws t o calls a k e h in
            ⊎_elim
            (λ still. omega (arith, client_depth u k g (rw b.tree e), ap (λ (tree : Tree). tree.depth k) b.tree))
            (λ below. omega (arith, over.line, ap (λ (d : ℕ). d * grain_scale) over.depth))
            over.end;
        disk =
            omega (arith, five_depths root (rw (← a.tree) (root_class t f)) (root_stays laws t o calls a), all_charged laws t o calls a);
        classes = λ c e h. omega (arith, five_depths c e h);
      }
