use Rattle.std.proofs.Common.{◌≡◌, ℕ, ◌+◌, ◌*◌, Bool, ◌&&◌, ◌∙◌, arith}
use Rattle.numbers.specs.Below.{all_below}
use Rattle.numbers.proofs.All.{all_first, all_grows, all_done, all_part}
use Rattle.definitions.specs.Limits.{root, fixed as fixed_kind, stated as stated_kind, whole_share}
use Rattle.definitions.specs.Places.{rate}
use Rattle.definitions.specs.Tree.{tree_of}
use Rattle.hourlaws.specs.Windows.{week_minutes, window_count}
use Rattle.cells.specs.Cells.{part_minutes, week_parts, clear_in}
use Rattle.week.specs.Week.{within_at}
use Rattle.week.proofs.Minutes.{parts_apart, week_decided}
use Rattle.week.proofs.judge.Goals as goal

-- One part more of a test over the minutes.
next_part : (n : ℕ) (p : ℕ → Bool) (ok part : Bool) → ok ≡ all_below (n * part_minutes) p → part ≡ all_below part_minutes (λ j. p (n * part_minutes + j)) → (ok && part) ≡ all_below ((n + 1) * part_minutes) p
next_part n p ok part e f = all_done (n * part_minutes + part_minutes) ((n + 1) * part_minutes) p _ (all_part (n * part_minutes) part_minutes p ok part e f) (omega arith)

pub loop-n-init : goal.loop-n-init
loop-n-init c = (all_first _, (λ fit. all_first _), (λ fit. all_first _))

pub loop-n-preserved : goal.loop-n-preserved
loop-n-preserved c =
    let at = c.loop-n in
    let ws = c.args.windows.now in
    let tree = tree_of c.args.plan.now in
    let part = c.judge_part-part.ensures in (
      all_grows at.n (λ b. all_below (window_count ws) (clear_in ws (b * part_minutes))) _ _ at.invariant.0 part.apart,
      (λ fit. next_part at.n (within_at fixed_kind whole_share tree ws) _ _ (at.invariant.1 fit) (part.fixed fit)),
      (λ fit. next_part at.n (within_at stated_kind (rate c.args.plan.now root) tree ws) _ _ (at.invariant.2 fit) (part.stated fit)),
    )

pub returns : goal.returns
returns c =
    let at = c.loop-n in
    let plan = c.args.plan.now in
    let ws = c.args.windows.now in
    record {
      apart = all_done at.n week_parts (λ b. all_below (window_count ws) (clear_in ws (b * part_minutes))) _ at.invariant.0 (omega arith) ∙ parts_apart ws c.requires.1;
      fixed = λ fit. all_done (at.n * part_minutes) week_minutes (within_at fixed_kind whole_share (tree_of plan) ws) _ (at.invariant.1 fit) (omega arith) ∙ week_decided fixed_kind whole_share (tree_of plan) ws;
      stated = λ fit. all_done (at.n * part_minutes) week_minutes (within_at stated_kind (rate plan root) (tree_of plan) ws) _ (at.invariant.2 fit) (omega arith) ∙ week_decided stated_kind (rate plan root) (tree_of plan) ws;
    }
