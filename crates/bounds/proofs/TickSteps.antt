-- The laws of one call for an accepted tick: each from what the tick shows to the observer and what it does to the table.
use Prim.Native.Nat.{ℕ, ◌<◌}
use mathlib.Core.Path.{◌≡◌, refl, sym, ap, ◌∙◌}
use mathlib.Core.Bool.{true}
use mathlib.Core.Logic.{inr}
use mathlib.Core.List.{List}
use native.Mathlib.Omega.{arith}
use lib.IntN.{ℤ}
use Rattle.numbers.proofs.Every.{head_fails}
use Rattle.definitions.specs.Limits.{nodes, root}
use Rattle.definitions.specs.Tree.{Tree, tree_of, there, is_class, is_client}
use Rattle.definitions.specs.Places.{rate, waiting}
use Rattle.definitions.specs.Rates.{rate_in}
use Rattle.definitions.specs.Tick.{ticked}
use Rattle.definitions.proofs.Facts.{InOrder, facts}
use Rattle.treelaws.proofs.Children.{class_there}
use Rattle.treelaws.proofs.Sorts.{client_there}
use Rattle.treelaws.proofs.Rounding.{rate_in_order_law}
use Rattle.ticklaws.proofs.Frame.{frame_tree, frame_rate}
use Rattle.ticklaws.proofs.Keeps.{tick_keeps, ticked_settled}
use Rattle.runs.specs.Runs.{tick, after, leaves, accepts, event_of}
use Rattle.bounds.specs.Observer.{Observer, observed}
use Rattle.bounds.specs.Counts.{entry_grains, grains_for_client, grains_to_node, waits, takes_out}
use Rattle.bounds.proofs.Simulation.{Agrees, waits_more, there_below, ClassStep, ClientStep, Step}
use Rattle.bounds.proofs.Ticked.{ticked_waits, ticked_fair, ticked_most}
use Rattle.bounds.proofs.Waiting.{waiting_line, waiting_end}
use Rattle.bounds.proofs.Shown.{Shown, shown}

module _ (t : List ℤ) (o : Observer) (first second : List ℤ) (a : Agrees t o) (h : accepts (after t (tick first second)).answer ≡ true) where
  f : InOrder t
  f = facts t a.order

  s : Shown t o first second
  s = shown t o first second h f

  -- The rate that the observer counts is the one in the table.
  rate_told : (k : ℕ) → k < nodes → there (tree_of t) k ≡ true → rate_in o.tree o.disk k ≡ rate t k
  rate_told k hk here = rw (← a.tree, ← a.disk) (sym (rate_in_order_law t f k hk here))

  tick_agrees : Agrees (after t (tick first second)).table (observed o (event_of t (tick first second)))
  tick_agrees =
      let frame = (ticked_settled t f).reached.frame in
      record {
        order = rw s.table (tick_keeps t a.order);
        tree = ap tree_of s.table ∙ frame_tree t (ticked t).table frame ∙ a.tree ∙ sym s.tree;
        disk = ap (λ v. rate v root) s.table ∙ frame_rate t (ticked t).table frame root ∙ a.disk ∙ sym s.disk;
        queue = λ k client.
            omega (
              arith,
              s.asked k,
              s.sent k,
              a.queue k (rw (← s.tree) client),
              ticked_waits t f k,
              ap (λ v. waiting v k) s.table,
            );
      }

  tick_class : (c : ℕ) → is_class o.tree c ≡ true → ClassStep t o (tick first second) c
  tick_class c class =
      let here = class_there (tree_of t) c (rw a.tree class) in
      let low = there_below t c f.long here in
      record {
        class = rw s.tree class;
        level = ap (λ (tree : Tree). tree.level c) s.tree;
        depth = ap (λ (tree : Tree). tree.depth c) s.tree;
        line = rw (s.table, s.sums (grains_to_node o.tree c), s.rate c, rate_told c low here, ← a.tree) (ticked_most t f c low);
      }

  tick_client : (k : ℕ) → is_client (observed o (event_of t (tick first second))).tree k ≡ true → waits (observed o (event_of t (tick first second))) k ≡ true → ClientStep t o (tick first second) k
  tick_client k client busy =
      let here : is_client (tree_of t) k ≡ true = rw (a.tree, ← s.tree) client in
      let low = there_below t k f.long (client_there (tree_of t) k here) in
      let waited = waits_more (observed o (event_of t (tick first second))) k busy in
      let still : 0 < waiting (ticked t).table k = rw (← s.table) (omega (arith, tick_agrees.queue k client)) in
      record {
        client = rw (← s.tree) client;
        depth = ap (λ (tree : Tree). tree.depth k) s.tree;
        line =
            rw (s.table, s.sums (grains_for_client k), s.rate k, rate_told k low (client_there (tree_of t) k here))
            (waiting_line t f k low here still);
        end = inr (rw (s.table, ← a.tree) (waiting_end t f k low here still));
      }

  -- Every entry is charged to the root, and no class is taken out.
  pub tick_step : Step t o (tick first second)
  unfolding takes_out event_of leaves
  tick_step =
      record {
        agrees = tick_agrees;
        stays = head_fails _ _ refl;
        all = rw (s.sums (grains_to_node o.tree root), s.sums entry_grains, ← a.tree) (ticked_fair t f).root;
        class = λ c e stays. tick_class c e;
        client = tick_client;
      }
