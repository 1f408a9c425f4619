-- The four steps in a row: what the table and the lists show after each, where the table came in order.
use Prim.Native.Nat.{ℕ, ◌*◌, ◌≤◌}
use mathlib.Core.Path.{◌≡◌, ap, subst, fun_ext, ◌∙◌}
use mathlib.Core.Bool.{true}
use mathlib.Core.List.{List}
use native.Mathlib.Omega.{arith}
use lib.ListN.{length}
use lib.IntN.{ℤ}
use Rattle.definitions.specs.Limits.{nodes, entry_length, first_port, second_port}
use Rattle.definitions.specs.Places.{port}
use Rattle.definitions.specs.Order.{in_order}
use Rattle.definitions.specs.Tick.{grown, cut, served_all, port_waiting, step_two, step_three, ticked}
use Rattle.definitions.proofs.Facts.{facts}
use Rattle.ticklaws.proofs.Frame.{OnlyBalances}
use Rattle.ticklaws.proofs.Grown.{grown_swept}
use Rattle.ticklaws.proofs.Cut.{cut_swept}
use Rattle.ticklaws.proofs.Ports.{only_ports, only_port_waiting}
use Rattle.table.specs.declared.PortCounts.{PortCounts}
use Rattle.steps.specs.Steps.{Serving, grew, Lending, was_cut, Room, Lists, Shows, Follows, serving, lending}
use Rattle.steps.proofs.Shows.{shows_first}
use Rattle.steps.proofs.Serving.{passed, serving_within}

-- After step 1 of table t.
pub record One (t u : List ℤ) : Type 0 where
  pub on : Serving u
  pub ports : (k : ℕ) → port u k ≡ port t k
  pub waiting : (p : ℕ) → port_waiting u p ≡ port_waiting t p

pub one : (t u : List ℤ) → in_order t ≡ true → u ≡ grown t → One t u
one t u h e =
    let only : OnlyBalances t (grown t) = (grown_swept t (facts t h).long).only in
    record {
      on = rw e (grew t h);
      ports = rw e (only_ports t (grown t) only);
      waiting = rw e (λ p. only_port_waiting t (grown t) p only);
    }

-- The lists have room for all that wait then.
pub one_room : (t u : List ℤ) → One t u → (list : List ℤ) (p : ℕ) → entry_length * port_waiting t p ≤ length list → Room p u list 0
unfolding Room
one_room t u o list p h = omega (arith, o.waiting p, h)

-- After steps 2 and 3 of table t with the lists a and b: table u and lists v and w, with n entries.
pub record Two (t a b u v w : List ℤ) (n : PortCounts) : Type 0 where
  pub on : Serving u
  pub shows : Shows (port t) a b (step_two t) u v w n

pub record Three (t a b u v w : List ℤ) (n : PortCounts) : Type 0 where
  pub on : Lending u
  pub shows : Shows (port t) a b (step_three t) u v w n

pub two : (t a b g u v w : List ℤ) (n m : PortCounts) → in_order t ≡ true → g ≡ grown t → n.first ≡ 0 → n.second ≡ 0 → entry_length * port_waiting t first_port ≤ length a → entry_length * port_waiting t second_port ≤ length b → Follows served_all g a b n u v w m → Two t a b u v w m
unfolding step_two served_all serving
two t a b g u v w n m i e none₀ none₁ room₀ room₁ f =
    let o = one t g i e in
    let h = f.shows (port g) a b _ (shows_first g a b n none₀ none₁ (one_room t g o a first_port room₀) (one_room t g o b second_port room₁)) in
    record {
      on = passed g o.on nodes (omega arith) u h.table;
      shows = subst (λ (f : ℕ → ℕ). Shows f a b (step_two t) u v w m) (fun_ext o.ports) (rw (← e) h);
    }

pub three : (t a b u v w x : List ℤ) (n : PortCounts) → Two t a b u v w n → x ≡ cut u → Three t a b x v w n
unfolding step_three Room
three t a b u v w x n h e =
    record {
      on = rw e (was_cut u h.on);
      shows =
          record {
            table = e ∙ ap cut h.shows.table;
            ports = λ k. ap (λ (y : List ℤ). port y k) e ∙ only_ports u (cut u) only k ∙ h.shows.ports k;
            all = h.shows.all;
            first = lists first_port a v n.first h.shows.first;
            second = lists second_port b w n.second h.shows.second;
          };
    }
  where
    only : OnlyBalances u (cut u)
    only = (cut_swept u (serving_within u h.on).long).only

    -- What waits stays.
    lists : (p : ℕ) (from l : List ℤ) (m : ℕ) → Lists (port t) p from (step_two t) l m → Lists (port t) p from (step_three t) l m
    lists p from l m s =
        record {
          list = s.list;
          count = s.count;
          room = omega (arith, s.room, only_port_waiting u (cut u) p only, ap (λ (y : List ℤ). port_waiting y p) h.shows.table, ap (λ (y : List ℤ). port_waiting (cut y) p) h.shows.table);
        }

pub four : (t a b u v w : List ℤ) (n : PortCounts) (x y z : List ℤ) (r : PortCounts) → Three t a b u v w n → Follows lending u v w n x y z r → Shows (port t) a b (ticked t) x y z r
unfolding ticked lending
four t a b u v w n x y z r h f = f.shows (port t) a b (step_three t) h.shows
