-- Short forms of what a scenario's steps give. `simp` finds each: it rewrites the definition by the laws of Near and by
-- the short forms found before, and what comes out is the value that antt computes.
use Prim.Native.Nat.{ℕ, zero, suc}
use mathlib.Core.Path.{◌≡◌, refl, ap, ◌∙◌, fun_ext}
use mathlib.Core.Bool.{Bool, true, false}
use mathlib.Core.List.{List}
use lib.IntN.{ℤ}
use Rattle.definitions.specs.Places.{rate, balance, waiting, port, depth_grains}
use Rattle.definitions.specs.Rates.{kind_sum, divided_rate, child_rate, rate_at_level, rate_in}
use Rattle.definitions.specs.Order.{limits_kept, spare_in_order, class_in_order, rate_in_order, child_balance, child_balances, balance_in_order, arrivals_differ, stated_in_order, in_order}
use Rattle.definitions.specs.Calls.{shares_above, depths_above, stated_wrong, sum_causes, join_refusal, leave_refusal, change_share_refusal, change_rate_refusal, request_refusal, lost_grains, look_refusal, same_refusal}
use Rattle.definitions.specs.Tick.{State, grown, served_all, cut, all_waiting, step_two, step_three, ticked, port_waiting, list_short, tick_refusal}
use Rattle.scenarios.proofs.Near.{tree_near, place_is, put_is, tree_is, sum_is, nodes_are, classes_are, clients_are, unused_is, lent_is}

-- A short form of x: a value that is equal to it.
pub record Short {A : Type 0} (x : A) : Type 0 where
  pub value : A
  pub same : x ≡ value

-- The short form that an equation gives, of all that is equal to x.
unfoldable pub by : {A : Type 0} {x v : A} → ((y : A) → y ≡ x → y ≡ v) → Short x
by {x = x} {v = v} f = record { value = v; same = f x refl }

-- What uses the value of a short form, which is computed once.
unfoldable pub with : {A B : Type 0} {x : A} → Short x → ((a : A) → x ≡ a → B) → B
with s f = f s.value s.same

-- A short form of x where a fact is given: the value is equal to x there. The fact is not needed to compute the value.
pub record ShortIf (Fact : Type 0) {A : Type 0} (x : A) : Type 0 where
  pub value : A
  pub same : Fact → x ≡ value

unfoldable pub by_if : {Fact A : Type 0} {x v : A} → (Fact → (y : A) → y ≡ x → y ≡ v) → ShortIf Fact x
by_if {x = x} {v = v} f = record { value = v; same = λ fact. f fact x refl }

unfoldable pub with_if : {Fact A B : Type 0} {x : A} {y : B} → ShortIf Fact x → ((a : A) → ShortIf (Fact × (x ≡ a)) y) → ShortIf Fact y
with_if s f = record { value = (f s.value).value; same = λ fact. (f s.value).same (fact, s.same fact) }

-- Short forms of what a function gives are one of the function, and an equation at each argument.
unfoldable pub each : {A B : Type 0} {f : A → B} → ((a : A) → Short (f a)) → Short f
each s = record { value = λ a. (s a).value; same = fun_ext (λ a. (s a).same) }

pub is : {A B : Type 0} {f : A → B} (s : (a : A) → Short (f a)) (a : A) → f a ≡ (s a).value
is s a = (s a).same

-- Rates.
unfoldable pub short_child_rate : (t : List ℤ) (r k : ℕ) → Short (child_rate (tree_near t) r k)
unfolding child_rate divided_rate kind_sum
short_child_rate t r k = by (λ y e. simp sum_is at e)

unfoldable pub rate_near : List ℤ → ℕ → ℕ → ℕ → ℕ
rate_near t disk zero k = disk
rate_near t disk (suc l) k = (short_child_rate t (rate_near t disk l ((tree_near t).parent k)) k).value

rate_near_law : (t : List ℤ) (disk l k : ℕ) → rate_at_level (tree_near t) disk l k ≡ rate_near t disk l k
unfolding rate_at_level rate_near
rate_near_law t disk zero k = refl
rate_near_law t disk (suc l) k =
    ap (λ (r : ℕ). child_rate (tree_near t) r k) (rate_near_law t disk l ((tree_near t).parent k))
    ∙ (short_child_rate t (rate_near t disk l ((tree_near t).parent k)) k).same

unfoldable pub rates_near : List ℤ → ℕ → ℕ → ℕ
rates_near t disk k = rate_near t disk ((tree_near t).level k) k

pub rate_is : (t : List ℤ) (disk k : ℕ) → rate_in (tree_near t) disk k ≡ rates_near t disk k
unfolding rate_in rates_near
rate_is t disk k = rate_near_law t disk ((tree_near t).level k) k

pub rates_are : (t : List ℤ) (disk : ℕ) → rate_in (tree_near t) disk ≡ rates_near t disk
rates_are t disk = fun_ext (rate_is t disk)

-- In order.
unfoldable pub short_limits : (t : List ℤ) → Short (limits_kept t)
unfolding limits_kept
short_limits t = each (λ k. by (λ y e. simp place_is at e))

unfoldable pub short_spare : (t : List ℤ) → Short (spare_in_order t)
unfolding spare_in_order waiting
short_spare t = each (λ k. by (λ y e. simp place_is at e))

unfoldable pub short_class : (t : List ℤ) → Short (class_in_order t)
unfolding class_in_order kind_sum
short_class t = each (λ c. by (λ y e. simp (tree_is, sum_is) at e))

unfoldable pub short_rate : (t : List ℤ) → Short (rate_in_order t)
unfolding rate_in_order
short_rate t = each (λ k. by (λ y e. simp (tree_is, rate_is) at e))

unfoldable pub short_child : (t : List ℤ) (c : ℕ) → Short (child_balance t c)
unfolding child_balance
short_child t c = each (λ k. by (λ y e. simp tree_is at e))

unfoldable pub short_balance : (t : List ℤ) → Short (balance_in_order t)
unfolding balance_in_order child_balances
short_balance t = each (λ k. by (λ y e. simp (tree_is, (short_child t k).same) at e))

unfoldable pub short_arrivals : (t : List ℤ) → Short (arrivals_differ t)
unfolding arrivals_differ waiting
short_arrivals t = each (λ k. by (λ y e. simp place_is at e))

unfoldable pub short_stated : (t : List ℤ) → Short (stated_in_order t)
unfolding stated_in_order rate kind_sum
short_stated t = by (λ y e. simp (tree_is, place_is, sum_is, nodes_are) at e)

unfoldable pub short_in_order : (t : List ℤ) → Short (in_order t)
unfolding in_order
short_in_order t =
    by
    (λ y e.
    simp (unused_is, tree_is, nodes_are, classes_are, clients_are, is short_limits, is short_spare, is short_class, is short_rate, is short_balance, is short_arrivals, is short_stated) at e)

-- In order. Where the table is known to be, nothing is computed.
abbrev pub Ordered : List ℤ → Bool → Type 0
Ordered t known = known ≡ true → in_order t ≡ true

unfoldable pub order_near : List ℤ → Bool → Bool
order_near t known = elim known [ true ↦ true | false ↦ (short_in_order t).value ]

pub order_is : (t : List ℤ) (known : Bool) → Ordered t known → in_order t ≡ order_near t known
unfolding order_near
order_is t true h = h refl
order_is t false h = (short_in_order t).same

-- The refusals.
unfoldable pub short_join_refusal : (t : List ℤ) (known : Bool) (node parent sort kind share depth port : ℤ) → ShortIf (Ordered t known) (join_refusal t node parent sort kind share depth port)
unfolding join_refusal sum_causes shares_above depths_above stated_wrong kind_sum
short_join_refusal t known node parent sort kind share depth port = by_if (λ h y e. simp (order_is t known h, is short_stated, tree_is, sum_is) at e)

unfoldable pub short_leave_refusal : (t : List ℤ) (known : Bool) (node : ℤ) → ShortIf (Ordered t known) (leave_refusal t node)
unfolding leave_refusal
short_leave_refusal t known node = by_if (λ h y e. simp (order_is t known h, tree_is) at e)

unfoldable pub short_change_share_refusal : (t : List ℤ) (known : Bool) (node kind share : ℤ) → ShortIf (Ordered t known) (change_share_refusal t node kind share)
unfolding change_share_refusal shares_above stated_wrong kind_sum
short_change_share_refusal t known node kind share = by_if (λ h y e. simp (order_is t known h, is short_stated, tree_is, sum_is) at e)

unfoldable pub short_change_rate_refusal : (t : List ℤ) (known : Bool) (rate : ℤ) → ShortIf (Ordered t known) (change_rate_refusal t rate)
unfolding change_rate_refusal stated_wrong
short_change_rate_refusal t known rate = by_if (λ h y e. simp (order_is t known h, is short_stated) at e)

unfoldable pub short_same_refusal : (a b : List ℤ) → Short (same_refusal a b)
unfolding same_refusal
short_same_refusal a b = by (λ y e. simp (is short_in_order) at e)

unfoldable pub short_request_refusal : (t : List ℤ) (known : Bool) (node tag size : ℤ) → ShortIf (Ordered t known) (request_refusal t node tag size)
unfolding request_refusal
short_request_refusal t known node tag size = by_if (λ h y e. simp (order_is t known h) at e)

unfoldable pub short_look_refusal : (t : List ℤ) (known : Bool) (node : ℤ) → ShortIf (Ordered t known) (look_refusal t node)
unfolding look_refusal
short_look_refusal t known node = by_if (λ h y e. simp (order_is t known h) at e)

-- What look shows.
unfoldable pub short_rates : (t : List ℤ) → Short (rate t)
unfolding rate
short_rates t = each (λ k. by (λ y e. simp place_is at e))

unfoldable pub short_lost : (t : List ℤ) (k : ℕ) → Short (lost_grains t k)
unfolding lost_grains
short_lost t k = by (λ y e. simp (tree_is, sum_is, (short_rates t).same) at e)

unfoldable pub short_waiting : (t : List ℤ) → Short (waiting t)
unfolding waiting
short_waiting t = each (λ k. by (λ y e. simp place_is at e))

unfoldable pub short_all_waiting : (t : List ℤ) → Short (all_waiting t)
unfolding all_waiting
short_all_waiting t = by (λ y e. simp (is short_waiting) at e)

unfoldable pub short_ports : (t : List ℤ) → Short (port t)
unfolding port
short_ports t = each (λ k. by (λ y e. simp place_is at e))

unfoldable pub short_port_waiting : (t : List ℤ) (p : ℕ) → Short (port_waiting t p)
unfolding port_waiting
short_port_waiting t p = by (λ y e. simp (is short_ports, is short_waiting) at e)

unfoldable pub short_tick_refusal : (t : List ℤ) (known : Bool) (list₀ list₁ : List ℤ) → ShortIf (Ordered t known) (tick_refusal t list₀ list₁)
unfolding tick_refusal list_short
short_tick_refusal t known list₀ list₁ = by_if (λ h y e. simp (order_is t known h, is (short_port_waiting t)) at e)

-- The steps of tick.
unfoldable pub short_grown : (t : List ℤ) → Short (grown t)
unfolding grown balance rate
short_grown t = by (λ y e. simp (place_is, put_is) at e)

unfoldable pub short_served : (st : State) → Short (served_all st)
unfolding served_all waiting
short_served st = by (λ y e. simp place_is at e)

unfoldable pub short_cut : (t : List ℤ) → Short (cut t)
unfolding cut balance depth_grains
short_cut t = by (λ y e. simp (place_is, put_is) at e)

unfoldable pub short_step_two : (t : List ℤ) → Short (step_two t)
unfolding step_two
short_step_two t = by (λ y e. simp (is short_grown, is short_served) at e)

unfoldable pub short_step_three : (t : List ℤ) → Short (step_three t)
unfolding step_three
short_step_three t = with (short_step_two t) (λ st h. by (λ y e. simp (h, is short_cut) at e))

unfoldable pub short_ticked : (t : List ℤ) → Short (ticked t)
unfolding ticked
short_ticked t = with (short_step_three t) (λ st h. by (λ y e. simp (h, is short_all_waiting, lent_is) at e))
