-- Over a stretch the balances telescope. A class: what is charged and the balance at the end are at most its rates and the
-- balance at the start; at the start it is at most one depth, at the end at least minus four. A waiting client: its rates
-- are at most what is dispatched and the balance at the end, which is below its depth.
use Prim.Native.Nat.{ℕ, ◌+◌, ◌*◌, ◌≤◌, ◌<◌}
use mathlib.Core.Path.{◌≡◌, refl, ap, ◌∙◌}
use mathlib.Core.Bool.{true}
use mathlib.Core.Logic.{◌⊎◌, inl, inr, ⊎_elim}
use mathlib.Core.List.{List, [], ◌∷◌}
use native.Mathlib.Omega.{arith}
use borrow.Author.Tests.{not-true}
use lib.IntN.{ℤ}
use Rattle.numbers.specs.Whole.{plus, minus}
use Rattle.numbers.proofs.Every.{head_holds, rest_hold}
use Rattle.definitions.specs.Limits.{grain_scale}
use Rattle.definitions.specs.Places.{balance}
use Rattle.definitions.specs.Tree.{is_class, is_client}
use Rattle.runs.specs.Runs.{Call, after, event_of, events, table_after_all}
use Rattle.bounds.specs.Observer.{Observer, observed, observed_all}
use Rattle.bounds.specs.Counts.{rates_over, dispatched_over, charged_over, waits_throughout, stays_throughout}
use Rattle.bounds.proofs.Simulation.{Agrees, Steps}

pub agrees_all : Steps → (t : List ℤ) (o : Observer) (calls : List Call) → Agrees t o → Agrees (table_after_all t calls) (observed_all o (events t calls))
unfolding table_after_all observed_all events
agrees_all laws t o [] a = a
agrees_all laws t o (c ∷ calls) a = agrees_all laws (after t c).table (observed o (event_of t c)) calls (laws t o c a).agrees

-- A class over a stretch.
pub record ClassOver (t : List ℤ) (o : Observer) (calls : List Call) (c : ℕ) : Type 0 where
  pub class : is_class (observed_all o (events t calls)).tree c ≡ true
  pub level : (observed_all o (events t calls)).tree.level c ≡ o.tree.level c
  pub depth : (observed_all o (events t calls)).tree.depth c ≡ o.tree.depth c
  pub line :
      plus (balance (table_after_all t calls) c) + minus (balance t c) + charged_over o c (events t calls)
      ≤ minus (balance (table_after_all t calls) c) + plus (balance t c) + rates_over o c (events t calls)

pub class_over :
    Steps → (t : List ℤ) (o : Observer) (calls : List Call) → Agrees t o → (c : ℕ) → is_class o.tree c ≡ true
    → stays_throughout c (events t calls) ≡ true → ClassOver t o calls c
unfolding table_after_all observed_all events event_of charged_over rates_over stays_throughout
class_over laws t o [] a c e h = record { class = e; level = refl; depth = refl; line = omega arith }
class_over laws t o (call ∷ calls) a c e h =
    let first = (laws t o call a).class c e (not-true _ (head_holds _ _ h)) in
    let rest = class_over laws (after t call).table (observed o (event_of t call)) calls (laws t o call a).agrees c first.class (head_holds _ _ (rest_hold _ _ h)) in
    record { class = rest.class; level = rest.level ∙ first.level; depth = rest.depth ∙ first.depth; line = omega (arith, first.line, rest.line) }

-- A waiting client over a stretch.
pub record ClientOver (t : List ℤ) (o : Observer) (calls : List Call) (k : ℕ) : Type 0 where
  pub client : is_client o.tree k ≡ true
  pub depth : (observed_all o (events t calls)).tree.depth k ≡ o.tree.depth k
  pub line :
      plus (balance t k) + rates_over o k (events t calls) ≤ plus (balance (table_after_all t calls) k) + dispatched_over k (events t calls)
  pub end :
      ((rates_over o k (events t calls) ≡ 0) × (plus (balance (table_after_all t calls) k) ≡ plus (balance t k)))
      ⊎ (plus (balance (table_after_all t calls) k) < o.tree.depth k * grain_scale)

pub client_over :
    Steps → (t : List ℤ) (o : Observer) (calls : List Call) → Agrees t o → (k : ℕ)
    → is_client (observed_all o (events t calls)).tree k ≡ true → waits_throughout o k (events t calls) ≡ true → ClientOver t o calls k
unfolding table_after_all observed_all events dispatched_over rates_over waits_throughout
client_over laws t o [] a k e h = record { client = e; depth = refl; line = omega arith; end = inl (refl, refl) }
client_over laws t o (call ∷ calls) a k e h =
    let rest = client_over laws (after t call).table (observed o (event_of t call)) calls (laws t o call a).agrees k e (head_holds _ _ (rest_hold _ _ h)) in
    let first = (laws t o call a).client k rest.client (head_holds _ _ h) in
    record {
      client = first.client;
      depth = rest.depth ∙ first.depth;
      line = omega (arith, first.line, rest.line);
      end = ends rest.end first.end (ap (λ (d : ℕ). d * grain_scale) first.depth);
    }
  where
    ends : {r₁ r₂ b₀ b₁ b₂ d d' : ℕ} → ((r₂ ≡ 0) × (b₂ ≡ b₁)) ⊎ (b₂ < d') → ((r₁ ≡ 0) × (b₁ ≡ b₀)) ⊎ (b₁ < d) → d' ≡ d → ((r₁ + r₂ ≡ 0) × (b₂ ≡ b₀)) ⊎ (b₂ < d)
    ends p q same =
        ⊎_elim (λ u. ⊎_elim (λ v. inl (omega arith, omega arith)) (λ v. inr (omega arith)) q) (λ u. inr (omega arith)) p
