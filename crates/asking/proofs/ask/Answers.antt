-- Three draws, and the request that they give.
use Rattle.std.proofs.Common.{◌≡◌, ℕ, ◌+◌, ◌%◌, Bool, false, eqb, length, pos, sym, ap, ◌∙◌, arith}
use native.Mathlib.Nat.{mod-lt}
use mir.Syntax.{w64}
use mir.ValLaws.{to_z-of_z}
use borrow.Author.Rules.{sfits_of}
use borrow.Author.Tests.{eqb-true, eqb-false}
use Rattle.draws.specs.Draws.{upper}
use Rattle.asking.proofs.Listing.{picked}
use Rattle.asking.proofs.Drawn.{picked_depth, asked_none, limits_kept_law, asked_request}
use Rattle.asking.proofs.ask.Goals as goal

some : (b : Bool) (n : ℕ) → b ≡ eqb n 0 → b ≡ false → n ≡ 0 → ⊥
some b n test is = eqb-false n 0 (sym test ∙ is)

pub returns-then-is_empty : goal.returns-then-is_empty
returns-then-is_empty c = asked_none _ (sym (ap length c.requires.1) ∙ eqb-true _ 0 (sym c.is_empty.ensures ∙ c.if-is_empty.true))

pub natural-depth-requires : goal.natural-depth-requires
natural-depth-requires c =
    let client = picked _ _ c.upper.result c.requires.1 (some _ _ c.is_empty.ensures c.if-is_empty.false) in
    (client.small, omega arith)

pub nonzero_rem-size : goal.nonzero_rem-size
nonzero_rem-size c =
    let client = picked _ _ c.upper.result c.requires.1 (some _ _ c.is_empty.ensures c.if-is_empty.false) in
    let deep = picked_depth _ _ _ c.requires.0 client in
    omega (arith, deep.0, c.natural-depth.ensures)

pub request_in_order-requires : goal.request_in_order-requires
request_in_order-requires c =
    let client = picked _ _ c.upper.result c.requires.1 (some _ _ c.is_empty.ensures c.if-is_empty.false) in
    let deep = picked_depth _ _ _ c.requires.0 client in
    let size = mod-lt c.upper-2.result {m = c.natural-depth.result} (omega (arith, deep.0, c.natural-depth.ensures)) in
    (c.requires.0, limits_kept_law _ _ client.small (omega arith), omega (arith, deep.1, c.natural-depth.ensures, size))

pub returns : goal.returns
returns c =
    asked_request _ _ _ _ _ _ _ _ _ _
    (λ z. some _ _ c.is_empty.ensures c.if-is_empty.false (ap length c.requires.1 ∙ z))
    c.next_state-first.ensures
    c.next_state-second.ensures
    c.next_state-third.ensures
    c.upper.ensures.drawn
    (picked _ _ c.upper.result c.requires.1 (some _ _ c.is_empty.ensures c.if-is_empty.false))
    (ap (λ n. n % c.natural-depth.result + 1) c.upper-2.ensures.drawn ∙ ap (λ n. upper c.next_state-second.result % n + 1) c.natural-depth.ensures)
    (to_z-of_z w64 _ (sfits_of c.whole-tag.type_inv) ∙ c.whole-tag.ensures ∙ ap pos c.upper-3.ensures.drawn)
    c.request_in_order.ensures
