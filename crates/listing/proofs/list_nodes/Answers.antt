use Rattle.std.proofs.Common.{◌≡◌, refl, sym, ap, ◌∙◌, ℕ, ◌+◌, ◌%◌, ◌<◌, Bool, true, false, cond, List, [], ◌∷◌, ◌++◌, length, take, set, length-set, length-append, add-one, arith}
use mir.Val.{bool_byte}
use lib.Seq.{take-suc-set, take-set-le}
use Rattle.numbers.proofs.Tests.{by_test, cond_true, cond_false}
use Rattle.definitions.specs.Limits.{nodes}
use Rattle.definitions.specs.Tree.{Tree, tree_of}
use Rattle.planlaws.specs.Writing.{standings, stands, order_below, order}
use Rattle.planlaws.proofs.Listing.{order_more, order_stays, order_few}
use Rattle.listing.proofs.list_nodes.Goals as goal

-- One step on, m % nodes is listed where it stands.
next_nodes : (tree : Tree) (m count r : ℕ) (xs : List ℕ) → length xs ≡ nodes → count ≡ length (order_below tree m) → take count xs ≡ order_below tree m → r ≡ cond (stands tree m) 1 0 → (count + r ≡ length (order_below tree (m + 1))) × (take (count + r) (set xs count (m % nodes)) ≡ order_below tree (m + 1))
next_nodes tree m count r xs long size has h =
    by_test (stands tree m)
    (λ e.
    let one : r ≡ 1 = h ∙ cond_true (stands tree m) 1 0 e in
    let more = order_more tree m e in
    let room : count < length xs = omega (arith, order_few tree m) in (
      omega (arith, ap length more, length-append (order_below tree m) (m % nodes ∷ [])),
      ap (λ (n : ℕ). take n (set xs count (m % nodes))) (ap (λ (n : ℕ). count + n) one ∙ add-one count)
          ∙ take-suc-set xs count (m % nodes) room
          ∙ ap (λ (ys : List ℕ). ys ++ (m % nodes ∷ [])) has
          ∙ sym more,
    ))
    (λ e.
    let none : r ≡ 0 = h ∙ cond_false (stands tree m) 1 0 e in
    let stay = order_stays tree m e in
    let same : count + r ≡ count = omega arith in (
      omega (arith, ap length stay),
      ap (λ (n : ℕ). take n (set xs count (m % nodes))) same ∙ take-set-le count xs count (m % nodes) (omega arith) ∙ has ∙ sym stay,
    ))

-- A test that passes counts one.
counted : (b : Bool) → bool_byte b ≡ cond b 1 0
counted true = refl
counted false = refl

pub loop-m-init : goal.loop-m-init
unfolding order_below
loop-m-init c = (refl, refl, refl)

pub bounds-nodes-count : goal.bounds-nodes-count
bounds-nodes-count c = omega (arith, order_few (tree_of c.args.table.now) c.loop-m.m)

pub loop-m-preserved : goal.loop-m-preserved
loop-m-preserved c =
    let at = c.loop-m in
    let tree = tree_of c.args.table.now in
    let next = next_nodes tree at.m at.count c.from-count.result at.nodes at.invariant.0 at.invariant.1 at.invariant.2 (c.from-count.ensures ∙ ap bool_byte c.stands.ensures ∙ counted (stands tree at.m)) in
    (length-set at.nodes at.count (at.m % nodes) ∙ at.invariant.0, next.0, next.1)

pub invariant_of-result : goal.invariant_of-result
invariant_of-result c = record { few = omega (arith, order_few (tree_of c.args.table.now) c.loop-m.m) }

pub returns-clause-nodes : goal.returns-clause-nodes
unfolding order
returns-clause-nodes c =
    let tree = tree_of c.args.table.now in
    let end : c.loop-m.m ≡ standings = omega arith in
    c.loop-m.invariant.2 ∙ ap (order_below tree) end

pub returns-clause-count : goal.returns-clause-count
unfolding order
returns-clause-count c =
    let tree = tree_of c.args.table.now in
    let end : c.loop-m.m ≡ standings = omega arith in
    c.loop-m.invariant.1 ∙ ap (λ (m : ℕ). length (order_below tree m)) end
