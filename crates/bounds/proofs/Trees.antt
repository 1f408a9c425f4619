-- The observer's tree after an edit of one node: a tree that shows what was given at that node, and every other node as it
-- was, is the edited one.
use Prim.Native.Nat.{ℕ}
use mathlib.Core.Path.{◌≡◌, sym, ap, ◌∙◌, fun_ext}
use native.Mathlib.Decide.{ℕ_discrete}
use borrow.Author.Tests.{eq-eqb, ne_eqb}
use lib.Dec.{eqb}
use Rattle.numbers.proofs.Tests.{cond_true, cond_false}
use Rattle.definitions.specs.Tree.{Tree}
use Rattle.definitions.proofs.Edits.{SameNode, NodeIs}
use Rattle.bounds.specs.Observer.{set_at, with_node, with_share}

pub set_here : (k v : ℕ) (f : ℕ → ℕ) (j : ℕ) → j ≡ k → set_at k v f j ≡ v
unfolding set_at
set_here k v f j e = cond_true (eqb j k) v (f j) (eq-eqb j k e)

pub set_other : (k v : ℕ) (f : ℕ → ℕ) (j : ℕ) → (j ≡ k → ⊥) → set_at k v f j ≡ f j
unfolding set_at
set_other k v f j ne = cond_false (eqb j k) v (f j) (ne_eqb j k ne)

pub set_column : (k v : ℕ) (f g : ℕ → ℕ) → g k ≡ v → ((j : ℕ) → (j ≡ k → ⊥) → g j ≡ f j) → g ≡ set_at k v f
set_column k v f g here others =
    fun_ext (λ j.
    elim (ℕ_discrete j k) [
      | yes e ↦ ap g e ∙ here ∙ sym (set_here k v f j e)
      | no ne ↦ others j ne ∙ sym (set_other k v f j ne)
    ])

pub same_column : (k : ℕ) (f g : ℕ → ℕ) → g k ≡ f k → ((j : ℕ) → (j ≡ k → ⊥) → g j ≡ f j) → g ≡ f
same_column k f g here others = fun_ext (λ j. elim (ℕ_discrete j k) [ yes e ↦ ap g e ∙ here ∙ ap f (sym e) | no ne ↦ others j ne ])

module _ (new old : Tree) (k : ℕ) (others : (j : ℕ) → (j ≡ k → ⊥) → SameNode new old j) where
  pub with_node_law : (a b c d e f : ℕ) → NodeIs new k a b c d e f → new ≡ with_node old k a b c d e f
  unfolding with_node
  with_node_law a b c d e f here =
      λ i.
      record {
        sort = set_column k a old.sort new.sort here.sort (λ j ne. (others j ne).sort) i;
        parent = set_column k b old.parent new.parent here.parent (λ j ne. (others j ne).parent) i;
        level = set_column k c old.level new.level here.level (λ j ne. (others j ne).level) i;
        kind = set_column k d old.kind new.kind here.kind (λ j ne. (others j ne).kind) i;
        share = set_column k e old.share new.share here.share (λ j ne. (others j ne).share) i;
        depth = set_column k f old.depth new.depth here.depth (λ j ne. (others j ne).depth) i;
      }

  pub with_share_law : (d e : ℕ) → NodeIs new k (old.sort k) (old.parent k) (old.level k) d e (old.depth k) → new ≡ with_share old k d e
  unfolding with_share
  with_share_law d e here =
      λ i.
      record {
        sort = same_column k old.sort new.sort here.sort (λ j ne. (others j ne).sort) i;
        parent = same_column k old.parent new.parent here.parent (λ j ne. (others j ne).parent) i;
        level = same_column k old.level new.level here.level (λ j ne. (others j ne).level) i;
        kind = set_column k d old.kind new.kind here.kind (λ j ne. (others j ne).kind) i;
        share = set_column k e old.share new.share here.share (λ j ne. (others j ne).share) i;
        depth = same_column k old.depth new.depth here.depth (λ j ne. (others j ne).depth) i;
      }
