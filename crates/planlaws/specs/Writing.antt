-- Writing the plan of a table. Document 01, "Same tree, and the plan file" and "What is turned back", and document 02, (f).
use Rattle.std.specs.Prelude.{ℕ, zero, suc, ◌*◌, ◌/◌, ◌%◌, Bool, false, not, cond, List, [], ◌∷◌, ◌++◌, length, get_or, drop, eqb, ltb, ℤ, pos}
use Rattle.numbers.specs.Whole.{plus, within_ℤ}
use Rattle.numbers.specs.Tests.{every}
use Rattle.definitions.specs.Limits.{nodes, root, last_level}
use Rattle.definitions.specs.Places.{rate}
use Rattle.definitions.specs.Tree.{Tree, tree_of, there, is_stated, each_node}
use Rattle.definitions.specs.Order.{in_order}
use Rattle.definitions.specs.Refusals.{cause, first, Outcome, outcome}
use Rattle.planformat.specs.Kinds.{kind_of}
use Rattle.planformat.specs.Format.{Entry, Plan, first_edition, second_edition, edition_of, bytes_of}
use Rattle.planformat.specs.declared.Edition.{Edition}
use Rattle.planformat.specs.declared.Edition.TheVariants.{First, Second}

-- How many pairs of a level and a number there are.
abbrev pub standings : ℕ
standings = nodes * suc last_level

-- Whether node m % nodes is there at level m / nodes and is not the root.
unfoldable pub stands : Tree → ℕ → Bool
stands tree m =
    every (there tree (m % nodes) ∷ not (eqb (m % nodes) root) ∷ eqb (tree.level (m % nodes)) (m / nodes) ∷ [])

-- The nodes but for the root, by level, then by number: m goes through all nodes of level 0, then those of level 1, and so
-- on.
unfoldable pub order_below : Tree → ℕ → List ℕ
order_below tree zero = []
order_below tree (suc m) = order_below tree m ++ cond (stands tree m) (m % nodes ∷ []) []

unfoldable pub order : Tree → List ℕ
order tree = order_below tree standings

-- The entry of node k.
unfoldable pub entry_of : Tree → ℕ → Entry
entry_of tree k =
    record {
      node = k;
      parent = tree.parent k;
      kind = kind_of (tree.sort k) (tree.kind k);
      share = tree.share k;
      depth = tree.depth k;
    }

-- The plan of a table, and its bytes.
unfoldable pub plan_of : List ℤ → Plan
plan_of t =
    record {
      rate = rate t root;
      depth = (tree_of t).depth root;
      count = length (order (tree_of t));
      entry = λ i. entry_of (tree_of t) (get_or (order (tree_of t)) i 0);
    }

unfoldable pub plan_bytes : Edition → List ℤ → List ℕ
plan_bytes e t = bytes_of e (plan_of t)

-- Whether a stated node is in the tree, and whether an edition has no kind for a node of the tree: the first has none for a
-- stated one.
unfoldable pub any_stated : Tree → Bool
any_stated tree = not (each_node tree (λ k. not (is_stated tree k)))

unfoldable pub unwritable : Edition → Tree → Bool
unwritable First tree = any_stated tree
unwritable Second tree = false

-- The edition that a writer is told, 1 or 2.
abbrev pub edition_told : ℤ → Edition
edition_told edition = edition_of (plus edition)

-- Writing returns the length and touches nothing beyond it.
unfoldable pub write_refusal : List ℤ → ℤ → List ℕ → ℕ
write_refusal t edition buffer =
    first
    (cause 1 (not (in_order t))
    ∷ cause 2 (not (within_ℤ first_edition second_edition edition))
    ∷ cause 13 (ltb (length buffer) (length (plan_bytes (edition_told edition) t)))
    ∷ cause 16 (unwritable (edition_told edition) (tree_of t))
    ∷ [])

unfoldable pub write_buffer : List ℤ → ℤ → List ℕ → List ℕ
write_buffer t edition buffer =
    cond (eqb (write_refusal t edition buffer) 0)
    (plan_bytes (edition_told edition) t ++ drop (length (plan_bytes (edition_told edition) t)) buffer)
    buffer

unfoldable pub write_answer : List ℤ → ℤ → List ℕ → Outcome
write_answer t edition buffer = outcome (write_refusal t edition buffer) (pos (length (plan_bytes (edition_told edition) t)) ∷ [])
