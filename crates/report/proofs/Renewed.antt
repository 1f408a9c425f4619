-- The lines of a table whose rates were renewed show the rates of the rates section.
use Prim.Native.Nat.{ℕ, ◌<◌}
use mathlib.Core.Path.{◌≡◌, sym, ap, ◌∙◌}
use mathlib.Core.Bool.{cond}
use mathlib.Core.List.{List, []}
use lib.ListN.{length}
use lib.IntN.{ℤ}
use Rattle.numbers.specs.Whole.{plus}
use Rattle.numbers.proofs.Tests.{by_test, cond_true, cond_false}
use Rattle.definitions.specs.Limits.{table_length, nodes, root}
use Rattle.definitions.specs.Places.{rate}
use Rattle.definitions.specs.Tree.{Tree, tree_of, there, is_class}
use Rattle.definitions.specs.Rates.{rate_in, renewed}
use Rattle.treelaws.proofs.Renewed.{renewed_rate, renewed_tree}
use Rattle.planformat.specs.Bytes.{bytes_below}
use Rattle.text.proofs.Below.{bytes_cong}
use Rattle.report.specs.Text.{node_line, line, lines_of}
use Rattle.report.proofs.Lines.{line_of, line_none}

-- The line of node k by the tree and the disk's rate.
unfoldable pub line_in : Tree → ℕ → ℕ → List ℕ
line_in tree disk k = cond (there tree k) (node_line k (is_class tree k) (rate_in tree disk k)) []

module _ (t : List ℤ) (long : length t ≡ table_length) where
  line_renewed : (k : ℕ) → k < nodes → line (renewed t) k ≡ line_in (tree_of t) (rate t root) k
  unfolding line_in rate plus
  line_renewed k small =
      by_test (there (tree_of t) k)
      (λ e. sym (line_of (renewed t) k _ _ (rw (renewed_tree t) e) (ap (λ (tree : Tree). is_class tree k) (sym (renewed_tree t))) (sym (ap plus (renewed_rate t long k small e)))) ∙ sym (cond_true (there (tree_of t) k) _ [] e))
      (λ e. line_none (renewed t) k (rw (renewed_tree t) e) ∙ sym (cond_false (there (tree_of t) k) _ [] e))

  pub lines_renewed : lines_of (renewed t) ≡ bytes_below nodes (line_in (tree_of t) (rate t root))
  unfolding lines_of
  lines_renewed = bytes_cong nodes (line (renewed t)) (line_in (tree_of t) (rate t root)) line_renewed
