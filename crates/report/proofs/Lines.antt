-- How long a line can be: the digits of the node, the word of the sort, the digits of the rate and the end.
use Prim.Native.Nat.{ℕ, ◌+◌, ◌*◌, ◌≤◌}
use mathlib.Core.Path.{◌≡◌, sym}
use mathlib.Core.Bool.{Bool, true, false}
use mathlib.Core.List.{List, []}
use native.Mathlib.Omega.{arith}
use lib.ListN.{length, length-append}
use lib.IntN.{ℤ}
use Rattle.numbers.proofs.Tests.{by_test, cond_true, cond_false}
use Rattle.definitions.specs.Places.{rate}
use Rattle.definitions.specs.Tree.{tree_of, there, is_class}
use Rattle.planformat.specs.Bytes.{bytes_below}
use Rattle.text.specs.Text.{ascii, decimal}
use Rattle.report.specs.Text.{longest_sort, longest_line, sort_text, node_line, line}
use Rattle.text.specs.Appended.{Appended}
use Rattle.text.proofs.Below.{bytes_short}
use Rattle.text.proofs.Appending.{append_more}
use Rattle.text.proofs.Decimal.{decimal_short}

pub sort_short : (class : Bool) → length (sort_text class) ≤ longest_sort
unfolding sort_text ascii
sort_short true = omega arith
sort_short false = omega arith

module _ (node : ℕ) (class : Bool) (rate : ℕ) where
  node_short : length (node_line node class rate) ≤ longest_line
  unfolding node_line ascii
  node_short = simp length-append (omega (arith, decimal_short node, sort_short class, decimal_short rate))

  -- Node, sort, rate and the end put one behind the other.
  pub node_appended : (b b1 b2 b3 b4 : List ℕ) (a n1 n2 n3 n4 : ℕ) → a + longest_line ≤ length b → Appended b a (decimal node) b1 n1 → Appended b1 n1 (sort_text class) b2 n2 → Appended b2 n2 (decimal rate) b3 n3 → Appended b3 n3 (ascii "\n") b4 n4 → Appended b a (node_line node class rate) b4 n4
  unfolding node_line
  node_appended b b1 b2 b3 b4 a n1 n2 n3 n4 room one two three four =
      let number = decimal_short node in
      let sort = sort_short class in
      let rates = decimal_short rate in
      let until2 = append_more b a _ _ b1 b2 n1 n2 (omega arith) one two in
      let until3 = append_more b a _ _ b2 b3 n2 n3 (omega arith) until2 three in
      append_more b a _ _ b3 b4 n3 n4 (omega arith) until3 four

module _ (t : List ℤ) where
  line_there : (k : ℕ) → there (tree_of t) k ≡ true → line t k ≡ node_line k (is_class (tree_of t) k) (rate t k)
  unfolding line
  line_there k h = cond_true (there (tree_of t) k) _ [] h

  pub line_none : (k : ℕ) → there (tree_of t) k ≡ false → line t k ≡ []
  unfolding line
  line_none k h = cond_false (there (tree_of t) k) _ [] h

  pub line_of : (k r : ℕ) (class : Bool) → there (tree_of t) k ≡ true → class ≡ is_class (tree_of t) k → r ≡ rate t k → node_line k class r ≡ line t k
  line_of k r class here sort rates = rw (sort, rates) (sym (line_there k here))

  line_short : (k : ℕ) → length (line t k) ≤ longest_line
  line_short k =
      by_test (there (tree_of t) k)
      (λ h. rw (line_there k h) (node_short k (is_class (tree_of t) k) (rate t k)))
      (λ h. rw (line_none k h) (omega arith))

  pub lines_short : (k : ℕ) → length (bytes_below k (line t)) ≤ longest_line * k
  lines_short k = bytes_short k longest_line (line t) line_short
