-- The text that is printed for a plan. Document 01, "Same tree, and the plan file".
use Rattle.std.specs.Prelude.{ℕ, ◌+◌, Bool, cond, List, [], ◌++◌, eqb, ℤ}
use Rattle.definitions.specs.Limits.{nodes}
use Rattle.definitions.specs.Places.{rate}
use Rattle.definitions.specs.Tree.{tree_of, there, is_class}
use Rattle.definitions.specs.Calls.{blank}
use Rattle.planformat.specs.Bytes.{bytes_below}
use Rattle.text.specs.Text.{most_digits, ascii, decimal, refused_line}
use Rattle.planlaws.specs.Reading.{plan_table, check_answer}

-- What the text's buffer holds, and how long the word of a sort and a line can be.
abbrev pub text_length : ℕ
text_length = 4096

abbrev pub longest_sort : ℕ
longest_sort = 8

abbrev pub longest_line : ℕ
longest_line = most_digits + longest_sort + most_digits + 1

-- The word of a sort, and the line of a node: node, sort, rate.
unfoldable pub sort_text : Bool → List ℕ
sort_text class = cond class (ascii " class ") (ascii " client ")

unfoldable pub node_line : ℕ → Bool → ℕ → List ℕ
node_line node class rate = decimal node ++ sort_text class ++ decimal rate ++ ascii "\n"

-- The line of node k of a table, where it is there.
unfoldable pub line : List ℤ → ℕ → List ℕ
line t k = cond (there (tree_of t) k) (node_line k (is_class (tree_of t) k) (rate t k)) []

-- One line for each node in rising number.
unfoldable pub lines_of : List ℤ → List ℕ
lines_of t = bytes_below nodes (line t)

-- The text for plan bytes: the lines of the table that they are read into, or the line of their refusal.
unfoldable pub report_of : List ℕ → List ℕ
report_of s = cond (eqb (check_answer s) 0) (lines_of (plan_table blank s)) (refused_line (check_answer s))
