-- How long lines can be, and that the lines of a list are those of the entries at its start.
use Prim.Native.Nat.{ℕ, ◌+◌, ◌*◌, ◌/◌, ◌≤◌, ◌<◌}
use mathlib.Core.Path.{◌≡◌, ap}
use mathlib.Core.List.{List, ◌++◌}
use native.Mathlib.Omega.{arith}
use lib.ListN.{length, get_or, length-append, get_or-append}
use lib.IntN.{ℤ, pos}
use Rattle.numbers.specs.Whole.{plus}
use Rattle.definitions.specs.Limits.{entry_length}
use Rattle.planformat.specs.Bytes.{bytes_below}
use Rattle.text.specs.Text.{ascii, decimal}
use Rattle.text.proofs.Below.{bytes_short, bytes_cong}
use Rattle.text.proofs.Decimal.{decimal_short}
use Rattle.loadformat.specs.Text.{number_text, dispatch_line, tick_lines}
use Rattle.loadformat.specs.Parts.{longest_number, longest_line}

module _ (entries : List ℤ) (i : ℕ) where
  pub number_short : (p : ℕ) → length (number_text entries i p) ≤ longest_number
  unfolding number_text ascii
  number_short p = simp length-append (omega (arith, decimal_short (plus (get_or entries (entry_length * i + p) (pos 0)))))

  pub entry_short : (n : ℕ) → length (bytes_below n (number_text entries i)) ≤ longest_number * n
  entry_short n = bytes_short n longest_number (number_text entries i) number_short

  pub line_short : (tick : ℕ) → length (dispatch_line tick entries i) ≤ longest_line
  unfolding dispatch_line ascii
  line_short tick = simp length-append (omega (arith, decimal_short tick, entry_short entry_length))

pub lines_short : (tick n : ℕ) (entries : List ℤ) → length (bytes_below n (dispatch_line tick entries)) ≤ longest_line * n
lines_short tick n entries = bytes_short n longest_line (dispatch_line tick entries) (λ i. line_short entries i tick)

module _ (entries rest : List ℤ) where
  number_front : (i p : ℕ) → entry_length * i + p < length entries → number_text (entries ++ rest) i p ≡ number_text entries i p
  unfolding number_text
  number_front i p h = ap (λ (z : ℤ). ascii " " ++ decimal (plus z)) (get_or-append entries rest (pos 0) (entry_length * i + p) h)

  line_front : (tick i : ℕ) → i < length entries / entry_length → dispatch_line tick (entries ++ rest) i ≡ dispatch_line tick entries i
  unfolding dispatch_line
  line_front tick i h =
      ap (λ (u : List ℕ). decimal tick ++ u ++ ascii "\n")
      (bytes_cong entry_length (number_text (entries ++ rest) i) (number_text entries i) (λ p hp. number_front i p (omega arith)))

  pub lines_front : (tick : ℕ) → bytes_below (length entries / entry_length) (dispatch_line tick (entries ++ rest)) ≡ tick_lines tick entries
  unfolding tick_lines
  lines_front tick = bytes_cong _ (dispatch_line tick (entries ++ rest)) (dispatch_line tick entries) (line_front tick)
