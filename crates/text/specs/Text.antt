-- Texts of the programs: words, decimal numbers, and the line of a refusal.
use Rattle.std.specs.Prelude.{ℕ, zero, suc, ◌+◌, ◌/◌, ◌%◌, cond, List, [], ◌∷◌, ◌++◌, ltb}
use Prim.Native.Char.{code}
use Prim.Native.String.{String, [] as end, ◌∷◌ as ◌then◌}

-- The ASCII codes of a text.
unfoldable pub ascii : String → List ℕ
ascii end = []
ascii (c then s) = code c ∷ ascii s

-- How long a number of 64 bits can be.
abbrev pub most_digits : ℕ
most_digits = 20

-- The ASCII code of a digit.
abbrev pub digit : ℕ → ℕ
digit d = code "0" + d

-- The decimal digits of n without leading zeros, where n is below 10 ^ m.
unfoldable pub decimal_within : ℕ → ℕ → List ℕ
decimal_within zero n = []
decimal_within (suc m) n = cond (ltb n 10) (digit n ∷ []) (decimal_within m (n / 10) ++ (digit (n % 10) ∷ []))

-- The same for every number of 64 bits.
unfoldable pub decimal : ℕ → List ℕ
decimal n = decimal_within most_digits n

-- The line of a refusal, and how long it can be: the word, the digits and the end.
unfoldable pub refused_line : ℕ → List ℕ
refused_line number = ascii "refused " ++ decimal number ++ ascii "\n"

abbrev pub longest_refused : ℕ
longest_refused = 8 + most_digits + 1

-- How many bytes of an input are read at most.
abbrev pub input_length : ℕ
input_length = 4096
