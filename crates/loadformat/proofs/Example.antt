-- Short inputs and one line, worked out by hand.
use mathlib.Core.Path.{◌≡◌, refl}
use mathlib.Core.List.{[], ◌∷◌}
use lib.IntN.{pos}
use Rattle.numbers.specs.Whole.{plus}
use Rattle.definitions.specs.Refusals.{first}
use Rattle.planformat.specs.Bytes.{bytes_below}
use Rattle.text.specs.Text.{ascii, decimal_within, decimal, refused_line}
use Rattle.loadformat.specs.Text.{number_text, dispatch_line, load_refusal, load_text}

-- No bytes, and seven.
pub empty_input : load_text [] ≡ ascii "refused 14\n"
unfolding load_text load_refusal first refused_line ascii decimal decimal_within
empty_input = refl

pub seven_bytes : load_text (1 ∷ 0 ∷ 0 ∷ 0 ∷ 9 ∷ 0 ∷ 0 ∷ []) ≡ ascii "refused 14\n"
unfolding load_text load_refusal first refused_line ascii decimal decimal_within
seven_bytes = refl

-- In tick 5 a request of client 20 goes, with tag 15405 and size 250, from node 2.
pub one_line : dispatch_line 5 (pos 20 ∷ pos 15405 ∷ pos 250 ∷ pos 2 ∷ []) 0 ≡ ascii "5 20 15405 250 2\n"
unfolding dispatch_line number_text bytes_below plus ascii decimal decimal_within
one_line = refl
