-- Numbers as digits.
use mathlib.Core.Path.{◌≡◌, refl}
use Rattle.text.specs.Text.{ascii, decimal_within, decimal}

-- The least and the greatest number of 64 bits.
pub decimal_least : decimal 0 ≡ ascii "0"
unfolding decimal decimal_within ascii
decimal_least = refl

pub decimal_greatest : decimal 18446744073709551615 ≡ ascii "18446744073709551615"
unfolding decimal decimal_within ascii
decimal_greatest = refl
