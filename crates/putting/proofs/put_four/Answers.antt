use Rattle.std.proofs.Common.{◌≡◌, ℕ, ◌+◌, ◌*◌, ◌/◌, ◌%◌, [], ◌∷◌, take, ap, ◌∙◌, refl, arith}
use Rattle.planformat.specs.Bytes.{byte_values, pair_values, bytes2, bytes4}
use Rattle.putting.proofs.Copied.{copied}
use Rattle.putting.proofs.put_four.Goals as goal

pub returns : goal.returns
unfolding bytes4 bytes2
returns c =
    let n = c.args.n in
    let last : n / (byte_values * pair_values) ≡ n / pair_values / byte_values = omega arith in
    copied _ (bytes4 n) _ _ (c.args.a + 4)
    (c.copy_from_slice.ensures.after
    ∙ ap (take 4) c.to_le_bytes.ensures
    ∙ ap (λ (d : ℕ). n % byte_values ∷ n / byte_values % byte_values ∷ n / pair_values % byte_values ∷ d % byte_values ∷ []) last)
    refl
