use Rattle.std.proofs.Common.{◌≡◌, ℕ, Bool, ℤ, ap, ◌∙◌}
use Rattle.numbers.specs.Whole.{within_ℤ}
use Rattle.numbers.proofs.Every.{joined_as, same_tests, last_test}
use Rattle.definitions.specs.Limits.{share_limit, port_limit}
use Rattle.definitions.specs.Order.{limits_kept}
use Rattle.places.proofs.limits_kept.Goals as goal

-- A limit that another place sets.
limited : (limit : ℕ → ℕ) (low : ℕ) (z : ℤ) {b : Bool} {n m most : ℕ} → b ≡ within_ℤ low most z → most ≡ limit n → n ≡ m → b ≡ within_ℤ low (limit m) z
limited limit low z e l same = e ∙ ap (λ (most : ℕ). within_ℤ low most z) (l ∙ ap limit same)

-- The share's limit is that of the kind, and the port's that of the sort.
pub returns : goal.returns
unfolding limits_kept
returns c =
    joined_as
    (same_tests c.place_within-sort.ensures
    (same_tests c.place_within-parent.ensures
    (same_tests c.place_within-level.ensures
    (same_tests c.place_within-kind.ensures
    (same_tests (limited share_limit 1 _ c.place_within-share.ensures c.share_limit-most.ensures c.natural.ensures)
    (same_tests c.place_within-depth.ensures
    (same_tests c.place_within-waiting.ensures
    (last_test (limited port_limit 0 _ c.place_within-port.ensures c.port_limit-last.ensures c.natural-2.ensures)))))))))
