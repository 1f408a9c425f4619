-- Sums of shares of one kind: trees with the same nodes, parents, kinds and shares have the same.
use Prim.Native.Nat.{ℕ, ◌<◌}
use mathlib.Core.Path.{◌≡◌, ap}
use lib.Dec.{leb}
use Rattle.numbers.proofs.All.{all_cong}
use Rattle.numbers.proofs.Sums.{sum_cong}
use Rattle.definitions.specs.Limits.{nodes}
use Rattle.definitions.specs.Tree.{Tree, child_of, count_if, sum_under}
use Rattle.definitions.specs.Rates.{kind_share, kind_sum}
use Rattle.definitions.proofs.ShareKinds.{same_share}
use Rattle.calllaws.proofs.OneNode.{child_same, count_same}
use Rattle.hourlaws.specs.SetMinute.{kind_within}

-- Node k has the same sort, parent, kind and share in both.
pub record SameShare (new old : Tree) (k : ℕ) : Type 0 where
  pub sort : new.sort k ≡ old.sort k
  pub parent : new.parent k ≡ old.parent k
  pub kind : new.kind k ≡ old.kind k
  pub share : new.share k ≡ old.share k

module _ (new old : Tree) (same : (k : ℕ) → k < nodes → SameShare new old k) where
  pub kind_sum_same : (kind c : ℕ) → kind_sum new kind c ≡ kind_sum old kind c
  unfolding kind_sum sum_under
  kind_sum_same kind c =
      sum_cong nodes (λ k. count_if (child_of new c k) (kind_share new kind) k) (λ k. count_if (child_of old c k) (kind_share old kind) k)
      (λ k hk.
      let s = same k hk in
      count_same (child_of new c k) (child_of old c k) (kind_share new kind) (kind_share old kind) k (child_same new old c k s.sort s.parent) (same_share new old kind k k s.kind s.share))

  pub within_same : (kind limit : ℕ) → kind_within kind limit new ≡ kind_within kind limit old
  unfolding kind_within
  within_same kind limit =
      all_cong nodes (λ c. leb (kind_sum new kind c) limit) (λ c. leb (kind_sum old kind c) limit) (λ c hc. ap (λ (n : ℕ). leb n limit) (kind_sum_same kind c))
