-- A child in a rated table, whose class has the sums of shares that stand under it.
use Rattle.std.proofs.Common.{◌≡◌, ◌<◌, ◌≤◌, ◌∙◌, ℕ, ℤ, List, true, get_or, ap, arith}
use Rattle.definitions.specs.Limits.{nodes, fixed, weighted, stated, kinds, greatest_rate}
use Rattle.definitions.specs.Tree.{tree_of, there}
use Rattle.definitions.specs.Rates.{kind_sum}
use Rattle.sums.specs.Sums.{ShareSums, sum_at}
use Rattle.sums.specs.Rated.{Rated}
use Rattle.sums.specs.declared.UnderClass.{UnderClass}
use Rattle.sums.proofs.NodeByNode.{share_sums_end}
use Rattle.sums.proofs.Rated.{weights_small}
use Rattle.dividing.specs.Divisions.{Divided}

pub divided : (t : List ℤ) (c : ℕ) → Rated t c → (k p r : ℕ) (sums : List ℕ) (by : UnderClass) → 0 < k → k < nodes → there (tree_of t) k ≡ true → p ≡ (tree_of t).parent k → ShareSums (tree_of t) nodes sums → (by.fixed ≡ get_or sums (sum_at p fixed) 0) × (by.weights ≡ get_or sums (sum_at p weighted) 0) × (by.stated ≡ get_or sums (sum_at p stated) 0) → r ≤ greatest_rate → Divided t k r by
divided t c f k p r sums by above low here is s u small =
    let node = f.node k low here (λ e. omega arith) in
    let summed : (kind : ℕ) → kind < kinds → get_or sums (sum_at p kind) 0 ≡ kind_sum (tree_of t) kind ((tree_of t).parent k) = λ kind h. ap (λ (i : ℕ). get_or sums (sum_at i kind) 0) is ∙ share_sums_end _ _ s _ kind node.parent h in
    record {
      long = f.long;
      not_root = above;
      low = low;
      here = here;
      placed = node;
      small = small;
      fixed = u.0 ∙ summed fixed (omega arith);
      weights = u.1 ∙ summed weighted (omega arith);
      stated = u.2 ∙ summed stated (omega arith);
      few = omega (arith, u.1, summed weighted (omega arith), weights_small t c f ((tree_of t).parent k));
    }
