-- Disk rate, root depth and count.
use Rattle.std.proofs.Common.{◌≡◌, ◌∙◌, ℕ, List, [], ◌∷◌, ◌++◌, arith}
use Rattle.definitions.specs.Places.{rate}
use Rattle.definitions.specs.Tree.{tree_of}
use Rattle.planformat.specs.Bytes.{bytes4}
use Rattle.planformat.specs.Format.{mark_bytes, head_bytes}
use Rattle.planformat.specs.Written.{written}
use Rattle.planlaws.specs.Writing.{plan_of}
use Rattle.planlaws.proofs.Listing.{order_short}
use Rattle.listing.proofs.Members.{listed_count}
use Rattle.planparts.proofs.Contents.put_head.Goals as goal

-- A head of these numbers written.
head_as : {r d n rate depth count : ℕ} (b m : List ℕ) → r ≡ rate → d ≡ depth → n ≡ count → written b 0 (m ++ (bytes4 r ++ bytes4 d ++ (n ∷ []))) ≡ written b 0 (m ++ (bytes4 rate ++ bytes4 depth ++ (count ∷ [])))
head_as b m e f g = rw (e, f, g)

pub put_head-requires : goal.put_head-requires
unfolding plan_of
put_head-requires c = (omega arith, omega (arith, c.args.self.listed.count, order_short (tree_of c.args.self.table.now)))

pub returns : goal.returns
unfolding head_bytes plan_of rate tree_of
returns c = c.put_head.ensures ∙ head_as c.args.buffer.now (mark_bytes c.args.self.edition) c.natural-rate.ensures c.natural-depth.ensures (listed_count _ _ _ c.args.self.listed)
