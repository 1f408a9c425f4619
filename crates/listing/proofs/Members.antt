-- What is known of a node that stands in a table in order, and of the nodes listed for its plan.
use Prim.Native.Nat.{ℕ, ◌≤◌, ◌<◌}
use mathlib.Core.Path.{◌≡◌, sym, ap, ◌∙◌}
use mathlib.Core.List.{List, ◌∷◌, ◌++◌}
use native.Mathlib.Omega.{arith}
use lib.ListN.{get_or}
use lib.Seq.{get_or-take}
use lib.IntN.{ℤ}
use Rattle.definitions.specs.Tree.{tree_of}
use Rattle.definitions.proofs.Facts.{Limits, facts}
use Rattle.planformat.specs.declared.Edition.{Edition}
use Rattle.planformat.specs.declared.Node.{Node}
use Rattle.planformat.specs.Bytes.{bytes2, bytes4}
use Rattle.planformat.specs.Format.{Entry, last_count, entry_at, body_at, entry_bytes, share_bytes, body_bytes}
use Rattle.planformat.specs.Nodes.{share_in, held_by, kind_in, entry_by}
use Rattle.planformat.specs.Written.{written}
use Rattle.planlaws.specs.Writing.{entry_of, plan_of}
use Rattle.planlaws.proofs.Listing.{listed, listed_node, order_short}
use Rattle.listing.specs.Listed.{Standing, Listed}

module _ (t : List ℤ) (k : ℕ) (s : Standing t k) where
  pub standing_limits : Limits t k
  standing_limits = (facts t s.ordered).limits k s.small s.here

module _ (t : List ℤ) (xs : List ℕ) (n : ℕ) (h : Listed t xs n) where
  pub listed_few : n ≤ last_count
  listed_few = omega (arith, h.count, order_short (tree_of t))

  pub listed_at : (i : ℕ) → i < n → get_or xs i 0 ≡ listed (tree_of t) i
  unfolding listed
  listed_at i hi = sym (get_or-take n xs i 0 hi) ∙ ap (λ (ys : List ℕ). get_or ys i 0) h.members

  pub listed_standing : (i : ℕ) → i < n → Standing t (get_or xs i 0)
  listed_standing i hi =
      let l = listed_node (tree_of t) i (omega (arith, h.count)) in
      rw (listed_at i hi) (record { ordered = h.ordered; small = l.small; here = l.there })

  listed_entry : (i : ℕ) → i < n → entry_of (tree_of t) (get_or xs i 0) ≡ (plan_of t).entry i
  unfolding plan_of listed
  listed_entry i hi = ap (entry_of (tree_of t)) (listed_at i hi)

  pub listed_count : n ≡ (plan_of t).count
  unfolding plan_of
  listed_count = h.count

  -- A node that stands for entry i has the bytes of the entry, and of the body.
  module _ (e : Edition) where
    node_entry : (i : ℕ) (node : Node) → i < n → entry_by node ≡ entry_of (tree_of t) (get_or xs i 0) → node.number ∷ node.parent ∷ bytes2 (body_at e n i) ≡ entry_bytes e (plan_of t) i
    unfolding entry_by entry_bytes
    node_entry i node hi is =
        ap (λ (x : Entry). x.node ∷ x.parent ∷ bytes2 (body_at e n i)) (is ∙ listed_entry i hi)
        ∙ ap (λ (m : ℕ). ((plan_of t).entry i).node ∷ ((plan_of t).entry i).parent ∷ bytes2 (body_at e m i)) listed_count

    node_body : (i : ℕ) (node : Node) → i < n → entry_by node ≡ entry_of (tree_of t) (get_or xs i 0) → kind_in node.sort ∷ share_bytes e (share_in (held_by node.sort)) ++ bytes4 node.depth ≡ body_bytes e (plan_of t) i
    unfolding entry_by body_bytes
    node_body i node hi is = ap (λ (x : Entry). x.kind ∷ share_bytes e x.share ++ bytes4 x.depth) (is ∙ listed_entry i hi)

    pub entry_written : (b r : List ℕ) (i a offset : ℕ) (node : Node) → i < n → entry_by node ≡ entry_of (tree_of t) (get_or xs i 0) → offset ≡ body_at e n i → a ≡ entry_at e i → r ≡ written b a (node.number ∷ node.parent ∷ bytes2 offset) → r ≡ written b (entry_at e i) (entry_bytes e (plan_of t) i)
    entry_written b r i a offset node hi is at here h = rw (at, here, node_entry i node hi is) at h

    pub body_written : (b r : List ℕ) (i a kind share : ℕ) (node : Node) → i < n → entry_by node ≡ entry_of (tree_of t) (get_or xs i 0) → kind ≡ kind_in node.sort → share ≡ share_in (held_by node.sort) → a ≡ body_at e n i → r ≡ written b a (kind ∷ share_bytes e share ++ bytes4 node.depth) → r ≡ written b (body_at e n i) (body_bytes e (plan_of t) i)
    body_written b r i a kind share node hi is k s here h = rw (k, s, here, node_body i node hi is) at h
