-- The plan of document 01, and a plan with a class weighted and a client fixed, worked by hand.
use Prim.Native.Nat.{ℕ, zero, suc}
use mathlib.Core.Path.{◌≡◌, refl}
use mathlib.Core.Bool.{true}
use mathlib.Core.List.{List, [], ◌∷◌}
use lib.IntN.{pos}
use Rattle.numbers.specs.Tests.{every}
use Rattle.numbers.specs.Below.{all_below}
use Rattle.definitions.specs.Limits.{class, client, fixed, weighted, first_port}
use Rattle.definitions.specs.Tree.{Tree, there}
use Rattle.definitions.specs.Refusals.{first}
use Rattle.definitions.specs.Calls.{blank}
use Rattle.planformat.specs.Bytes.{byte_at, le2, le4, bytes2, bytes4, bytes_below}
use Rattle.planformat.specs.Format.{start_of, share_length, last_kind, mark_bytes, head_bytes, entry_bytes, share_bytes, body_bytes, bytes_of, edition_in, count_in, share_from, entry_in, plan_in, entry_formed, formed}
use Rattle.planformat.specs.declared.Edition.TheVariants.{First}
use Rattle.planformat.specs.Kinds.{kind_of, sort_of, share_kind_of}
use Rattle.planformat.proofs.Example.{mixed}
use Rattle.planlaws.specs.Reading.{join_of, plan_refusal, check_answer}
use Rattle.planlaws.specs.Writing.{stands, order_below, order, entry_of}

-- Document 01's plan: disk 1000, root depth 40, client 5 alone, weight 4, depth 16.
sample : List ℕ
sample = 232 ∷ 3 ∷ 0 ∷ 0 ∷ 40 ∷ 0 ∷ 0 ∷ 0 ∷ 1 ∷ 5 ∷ 0 ∷ 13 ∷ 0 ∷ 3 ∷ 4 ∷ 0 ∷ 16 ∷ 0 ∷ 0 ∷ 0 ∷ []

sample_rate : (plan_in sample).rate ≡ 1000
unfolding sample plan_in le4 le2 byte_at start_of edition_in all_below
sample_rate = refl

sample_entry : (plan_in sample).entry 0 ≡ record { node = 5; parent = 0; kind = 3; share = 4; depth = 16 }
unfolding sample plan_in entry_in count_in le4 le2 byte_at start_of share_from share_length edition_in all_below
sample_entry = refl

sample_formed : formed sample ≡ true
unfolding sample formed every all_below entry_formed entry_in count_in le4 le2 byte_at start_of share_from share_length last_kind edition_in
sample_formed = refl

sample_bytes : bytes_of First (plan_in sample) ≡ sample
unfolding sample plan_in entry_in count_in le4 le2 byte_at start_of share_from share_length edition_in all_below bytes_of head_bytes mark_bytes entry_bytes share_bytes body_bytes bytes_below bytes2 bytes4
sample_bytes = refl

empty_refused : check_answer [] ≡ 14
unfolding check_answer plan_refusal formed every count_in byte_at first blank start_of share_length edition_in all_below
empty_refused = refl

-- What reading asks for the nodes of `mixed`: class 1 with weight 2 and depth 20, and in it client 2 with the fixed half and
-- depth 10.
mixed_class : join_of ((plan_in mixed).entry 0) ≡ record { node = pos 1; parent = pos 0; sort = pos class; kind = pos weighted; share = pos 2; depth = pos 20; port = pos first_port }
unfolding join_of sort_of share_kind_of plan_in entry_in count_in le4 le2 byte_at start_of share_from share_length edition_in all_below
mixed_class = refl

mixed_client : join_of ((plan_in mixed).entry 1) ≡ record { node = pos 2; parent = pos 1; sort = pos client; kind = pos fixed; share = pos 5000; depth = pos 10; port = pos first_port }
unfolding join_of sort_of share_kind_of plan_in entry_in count_in le4 le2 byte_at start_of share_from share_length edition_in all_below
mixed_client = refl

-- The tree of that class and that client.
by_node : ℕ → ℕ → ℕ → ℕ → ℕ
by_node a b c zero = a
by_node a b c (suc zero) = b
by_node a b c (suc (suc zero)) = c
by_node a b c (suc (suc (suc k))) = 0

mixed_tree : Tree
mixed_tree =
    record {
      sort = by_node class class client;
      parent = by_node 0 0 1;
      level = by_node 0 1 2;
      kind = by_node fixed weighted fixed;
      share = by_node 10000 2 5000;
      depth = by_node 40 20 10;
    }

-- Writing lists the two nodes in turn, and says of them what `mixed` says.
mixed_order : order mixed_tree ≡ 1 ∷ 2 ∷ []
unfolding order order_below stands there every mixed_tree by_node
mixed_order = refl

class_written : entry_of mixed_tree 1 ≡ (plan_in mixed).entry 0
unfolding entry_of kind_of mixed_tree by_node plan_in entry_in count_in le4 le2 byte_at start_of share_from share_length edition_in all_below
class_written = refl

client_written : entry_of mixed_tree 2 ≡ (plan_in mixed).entry 1
unfolding entry_of kind_of mixed_tree by_node plan_in entry_in count_in le4 le2 byte_at start_of share_from share_length edition_in all_below
client_written = refl
