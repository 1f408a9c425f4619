-- Reading a plan opens a table and joins the entries in turn. Document 01, "Same tree, and the plan file" and "What is
-- turned back", and document 02, (f) and (g).
use Rattle.std.specs.Prelude.{ℕ, zero, suc, ◌+◌, ◌*◌, ◌-◌, Bool, not, List, [], ◌∷◌, length, eqb, ltb, ℤ, pos}
use Rattle.numbers.specs.Below.{all_below, for_below}
use Rattle.definitions.specs.Limits.{table_length, nodes, first_port}
use Rattle.definitions.specs.Tree.{Tree, tree_of}
use Rattle.definitions.specs.Refusals.{Cause, cause, first, Outcome, outcome, kept}
use Rattle.definitions.specs.Calls.{blank, open_refusal, open_table}
use Rattle.treelaws.specs.Joins.{Join, refusal_of, after_join}
use Rattle.planformat.specs.Kinds.{sort_of, share_kind_of}
use Rattle.planformat.specs.Format.{Entry, Plan, edition_number, edition_in, plan_in, formed}

-- The join that an entry asks for: plans put every client on port 0.
unfoldable pub join_of : Entry → Join
join_of e =
    record {
      node = pos e.node;
      parent = pos e.parent;
      sort = pos (sort_of e.kind);
      kind = pos (share_kind_of e.kind);
      share = pos e.share;
      depth = pos e.depth;
      port = pos first_port;
    }

-- The refusal of that join, and the table after it.
unfoldable pub entry_refusal : List ℤ → Entry → ℕ
entry_refusal t e = refusal_of t (join_of e)

unfoldable pub after_entry : List ℤ → Entry → List ℤ
after_entry t e = after_join t (join_of e)

-- The table after the first n entries of plan p are joined to t in turn.
unfoldable pub after_entries : List ℤ → Plan → ℕ → List ℤ
after_entries t p n = for_below n (λ i u. after_entry u (p.entry i)) t

-- The refusal of a call as a cause.
unfoldable pub refusing : ℕ → Cause
refusing number = cause number (not (eqb number 0))

-- The refusal of the first refused join of these n, and 0 where none is refused.
unfoldable pub entries_refusal : List ℤ → Plan → ℕ → ℕ
entries_refusal t p zero = 0
entries_refusal t p (suc n) =
    first (refusing (entries_refusal t p n) ∷ refusing (entry_refusal (after_entries t p n) (p.entry n)) ∷ [])

-- The table opened for plan p, and with all its entries joined.
unfoldable pub opened_for : List ℤ → Plan → List ℤ
opened_for t p = open_table t (pos p.rate) (pos p.depth)

unfoldable pub joined_for : List ℤ → Plan → List ℤ
joined_for t p = after_entries (opened_for t p) p p.count

-- A number that orders the nodes by level, then by number.
unfoldable pub standing : Tree → ℕ → ℕ
standing tree k = nodes * tree.level k + k

-- Whether the entries of plan p stand by level, then by number.
unfoldable pub rising : Tree → Plan → Bool
rising tree p =
    all_below (p.count - 1) (λ i. ltb (standing tree (p.entry i).node) (standing tree (p.entry (suc i)).node))

-- Reading plan bytes into table t: 1 for the table's length, 14, then open and the joins entry by entry, among whose causes is
-- 16, then 15.
unfoldable pub plan_refusal : List ℤ → List ℕ → ℕ
plan_refusal t s =
    first
    (cause 1 (not (eqb (length t) table_length))
    ∷ cause 14 (not (formed s))
    ∷ refusing (open_refusal t (pos (plan_in s).rate) (pos (plan_in s).depth))
    ∷ refusing (entries_refusal (opened_for t (plan_in s)) (plan_in s) (plan_in s).count)
    ∷ cause 15 (not (rising (tree_of (joined_for t (plan_in s))) (plan_in s)))
    ∷ [])

unfoldable pub plan_table : List ℤ → List ℕ → List ℤ
plan_table t s = kept (plan_refusal t s) (joined_for t (plan_in s)) t

-- It answers the edition that it met, 1 or 2.
unfoldable pub plan_answer : List ℤ → List ℕ → Outcome
plan_answer t s = outcome (plan_refusal t s) (pos (edition_number (edition_in s)) ∷ [])

-- What the cabinet's firmware gets for plan bytes: the refusal number, or 0, that reading them into a table of right
-- length gives.
unfoldable pub check_answer : List ℕ → ℕ
check_answer s = plan_refusal blank s
