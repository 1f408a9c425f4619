-- Request keeps a table in order: one more request waits at a client, behind the others. Its cost is within the client's
-- depth by causes 2 and 8, and its arrival number is above all that were given before, so it rises and differs.
use Prim.Native.Nat.{ℕ, suc, ◌+◌, ◌*◌, ◌-◌, ◌≤◌, ◌<◌}
use mathlib.Core.Path.{◌≡◌, refl, sym, ap, ◌∙◌}
use mathlib.Core.Bool.{true}
use mathlib.Core.List.{List}
use native.Mathlib.Omega.{arith}
use native.Mathlib.Decide.{ℕ_discrete}
use borrow.Author.Tests.{eq-eqb, ne_eqb}
use lib.IntN.{ℤ, pos}
use lib.Signed.{le_z}
use Rattle.numbers.specs.Whole.{plus}
use Rattle.numbers.proofs.Tests.{by_test, true_false}
use Rattle.numbers.proofs.Parts.{zarith, plus_pos, minus_pos}
use Rattle.numbers.proofs.All.{below_cases}
use Rattle.definitions.specs.Limits.{record_length, nodes, sort_at, parent_at, level_at, kind_at, share_at, depth_at, rate_at, balance_at, waiting_at, port_at, spare_at, queue_at, request_length, tag_at, size_at, arrival_at, root, most_waiting}
use Rattle.definitions.specs.Places.{queue_place, place, count, rate, balance, waiting, port, arrival}
use Rattle.definitions.specs.Tree.{tree_of, there, is_class}
use Rattle.definitions.specs.Cost.{cost}
use Rattle.definitions.specs.Order.{in_order}
use Rattle.definitions.specs.Calls.{requested, request_refusal, request_table}
use Rattle.definitions.proofs.Facts.{Limits, Spare, Request, stated_kept, facts, from_facts}
use Rattle.definitions.proofs.Cost.{size_within_law}
use Rattle.treelaws.proofs.Renewed.{same_tree_law}
use Rattle.definitions.proofs.Edits.{Requested, requested_edit}
use Rattle.definitions.proofs.Passed.{RequestPassed, request_passed}
use Rattle.calllaws.proofs.Nodes.{Node, Ready, ready, ready_in_order, balance_kept, request_kept, node_kept, root_kept, most_waiting_law, class_or_client}
use Rattle.calllaws.proofs.Ready.{same_sums, kept_in_order}

-- Every arrival number is at most the header's count.
pub arrival_counted : (t : List ℤ) → Ready t → (k : ℕ) → k < nodes → (i : ℕ) → i < waiting t k → arrival t k i ≤ count t
unfolding arrival waiting
arrival_counted t f k hk i hi =
    by_test (there (tree_of t) k)
    (λ e.
    by_test (is_class (tree_of t) k)
    (λ c. absurd (idle ((f.node k hk).class c).idle))
    (λ c. omega (arith, zarith, ((f.node k hk).requests (class_or_client t k (f.node k hk) e c) i hi).number)))
    (λ e. absurd (unused ((f.node k hk).empty e waiting_at (omega arith))))
  where
    idle : waiting t k ≡ 0 → ⊥
    idle e = omega arith

    unused : place t k waiting_at ≡ pos 0 → ⊥
    unused e = omega (arith, ap plus e, plus_pos 0)

-- The table u is t with one more request waiting at node k.
module _ (t u : List ℤ) (k : ℕ) (tag size : ℤ) (hk : k < nodes) (more : Requested t u k tag size) where
  -- Places that the request does not take stay: all but the waiting count and the new request's own.
  stays : (p : ℕ) → p < record_length → (p ≡ waiting_at → ⊥) → (queue_place (waiting t k) ≤ p → p < queue_place (waiting t k) + request_length → ⊥) → place u k p ≡ place t k p
  stays p hp other apart =
      more.here p hp ∙ rw (ne_eqb p waiting_at other, ne_eqb p (queue_place (waiting t k) + arrival_at) (not_at arrival_at (omega arith)), ne_eqb p (queue_place (waiting t k) + size_at) (not_at size_at (omega arith)), ne_eqb p (queue_place (waiting t k) + tag_at) (not_at tag_at (omega arith)))
    where
      not_at : (i : ℕ) → i < request_length → p ≡ queue_place (waiting t k) + i → ⊥
      not_at i hi e = apart (omega arith) (omega arith)

  -- All places before the waiting places but the waiting count stay, at every node.
  early : (j p : ℕ) → p < queue_at → (p ≡ waiting_at → ⊥) → place u j p ≡ place t j p
  early j p hp other =
      elim (ℕ_discrete j k) [
        | yes e ↦ rw e (stays p (omega arith) other (λ low high. omega arith))
        | no ne ↦ more.others j p ne (omega arith)
      ]

  pub before : (j p : ℕ) → p < waiting_at → place u j p ≡ place t j p
  before j p hp = early j p (omega arith) (λ e. omega arith)

  pub requested_port : (j : ℕ) → port u j ≡ port t j
  unfolding port
  requested_port j = ap plus (early j port_at (omega arith) (λ e. omega arith))

  pub requested_tree : tree_of u ≡ tree_of t
  requested_tree = same_tree_law u t (λ j p hp. before j p (omega arith))

  next_count : count u ≡ suc (count t)
  unfolding count
  next_count = ap plus more.counted ∙ plus_pos (suc (count t))

  pub next_waiting : waiting u k ≡ suc (waiting t k)
  unfolding waiting
  next_waiting = ap plus (more.here waiting_at (omega arith)) ∙ plus_pos (suc (waiting t k))

  other_waiting : (j : ℕ) → (j ≡ k → ⊥) → waiting u j ≡ waiting t j
  unfolding waiting
  other_waiting j ne = ap plus (more.others j waiting_at ne (omega arith))

  new_size : waiting t k < most_waiting → place u k (queue_place (waiting t k) + size_at) ≡ size
  new_size w =
      more.here (queue_place (waiting t k) + size_at) (omega arith)
      ∙ rw (ne_eqb (queue_place (waiting t k) + size_at) waiting_at (omega arith), ne_eqb (queue_place (waiting t k) + size_at) (queue_place (waiting t k) + arrival_at) (omega arith), eq-eqb (queue_place (waiting t k) + size_at) (queue_place (waiting t k) + size_at) refl)

  new_number : waiting t k < most_waiting → place u k (queue_place (waiting t k) + arrival_at) ≡ pos (suc (count t))
  new_number w =
      more.here (queue_place (waiting t k) + arrival_at) (omega arith)
      ∙ rw (ne_eqb (queue_place (waiting t k) + arrival_at) waiting_at (omega arith), eq-eqb (queue_place (waiting t k) + arrival_at) (queue_place (waiting t k) + arrival_at) refl)

  -- An arrival number is the new one or one of before.
  arrival_cases : {P : Type 0} → Ready t → waiting t k < most_waiting → (j : ℕ) → j < nodes → (i : ℕ) → i < waiting u j → (j ≡ k → arrival u j i ≡ suc (count t) → P) → (i < waiting t j → arrival u j i ≡ arrival t j i → P) → P
  unfolding arrival
  arrival_cases {P} r w j hj i hi new old = by (ℕ_discrete j k)
    where
      at_node : j ≡ k → P
      at_node e =
          below_cases (waiting t k) i (omega (arith, next_waiting, ap (waiting u) e))
          (λ l. old (omega (arith, ap (waiting t) e)) (ap plus (rw e (stays (queue_place i + arrival_at) (omega arith) (omega arith) (λ low high. omega arith)))))
          (λ last. new e (ap plus (rw (e, last) (new_number w)) ∙ plus_pos (suc (count t))))

      by : Dec (j ≡ k) → P
      by (yes e) = at_node e
      by (no ne) =
          let l : i < waiting t j = omega (arith, other_waiting j ne) in
          old l (ap plus (more.others j (queue_place i + arrival_at) ne (omega (arith, most_waiting_law t j (r.node j hj)))))

  new_differ : Ready t → waiting t k < most_waiting → (m : ℕ) → m < nodes → (i : ℕ) → i < waiting u m → (j : ℕ) → j < m → (l : ℕ) → l < waiting u j → arrival u m i ≡ arrival u j l → ⊥
  new_differ r w m hm i hi j hj l hl e =
      let hj' : j < nodes = omega arith in
      arrival_cases r w m hm i hi
      (λ same a.
      arrival_cases r w j hj' l hl
      (λ same' b. omega arith)
      (λ hl' b. omega (arith, arrival_counted t r j hj' l hl')))
      (λ hi' a.
      arrival_cases r w j hj' l hl
      (λ same b. omega (arith, arrival_counted t r m hm i hi'))
      (λ hl' b. r.differ m hm i hi' j hj l hl' (sym a ∙ e ∙ b)))

  new_limits : waiting t k < most_waiting → Limits t k → Limits u k
  new_limits w f =
      record {
        sort = rw (before k sort_at (omega arith)) f.sort;
        parent = rw (before k parent_at (omega arith)) f.parent;
        level = rw (before k level_at (omega arith)) f.level;
        kind = rw (before k kind_at (omega arith)) f.kind;
        share = rw (before k kind_at (omega arith), before k share_at (omega arith)) f.share;
        depth = rw (before k depth_at (omega arith)) f.depth;
        waiting = rw (more.here waiting_at (omega arith)) (omega (arith, zarith, plus_pos (suc (waiting t k)), minus_pos (suc (waiting t k))));
        port = rw (before k sort_at (omega arith), early k port_at (omega arith) (λ e. omega arith)) f.port;
      }

  new_spare : Spare t k → Spare u k
  new_spare f =
      record {
        places = λ p hp. stays (spare_at + p) (omega arith) (omega arith) (λ low high. omega arith) ∙ f.places p hp;
        queue = λ p hp low.
            let up : request_length * suc (waiting t k) ≤ p = omega (arith, next_waiting) in
            stays (queue_at + p) (omega arith) (omega arith) (λ low high. omega arith) ∙ f.queue p hp (omega arith);
      }

  -- The request behind the others.
  new_request : Ready t → waiting t k < most_waiting → le_z (pos 1) size ≡ true → cost (plus size) ≤ (tree_of t).depth k → Request u k (waiting t k)
  unfolding arrival
  new_request r w least most =
      record {
        size = rw (requested_tree, new_size w) (size_within_law _ size least most);
        number = rw (new_number w) (omega (arith, zarith, next_count, plus_pos (suc (count t)), minus_pos (suc (count t))));
        rising = λ ne.
            let l : waiting t k - 1 < waiting t k = omega arith in
            rw (stays (queue_place (waiting t k - 1) + arrival_at) (omega arith) (omega arith) (λ low high. omega arith), new_number w)
            (omega (arith, plus_pos (suc (count t)), arrival_counted t r k hk (waiting t k - 1) l));
      }

  requested_node : Ready t → RequestPassed t k size → waiting t k < most_waiting → Node u k
  requested_node r passed w =
      record {
        empty = λ e. absurd (true_false passed.there (rw requested_tree at e));
        limits = λ e. new_limits w (old.limits passed.there);
        spare = λ e. new_spare (old.spare passed.there);
        child = λ e ne. rw requested_tree (old.child passed.there ne);
        class = λ e. absurd (true_false (rw requested_tree at e) passed.no_class);
        balance = λ e. balance_kept t u k (before k sort_at (omega arith)) (before k depth_at (omega arith)) (before k balance_at (omega arith)) (λ c. absurd (true_false c passed.no_class)) (old.balance passed.there);
        requests = λ e i hi.
            below_cases (waiting t k) i (omega (arith, next_waiting))
            (λ l.
            request_kept t u k i (before k depth_at (omega arith)) (omega (arith, next_count))
            (λ p low hp. stays p (omega arith) (omega arith) (λ low high. omega arith))
            (old.requests (class_or_client t k old passed.there passed.no_class) i l))
            (λ last. rw last (new_request r w passed.least passed.cost));
      }
    where
      old : Node t k
      old = r.node k hk

  requested_ready : Ready t → RequestPassed t k size → waiting t k < most_waiting → Ready u
  unfolding count rate
  requested_ready r passed w =
      record {
        long = more.long;
        counted = rw more.counted (omega (arith, zarith, r.counted, passed.numbers, plus_pos (suc (count t)), minus_pos (suc (count t))));
        heading = λ p hp. more.heading p hp ∙ r.heading p hp;
        root = root_kept t u (λ p hp. before root p (omega arith)) (rw (before root rate_at (omega arith)) r.root.rate) r.root;
        node = λ j hj.
            elim (ℕ_discrete j k) [
              | yes e ↦ rw e (requested_node r passed w)
              | no ne ↦
                  node_kept t u j (omega (arith, next_count))
                  (record { places = λ p hp six. more.others j p ne hp; unused = λ e. more.others j rate_at ne (omega arith) })
                  (λ e root child. rw requested_tree child)
                  (λ e. same_sums t u j requested_tree (λ m hm. before m balance_at (omega arith)) ((r.node j hj).class e))
                  (r.node j hj)
            ];
        differ = new_differ r w;
        stated = stated_kept t u requested_tree (ap plus (before root rate_at (omega arith))) r.stated;
      }

asked : (t : List ℤ) (node tag size : ℤ) → request_refusal t node tag size ≡ 0 → in_order (requested t (plus node) tag size) ≡ true
unfolding rate
asked t node tag size h =
    let passed = request_passed t node tag size h in
    let f = facts t passed.order in
    let r = ready t f in
    let w : waiting t (plus node) < most_waiting = omega (arith, most_waiting_law t (plus node) (r.node (plus node) passed.node), passed.room) in
    let more = requested_edit t (plus node) tag size r.long passed.node w in
    let trees = requested_tree t _ (plus node) tag size passed.node more in
    from_facts _
    (ready_in_order _ (requested_ready t _ (plus node) tag size passed.node more r passed w)
    (λ j hj e.
    rw (trees, before t _ (plus node) tag size passed.node more j rate_at (omega arith), before t _ (plus node) tag size passed.node more root rate_at (omega arith))
    (f.rates j hj (rw trees at e))))

-- Accepted or not, and accepted.
pub request_keeps_order : (t : List ℤ) (node tag size : ℤ) → in_order t ≡ true → in_order (request_table t node tag size) ≡ true
unfolding request_table
request_keeps_order t node tag size = kept_in_order (request_refusal t node tag size) (requested t (plus node) tag size) t (asked t node tag size)

pub request_keeps : (t : List ℤ) (node tag size : ℤ) → request_refusal t node tag size ≡ 0 → in_order (request_table t node tag size) ≡ true
request_keeps t node tag size h = request_keeps_order t node tag size (request_passed t node tag size h).order
