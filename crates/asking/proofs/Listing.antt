-- The clients of a tree by rising number: what a loop adds to the list, and what stands in it.
use Prim.Native.Nat.{ℕ, zero, suc, ◌+◌, ◌%◌, ◌≤◌, ◌<◌}
use mathlib.Core.Path.{◌≡◌, refl, sym, ap, ◌∙◌}
use mathlib.Core.Bool.{true, false}
use mathlib.Core.List.{List, [], ◌∷◌, ◌++◌, append-nil}
use native.Mathlib.Nat.{mod-lt}
use native.Mathlib.Numerals.{add-one}
use native.Mathlib.Omega.{arith}
use lib.ListN.{length, get_or, take, set, length-set, length-append, get_or-append}
use lib.Seq.{length-take-le, get_or-append_seam, take-suc-set}
use lib.IntN.{ℤ}
use Rattle.io.specs.Counts.{IsPrefixLen}
use Rattle.numbers.proofs.Tests.{by_test, cond_true, cond_false}
use Rattle.numbers.proofs.All.{below_cases}
use Rattle.definitions.specs.Limits.{nodes}
use Rattle.definitions.specs.Tree.{Tree, tree_of, is_client}
use Rattle.asking.specs.Asking.{clients_below, clients}

module _ (tree : Tree) where
  -- The list one step on.
  with_client : (n : ℕ) → is_client tree n ≡ true → clients_below tree (suc n) ≡ clients_below tree n ++ (n ∷ [])
  unfolding clients_below
  with_client n e = ap (λ (xs : List ℕ). clients_below tree n ++ xs) (cond_true (is_client tree n) (n ∷ []) [] e)

  without_client : (n : ℕ) → is_client tree n ≡ false → clients_below tree (suc n) ≡ clients_below tree n
  unfolding clients_below
  without_client n e =
      ap (λ (xs : List ℕ). clients_below tree n ++ xs) (cond_false (is_client tree n) (n ∷ []) [] e) ∙ append-nil (clients_below tree n)

  -- The same as a loop counts.
  pub clients_more : (n : ℕ) → is_client tree n ≡ true → clients_below tree (n + 1) ≡ clients_below tree n ++ (n ∷ [])
  clients_more n e = ap (clients_below tree) (add-one n) ∙ with_client n e

  pub clients_stay : (n : ℕ) → is_client tree n ≡ false → clients_below tree (n + 1) ≡ clients_below tree n
  clients_stay n e = ap (clients_below tree) (add-one n) ∙ without_client n e

  pub clients_few : (n : ℕ) → length (clients_below tree n) ≤ n
  unfolding clients_below
  clients_few zero = omega arith
  clients_few (suc n) =
      by_test (is_client tree n)
      (λ e. omega (arith, clients_few n, ap length (with_client n e), length-append (clients_below tree n) (n ∷ [])))
      (λ e. omega (arith, clients_few n, ap length (without_client n e)))

  -- Each member is a client.
  pub client_listed : (n i : ℕ) → i < length (clients_below tree n) → (get_or (clients_below tree n) i 0 < n) × (is_client tree (get_or (clients_below tree n) i 0) ≡ true)
  unfolding clients_below
  client_listed zero i h = absurd (omega arith)
  client_listed (suc n) i h =
      by_test (is_client tree n)
      (λ e.
      below_cases (length (clients_below tree n)) i (omega (arith, ap length (with_client n e), length-append (clients_below tree n) (n ∷ [])))
      (λ l.
      let old = client_listed n i l in
      rw (with_client n e, get_or-append (clients_below tree n) (n ∷ []) 0 i l) (omega (arith, old.0), old.1))
      (λ last. rw (with_client n e, last, get_or-append_seam (clients_below tree n) n [] 0) (omega arith, e)))
      (λ e. let old = client_listed n i (omega (arith, ap length (without_client n e))) in rw (without_client n e) (omega (arith, old.0), old.1))

-- The list xs has the clients below k at its start, count of them.
pub record Lists (tree : Tree) (k count : ℕ) (xs : List ℕ) : Type 0 where
  pub room : nodes ≤ length xs
  pub size : count ≡ length (clients_below tree k)
  pub members : take count xs ≡ clients_below tree k

module _ (tree : Tree) (k count : ℕ) (xs : List ℕ) (l : Lists tree k count xs) where
  pub lists_room : k < nodes → count < length xs
  lists_room h = omega (arith, l.room, l.size, clients_few tree k)

  pub lists_more : k < nodes → is_client tree k ≡ true → Lists tree (k + 1) (count + 1) (set xs count k)
  lists_more h e =
      let more = clients_more tree k e in
      record {
        room = omega (arith, length-set xs count k, l.room);
        size = omega (arith, l.size, ap length more, length-append (clients_below tree k) (k ∷ []));
        members =
            ap (λ (n : ℕ). take n (set xs count k)) (add-one count)
            ∙ take-suc-set xs count k (lists_room h)
            ∙ ap (λ (ys : List ℕ). ys ++ (k ∷ [])) l.members
            ∙ sym more;
      }

  pub lists_stay : is_client tree k ≡ false → Lists tree (k + 1) count xs
  lists_stay e =
      let stay = clients_stay tree k e in
      record { room = l.room; size = l.size ∙ ap length (sym stay); members = l.members ∙ sym stay }

  pub lists_within : k ≤ nodes → count ≤ nodes
  lists_within h = omega (arith, l.size, clients_few tree k)

-- No client is listed, and all are.
pub lists_none : (tree : Tree) (xs : List ℕ) → nodes ≤ length xs → Lists tree 0 0 xs
unfolding clients_below
lists_none tree xs room = record { room = room; size = refl; members = refl }

pub lists_all : (t : List ℤ) (k count : ℕ) (xs : List ℕ) → k ≡ nodes → Lists (tree_of t) k count xs → (IsPrefixLen count xs) × (take count xs ≡ clients t)
unfolding clients
lists_all t k count xs end l =
    let few = clients_few (tree_of t) k in
    let within : count ≤ length xs = omega (arith, l.room, l.size) in
    ((within, sym (length-take-le count xs within)), l.members ∙ ap (clients_below (tree_of t)) end)

pub ruleset listing = (lists_none, lists_room, lists_more, lists_stay, lists_within, lists_all)

pub few_clients : (t : List ℤ) → length (clients t) ≤ nodes
unfolding clients
few_clients t = clients_few (tree_of t) nodes

-- Node k is the client that a draw picks.
pub record Picked (t : List ℤ) (draw k : ℕ) : Type 0 where
  pub client : k ≡ get_or (clients t) (draw % length (clients t)) 0
  pub small : k < nodes
  pub sort : is_client (tree_of t) k ≡ true

pub picked : (t : List ℤ) (xs : List ℕ) (draw : ℕ) → xs ≡ clients t → (length xs ≡ 0 → ⊥) → Picked t draw (get_or xs (draw % length xs) 0)
unfolding clients
picked t xs draw is some =
    let below : draw % length xs < length xs = mod-lt draw (omega arith) in
    let l = client_listed (tree_of t) nodes (draw % length xs) (omega (arith, ap length is)) in
    let same : get_or xs (draw % length xs) 0 ≡ get_or (clients t) (draw % length xs) 0 = ap (λ (ys : List ℕ). get_or ys (draw % length xs) 0) is in
    record {
      client = same ∙ ap (λ (n : ℕ). get_or (clients t) (draw % n) 0) (ap length is);
      small = rw same l.0;
      sort = rw same l.1;
    }
