-- Reading what was written gives it back, and writing what was read gives the bytes back.
use Prim.Native.Nat.{ℕ, zero, suc, ◌+◌, ◌*◌, ◌≤◌, ◌<◌}
use mathlib.Core.Path.{◌≡◌, refl, sym, ap, ap₂, ◌∙◌}
use mathlib.Core.Bool.{true, false}
use mathlib.Core.List.{List, [], ◌∷◌, ◌++◌}
use native.Mathlib.Omega.{arith}
use native.Mathlib.Decide.{dec_lt}
use native.Mathlib.Nat.{add-zero}
use borrow.Author.Tests.{eqb-true, eq-eqb, leb-true, le-leb}
use lib.ListN.{length, length-append, get_or-eq_default}
use Rattle.numbers.specs.Below.{all_below}
use Rattle.numbers.proofs.Tests.{by_test, same_truth}
use Rattle.numbers.proofs.Every.{head_holds, rest_hold, none_left, holds_with}
use Rattle.numbers.proofs.All.{all_at, all_intro}
use Rattle.planformat.specs.declared.Edition.{Edition}
use Rattle.planformat.specs.Bytes.{byte_values, four_values, byte_at, le2, le4, bytes2, bytes4, bytes_below}
use Rattle.planformat.specs.Format.{Entry, Plan, mark_bytes, start_of, head_length, entry_length, body_length, share_values, last_count, last_kind, disk_rate_at, root_depth_at, count_at, entry_parent_at, entry_offset_at, body_share_at, body_depth_at, entry_at, body_at, plan_length, head_bytes, entry_bytes, share_bytes, body_bytes, bytes_of, edition_in, count_in, share_from, entry_in, plan_in, entry_formed, formed}
use Rattle.planformat.specs.Framed.{Framed}
use Rattle.planformat.proofs.Shows.{Shows, same_byte, shown, shows_from, shows_self, shows_all, shows_none, shows_next, shows_left, shows_right, shows_both, length_below, shows_each, each_shows, shown2, shows2, shown4, shows4}
use Rattle.planformat.proofs.Editions.{mark_value, length_mark, length_share, shown_share, shows_share, mark_tells, shows_mark, body_small}

-- The lengths of the parts.
pub length_head : (e : Edition) (p : Plan) → length (head_bytes e p) ≡ start_of e + head_length
unfolding head_bytes bytes4 bytes2
length_head e p = length-append (mark_bytes e) (bytes4 p.rate ++ bytes4 p.depth ++ (p.count ∷ [])) ∙ omega (arith, length_mark e)

pub length_entry : (e : Edition) (p : Plan) (i : ℕ) → length (entry_bytes e p i) ≡ entry_length
unfolding entry_bytes bytes2
length_entry e p i = refl

pub length_body : (e : Edition) (p : Plan) (i : ℕ) → length (body_bytes e p i) ≡ body_length e
unfolding body_bytes bytes4 bytes2
length_body e p i =
    length-append ((p.entry i).kind ∷ share_bytes e (p.entry i).share) (bytes4 (p.entry i).depth) ∙ omega (arith, length_share e (p.entry i).share)

pub length_entries : (e : Edition) (p : Plan) (n : ℕ) → length (bytes_below n (entry_bytes e p)) ≡ n * entry_length
length_entries e p = length_below entry_length (entry_bytes e p) (length_entry e p)

pub length_bodies : (e : Edition) (p : Plan) (n : ℕ) → length (bytes_below n (body_bytes e p)) ≡ n * body_length e
length_bodies e p = length_below (body_length e) (body_bytes e p) (length_body e p)

pub length_bytes : (e : Edition) (p : Plan) → length (bytes_of e p) ≡ plan_length e p.count
unfolding bytes_of
length_bytes e p =
    length-append (head_bytes e p ++ bytes_below p.count (entry_bytes e p)) (bytes_below p.count (body_bytes e p))
    ∙ omega (arith, length-append (head_bytes e p) (bytes_below p.count (entry_bytes e p)), length_head e p, length_entries e p p.count, length_bodies e p p.count)

-- The parts of plan p stand in s where they belong in edition e.
pub record Holds (s : List ℕ) (e : Edition) (p : Plan) : Type 0 where
  pub mark : Shows s 0 (mark_bytes e)
  pub rate : Shows s (start_of e + disk_rate_at) (bytes4 p.rate)
  pub depth : Shows s (start_of e + root_depth_at) (bytes4 p.depth)
  pub count : byte_at s (start_of e + count_at) ≡ p.count
  pub entry : (i : ℕ) → i < p.count → Shows s (entry_at e i) (entry_bytes e p i)
  pub body : (i : ℕ) → i < p.count → Shows s (body_at e p.count i) (body_bytes e p i)

-- That is to say that the bytes of the plan stand there.
module _ (e : Edition) (p : Plan) where
  entries : List ℕ
  entries = bytes_below p.count (entry_bytes e p)

  bodies : List ℕ
  bodies = bytes_below p.count (body_bytes e p)

  numbers : List ℕ
  numbers = bytes4 p.rate ++ bytes4 p.depth ++ (p.count ∷ [])

  all : Shows (bytes_of e p) 0 (head_bytes e p ++ entries ++ bodies)
  unfolding bytes_of entries bodies
  all = shows_self (bytes_of e p)

  front : Shows (bytes_of e p) 0 (head_bytes e p ++ entries)
  front = shows_left (head_bytes e p ++ entries) bodies all

  before : Shows (bytes_of e p) 0 (mark_bytes e ++ numbers)
  unfolding head_bytes numbers
  before = shows_left (head_bytes e p) entries front

  head : Shows (bytes_of e p) (start_of e) numbers
  head = shows_from (start_of e) (omega (arith, length_mark e)) (shows_right (mark_bytes e) numbers before)

  pub bytes_hold : Holds (bytes_of e p) e p
  unfolding numbers entries bodies bytes4 bytes2 byte_at
  bytes_hold =
      record {
        mark = shows_left (mark_bytes e) numbers before;
        rate = shows_from (start_of e + disk_rate_at) (omega arith) (shows_left (bytes4 p.rate) (bytes4 p.depth) (shows_left (bytes4 p.rate ++ bytes4 p.depth) (p.count ∷ []) head));
        depth = shows_right (bytes4 p.rate) (bytes4 p.depth) (shows_left (bytes4 p.rate ++ bytes4 p.depth) (p.count ∷ []) head);
        count = shown head (start_of e + count_at) count_at (omega arith) (omega arith);
        entry = λ i hi. shows_from (entry_at e i) (omega (arith, length_head e p)) (shows_each entry_length (entry_bytes e p) (length_entry e p) p.count (shows_right (head_bytes e p) entries front) i hi);
        body = λ i hi.
            shows_from (body_at e p.count i) (omega (arith, length-append (head_bytes e p) entries, length_head e p, length_entries e p p.count))
            (shows_each (body_length e) (body_bytes e p) (length_body e p) p.count (shows_right (head_bytes e p ++ entries) bodies all) i hi);
      }

pub hold_bytes : (s : List ℕ) (e : Edition) (p : Plan) → length s ≡ plan_length e p.count → Holds s e p → s ≡ bytes_of e p
unfolding bytes_of head_bytes bytes4 bytes2
hold_bytes s e p long h = shows_all s (bytes_of e p) (long ∙ sym (length_bytes e p)) (shows_both (shows_both (shows_both h.mark rest) behind) last)
  where
    rest : Shows s (0 + length (mark_bytes e)) (bytes4 p.rate ++ bytes4 p.depth ++ (p.count ∷ []))
    rest =
        shows_both
        (shows_both (shows_from (0 + length (mark_bytes e)) (omega (arith, length_mark e)) h.rate) (shows_from (0 + length (mark_bytes e) + root_depth_at) (omega (arith, length_mark e)) h.depth))
        (shows_next (same_byte s (0 + length (mark_bytes e) + count_at) (start_of e + count_at) (omega (arith, length_mark e)) ∙ h.count) (shows_none s (0 + length (mark_bytes e) + count_at + 1)))

    behind : Shows s (0 + length (head_bytes e p)) (bytes_below p.count (entry_bytes e p))
    behind = each_shows entry_length (entry_bytes e p) (length_entry e p) p.count (λ i hi. shows_from (0 + length (head_bytes e p) + i * entry_length) (omega (arith, length_head e p)) (h.entry i hi))

    last : Shows s (0 + length (head_bytes e p ++ bytes_below p.count (entry_bytes e p))) (bytes_below p.count (body_bytes e p))
    last =
        each_shows (body_length e) (body_bytes e p) (length_body e p) p.count
        (λ i hi.
        shows_from (0 + length (head_bytes e p ++ bytes_below p.count (entry_bytes e p)) + i * body_length e)
        (omega (arith, length-append (head_bytes e p) (bytes_below p.count (entry_bytes e p)), length_head e p, length_entries e p p.count))
        (h.body i hi))

-- Numbers that fit the bytes of a plan of edition e. The disk's rate is less than four bytes FF, so that no plan of the first
-- edition begins with them.
pub record Fits (e : Edition) (p : Plan) : Type 0 where
  pub rate : p.rate < mark_value
  pub depth : p.depth < four_values
  pub count : p.count ≤ last_count
  pub kind : (i : ℕ) → i < p.count → (p.entry i).kind ≤ last_kind e
  pub share : (i : ℕ) → i < p.count → (p.entry i).share < share_values e
  pub deep : (i : ℕ) → i < p.count → (p.entry i).depth < four_values

-- Two plans say the same.
pub record SamePlan (p q : Plan) : Type 0 where
  pub rate : p.rate ≡ q.rate
  pub depth : p.depth ≡ q.depth
  pub count : p.count ≡ q.count
  pub entry : (i : ℕ) → i < q.count → p.entry i ≡ q.entry i

pub same_entry : (e f : Entry) → e.node ≡ f.node → e.parent ≡ f.parent → e.kind ≡ f.kind → e.share ≡ f.share → e.depth ≡ f.depth → e ≡ f
same_entry e f a b c d g = λ i. record { node = a i; parent = b i; kind = c i; share = d i; depth = g i }

-- Plans that say the same have the same bytes.
below_same : (n : ℕ) (f g : ℕ → List ℕ) → ((i : ℕ) → i < n → f i ≡ g i) → bytes_below n f ≡ bytes_below n g
unfolding bytes_below
below_same zero f g h = refl
below_same (suc n) f g h = let front = below_same n f g (λ i hi. h i (omega arith)) in let last = h n (omega arith) in cc

same_entry_bytes : (e : Edition) (p q : Plan) (i : ℕ) → p.count ≡ q.count → p.entry i ≡ q.entry i → entry_bytes e p i ≡ entry_bytes e q i
unfolding entry_bytes
same_entry_bytes e p q i count same = cc

same_body_bytes : (e : Edition) (p q : Plan) (i : ℕ) → p.entry i ≡ q.entry i → body_bytes e p i ≡ body_bytes e q i
unfolding body_bytes
same_body_bytes e p q i same = cc

pub same_bytes_law : (e : Edition) (p q : Plan) → SamePlan p q → bytes_of e p ≡ bytes_of e q
unfolding bytes_of head_bytes
same_bytes_law e p q h =
    let rate = h.rate in
    let depth = h.depth in
    let count = h.count in
    let entries = below_same q.count (entry_bytes e p) (entry_bytes e q) (λ i hi. same_entry_bytes e p q i h.count (h.entry i hi)) in
    let bodies = below_same q.count (body_bytes e p) (body_bytes e q) (λ i hi. same_body_bytes e p q i (h.entry i hi)) in
    cc

-- Where the parts of a plan stand, that plan is read, and its edition is met.
shows_rest : {s u : List ℕ} {a b : ℕ} → Shows s a (b ∷ u) → Shows s (a + 1) u
shows_rest {u = u} {b = b} h = shows_right (b ∷ []) u h

module _ (s : List ℕ) (e : Edition) (p : Plan) (fits : Fits e p) (h : Holds s e p) where
  rate_held : le4 s (start_of e + disk_rate_at) ≡ p.rate
  rate_held = shown4 s (start_of e + disk_rate_at) p.rate (omega (arith, fits.rate)) h.rate

  pub held_edition : edition_in s ≡ e
  held_edition = mark_tells e s p.rate fits.rate h.mark (ap (le4 s) (sym (add-zero (start_of e))) ∙ rate_held)

  held_count : count_in s ≡ p.count
  unfolding count_in
  held_count = ap (λ (d : Edition). byte_at s (start_of d + count_at)) held_edition ∙ h.count

  -- An entry and its body, by the edition and the count.
  entry_held : (i : ℕ) → i < p.count → (d : Edition) (n : ℕ) → d ≡ e → n ≡ p.count → (byte_at s (entry_at d i) ≡ (p.entry i).node) × (byte_at s (entry_at d i + entry_parent_at) ≡ (p.entry i).parent) × (byte_at s (body_at d n i) ≡ (p.entry i).kind) × (share_from d s (body_at d n i + body_share_at) ≡ (p.entry i).share) × (le4 s (body_at d n i + body_depth_at d) ≡ (p.entry i).depth)
  unfolding entry_bytes body_bytes byte_at bytes2
  entry_held i hi d n same count =
      let a = body_at e p.count i in
      let x = p.entry i in
      let share = shown_share e s (a + body_share_at) x.share (fits.share i hi) (shows_rest (shows_left (x.kind ∷ share_bytes e x.share) (bytes4 x.depth) (h.body i hi))) in
      let deep = shown4 s (a + body_depth_at e) x.depth (fits.deep i hi) (shows_from (a + body_depth_at e) (omega (arith, length_share e x.share)) (shows_right (x.kind ∷ share_bytes e x.share) (bytes4 x.depth) (h.body i hi))) in
      rw (same, count) (
        shown (h.entry i hi) (entry_at e i) 0 (omega arith) (omega arith),
        shown (h.entry i hi) (entry_at e i + entry_parent_at) entry_parent_at (omega arith) (omega arith),
        shown (h.body i hi) a 0 (omega arith) (omega (arith, length_body e p i)),
        share,
        deep,
      )

  held_entry : (i : ℕ) → i < p.count → entry_in s i ≡ p.entry i
  unfolding entry_in
  held_entry i hi =
      let parts = entry_held i hi (edition_in s) (count_in s) held_edition held_count in
      same_entry (entry_in s i) (p.entry i) parts.0 parts.1 parts.2 parts.3 parts.4

  pub held_plan : SamePlan (plan_in s) p
  unfolding plan_in
  held_plan =
      record {
        rate = ap (λ (d : Edition). le4 s (start_of d + disk_rate_at)) held_edition ∙ rate_held;
        depth = ap (λ (d : Edition). le4 s (start_of d + root_depth_at)) held_edition ∙ shown4 s (start_of e + root_depth_at) p.depth fits.depth h.depth;
        count = held_count;
        entry = held_entry;
      }

  held_offset : (i : ℕ) → i < p.count → le2 s (entry_at e i + entry_offset_at) ≡ body_at e p.count i
  unfolding entry_bytes
  held_offset i hi =
      shown2 s (entry_at e i + entry_offset_at) (body_at e p.count i) (shows_right ((p.entry i).node ∷ (p.entry i).parent ∷ []) (bytes2 (body_at e p.count i)) (h.entry i hi))
      ∙ omega (arith, body_small e p.count i fits.count (omega arith))

  offset_held : (i : ℕ) → i < p.count → (d : Edition) (n : ℕ) → d ≡ e → n ≡ p.count → le2 s (entry_at d i + entry_offset_at) ≡ body_at d n i
  offset_held i hi d n same count = rw (same, count) (held_offset i hi)

  pub held_formed : length s ≡ plan_length e p.count → formed s ≡ true
  unfolding formed entry_formed
  held_formed long =
      holds_with _ _ (le-leb (count_in s) last_count (omega (arith, fits.count, held_count)))
      (holds_with _ _ (eq-eqb (length s) (plan_length (edition_in s) (count_in s)) (long ∙ sym (ap₂ plan_length held_edition held_count)))
      (holds_with _ _ (all_intro (count_in s) (entry_formed s) each) none_left))
    where
      each : (i : ℕ) → i < count_in s → entry_formed s i ≡ true
      each i hi =
          let hp : i < p.count = omega (arith, held_count) in
          holds_with _ _ (eq-eqb (le2 s (entry_at (edition_in s) i + entry_offset_at)) (body_at (edition_in s) (count_in s) i) (offset_held i hp (edition_in s) (count_in s) held_edition held_count))
          (holds_with _ _ (le-leb (entry_in s i).kind (last_kind (edition_in s)) (omega (arith, ap (λ (x : Entry). x.kind) (held_entry i hp), ap last_kind held_edition, fits.kind i hp))) none_left)

-- What a plan is written as is of the edition that was asked for, well formed, and reading it gives the plan back.
pub written_edition : (e : Edition) (p : Plan) → Fits e p → edition_in (bytes_of e p) ≡ e
written_edition e p fits = held_edition (bytes_of e p) e p fits (bytes_hold e p)

pub written_formed : (e : Edition) (p : Plan) → Fits e p → formed (bytes_of e p) ≡ true
written_formed e p fits = held_formed (bytes_of e p) e p fits (bytes_hold e p) (length_bytes e p)

pub written_plan : (e : Edition) (p : Plan) → Fits e p → SamePlan (plan_in (bytes_of e p)) p
written_plan e p fits = held_plan (bytes_of e p) e p fits (bytes_hold e p)

-- What well formed bytes say.
pub record Formed (s : List ℕ) : Type 0 where
  pub count : count_in s ≤ last_count
  pub long : length s ≡ plan_length (edition_in s) (count_in s)
  pub offset : (i : ℕ) → i < count_in s → le2 s (entry_at (edition_in s) i + entry_offset_at) ≡ body_at (edition_in s) (count_in s) i
  pub kind : (i : ℕ) → i < count_in s → (entry_in s i).kind ≤ last_kind (edition_in s)

pub formed_facts : (s : List ℕ) → formed s ≡ true → Formed s
unfolding formed entry_formed
formed_facts s h =
    let rest = rest_hold _ _ h in
    let each = all_at (count_in s) (entry_formed s) (head_holds _ _ (rest_hold _ _ rest)) in
    record {
      count = leb-true (count_in s) last_count (head_holds _ _ h);
      long = eqb-true (length s) (plan_length (edition_in s) (count_in s)) (head_holds _ _ rest);
      offset = λ i hi. eqb-true (le2 s (entry_at (edition_in s) i + entry_offset_at)) (body_at (edition_in s) (count_in s) i) (head_holds _ _ (each i hi));
      kind = λ i hi. leb-true (entry_in s i).kind (last_kind (edition_in s)) (head_holds _ _ (rest_hold _ _ (each i hi)));
    }

-- Well formed bytes are framed.
pub formed_frame : (s : List ℕ) → Formed s → Framed s (edition_in s) (count_in s)
formed_frame s f = record { edition = refl; counted = refl; few = f.count; long = f.long }

-- Where the count and the length are right, the entries decide.
pub formed_rest : (s : List ℕ) → count_in s ≤ last_count → length s ≡ plan_length (edition_in s) (count_in s) → formed s ≡ all_below (count_in s) (entry_formed s)
unfolding formed
formed_rest s few long =
    same_truth _ _
    (λ e. head_holds _ _ (rest_hold _ _ (rest_hold _ _ e)))
    (λ e. holds_with _ _ (le-leb (count_in s) last_count few) (holds_with _ _ (eq-eqb (length s) (plan_length (edition_in s) (count_in s)) long) (holds_with _ _ e none_left)))

-- Bytes that are shorter than a head are not.
pub short_not_formed : (s : List ℕ) → length s < head_length → formed s ≡ false
short_not_formed s h = by_test (formed s) (λ e. absurd (omega (arith, (formed_facts s e).long))) (λ e. e)

-- Well formed bytes hold the plan that is read from them, in the edition that they are of.
module _ (s : List ℕ) (f : Formed s) (small : (i : ℕ) → byte_at s i < byte_values) where
  read_entry_law : (i : ℕ) → i < count_in s → Shows s (entry_at (edition_in s) i) (entry_bytes (edition_in s) (plan_in s) i)
  unfolding plan_in entry_in entry_bytes
  read_entry_law i hi =
      let a = entry_at (edition_in s) i in
      shows_next refl
      (shows_next refl
      (shows_from {a = a + entry_offset_at} (a + 1 + 1) (omega arith)
      (rw (← f.offset i hi) (shows2 s (a + entry_offset_at) (small (a + entry_offset_at)) (small (a + entry_offset_at + 1))))))

  read_body : (i : ℕ) → i < count_in s → Shows s (body_at (edition_in s) (count_in s) i) (body_bytes (edition_in s) (plan_in s) i)
  unfolding plan_in entry_in body_bytes
  read_body i hi =
      let a = body_at (edition_in s) (count_in s) i in
      let share = share_from (edition_in s) s (a + body_share_at) in
      shows_both (shows_next refl (shows_share (edition_in s) s (a + body_share_at) small))
      (shows_from (a + length (byte_at s a ∷ share_bytes (edition_in s) share)) (omega (arith, length_share (edition_in s) share)) (shows4 s (a + body_depth_at (edition_in s)) small))

  read_holds : Holds s (edition_in s) (plan_in s)
  unfolding plan_in count_in
  read_holds =
      record {
        mark = shows_mark s;
        rate = shows4 s (start_of (edition_in s) + disk_rate_at) small;
        depth = shows4 s (start_of (edition_in s) + root_depth_at) small;
        count = refl;
        entry = read_entry_law;
        body = read_body;
      }

small_everywhere : (s : List ℕ) → ((i : ℕ) → i < length s → byte_at s i < byte_values) → (i : ℕ) → byte_at s i < byte_values
unfolding byte_at
small_everywhere s small i = elim (dec_lt i (length s)) [ yes l ↦ small i l | no l ↦ rw (get_or-eq_default s 0 {n = i} (omega arith)) (omega arith) ]

-- Writing what was read from well formed bytes in their edition gives the bytes back.
pub read_bytes : (s : List ℕ) → formed s ≡ true → ((i : ℕ) → i < length s → byte_at s i < byte_values) → bytes_of (edition_in s) (plan_in s) ≡ s
unfolding plan_in
read_bytes s h small =
    let f = formed_facts s h in
    sym (hold_bytes s (edition_in s) (plan_in s) f.long (read_holds s f (small_everywhere s small)))
