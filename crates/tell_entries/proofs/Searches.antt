-- A search that meets each entry once.
use Rattle.std.proofs.Common.{◌≡◌, ◌≢◌, ◌⊎◌, inl, inr, ◌<◌, ◌≤◌, ◌+◌, ◌-◌, ◌*◌, ◌++◌, ◌∙◌, ℕ, zero, suc, Bool, true}
use Rattle.std.proofs.Common.{false, Option, Some, None, IfNone, IfSome, List, [], ◌∷◌, arith, get_or, length}
use Rattle.std.proofs.Common.{length-append, length-set, replicate, reverse, set, refl, ap, subst, sym}
use Rattle.std.specs.List.{All, Contains}
use Rattle.std.proofs.Math.ListN.{get_or-append}
use Rattle.std.proofs.Math.Seq.{get_or-append_seam}
use Rattle.std.proofs.lemmas.Bool.{cases_lt}
use Rattle.std.proofs.lemmas.List.{get_or_default, length-replicate, reverse-append}
use Rattle.std.proofs.lemmas.List.Elements.{All-append, All-cons, All-contains, All-nil, All-push, All-weaker}
use Rattle.std.proofs.lemmas.List.Elements.{Contains-append_left, Contains-append_right, Contains-push_cases}
use Rattle.cfb_file.proofs.Lists.{Contains-cons_cases}
use Rattle.cfb_faults.proofs.Lists.{all-from}
use Rattle.cfb_bytes.specs.Marks.{AreDistinct, set_all}
use Rattle.cfb_chains.proofs.Marks.{distinct_append, distinct_cons, distinct_head, marked_by, marked_only}
use Rattle.cfb_chains.proofs.Marks.{set_all-append}
use Rattle.cfb_entries.specs.Entries.{MayRefuseEntry, NO_STREAM, Reaches, by_left, by_right, child, entry_at, here}
use Rattle.cfb_entries.specs.Entries.{left, right}
use Rattle.cfb_entries.proofs.Linked.{reaches_left, reaches_right}
use Rattle.cfb_names.specs.declared.fault.DirFault.{DirFault}
use Rattle.cfb_names.specs.declared.fault.DirFault.TheVariants as directory
use Rattle.cfb_faults.specs.Faults.{Descends, IsChild, IsStorage, LeadsOutside}
use Rattle.tell_entries.specs.Searches.{AreAllMet, AreMet, IsAhead, IsFollowed, IsMetAtFault, IsOpening, IsSearch}
use Rattle.tell_entries.specs.Searches.{IsWayAtFault}
use Rattle.tell_entries.specs.Searches.{Waits}
use Rattle.tell_entries.specs.Ways.{IsWay, end_of}
use Rattle.tell_entries.specs.declared.searching.Ahead.{Ahead}
use Rattle.tell_faults.proofs.Stops.{distinct_few, only, unmarked}

-- ---- the way to an entry that was met
-- What was gathered of a way from its end up to an entry, the last one first: entries that descend from that one to the
-- end, met one after another behind it.
pub record IsTail (dir ids : List ℕ) (place at : ℕ) (way : List ℕ) : Type 0 where
  pub inside : at < length ids
  pub leads : Descends dir (get_or ids at 0) (reverse way) (get_or ids place 0)
  pub once : AreDistinct (reverse way)
  pub behind : (n : ℕ) → Contains (reverse way) n → (k : ℕ) × (at < k) × (k < length ids) × (get_or ids k 0 ≡ n)
  pub ends : end_of (get_or ids at 0 ∷ reverse way) ≡ get_or ids place 0

end_cons : (a b : ℕ) (xs : List ℕ) → end_of (a ∷ b ∷ xs) ≡ end_of (b ∷ xs)
end_cons a b xs = let e : suc (suc (length xs)) - 1 ≡ suc (suc (length xs) - 1) = omega arith in
    ap (λ (k : ℕ). get_or (a ∷ b ∷ xs) k 0) e

pub tail_start : (dir ids : List ℕ) (place : ℕ) → place < length ids → IsTail dir ids place place []
tail_start dir ids place lt = record {
  inside = lt;
  leads = refl;
  once = λ i j d l k. absurd (omega (arith, k));
  behind = λ n c. absurd (omega (arith, c.1));
  ends = refl;
}

turned : (way : List ℕ) (n : ℕ) → reverse (way ++ n ∷ []) ≡ n ∷ reverse way
turned way n = reverse-append way (n ∷ [])

module _ (dir ids parents : List ℕ) (m : AreMet dir ids parents) where
  apart : (ns : List ℕ) (at : ℕ) → ((n : ℕ) → Contains ns n → (k : ℕ) × (at < k) × (k < length ids)
      × (get_or ids k 0 ≡ n)) → All (λ n. get_or ids at 0 ≢ n) ns
  apart ns at behind = all-from (λ n. get_or ids at 0 ≢ n) ns (λ n c same. let b = behind n c in
      m.once at b.0 0 b.1 b.2 (same ∙ sym b.3))

  tail_cons : (place at : ℕ) (ns : List ℕ) → 0 < at → at < length ids
      → Descends dir (get_or ids at 0) ns (get_or ids place 0) → AreDistinct ns
      → ((n : ℕ) → Contains ns n → (k : ℕ) × (at < k) × (k < length ids) × (get_or ids k 0 ≡ n))
      → end_of (get_or ids at 0 ∷ ns) ≡ get_or ids place 0
      → (way : List ℕ) → reverse way ≡ get_or ids at 0 ∷ ns → IsTail dir ids place (get_or parents at 0) way
  tail_cons place at ns some lt leads once behind ends way is =
      let x : ℕ = get_or ids at 0 in
      let up : get_or parents at 0 < at = m.before at some lt in
      record {
        inside = omega (arith, up, lt);
        leads = subst (λ (v : List ℕ). Descends dir (get_or ids (get_or parents at 0) 0) v (get_or ids place 0))
            (sym is) (m.children at some lt, leads);
        once = subst AreDistinct (sym is) (distinct_cons x ns (apart ns at behind) once);
        behind = λ n c.
            elim (Contains-cons_cases x ns n (subst (λ (v : List ℕ). Contains v n) is c)) [
              | inl same ↦ (at, up, lt, same)
              | inr there ↦ let b = behind n there in (b.0, omega (arith, up, b.1), b.2, b.3)
            ];
        ends = subst (λ (v : List ℕ). end_of (get_or ids (get_or parents at 0) 0 ∷ v) ≡ get_or ids place 0) (sym is)
            (end_cons (get_or ids (get_or parents at 0) 0) x ns ∙ ends);
      }

  pub tail_more : (place at : ℕ) (way : List ℕ) → IsTail dir ids place at way → 0 < at
      → IsTail dir ids place (get_or parents at 0) (way ++ get_or ids at 0 ∷ [])
  tail_more place at way t some =
      tail_cons place at (reverse way) some t.inside t.leads t.once t.behind t.ends (way ++ get_or ids at 0 ∷ [])
      (turned way (get_or ids at 0))

  whole : (place : ℕ) (ns : List ℕ) → Descends dir 0 ns (get_or ids place 0) → end_of (0 ∷ ns) ≡ get_or ids place 0
      → end_of ns ≡ get_or ids place 0
  whole place [] leads ends = sym leads
  whole place (n ∷ ns) leads ends = sym (end_cons 0 n ns) ∙ ends

  pub way_ends : (place : ℕ) (way : List ℕ) → IsTail dir ids place 0 way → end_of (reverse way) ≡ get_or ids place 0
  way_ends place way t =
      whole place (reverse way) (subst (λ (x : ℕ). Descends dir x (reverse way) (get_or ids place 0)) m.root t.leads)
      (subst (λ (x : ℕ). end_of (x ∷ reverse way) ≡ get_or ids place 0) m.root t.ends)

  pub way_is : (place : ℕ) (way : List ℕ) → IsTail dir ids place 0 way → IsWay dir (reverse way)
  way_is place way t = record {
    leads = subst (Descends dir 0 (reverse way)) (sym (way_ends place way t))
        (subst (λ (x : ℕ). Descends dir x (reverse way) (get_or ids place 0)) m.root t.leads);
    once = distinct_cons 0 (reverse way) (subst (λ (x : ℕ). All (λ n. x ≢ n) (reverse way)) m.root
        (apart (reverse way) 0 t.behind)) t.once;
  }

-- what was found, by the way to it
pub found_by : (dir : List ℕ) (fault : DirFault) (ids way : List ℕ) (place : ℕ) → IsMetAtFault dir fault ids place
    → end_of way ≡ get_or ids place 0 → IsWayAtFault dir fault way
found_by dir fault ids way place h e =
    subst (λ (x : ℕ). MayRefuseEntry dir x fault ⊎ ((fault ≡ directory.BadEntry) × LeadsOutside dir x)) (sym e) h.1

-- ---- links that wait
waits_back : (rest : List Ahead) (link : Ahead) (m : ℕ) → Waits (rest ++ link ∷ []) m → Waits rest m ⊎ (m ≡ link.to)
waits_back [] link m (zero, l, e) = inr (sym (e link))
waits_back [] link m (suc k, l, e) = absurd (omega (arith, l))
waits_back (a ∷ rest) link m (zero, l, e) = inl (zero, omega arith, e)
waits_back (a ∷ rest) link m (suc k, l, e) =
    elim (waits_back rest link m (k, omega (arith, l), e)) [
      | inl w ↦
          inl (suc w.0, omega (arith, w.1), w.2)
      | inr is ↦ inr is
    ]

waits_left : (rest more : List Ahead) (m : ℕ) → Waits rest m → Waits (rest ++ more) m
waits_left [] more m w = absurd (omega (arith, w.1))
waits_left (a ∷ rest) more m (zero, l, e) = (zero, omega arith, e)
waits_left (a ∷ rest) more m (suc k, l, e) = let w = waits_left rest more m (k, omega (arith, l), e) in
    (suc w.0, omega (arith, w.1), w.2)

waits_right : (rest more : List Ahead) (m : ℕ) → Waits more m → Waits (rest ++ more) m
waits_right [] more m w = w
waits_right (a ∷ rest) more m w = let v = waits_right rest more m w in (suc v.0, omega (arith, v.1), v.2)

-- what was done with or waited is or does so still, where the last link is done with
module _ (dir : List ℕ) (fault : DirFault) (linked linked' : List ℕ) (rest : List Ahead) (link : Ahead)
    (after : List Ahead) where
  pub carried : ((m : ℕ) → Contains linked m → Contains linked' m) → ((m : ℕ) → Waits rest m → Waits after m)
      → IsFollowed dir fault linked' after link.to
      → (m : ℕ) → IsFollowed dir fault linked (rest ++ link ∷ []) m → IsFollowed dir fault linked' after m
  carried more keep now m (inl nobody) = inl nobody
  carried more keep now m (inr (inl outside)) = inr (inl outside)
  carried more keep now m (inr (inr (inl c))) = inr (inr (inl (more m c)))
  carried more keep now m (inr (inr (inr w))) =
      elim (waits_back rest link m w) [
        | inl v ↦ inr (inr (inr (keep m v)))
        | inr is ↦
            subst (IsFollowed dir fault linked' after) (sym is) now
      ]

-- ---- links that are ahead
pub all_front : (dir ids : List ℕ) (rest : List Ahead) (link : Ahead) → All (IsAhead dir ids) (rest ++ link ∷ [])
    → All (IsAhead dir ids) rest
all_front dir ids rest link h = λ k d lt. subst (IsAhead dir ids) (get_or-append rest (link ∷ []) d k lt)
    (h k d (omega (arith, lt, length-append rest (link ∷ []))))

pub the_last : (dir ids : List ℕ) (rest : List Ahead) (link : Ahead) → All (IsAhead dir ids) (rest ++ link ∷ [])
    → IsAhead dir ids link
the_last dir ids rest link h = subst (IsAhead dir ids) (get_or-append_seam rest link [] link)
    (h (length rest) link (omega (arith, length-append rest (link ∷ []))))

-- ---- a link that adds nothing
pub passed : (dir : List ℕ) (fault : DirFault) (ids parents : List ℕ) (seen : List Bool) (rest : List Ahead)
    (link : Ahead) (unseen : ℕ)
    → (s : IsSearch dir fault ids parents seen (rest ++ link ∷ []) unseen)
    → IsFollowed dir fault s.linked rest link.to → IsSearch dir fault ids parents seen rest unseen
passed dir fault ids parents seen rest link unseen s now =
    let go : (m : ℕ) → IsFollowed dir fault s.linked (rest ++ link ∷ []) m → IsFollowed dir fault s.linked rest m =
    carried dir fault s.linked s.linked rest link rest (λ m c. c) (λ m w. w) now in
    record {
      met = s.met;
      links = all_front dir ids rest link s.links;
      linked = s.linked;
      once = s.once;
      below = s.below;
      sized = s.sized;
      marks = s.marks;
      rest = s.rest;
      listed = s.listed;
      noted = s.noted;
      lefts = λ n c. go (left (entry_at dir n)) (s.lefts n c);
      rights = λ n c. go (right (entry_at dir n)) (s.rights n c);
      free = s.free;
      children = λ k lt is. go (child (entry_at dir (get_or ids k 0))) (s.children k lt is);
    }

-- an entry whose mark is set has its links added
pub linked_by : (dir : List ℕ) (fault : DirFault) (ids parents : List ℕ) (seen : List Bool) (ahead : List Ahead)
    (unseen n : ℕ) (s : IsSearch dir fault ids parents seen ahead unseen)
    → 128 * n < length dir → get_or seen n true ≡ true → Contains s.linked n
linked_by dir fault ids parents seen ahead unseen n s lt seen_is =
    elim (marked_only (replicate (length seen) false) s.linked n
    (ap (λ (x : List Bool). get_or x n true) (sym s.marks) ∙ seen_is)) [
      | inr c ↦ c
      | inl u ↦ let out : length seen ≤ n = unmarked (length seen) n u in absurd (omega (arith, out, lt, s.sized))
    ]

-- the places of entries that were met, and of one more
place_cases : (ids parents : List ℕ) (n p : ℕ) → length parents ≡ length ids → (k : ℕ) → k < length (ids ++ n ∷ [])
    → ((k < length ids) × (get_or (ids ++ n ∷ []) k 0 ≡ get_or ids k 0)
    × (get_or (parents ++ p ∷ []) k 0 ≡ get_or parents k 0))
    ⊎ ((k ≡ length ids) × (get_or (ids ++ n ∷ []) k 0 ≡ n) × (get_or (parents ++ p ∷ []) k 0 ≡ p))
place_cases ids parents n p each k l =
    elim (cases_lt k (length ids)) [
      | inl less ↦ inl (
        less,
        get_or-append ids (n ∷ []) 0 k less,
        get_or-append parents (p ∷ []) 0 k
            (omega (arith, less, each)),
      )
      | inr more ↦
          let e : k ≡ length ids = omega (arith, more, l, length-append ids (n ∷ [])) in
          let f : k ≡ length parents = omega (arith, e, each) in
          inr (
            e,
            ap (λ (x : ℕ). get_or (ids ++ n ∷ []) x 0) e ∙ get_or-append_seam ids n [] 0,
            ap (λ (x : ℕ). get_or (parents ++ p ∷ []) x 0) f ∙ get_or-append_seam parents p [] 0,
          )
    ]

-- ---- an entry whose links are added
module _ (dir : List ℕ) (fault : DirFault) (ids parents : List ℕ) (seen : List Bool) (rest : List Ahead)
    (link : Ahead) (unseen : ℕ)
    (s : IsSearch dir fault ids parents seen (rest ++ link ∷ []) unseen) (lt : 128 * link.to < length dir)
    (new : get_or seen link.to true ≡ false) where
  pub unlinked : Contains s.linked link.to → ⊥
  unlinked c =
      absurd (cc (
        new,
        ap (λ (x : List Bool). get_or x link.to true) s.marks
            ∙ marked_by (replicate (length seen) false) s.linked link.to c,
      ))

  long : length (set seen link.to true) ≡ length seen
  long = length-set seen link.to true

  within : link.to < length seen
  within = omega (arith, lt, s.sized)

  once_more : AreDistinct (s.linked ++ link.to ∷ [])
  once_more =
      distinct_append s.linked (link.to ∷ []) s.once (λ i j d l k. absurd (omega (arith, l, k)))
      (λ n a b. unlinked (subst (Contains s.linked) (only link.to n b) a))

  below_more : All (λ n. n < length seen) (s.linked ++ link.to ∷ [])
  below_more = All-push (λ n. n < length seen) s.linked link.to s.below within

  pub one_left : 0 < unseen
  one_left = omega (
    arith,
    s.rest,
    distinct_few (length seen) (s.linked ++ link.to ∷ []) below_more once_more,
    length-append s.linked (link.to ∷ []),
  )

  module _ (after : List Ahead) (keep : (m : ℕ) → Waits rest m → Waits after m)
      (to_left : Waits after (left (entry_at dir link.to)))
      (to_right : Waits after (right (entry_at dir link.to))) where
    pub carry : (m : ℕ) → IsFollowed dir fault s.linked (rest ++ link ∷ []) m
        → IsFollowed dir fault (s.linked ++ link.to ∷ []) after m
    carry = carried dir fault s.linked (s.linked ++ link.to ∷ []) rest link after
        (λ m c. Contains-append_left s.linked (link.to ∷ []) m c) keep
        (inr (inr (inl (Contains-append_right s.linked (link.to ∷ []) link.to (0, omega arith, refl)))))

    around : (of : ℕ → ℕ) → Waits after (of link.to)
        → ((n : ℕ) → Contains s.linked n → IsFollowed dir fault s.linked (rest ++ link ∷ []) (of n))
        → (n : ℕ) → Contains (s.linked ++ link.to ∷ []) n → IsFollowed dir fault (s.linked ++ link.to ∷ []) after (of n)
    around of waits old n c =
        elim (Contains-push_cases s.linked link.to n c) [
          | inl before ↦ carry (of n) (old n before)
          | inr same ↦ subst (λ (x : ℕ). IsFollowed dir fault (s.linked ++ link.to ∷ []) after (of x)) same
              (inr (inr (inr waits)))
        ]

    pub linked_more : (ids' parents' : List ℕ) (left_over : ℕ) → left_over ≡ unseen - 1 → AreMet dir ids' parents'
        → All (IsAhead dir ids') after
        → ((n : ℕ) → Contains ids' n → (n ≡ 0) ⊎ Contains (s.linked ++ link.to ∷ []) n)
        → ((n : ℕ) → Contains (s.linked ++ link.to ∷ []) n → (n ≡ 0) ⊎ Contains ids' n)
        → ((k : ℕ) → k < length ids' → MayRefuseEntry dir (get_or ids' k 0) fault → ⊥)
        → ((k : ℕ) → k < length ids' → IsStorage dir (get_or ids' k 0)
        → IsFollowed dir fault (s.linked ++ link.to ∷ []) after (child (entry_at dir (get_or ids' k 0))))
        → IsSearch dir fault ids' parents' (set seen link.to true) after left_over
    linked_more ids' parents' left_over is met links listed noted free children = record {
      met = met;
      links = links;
      linked = s.linked ++ link.to ∷ [];
      once = once_more;
      below = subst (λ (c : ℕ). All (λ n. n < c) (s.linked ++ link.to ∷ [])) (sym long) below_more;
      sized = s.sized ∙ ap (λ (c : ℕ). 128 * c) (sym long);
      marks = ap (λ (x : List Bool). set x link.to true) s.marks
          ∙ sym (set_all-append (replicate (length seen) false) s.linked (link.to ∷ []))
          ∙ ap (λ (c : ℕ). set_all (replicate c false) (s.linked ++ link.to ∷ [])) (sym long);
      rest = omega (arith, is, s.rest, one_left, long, length-append s.linked (link.to ∷ []));
      listed = listed;
      noted = noted;
      lefts = around (λ n. left (entry_at dir n)) to_left s.lefts;
      rights = around (λ n. right (entry_at dir n)) to_right s.rights;
      free = free;
      children = children;
    }

  siblings_ahead : link.to ≢ NO_STREAM
      → All (IsAhead dir ids) (record { to = right (entry_at dir link.to); parent = link.parent }
      ∷ record { to = left (entry_at dir link.to); parent = link.parent } ∷ [])
  siblings_ahead somebody =
      let last : IsAhead dir ids link = the_last dir ids rest link s.links in
      let top : ℕ = child (entry_at dir (get_or ids link.parent 0)) in
      let to_right : IsAhead dir ids (record { to = right (entry_at dir link.to); parent = link.parent }) =
      record {
        met = last.met;
        storage = last.storage;
        reached = reaches_right dir top link.to somebody lt
            last.reached;
      } in
      let to_left : IsAhead dir ids (record { to = left (entry_at dir link.to); parent = link.parent }) =
      record {
        met = last.met;
        storage = last.storage;
        reached = reaches_left dir top link.to somebody lt last.reached;
      } in
      let right_link : Ahead = record { to = right (entry_at dir link.to); parent = link.parent } in
      let left_link : Ahead = record { to = left (entry_at dir link.to); parent = link.parent } in
      All-cons (IsAhead dir ids) right_link (left_link ∷ []) to_right
      (All-cons (IsAhead dir ids) left_link [] to_left (All-nil (IsAhead dir ids)))

  -- the root, to which a link leads as to a child
  module _ (root : link.to ≡ 0) (after : List Ahead)
      (is : after ≡ rest ++ record { to = right (entry_at dir link.to); parent = link.parent }
      ∷ record { to = left (entry_at dir link.to); parent = link.parent } ∷ []) where
    root_keep : (m : ℕ) → Waits rest m → Waits after m
    root_keep m w = subst (λ (x : List Ahead). Waits x m) (sym is) (waits_left rest _ m w)

    root_left : Waits after (left (entry_at dir link.to))
    root_left = subst (λ (x : List Ahead). Waits x (left (entry_at dir link.to))) (sym is)
        (waits_right rest _ (left (entry_at dir link.to)) (1, omega arith, (λ d. refl)))

    root_right : Waits after (right (entry_at dir link.to))
    root_right = subst (λ (x : List Ahead). Waits x (right (entry_at dir link.to))) (sym is)
        (waits_right rest _ (right (entry_at dir link.to)) (0, omega arith, (λ d. refl)))

    pub root_more : (left_over : ℕ) → left_over ≡ unseen - 1
        → IsSearch dir fault ids parents (set seen link.to true) after left_over
    root_more left_over e =
        linked_more after root_keep root_left root_right ids parents left_over e s.met
        (subst (All (IsAhead dir ids)) (sym is)
        (All-append (IsAhead dir ids) rest _ (all_front dir ids rest link s.links)
        (siblings_ahead (λ z. absurd (omega (arith, z, root))))))
        (λ n c. elim (s.listed n c) [ inl z ↦ inl z | inr l ↦ inr (Contains-append_left s.linked (link.to ∷ []) n l) ])
        (λ n c. elim (Contains-push_cases s.linked link.to n c) [
          | inl before ↦ s.noted n before
          | inr same ↦
              inl (sym same ∙ root)
        ])
        s.free (λ k l st. carry after root_keep root_left root_right (child (entry_at dir (get_or ids k 0)))
        (s.children k l st))

  -- an entry below the root
  module _ (below_root : link.to ≢ 0) (somebody : link.to ≢ NO_STREAM) where
    unmet : Contains ids link.to → ⊥
    unmet c = elim (s.listed link.to c) [ inl z ↦ below_root z | inr l ↦ unlinked l ]

    pub met_more : AreMet dir (ids ++ link.to ∷ []) (parents ++ link.parent ∷ [])
    met_more =
        let last : IsAhead dir ids link = the_last dir ids rest link s.links in
        record {
          root = get_or-append ids (link.to ∷ []) 0 0 s.met.some ∙ s.met.root;
          some = omega (arith, s.met.some, length-append ids (link.to ∷ []));
          each = omega (arith, s.met.each, length-append ids (link.to ∷ []), length-append parents (link.parent ∷ []));
          before = λ k some l.
              elim (place_cases ids parents link.to link.parent s.met.each k l) [
                | inl old ↦ subst (λ (x : ℕ). x < k) (sym old.2) (s.met.before k some old.0)
                | inr now ↦ omega (arith, now.0, now.2, last.met)
              ];
          children = λ k some l.
              elim (place_cases ids parents link.to link.parent s.met.each k l) [
                | inl old ↦
                    let up : get_or parents k 0 < length ids = omega (arith, s.met.before k some old.0, old.0) in
                    let p : get_or (ids ++ link.to ∷ []) (get_or (parents ++ link.parent ∷ []) k 0) 0
                    ≡ get_or ids (get_or parents k 0) 0 =
                    ap (λ (x : ℕ). get_or (ids ++ link.to ∷ []) x 0) old.2 ∙ get_or-append ids (link.to ∷ []) 0
                    (get_or parents k 0) up in
                    subst (λ (x : ℕ). IsChild dir x (get_or (ids ++ link.to ∷ []) k 0)) (sym p)
                    (subst (λ (x : ℕ). IsChild dir (get_or ids (get_or parents k 0) 0) x) (sym old.1)
                    (s.met.children k some old.0))
                | inr now ↦
                    let p : get_or (ids ++ link.to ∷ []) (get_or (parents ++ link.parent ∷ []) k 0) 0
                    ≡ get_or ids link.parent 0 =
                    ap (λ (x : ℕ). get_or (ids ++ link.to ∷ []) x 0) now.2 ∙ get_or-append ids (link.to ∷ []) 0
                    link.parent last.met in
                    let own : IsChild dir (get_or ids link.parent 0) link.to =
                    record {
                      of_storage = last.storage;
                      inside = lt;
                      somebody = somebody;
                      reached = last.reached;
                    } in
                    subst (λ (x : ℕ). IsChild dir x (get_or (ids ++ link.to ∷ []) k 0)) (sym p)
                    (subst (λ (x : ℕ). IsChild dir (get_or ids link.parent 0) x) (sym now.1) own)
              ];
          once = distinct_append ids (link.to ∷ []) s.met.once (λ i j d l k. absurd (omega (arith, l, k)))
              (λ n a b. unmet (subst (Contains ids) (only link.to n b) a));
        }

    lifted : (a : Ahead) → IsAhead dir ids a → IsAhead dir (ids ++ link.to ∷ []) a
    lifted a h =
        let p : get_or (ids ++ link.to ∷ []) a.parent 0 ≡ get_or ids a.parent 0 =
        get_or-append ids (link.to ∷ []) 0 a.parent h.met in
        record {
          met = omega (arith, h.met, length-append ids (link.to ∷ []));
          storage = subst (IsStorage dir) (sym p) h.storage;
          reached = subst (λ (x : ℕ). Reaches dir (child (entry_at dir x)) a.to) (sym p) h.reached;
        }

    opened : (a : Ahead) → (a.parent ≡ length ids) × (a.to ≡ child (entry_at dir link.to)) × IsStorage dir link.to
        → IsAhead dir (ids ++ link.to ∷ []) a
    opened a h =
        let p : get_or (ids ++ link.to ∷ []) a.parent 0 ≡ link.to =
        ap (λ (x : ℕ). get_or (ids ++ link.to ∷ []) x 0) h.0 ∙ get_or-append_seam ids link.to [] 0 in
        let same : a.to ≡ child (entry_at dir (get_or (ids ++ link.to ∷ []) a.parent 0)) =
        h.1 ∙ ap (λ (x : ℕ). child (entry_at dir x)) (sym p) in
        record {
          met = omega (arith, h.0, length-append ids (link.to ∷ []));
          storage = subst (IsStorage dir) (sym p) h.2;
          reached = subst (Reaches dir (child (entry_at dir (get_or (ids ++ link.to ∷ []) a.parent 0)))) (sym same)
              (here (child (entry_at dir (get_or (ids ++ link.to ∷ []) a.parent 0))));
        }

    module _ (more after : List Ahead)
        (is : after ≡ (rest ++ record { to = right (entry_at dir link.to); parent = link.parent }
        ∷ record { to = left (entry_at dir link.to); parent = link.parent } ∷ []) ++ more)
        (opening : IsOpening dir link.to (length ids) more) (sound : MayRefuseEntry dir link.to fault → ⊥) where
      entry_keep : (m : ℕ) → Waits rest m → Waits after m
      entry_keep m w = subst (λ (x : List Ahead). Waits x m) (sym is) (waits_left _ more m (waits_left rest _ m w))

      entry_left : Waits after (left (entry_at dir link.to))
      entry_left = subst (λ (x : List Ahead). Waits x (left (entry_at dir link.to))) (sym is)
          (waits_left _ more (left (entry_at dir link.to))
          (waits_right rest _ (left (entry_at dir link.to)) (1, omega arith, (λ d. refl))))

      entry_right : Waits after (right (entry_at dir link.to))
      entry_right = subst (λ (x : List Ahead). Waits x (right (entry_at dir link.to))) (sym is)
          (waits_left _ more (right (entry_at dir link.to))
          (waits_right rest _ (right (entry_at dir link.to)) (0, omega arith, (λ d. refl))))

      entry_links : All (IsAhead dir (ids ++ link.to ∷ [])) after
      entry_links =
          let P : Ahead → Type 0 = IsAhead dir (ids ++ link.to ∷ []) in
          subst (All P) (sym is)
          (All-append P _ more
          (All-append P rest _ (All-weaker (IsAhead dir ids) P (λ a h. lifted a h) rest
          (all_front dir ids rest link s.links))
          (All-weaker (IsAhead dir ids) P (λ a h. lifted a h)
          (record { to = right (entry_at dir link.to); parent = link.parent }
          ∷ record { to = left (entry_at dir link.to); parent = link.parent } ∷ []) (siblings_ahead somebody)))
          (All-weaker (λ (a : Ahead). (a.parent ≡ length ids) × (a.to ≡ child (entry_at dir link.to))
          × IsStorage dir link.to) P (λ a h. opened a h) more opening.own))

      entry_listed : (n : ℕ) → Contains (ids ++ link.to ∷ []) n → (n ≡ 0) ⊎ Contains (s.linked ++ link.to ∷ []) n
      entry_listed n c =
          elim (Contains-push_cases ids link.to n c) [
            | inl before ↦ elim (s.listed n before) [
              | inl z ↦ inl z
              | inr l ↦
                  inr (Contains-append_left s.linked (link.to ∷ []) n l)
            ]
            | inr same ↦ inr (Contains-append_right s.linked (link.to ∷ []) n (0, omega arith, same))
          ]

      entry_noted : (n : ℕ) → Contains (s.linked ++ link.to ∷ []) n → (n ≡ 0) ⊎ Contains (ids ++ link.to ∷ []) n
      entry_noted n c =
          elim (Contains-push_cases s.linked link.to n c) [
            | inl before ↦ elim (s.noted n before) [
              | inl z ↦ inl z
              | inr l ↦
                  inr (Contains-append_left ids (link.to ∷ []) n l)
            ]
            | inr same ↦ inr (Contains-append_right ids (link.to ∷ []) n (0, omega arith, same))
          ]

      entry_free : (k : ℕ) → k < length (ids ++ link.to ∷ [])
          → MayRefuseEntry dir (get_or (ids ++ link.to ∷ []) k 0) fault → ⊥
      entry_free k l h =
          elim (place_cases ids parents link.to link.parent s.met.each k l) [
            | inl old ↦ s.free k old.0 (subst (λ (x : ℕ). MayRefuseEntry dir x fault) old.1 h)
            | inr now ↦ sound (subst (λ (x : ℕ). MayRefuseEntry dir x fault) now.1 h)
          ]

      entry_children : (k : ℕ) → k < length (ids ++ link.to ∷ []) → IsStorage dir (get_or (ids ++ link.to ∷ []) k 0)
          → IsFollowed dir fault (s.linked ++ link.to ∷ []) after
          (child (entry_at dir (get_or (ids ++ link.to ∷ []) k 0)))
      entry_children k l st =
          elim (place_cases ids parents link.to link.parent s.met.each k l) [
            | inl old ↦
                subst (λ (x : ℕ). IsFollowed dir fault (s.linked ++ link.to ∷ []) after (child (entry_at dir x)))
                (sym old.1)
                (carry after entry_keep entry_left entry_right (child (entry_at dir (get_or ids k 0)))
                (s.children k old.0 (subst (IsStorage dir) old.1 st)))
            | inr now ↦
                subst (λ (x : ℕ). IsFollowed dir fault (s.linked ++ link.to ∷ []) after (child (entry_at dir x)))
                (sym now.1)
                (inr (inr (inr (subst (λ (x : List Ahead). Waits x (child (entry_at dir link.to))) (sym is)
                (waits_right _ more (child (entry_at dir link.to)) (opening.some (subst (IsStorage dir) now.1 st)))))))
          ]

      pub entry_more : (left_over : ℕ) → left_over ≡ unseen - 1
          → IsSearch dir fault (ids ++ link.to ∷ []) (parents ++ link.parent ∷ []) (set seen link.to true) after
          left_over
      entry_more left_over e =
          linked_more after entry_keep entry_left entry_right (ids ++ link.to ∷ []) (parents ++ link.parent ∷ [])
          left_over e met_more entry_links entry_listed entry_noted entry_free entry_children

-- what a link that leads outside is found to be
pub outside_met : (dir : List ℕ) (fault : DirFault) (ids parents : List ℕ) (link : Ahead) (v : Option ℕ)
    → AreMet dir ids parents → IsAhead dir ids link → link.to ≢ NO_STREAM → length dir ≤ 128 * link.to
    → IfSome v (λ k. (k ≡ link.parent) × (fault ≡ directory.BadEntry))
    → IfSome v (λ k. AreMet dir ids parents × IsMetAtFault dir fault ids k)
outside_met dir fault ids parents link None m a somebody out h = tt
outside_met dir fault ids parents link (Some k) m a somebody out h =
    let leads : LeadsOutside dir (get_or ids link.parent 0) = (link.to, a.storage, a.reached, somebody, out) in
    (m, subst (IsMetAtFault dir fault ids) (sym h.0) (a.met, inr (h.1, leads)))

pub outside_passed : (dir : List ℕ) (fault : DirFault) (ids parents : List ℕ) (seen : List Bool) (rest : List Ahead)
    (link : Ahead) (unseen : ℕ) (v : Option ℕ)
    → IsSearch dir fault ids parents seen (rest ++ link ∷ []) unseen → length dir ≤ 128 * link.to
    → IfNone v (fault ≢ directory.BadEntry) → IfNone v (IsSearch dir fault ids parents seen rest unseen)
outside_passed dir fault ids parents seen rest link unseen None s out h =
    passed dir fault ids parents seen rest link unseen s (inr (inl (out, h)))
outside_passed dir fault ids parents seen rest link unseen (Some k) s out h = tt

-- ---- the beginning
first_only : (P : ℕ → Type 0) → P 0 → (k : ℕ) → k < 1 → P (get_or (0 ∷ []) k 0)
first_only P h zero lt = h
first_only P h (suc k) lt = absurd (omega (arith, lt))

pub begun : (dir : List ℕ) (fault : DirFault) (ids parents : List ℕ) (seen : List Bool) (ahead : List Ahead)
    (count : ℕ) → ids ≡ 0 ∷ [] → parents ≡ 0 ∷ [] → seen ≡ replicate count false
    → length dir ≡ 128 * count → All (IsAhead dir (0 ∷ [])) ahead
    → (IsStorage dir 0 → Waits ahead (child (entry_at dir 0))) → (MayRefuseEntry dir 0 fault → ⊥)
    → IsSearch dir fault ids parents seen ahead count
begun dir fault ids parents seen ahead count a b c sized links opens sound =
    let long : length (replicate count false) ≡ count = length-replicate count false in
    let start : IsSearch dir fault (0 ∷ []) (0 ∷ []) (replicate count false) ahead count = record {
      met = record {
        root = refl;
        some = omega arith;
        each = refl;
        before = λ k some l. absurd (omega (arith, some, l));
        children = λ k some l. absurd (omega (arith, some, l));
        once = λ i j d l k. absurd (omega (arith, l, k));
      };
      links = links;
      linked = [];
      once = λ i j d l k. absurd (omega (arith, k));
      below = λ k d l. absurd (omega (arith, l));
      sized = omega (arith, sized, long);
      marks = ap (λ (x : ℕ). replicate x false) (sym long);
      rest = omega (arith, long);
      listed = λ n h. inl (only 0 n h);
      noted = λ n h. absurd (omega (arith, h.1));
      lefts = λ n h. absurd (omega (arith, h.1));
      rights = λ n h. absurd (omega (arith, h.1));
      free = first_only (λ n. MayRefuseEntry dir n fault → ⊥) sound;
      children = first_only (λ n. IsStorage dir n → IsFollowed dir fault [] ahead (child (entry_at dir n)))
          (λ st. inr (inr (inr (opens st))));
    } in
    subst (λ (x : List ℕ). IsSearch dir fault x parents seen ahead count) (sym a)
    (subst (λ (x : List ℕ). IsSearch dir fault (0 ∷ []) x seen ahead count) (sym b)
    (subst (λ (x : List Bool). IsSearch dir fault (0 ∷ []) (0 ∷ []) x ahead count) (sym c) start))

-- ---- nothing waits any more
at_place : (ids : List ℕ) (p : ℕ) → Contains ids p → (k : ℕ) × (k < length ids) × (get_or ids k 0 ≡ p)
at_place ids p c = (c.0, c.1, sym (get_or_default ids c.0 p 0 c.1) ∙ c.2)

module _ (dir : List ℕ) (fault : DirFault) (ids parents : List ℕ) (seen : List Bool) (unseen : ℕ)
    (s : IsSearch dir fault ids parents seen [] unseen) where
  around_of : (top : ℕ) → 128 * top < length dir → top ≢ NO_STREAM → IsFollowed dir fault s.linked [] top
      → IsFollowed dir fault s.linked [] (left (entry_at dir top))
      × IsFollowed dir fault s.linked [] (right (entry_at dir top))
  around_of top lt ne (inl nobody) = absurd (ne nobody)
  around_of top lt ne (inr (inl outside)) = absurd (omega (arith, lt, outside.0))
  around_of top lt ne (inr (inr (inl c))) = (s.lefts top c, s.rights top c)
  around_of top lt ne (inr (inr (inr w))) = absurd (omega (arith, w.1))

  reaching : (top n : ℕ) → Reaches dir top n → IsFollowed dir fault s.linked [] top → IsFollowed dir fault s.linked [] n
  reaching top n (here i) f = f
  reaching top n (by_left i to lt ne r) f = reaching (left (entry_at dir top)) n r (around_of top lt ne f).0
  reaching top n (by_right i to lt ne r) f = reaching (right (entry_at dir top)) n r (around_of top lt ne f).1

  followed : (p n : ℕ) → Contains ids p → IsStorage dir p → Reaches dir (child (entry_at dir p)) n
      → IsFollowed dir fault s.linked [] n
  followed p n c st r =
      let k = at_place ids p c in
      reaching (child (entry_at dir p)) n r
      (subst (λ (x : ℕ). IsFollowed dir fault s.linked [] (child (entry_at dir x))) k.2
      (s.children k.0 k.1 (subst (IsStorage dir) (sym k.2) st)))

  settled : (n : ℕ) → 128 * n < length dir → n ≢ NO_STREAM → IsFollowed dir fault s.linked [] n
      → (n ≡ 0) ⊎ Contains ids n
  settled n lt ne (inl nobody) = absurd (ne nobody)
  settled n lt ne (inr (inl outside)) = absurd (omega (arith, lt, outside.0))
  settled n lt ne (inr (inr (inl c))) = s.noted n c
  settled n lt ne (inr (inr (inr w))) = absurd (omega (arith, w.1))

  pub way_met : (p : ℕ) (way : List ℕ) (id : ℕ) → Contains ids p → ((m : ℕ) → Contains way m → m ≢ 0)
      → Descends dir p way id → Contains ids id
  way_met p [] id c below d = subst (Contains ids) (sym d) c
  way_met p (n ∷ way) id c below d =
      elim (settled n d.0.inside d.0.somebody (followed p n c d.0.of_storage d.0.reached)) [
        | inl none ↦ absurd (below n (0, omega arith, refl) none)
        | inr there ↦ way_met n way id there (λ m h. below m (suc h.0, omega (arith, h.1), h.2)) d.1
      ]

  not_outside : (n : ℕ) → length dir ≤ 128 * n → n ≢ NO_STREAM → fault ≡ directory.BadEntry
      → IsFollowed dir fault s.linked [] n → ⊥
  not_outside n out ne bad (inl nobody) = ne nobody
  not_outside n out ne bad (inr (inl outside)) = outside.1 bad
  not_outside n out ne bad (inr (inr (inl c))) = let lt : n < length seen =
      All-contains (λ x. x < length seen) s.linked n s.below c in absurd (omega (arith, lt, out, s.sized))
  not_outside n out ne bad (inr (inr (inr w))) = absurd (omega (arith, w.1))

  pub no_way : (way : List ℕ) → IsWay dir way → IsWayAtFault dir fault way → ⊥
  no_way way w h =
      let c : Contains ids (end_of way) =
      way_met 0 way (end_of way) (0, s.met.some, s.met.root)
      (λ m i z. All-contains (λ x. 0 ≢ x) way m (distinct_head 0 way w.once) i (sym z)) w.leads in
      let k = at_place ids (end_of way) c in
      elim h [
        | inl refused ↦ s.free k.0 k.1 (subst (λ (x : ℕ). MayRefuseEntry dir x fault) (sym k.2) refused)
        | inr outside ↦
            let o : LeadsOutside dir (end_of way) = outside.1 in
            not_outside o.0 o.4 o.3 outside.0 (followed (end_of way) o.0 c o.1 o.2)
      ]

-- ---- all entries that links reach
not_met : (dir ids : List ℕ) (k : ℕ) → IsMetAtFault dir directory.NoMemory ids k → ⊥
not_met dir ids k h = elim h.1 [ inl refused ↦ refused | inr outside ↦ absurd (cc outside.0) ]

module _ (dir ids parents : List ℕ) (seen : List Bool) (unseen : ℕ)
    (s : IsSearch dir directory.NoMemory ids parents seen [] unseen) where
  marked_met : (n : ℕ) → n ≢ 0 → n < length seen → get_or seen n true ≡ true → Contains ids n
  marked_met n below lt t =
      elim (s.noted n
      (linked_by dir directory.NoMemory ids parents seen [] unseen n s (omega (arith, lt, s.sized)) t)) [
        | inl root ↦ absurd (below root)
        | inr there ↦ there
      ]

  met_marked : (n : ℕ) → n ≢ 0 → Contains ids n → (n < length seen) × (get_or seen n true ≡ true)
  met_marked n below c =
      elim (s.listed n c) [
        | inl root ↦ absurd (below root)
        | inr linked ↦ (
          All-contains (λ x. x < length seen) s.linked n s.below linked,
          ap (λ (x : List Bool). get_or x n true) s.marks ∙ marked_by (replicate (length seen) false) s.linked n linked,
        )
      ]

  way_marked : (way : List ℕ) → IsWay dir way → end_of way ≢ 0
      → (end_of way < length seen) × (get_or seen (end_of way) true ≡ true)
  way_marked way w below =
      met_marked (end_of way) below
      (way_met dir directory.NoMemory ids parents seen unseen s 0 way (end_of way) (0, s.met.some, s.met.root)
      (λ m i z. All-contains (λ x. 0 ≢ x) way m (distinct_head 0 way w.once) i (sym z)) w.leads)

  all_of_search : AreAllMet dir ids parents seen
  all_of_search = record { met = s.met; sized = s.sized; marked = marked_met; reached = way_marked }

pub all_met : (dir ids parents : List ℕ) (seen : List Bool) (unseen : ℕ) (v : Option ℕ)
    → IfSome v (λ k. AreMet dir ids parents × IsMetAtFault dir directory.NoMemory ids k)
    → IfNone v (IsSearch dir directory.NoMemory ids parents seen [] unseen) → AreAllMet dir ids parents seen
all_met dir ids parents seen unseen None some none = all_of_search dir ids parents seen unseen none
all_met dir ids parents seen unseen (Some k) some none = absurd (not_met dir ids k some.1)
