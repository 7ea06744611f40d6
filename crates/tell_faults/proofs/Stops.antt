-- Where a walk stops, and that a chain has no fault but there.
use Rattle.std.proofs.Common.{◌≡◌, ◌≢◌, ◌⊎◌, inl, inr, ◌<◌, ◌≤◌, ◌*◌, ◌++◌, ◌∙◌, ℕ, zero, suc, Bool, true, false, List}
use Rattle.std.proofs.Common.{[], ◌∷◌, arith, length, get_or, replicate, refl, ap, subst, sym}
use Rattle.std.proofs.lemmas.Bool.{eqb-true}
use Rattle.std.proofs.lemmas.Bool.Decides.{Decides-eqb}
use Rattle.std.proofs.lemmas.List.{append-nil, length-append, length-replicate}
use Rattle.std.proofs.lemmas.List.Elements.{All-contains, All-head, All-push, All-tail, Contains-append_right}
use Rattle.std.proofs.lemmas.Map.Made.{IsDistinct-from_AllPairs}
use Rattle.std.proofs.lemmas.Map.Steps.{length-le_from_distinct_below}
use Rattle.std.proofs.lemmas.Map.Views.{Contains-from_any}
use Rattle.std.specs.List.{All, Contains}
use Rattle.cfb_bytes.specs.Marks.{set_all}
use Rattle.cfb_chains.specs.Chain.{AreDistinct, END_OF_CHAIN, IsChain, Leads, Store}
use Rattle.cfb_chains.proofs.Marks.{distinct_apart, distinct_append, length-set_all, marked_by, marked_kept}
use Rattle.cfb_chains.proofs.Marks.{marked_only, set_all-append}
use Rattle.cfb_header.specs.declared.fault.ChainFault.{ChainFault}
use Rattle.cfb_header.specs.declared.fault.ChainFault.TheVariants as chain
use Rattle.cfb_faults.specs.Faults.{Walks}
use Rattle.tell_faults.specs.Places.{IsLed, IsLinkAtFault, IsNotWhole, IsSpared, IsStopped, IsUnfaulted, IsWalk}
use Rattle.tell_faults.specs.Tables.{IsTabled}
use Rattle.tell_faults.specs.declared.walking.Chain.{Chain}
use Rattle.tell_faults.proofs.Walks.{led}
use Rattle.tell_faults.specs.declared.place.Link.{Link}

-- sectors of a table, none of which stands twice, are no more than it has
pub distinct_few : (count : ℕ) (ns : List ℕ) → All (λ n. n < count) ns → AreDistinct ns → length ns ≤ count
distinct_few count ns below once =
    length-le_from_distinct_below ns count (IsDistinct-from_AllPairs Decides-eqb ns once)
    (λ q t. All-contains (λ n. n < count) ns q below (Contains-from_any eqb-true q ns t))

-- ---- marks of a walk
pub unmarked : (count n : ℕ) → get_or (replicate count false) n true ≡ true → count ≤ n
unmarked zero n h = omega arith
unmarked (suc count) zero h = absurd (cc h)
unmarked (suc count) (suc n) h = omega (arith, unmarked count n h)

-- A walk that goes on: what is marked are the taken sectors and those that were met.
pub record IsMarked (count : ℕ) (taken : List ℕ) (marks : List Bool) (ns : List ℕ) : Type 0 where
  pub are : marks ≡ set_all (set_all (replicate count false) taken) ns
  pub once : AreDistinct ns
  pub new : All (λ n. Contains taken n → ⊥) ns

pub only : (at n : ℕ) → Contains (at ∷ []) n → n ≡ at
only at n (zero, l, e) = sym e
only at n (suc k, l, e) = absurd (omega (arith, l))

module _ (count : ℕ) (taken : List ℕ) (marks : List Bool) (ns : List ℕ) (m : IsMarked count taken marks ns)
    (at : ℕ) where
  differs : get_or marks at true ≡ false → get_or (set_all (set_all (replicate count false) taken) ns) at true
      ≡ true → ⊥
  differs free seen = absurd (cc (free, seen, ap (λ (x : List Bool). get_or x at true) m.are))

  untaken : get_or marks at true ≡ false → Contains taken at → ⊥
  untaken free c = differs free (marked_kept (set_all (replicate count false) taken) ns at
      (marked_by (replicate count false) taken at c))

  unmet : get_or marks at true ≡ false → Contains ns at → ⊥
  unmet free c = differs free (marked_by (set_all (replicate count false) taken) ns at c)

  pub once_more : get_or marks at true ≡ false → AreDistinct (ns ++ at ∷ [])
  once_more free = distinct_append ns (at ∷ []) m.once (λ i j d l k. absurd (omega (arith, l, k)))
      (λ n a b. unmet free (subst (Contains ns) (only at n b) a))

  pub marked_more : (after : List Bool) → get_or marks at true ≡ false → after ≡ set_all marks (at ∷ [])
      → IsMarked count taken after (ns ++ at ∷ [])
  marked_more after free is = record {
    are = is ∙ ap (λ (x : List Bool). set_all x (at ∷ [])) m.are
        ∙ sym (set_all-append (set_all (replicate count false) taken) ns (at ∷ []));
    once = once_more free;
    new = All-push (λ n. Contains taken n → ⊥) ns at m.new (untaken free);
  }

  pub marks_long : length marks ≡ count
  marks_long = ap length m.are ∙ length-set_all (set_all (replicate count false) taken) ns
      ∙ length-set_all (replicate count false) taken ∙ length-replicate count false

  -- there is room for one more, since none is met twice
  pub room_left : All (λ n. n < count) ns → at < count → get_or marks at true ≡ false → length ns < count
  room_left below less free =
      omega (
        arith,
        length-append ns (at ∷ []),
        distinct_few count (ns ++ at ∷ [])
            (All-push (λ n. n < count) ns at below less) (once_more free),
      )

  pub stopped : get_or marks at true ≡ true → (count ≤ at) ⊎ Contains ns at ⊎ Contains taken at
  stopped seen =
      let t : get_or (set_all (set_all (replicate count false) taken) ns) at true ≡ true =
      ap (λ (x : List Bool). get_or x at true) (sym m.are) ∙ seen in
      elim (marked_only (set_all (replicate count false) taken) ns at t) [
        | inr c ↦ inr (inl c)
        | inl b ↦ elim (marked_only (replicate count false) taken at b) [
          | inr c ↦ inr (inr c)
          | inl u ↦ inl (unmarked count at u)
        ]
      ]

-- ---- a walk that stopped tells what links lead to
pub prefix : (next : ℕ → ℕ) (count start : ℕ) (ns : List ℕ) (last : ℕ) (ms : List ℕ) (to : ℕ) → Leads next start ns last
    → count ≤ last → Leads next start ms to → All (λ n. n < count) ms
    → (rest : List ℕ) × (ns ≡ ms ++ rest) × Leads next to rest last
prefix next count start ns last [] to h out g below = (ns, refl, subst (λ (x : ℕ). Leads next x ns last) g h)
prefix next count start [] last (m ∷ ms) to h out g below =
    absurd (omega (arith, h, out, g.0, All-head (λ n. n < count) m ms below))
prefix next count start (n ∷ ns) last (m ∷ ms) to h out g below =
    let same : m ≡ n = sym g.0 ∙ h.0 in
    let r = prefix next count (next n) ns last ms to h.1 out (subst (λ (x : ℕ). Leads next (next x) ms to) same g.1)
    (All-tail (λ n. n < count) m ms below) in
    (r.0, (λ i. sym same i ∷ r.1 i), r.2)

follows : (next : ℕ → ℕ) (start : ℕ) (ns : List ℕ) (last y : ℕ) → Leads next start ns last → Contains ns y
    → (next y ≡ last) ⊎ Contains ns (next y)
follows next start [] last y h c = absurd (omega (arith, c.1))
follows next start (n ∷ []) last y h (zero, l, e) = inl (ap next (sym e) ∙ h.1)
follows next start (n ∷ m ∷ ns) last y h (zero, l, e) = inr (1, omega arith, sym h.1.0 ∙ ap next e)
follows next start (n ∷ ns) last y h (suc k, l, e) =
    elim (follows next (next n) ns last y h.1 (k, omega (arith, l), e)) [
      | inl is ↦ inl is
      | inr c ↦
          inr (suc c.0, omega (arith, c.1), c.2)
    ]

pub stays : (next : ℕ → ℕ) (start : ℕ) (ns : List ℕ) (last : ℕ) → Leads next start ns last → Contains ns last
    → (at : ℕ) (ms : List ℕ) (to : ℕ) → Contains ns at → Leads next at ms to → Contains ns to
stays next start ns last h back at [] to c g = subst (Contains ns) g c
stays next start ns last h back at (m ∷ ms) to c g =
    let here : Contains ns m = subst (Contains ns) g.0 c in
    let onward : Contains ns (next m) = elim (follows next start ns last m h here) [
      | inl is ↦
          subst (Contains ns) (sym is) back
      | inr c ↦ c
    ] in
    stays next start ns last h back (next m) ms to onward g.1

pub begins : (next : ℕ → ℕ) (start : ℕ) (ns : List ℕ) (last : ℕ) → Leads next start ns last → Contains ns last
    → Contains ns start
begins next start [] last h c = absurd (omega (arith, c.1))
begins next start (n ∷ ns) last h c = (0, omega arith, sym h.0)

-- What links lead to from where a walk began: what it stopped at, over what it met, or a sector that it met, and of
-- which links lead there for the first time, unless it came back.
abbrev pub Reached : Store → List ℕ → ℕ → List ℕ → ℕ → Type 0
Reached s ns last ms to = ((last ≡ to) × (ns ≡ ms) × (s.count ≤ last))
    ⊎ (Contains ns to × ((Contains ms to → ⊥) ⊎ Contains ns last))

reached_front : (s : Store) (ns : List ℕ) (last : ℕ) (ms : List ℕ) (to : ℕ) (rest : List ℕ) → AreDistinct ns
    → s.count ≤ last → ns ≡ ms ++ rest → Leads s.next to rest last → Reached s ns last ms to
reached_front s ns last ms to [] once out is led = inl (sym led, is ∙ append-nil ms, out)
reached_front s ns last ms to (r ∷ rest) once out is led =
    let here : Contains (r ∷ rest) to = (0, omega arith, sym led.0) in
    inr (
      subst (λ (x : List ℕ). Contains x to) (sym is) (Contains-append_right ms (r ∷ rest) to here),
      inl (λ c. distinct_apart ms (r ∷ rest) (subst AreDistinct is once) to c here),
    )

reached : (s : Store) (start : ℕ) (ns : List ℕ) (last : ℕ) (ms : List ℕ) (to : ℕ) → Walks s start ns last
    → AreDistinct ns → (s.count ≤ last) ⊎ Contains ns last → Walks s start ms to
    → Reached s ns last ms to
reached s start ns last ms to w once (inr back) g =
    inr (
      stays s.next start ns last w.linked back start ms to (begins s.next start ns last w.linked back) g.linked,
      inr back,
    )
reached s start ns last ms to w once (inl out) g =
    let r = prefix s.next s.count start ns last ms to w.linked out g.linked g.present in
    reached_front s ns last ms to r.0 once out r.1 r.2

module _ (s : Store) (few : s.count ≤ 0xFFFFFFF9) (start : ℕ) (ns : List ℕ) (last : ℕ) (w : Walks s start ns last)
    (once : AreDistinct ns) (ends : (s.count ≤ last) ⊎ Contains ns last) where
  inside : (to : ℕ) → Contains ns to → to < s.count
  inside to c = All-contains (λ n. n < s.count) ns to w.present c

  ended : (ms : List ℕ) → Walks s start ms END_OF_CHAIN → (last ≡ END_OF_CHAIN) × (ns ≡ ms)
  ended ms g = elim (reached s start ns last ms END_OF_CHAIN w once ends g) [
    | inl e ↦ (e.0, e.1)
    | inr c ↦
        absurd (omega (arith, inside END_OF_CHAIN c.0, few))
  ]

  -- a chain that leads to no end, or has no room, isn't whole
  pub not_whole : (size : ℕ) → (last ≢ END_OF_CHAIN) ⊎ (s.width * length ns < size) → (ms : List ℕ)
      → IsChain s start size ms → ⊥
  not_whole size cut ms h =
      let e = ended ms (record { linked = h.linked; present = λ k d l. (h.present k d l).1 }) in
      elim cut [
        | inl other ↦ other e.0
        | inr short ↦
            absurd (omega (arith, short, h.enough, ap length e.1, ap (λ (x : List ℕ). s.width * length x) e.1))
      ]

  -- a chain that was spared a fault where the walk stopped has it nowhere
  pub unfaulted : (taken : ℕ → Type 0) (size : ℕ) (fault : ChainFault)
      → (fault ≡ chain.CrossLinked → All (λ n. taken n → ⊥) ns)
      → IsSpared s.count taken ns last (s.width * length ns) size fault
      → (link : Link) → IsLinkAtFault s taken start size fault link → ⊥
  unfaulted taken size chain.OutOfFile new spared link h =
      elim (reached s start ns last h.0 link.to w once ends h.1.walks) [
        | inl e ↦ elim spared [ inl end ↦ h.2 (sym e.0 ∙ end) | inr less ↦ absurd (omega (arith, less, e.2)) ]
        | inr c ↦ absurd (omega (arith, inside link.to c.0, h.3))
      ]
  unfaulted taken size chain.Cycle new spared link h =
      elim (reached s start ns last h.0 link.to w once ends h.1.walks) [
        | inl e ↦ spared (subst (Contains ns) (sym e.0) (subst (λ (x : List ℕ). Contains x link.to) (sym e.1) h.2))
        | inr c ↦ elim c.1 [ inl first ↦ first h.2 | inr back ↦ spared back ]
      ]
  unfaulted taken size chain.CrossLinked new spared link h =
      elim (reached s start ns last h.0 link.to w once ends h.1.walks) [
        | inl e ↦ absurd (omega (arith, e.0, e.2, h.2))
        | inr c ↦ All-contains (λ n. taken n → ⊥) ns link.to (new refl) c.0 h.3
      ]
  unfaulted taken size chain.ShortChain new spared link h =
      let e = ended h.0 (record {
        linked = subst (λ (x : ℕ). Leads s.next start h.0 x) h.2 h.1.walks.linked;
        present = h.1.walks.present;
      }) in
      elim spared [
        | inl other ↦ other e.0
        | inr long ↦
            absurd (omega (arith, long, h.3, ap (λ (x : List ℕ). s.width * length x) e.1))
      ]
  unfaulted taken size chain.Truncated new spared link h = absurd h
  unfaulted taken size chain.BadSignature new spared link h = absurd h
  unfaulted taken size (chain.Unsupported n) new spared link h = absurd h
  unfaulted taken size chain.TooBig new spared link h = absurd h
  unfaulted taken size chain.NoMemory new spared link h = absurd h

-- ---- what a chain is found to be
module _ (table ns : List ℕ) (c : Chain) (link : Link) (few : length table ≤ 0xFFFFFFF9)
    (w : IsWalk table c.first ns link) (once : AreDistinct ns) (ends : (length table ≤ link.to)
    ⊎ Contains ns link.to) where
  pub is_not_whole : (link.to ≢ END_OF_CHAIN) ⊎ (c.width * length ns < c.size) → IsNotWhole table c
  is_not_whole cut s t wide ms h =
      let l : IsLed s c.first ns link = led table s t c.first ns link w in
      not_whole s (subst (λ (n : ℕ). n ≤ 0xFFFFFFF9) (sym t.count) few) c.first ns link.to l.walks once
      (subst (λ (n : ℕ). (n ≤ link.to) ⊎ Contains ns link.to) (sym t.count) ends) c.size
      (subst (λ (n : ℕ). (link.to ≢ END_OF_CHAIN) ⊎ (n * length ns < c.size)) (sym wide) cut) ms h

  pub is_unfaulted : (taken : List ℕ) (fault : ChainFault)
      → (fault ≡ chain.CrossLinked → All (λ n. Contains taken n → ⊥) ns)
      → IsSpared (length table) (Contains taken) ns link.to (c.width * length ns) c.size fault
      → IsUnfaulted table taken c fault
  is_unfaulted taken fault new spared s t wide at h =
      let l : IsLed s c.first ns link = led table s t c.first ns link w in
      unfaulted s (subst (λ (n : ℕ). n ≤ 0xFFFFFFF9) (sym t.count) few) c.first ns link.to l.walks once
      (subst (λ (n : ℕ). (n ≤ link.to) ⊎ Contains ns link.to) (sym t.count) ends) (Contains taken) c.size
      fault new
      (subst (λ (n : ℕ). IsSpared n (Contains taken) ns link.to (s.width * length ns) c.size fault) (sym t.count)
      (subst (λ (n : ℕ). IsSpared (length table) (Contains taken) ns link.to (n * length ns) c.size fault)
      (sym wide) spared)) at h

-- a walk that stopped at no taken sector, by what it was to stop at
none_in : (stops : List ℕ) (n : ℕ) → stops ≡ [] → Contains stops n → ⊥
none_in stops n is c = let d : Contains [] n = subst (λ (x : List ℕ). Contains x n) is c in omega (arith, d.1)

by_fault : (table taken stops ns : List ℕ) (to room size : ℕ) (fault : ChainFault) → Contains stops to
    → (fault ≡ chain.CrossLinked → stops ≡ taken) → (fault ≢ chain.CrossLinked → stops ≡ [])
    → IsSpared (length table) (Contains taken) ns to room size fault → (length table ≤ to) ⊎ Contains ns to
by_fault table taken stops ns to room size chain.CrossLinked c crossed other spared =
    elim spared [
      | inl out ↦ inl out
      | inr free ↦
          absurd (free (subst (λ (x : List ℕ). Contains x to) (crossed refl) c))
    ]
by_fault table taken stops ns to room size chain.OutOfFile c crossed other spared =
    absurd (none_in stops to (other (λ e. absurd (cc e))) c)
by_fault table taken stops ns to room size chain.Cycle c crossed other spared =
    absurd (none_in stops to (other (λ e. absurd (cc e))) c)
by_fault table taken stops ns to room size chain.ShortChain c crossed other spared =
    absurd (none_in stops to (other (λ e. absurd (cc e))) c)
by_fault table taken stops ns to room size chain.Truncated c crossed other spared =
    absurd (none_in stops to (other (λ e. absurd (cc e))) c)
by_fault table taken stops ns to room size chain.BadSignature c crossed other spared =
    absurd (none_in stops to (other (λ e. absurd (cc e))) c)
by_fault table taken stops ns to room size (chain.Unsupported n) c crossed other spared =
    absurd (none_in stops to (other (λ e. absurd (cc e))) c)
by_fault table taken stops ns to room size chain.TooBig c crossed other spared =
    absurd (none_in stops to (other (λ e. absurd (cc e))) c)
by_fault table taken stops ns to room size chain.NoMemory c crossed other spared =
    absurd (none_in stops to (other (λ e. absurd (cc e))) c)

pub ends_at : (table taken stops ns : List ℕ) (to room size : ℕ) (fault : ChainFault) → IsStopped table stops ns to
    → (fault ≡ chain.CrossLinked → stops ≡ taken) → (fault ≢ chain.CrossLinked → stops ≡ [])
    → IsSpared (length table) (Contains taken) ns to room size fault → (length table ≤ to) ⊎ Contains ns to
ends_at table taken stops ns to room size fault st crossed other spared =
    elim st.ends [
      | inl out ↦ inl out
      | inr (inl back) ↦ inr back
      | inr (inr c) ↦ by_fault table taken stops ns to room size fault c crossed other spared
    ]

pub new_for : (table taken stops ns : List ℕ) (to : ℕ) (fault : ChainFault) → IsStopped table stops ns to
    → (fault ≡ chain.CrossLinked → stops ≡ taken) → fault ≡ chain.CrossLinked
    → All (λ n. Contains taken n → ⊥) ns
new_for table taken stops ns to fault st crossed is = subst (λ (x : List ℕ). All (λ n. Contains x n → ⊥) ns)
    (crossed is) st.new

pub ends_free : (table ns : List ℕ) (to : ℕ) → IsStopped table [] ns to → (length table ≤ to) ⊎ Contains ns to
ends_free table ns to st = elim st.ends [
  | inl out ↦ inl out
  | inr (inl back) ↦ inr back
  | inr (inr c) ↦
      absurd (none_in [] to refl c)
]
