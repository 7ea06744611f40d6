-- Chains in stores that agree, and what refuses a chain that is there.
use Rattle.std.proofs.Common.{◌≡◌, ◌≢◌, ◌<◌, ◌≤◌, ◌+◌, ◌*◌, ◌⊎◌, inl, inr, ℕ, zero, suc, true, false, List, [], ◌∷◌}
use Rattle.std.proofs.Common.{◌++◌, length, length-append, length-drop, drop, min, take, eqb, get_or, refl, sym, ap}
use Rattle.std.proofs.Common.{subst, ◌∙◌, arith, lit≤}
use Rattle.std.proofs.lemmas.List.Elements.{All-cons, All-push, All-take, All-drop, All-contains, All-head, All-tail}
use Rattle.std.proofs.lemmas.List.Elements.{Contains-append_right}
use Rattle.std.specs.List.{All, AllByRecursion, Contains, IsDistinct}
use Rattle.std.proofs.lemmas.List.{get_or-take, length-take}
use Rattle.std.proofs.lemmas.Map.Views.{Contains-from_any}
use Rattle.std.proofs.lemmas.Map.Steps.{length-le_from_distinct_below}
use Rattle.std.proofs.lemmas.Bool.{cases_Bool, eqb-true}
use Rattle.cfb_header.specs.Bytes.{joined}
use Rattle.cfb_chains.specs.Chain.{AreDistinct, END_OF_CHAIN, IsChain, IsChainOf, IsPresent, Leads, Store}
use Rattle.cfb_header.specs.Header.{HeaderValue, difat_by, fat_by}
use Rattle.cfb_chains.specs.Fat.{AreFree, AreSame, FatValue, IsFat, IsFound, IsFree, IsFreeChain, MayRefuse}
use Rattle.cfb_chains.specs.Fat.{MayRefuseChain, MayRefuseFat, sectors_of, store_of}
use Rattle.cfb_header.specs.declared.fault.ChainFault.{ChainFault}
use Rattle.cfb_header.specs.declared.fault.ChainFault.TheVariants.{Truncated, BadSignature, Unsupported, OutOfFile}
use Rattle.cfb_header.specs.declared.fault.ChainFault.TheVariants.{Cycle, CrossLinked, ShortChain, TooBig, NoMemory}
use Rattle.cfb_chains.proofs.Marks.{distinct_apart, distinct_cons}

pub same_back : {s t : Store} → AreSame s t → AreSame t s
same_back {s} {t} h = record {
  count = sym h.count;
  width = sym h.width;
  piece = λ n l. sym (h.piece n (subst (λ c. n < c) (sym h.count) l));
  next = λ n l. sym (h.next n (subst (λ c. n < c) (sym h.count) l));
}

pub same_then : {s t u : Store} → AreSame s t → AreSame t u → AreSame s u
same_then {s} {t} {u} h g = record {
  count = h.count ∙ g.count;
  width = h.width ∙ g.width;
  piece = λ n l. h.piece n l ∙ g.piece n (subst (λ c. n < c) h.count l);
  next = λ n l. h.next n l ∙ g.next n (subst (λ c. n < c) h.count l);
}

pub leads_same : (s t : Store) → AreSame s t → (start : ℕ) (ns : List ℕ) (last : ℕ) → All (λ n. n < s.count) ns
    → Leads s.next start ns last → Leads t.next start ns last
leads_same s t same start [] last below h = h
leads_same s t same start (n ∷ ns) last below h =
    let P : ℕ → Type 0 = λ x. Leads t.next x ns last in (
      h.0,
      subst P (same.next n (All-head (λ n. n < s.count) n ns below))
          (leads_same s t same (s.next n) ns last (All-tail (λ n. n < s.count) n ns below) h.1),
    )

pub chain_same : (s t : Store) → AreSame s t → (start bytes : ℕ) (ns : List ℕ) → IsChain s start bytes ns
    → IsChain t start bytes ns
chain_same s t same start bytes ns h = record {
  linked = leads_same s t same start ns END_OF_CHAIN (λ k d l. (h.present k d l).1) h.linked;
  present = λ k d l. ((h.present k d l).0, subst (λ c. get_or ns k d < c) same.count (h.present k d l).1);
  enough = subst (λ w. bytes ≤ w * length ns) same.width h.enough;
}

pub chain_of_same : (s t : Store) → AreSame s t → (start bytes : ℕ) (ns : List ℕ) → IsChainOf s start bytes ns
    → IsChainOf t start bytes ns
chain_of_same s t same start zero ns h = h
chain_of_same s t same start (suc n) ns h = chain_same s t same start (suc n) ns h

pub joined_same : (s t : Store) → AreSame s t → (ns : List ℕ) → All (λ n. n < s.count) ns
    → joined s.piece ns ≡ joined t.piece ns
joined_same s t same [] below = refl
joined_same s t same (n ∷ ns) below =
    let first : s.piece n ≡ t.piece n = same.piece n (All-head (λ n. n < s.count) n ns below) in
    let rest : joined s.piece ns ≡ joined t.piece ns =
    joined_same s t same ns (All-tail (λ n. n < s.count) n ns below) in
    λ i. first i ++ rest i

-- the sectors of a chain have entries
pub chain_below : (s : Store) (start bytes : ℕ) (ns : List ℕ) → IsChainOf s start bytes ns → All (λ n. n < s.count) ns
chain_below s start zero ns h = subst (λ ns. All (λ n. n < s.count) ns) (sym h) (λ k d l. absurd (omega arith))
chain_below s start (suc n) ns h = λ k d l. (h.present k d l).1

-- a way goes along a chain: it is the whole chain, or ends before one of its sectors
pub along : (next : ℕ → ℕ) (count : ℕ) (start : ℕ) (ns ms : List ℕ) (last : ℕ) → count ≤ END_OF_CHAIN
    → Leads next start ns END_OF_CHAIN → Leads next start ms last → All (λ n. n < count) ms
    → ((last ≡ END_OF_CHAIN) × (ms ≡ ns)) ⊎ ((rest : List ℕ) × (ns ≡ ms ++ last ∷ rest))
along next count start [] [] last few h g below = inl (sym g ∙ h, refl)
along next count start [] (m ∷ ms) last few h g below =
    let l : m < count = All-head (λ n. n < count) m ms below in
    absurd (omega (arith, h, g.0))
along next count start (n ∷ ns) [] last few h g below = inr (ns, ap (λ x. x ∷ ns) (sym h.0 ∙ g))
along next count start (n ∷ ns) (m ∷ ms) last few h g below =
    let same : m ≡ n = sym g.0 ∙ h.0 in
    elim (along next count (next n) ns ms last few h.1 (subst (λ x. Leads next (next x) ms last) same g.1)
    (All-tail (λ n. n < count) m ms below)) [
      | inl w ↦ inl (w.0, (λ i. same i ∷ w.1 i))
      | inr w ↦ inr (w.0, (λ i. sym same i ∷ w.1 i))
    ]

-- a chain that is there, of sectors that are free, is refused only for want of memory
module _ (f : FatValue) (few : length f.table ≤ 0xFFFFFFF9) (start bytes : ℕ) (ns : List ℕ)
    (h : IsChain (store_of f) start bytes ns) (g : AreFree f ns) where
  end_outside : length f.table ≤ END_OF_CHAIN
  end_outside = omega arith

  way : (ms : List ℕ) (last : ℕ) → Leads (store_of f).next start ms last → All (IsFree f) ms
      → ((last ≡ END_OF_CHAIN) × (ms ≡ ns)) ⊎ ((rest : List ℕ) × (ns ≡ ms ++ last ∷ rest))
  way ms last l free = along (store_of f).next (length f.table) start ns ms last end_outside h.linked l
      (λ k d b. (free k d b).0)

  -- what comes next on a way is a sector of the chain
  next_of : (ms : List ℕ) (last : ℕ) (rest : List ℕ) → ns ≡ ms ++ last ∷ rest → Contains ns last
  next_of ms last rest e = subst (λ xs. Contains xs last) (sym e)
      (Contains-append_right ms (last ∷ rest) last (0, omega arith, refl))

  not_marked : (n : ℕ) → Contains ns n → get_or f.used n true ≡ true → ⊥
  not_marked n c t = let e : true ≡ false = sym t ∙ (All-contains (IsFree f) ns n g.free c).1 in cc

  pub refused_not : (e : ChainFault) → MayRefuse f start bytes e → e ≡ NoMemory
  refused_not Truncated r = absurd r
  refused_not BadSignature r = absurd r
  refused_not (Unsupported n) r = absurd r
  refused_not OutOfFile r =
      elim (way r.0 r.1 r.2 r.3) [
        | inl w ↦ absurd (r.4 w.0)
        | inr w ↦ absurd (omega (arith, r.5, (All-contains (IsFree f) ns r.1 g.free (next_of r.0 r.1 w.0 w.1)).0))
      ]
  refused_not Cycle r =
      elim (way r.0 r.1 r.2 r.3) [
        | inl w ↦ absurd (omega (arith, w.0, (All-contains (IsFree f) r.0 r.1 r.3 r.4).0))
        | inr w ↦ absurd (distinct_apart r.0 (r.1 ∷ w.0) (subst AreDistinct w.1 g.once) r.1 r.4 (0, omega arith, refl))
      ]
  refused_not CrossLinked r =
      elim (way r.0 r.1 r.2 r.3) [
        | inl w ↦ absurd (omega (arith, w.0, r.4))
        | inr w ↦ absurd (not_marked r.1 (next_of r.0 r.1 w.0 w.1) r.5)
      ]
  refused_not ShortChain r =
      elim (way r.0 END_OF_CHAIN r.1 r.2.free) [
        | inl w ↦ absurd (let e : length r.0 ≡ length ns = ap length w.1 in
            let q : f.width * length r.0 ≡ f.width * length ns = ap (λ n. f.width * n) e in
            omega (arith, q, r.3, h.enough))
        | inr w ↦
            absurd
            (omega (arith, (All-contains (IsFree f) ns END_OF_CHAIN g.free (next_of r.0 END_OF_CHAIN w.0 w.1)).0))
      ]
  refused_not TooBig r = absurd r
  refused_not NoMemory r = refl

-- what stands behind distinct numbers is distinct
distinct_behind : (xs ys : List ℕ) → AreDistinct (xs ++ ys) → AreDistinct ys
distinct_behind [] ys h = h
distinct_behind (x ∷ xs) ys h = distinct_behind xs ys (λ i j d l m. h (suc i) (suc j) d (omega arith) (omega arith))

-- and so is what stands before
distinct_front : (count : ℕ) (xs : List ℕ) → AreDistinct xs → AreDistinct (take count xs)
distinct_front count xs h i j d lt l e =
    let long : length (take count xs) ≡ min count (length xs) = length-take count xs in
    let inside : j < count = omega (arith, l, long) in
    h i j d lt (omega (arith, l, long)) (sym (get_or-take count xs i d (omega (arith, lt, inside))) ∙ e
    ∙ get_or-take count xs j d inside)

pub refused_not_fat : (file : List ℕ) (v : HeaderValue) (e : ChainFault) → IsFat file v → MayRefuseFat file v e
    → e ≡ NoMemory
refused_not_fat file v Truncated h r = absurd r
refused_not_fat file v BadSignature h r = absurd r
refused_not_fat file v (Unsupported n) h r = absurd r
refused_not_fat file v OutOfFile h r =
    absurd (r.2 (All-contains (IsPresent (sectors_of file (fat_by file v))) (fat_by file v ++ difat_by file v) r.0
    h.present r.1))
refused_not_fat file v Cycle h r =
    absurd
    (r.again (distinct_front r.count (difat_by file v) (distinct_behind (fat_by file v) (difat_by file v) h.once)))
refused_not_fat file v CrossLinked h r = absurd (r.twice h.once)
refused_not_fat file v ShortChain h r = absurd (omega (arith, h.whole, r))
refused_not_fat file v TooBig h r = absurd r
refused_not_fat file v NoMemory h r = refl

-- a store has one chain from a sector
pub chain_one : (s : Store) (start : ℕ) (ns ms : List ℕ) → IsChain s start 0 ns → IsChain s start 0 ms → ns ≡ ms
chain_one s start ns ms h g =
    elim (along s.next 0xFFFFFFFA start ns ms END_OF_CHAIN (lit≤ tt) h.linked g.linked
    (λ k d l. omega (arith, (g.present k d l).0))) [
      | inl w ↦ sym w.1
      | inr w ↦
          let c : Contains ns END_OF_CHAIN = subst (λ xs. Contains xs END_OF_CHAIN) (sym w.1)
          (Contains-append_right ms (END_OF_CHAIN ∷ w.0) END_OF_CHAIN (0, omega arith, refl)) in
          absurd (omega (arith, (All-contains (IsPresent s) ns END_OF_CHAIN h.present c).0))
    ]

pub chain_once : (s : Store) (start bytes : ℕ) (ns ms : List ℕ) → IsChainOf s start bytes ns
    → IsChainOf s start bytes ms → ns ≡ ms
chain_once s start zero ns ms h g = h ∙ sym g
chain_once s start (suc n) ns ms h g =
    chain_one s start ns ms (record { linked = h.linked; present = h.present; enough = omega arith })
    (record { linked = g.linked; present = g.present; enough = omega arith })

-- the rest of a way
leads_drop : (next : ℕ → ℕ) (start : ℕ) (ns : List ℕ) (last : ℕ) (k d : ℕ) → Leads next start ns last → k < length ns
    → Leads next (next (get_or ns k d)) (drop (suc k) ns) last
leads_drop next start [] last k d h l = absurd (omega arith)
leads_drop next start (n ∷ ns) last zero d h l = h.1
leads_drop next start (n ∷ ns) last (suc k) d h l = leads_drop next (next n) ns last k d h.1 (omega arith)

-- a way that ends meets no sector twice
pub distinct_chain : (next : ℕ → ℕ) (count start : ℕ) (ns : List ℕ) → count ≤ END_OF_CHAIN
    → Leads next start ns END_OF_CHAIN
    → All (λ n. n < count) ns → AreDistinct ns
distinct_chain next count start [] few h below = λ i j d l k. absurd (omega arith)
distinct_chain next count start (n ∷ ns) few h below =
    let tail : All (λ n. n < count) ns = All-tail (λ n. n < count) n ns below in
    distinct_cons n ns
    (λ k d l same.
    let again : Leads next (next n) (drop (suc k) ns) END_OF_CHAIN =
    subst (λ x. Leads next (next x) (drop (suc k) ns) END_OF_CHAIN) (sym same)
    (leads_drop next (next n) ns END_OF_CHAIN k d h.1 l) in
    elim (along next count (next n) ns (drop (suc k) ns) END_OF_CHAIN few h.1 again
    (All-drop (λ n. n < count) (suc k) ns tail)) [
      | inl w ↦ omega (arith, length-drop (suc k) ns, ap length w.1)
      | inr w ↦
          let c : Contains ns END_OF_CHAIN = subst (λ xs. Contains xs END_OF_CHAIN) (sym w.1)
          (Contains-append_right (drop (suc k) ns) (END_OF_CHAIN ∷ w.0) END_OF_CHAIN (0, omega arith, refl)) in
          omega (arith, All-contains (λ n. n < count) ns END_OF_CHAIN tail c)
    ])
    (distinct_chain next count (next n) ns few h.1 tail)

-- the whole chain of free sectors
pub free_chain : (f : FatValue) → length f.table ≤ 0xFFFFFFF9 → (start : ℕ) (ns : List ℕ)
    → Leads (store_of f).next start ns END_OF_CHAIN
    → All (IsFree f) ns → IsFreeChain f start ns
free_chain f few start ns h free = record {
  chain = record {
    linked = h;
    present = λ k d l. (omega (arith, (free k d l).0), (free k d l).0);
    enough = omega arith;
  };
  free = record {
    free = free;
    once = distinct_chain (store_of f).next (length f.table) start ns (omega arith) h (λ k d l. (free k d l).0);
  };
}

-- the next step of a way that doesn't end here
pub record NextStep (next : ℕ → ℕ) (P : ℕ → Type 0) (at : ℕ) (rest : List ℕ) : Type 0 where
  pub more : List ℕ
  pub here : P at
  pub leads : Leads next (next at) more END_OF_CHAIN
  pub every : All P more
  pub longer : length rest ≡ length more + 1

pub next_step : (next : ℕ → ℕ) (P : ℕ → Type 0) (at : ℕ) (rest : List ℕ) → Leads next at rest END_OF_CHAIN
    → All P rest → at ≢ END_OF_CHAIN → NextStep next P at rest
next_step next P at [] h every other = absurd (other h)
next_step next P at (n ∷ ns) h every other = record {
  more = ns;
  here = subst P (sym h.0) (All-head P n ns every);
  leads = subst (λ x. Leads next (next x) ns END_OF_CHAIN) (sym h.0) h.1;
  every = All-tail P n ns every;
  longer = omega arith;
}

-- a way that ends here goes no further
pub ends_here : (next : ℕ → ℕ) (count at : ℕ) (rest : List ℕ) → count ≤ END_OF_CHAIN
    → Leads next at rest END_OF_CHAIN → All (λ n. n < count) rest
    → at ≡ END_OF_CHAIN → length rest ≡ 0
ends_here next count at [] few h below e = refl
ends_here next count at (n ∷ ns) few h below e = let l : n < count = All-head (λ n. n < count) n ns below in
    absurd (omega (arith, h.0))

-- a fault of the whole chain is one of the chain with room for some bytes
pub refused_chain : (f : FatValue) (start : ℕ) (e : ChainFault) → e ≢ NoMemory → MayRefuse f start 0 e
    → MayRefuseChain f start e
refused_chain f start Truncated other r = r
refused_chain f start BadSignature other r = r
refused_chain f start (Unsupported n) other r = r
refused_chain f start OutOfFile other r = r
refused_chain f start Cycle other r = r
refused_chain f start CrossLinked other r = r
refused_chain f start ShortChain other r = r
refused_chain f start TooBig other r = r
refused_chain f start NoMemory other r = absurd (other refl)

pub refused_some : (f : FatValue) (start bytes : ℕ) (e : ChainFault) → e ≢ NoMemory → MayRefuse f start 0 e
    → MayRefuse f start bytes e
refused_some f start bytes Truncated other r = r
refused_some f start bytes BadSignature other r = r
refused_some f start bytes (Unsupported n) other r = r
refused_some f start bytes OutOfFile other r = r
refused_some f start bytes Cycle other r = r
refused_some f start bytes CrossLinked other r = r
refused_some f start bytes ShortChain other r = absurd (omega (arith, r.3))
refused_some f start bytes TooBig other r = r
refused_some f start bytes NoMemory other r = absurd (other refl)

-- a free chain with room for some bytes is found
pub found_chain : (f : FatValue) (start bytes : ℕ) (ns : List ℕ) → IsFreeChain f start ns
    → bytes ≤ f.width * length ns → 0 < bytes → IsFound f start bytes ns
found_chain f start zero ns h room some = absurd (omega arith)
found_chain f start (suc n) ns h room some =
    record { chain = record { linked = h.chain.linked; present = h.chain.present; enough = room }; free = h.free }

-- one step further
pub leads_push : (next : ℕ → ℕ) (start : ℕ) (ns : List ℕ) (last : ℕ)
    → Leads next start ns last → Leads next start (ns ++ last ∷ []) (next last)
leads_push next start [] last h = (h, refl)
leads_push next start (n ∷ ns) last h = (h.0, leads_push next (next n) ns last h.1)

-- part of the way
leads_take : (next : ℕ → ℕ) (start : ℕ) (ns : List ℕ) (last : ℕ) → Leads next start ns last
    → (k : ℕ) → k ≤ length ns → Leads next start (take k ns) (get_or (ns ++ last ∷ []) k 0)
leads_take next start [] last h zero l = h
leads_take next start [] last h (suc k) l = absurd (omega arith)
leads_take next start (n ∷ ns) last h zero l = h.0
leads_take next start (n ∷ ns) last h (suc k) l =
    let l' : k ≤ length ns = omega arith in (h.0, leads_take next (next n) ns last h.1 k l')

-- a number stands nowhere in a list, or at some place
apart_or_at : (n : ℕ) (xs : List ℕ) → AllByRecursion (λ y. eqb n y ≡ false) xs
    ⊎ ((k : ℕ) × (k < length xs) × (get_or xs k 0 ≡ n))
apart_or_at n [] = inl tt
apart_or_at n (x ∷ xs) =
    elim (cases_Bool (eqb n x)) [
      | inl same ↦ inr (0, omega arith, sym (eqb-true n x same))
      | inr other ↦ elim (apart_or_at n xs) [ inl a ↦ inl (other, a) | inr p ↦ inr (suc p.0, omega (arith, p.1), p.2) ]
    ]

-- a way that comes back to one of its sectors
abbrev pub ComesBack : (ℕ → ℕ) → (ℕ → Type 0) → ℕ → Type 0
ComesBack next P start = (ns : List ℕ) × (last : ℕ) × Leads next start ns last × All P ns × Contains ns last

-- a way on which no sector is met twice, or one of its fronts ends where it has been
distinct_or_met : (next : ℕ → ℕ) (P : ℕ → Type 0) (start : ℕ) (ns : List ℕ) (last : ℕ) → Leads next start ns last
    → All P ns
    → IsDistinct eqb (ns ++ last ∷ []) ⊎ ComesBack next P start
unfolding IsDistinct
distinct_or_met next P start [] last h every = inl (tt, tt)
distinct_or_met next P start (n ∷ ns) last h every =
    elim (distinct_or_met next P (next n) ns last h.1 (All-tail P n ns every)) [
      | inr m ↦ inr (
        n ∷ m.0,
        m.1,
        (h.0, m.2),
        All-cons P n m.0 (All-head P n ns every) m.3,
        (suc m.4.0, omega (arith, m.4.1), m.4.2),
      )
      | inl d ↦ elim (apart_or_at n (ns ++ last ∷ [])) [
        | inl a ↦ inl (a, d)
        | inr p ↦
            let le : p.0 ≤ length ns = omega (arith, length-append ns (last ∷ []), p.1) in
            let way : Leads next (next n) (take p.0 ns) n =
            let Q : ℕ → Type 0 = λ x. Leads next (next n) (take p.0 ns) x in
            subst Q p.2 (leads_take next (next n) ns last h.1 p.0 le) in
            inr (
              n ∷ take p.0 ns,
              n,
              (h.0, way),
              All-cons P n (take p.0 ns) (All-head P n ns every)
                  (All-take P p.0 ns (All-tail P n ns every)),
              (0, omega arith, refl),
            )
      ]
    ]

-- a way over as many sectors as there are, that goes on, has come back
pub met_when_long : (next : ℕ → ℕ) (P : ℕ → Type 0) (start : ℕ) (ns : List ℕ) (last : ℕ) (count : ℕ)
    → Leads next start ns last
    → All P ns → All (λ n. n < count) ns → last < count → count ≤ length ns → ComesBack next P start
met_when_long next P start ns last count h every all below long =
    elim (distinct_or_met next P start ns last h every) [
      | inr m ↦ m
      | inl d ↦
          let each : All (λ n. n < count) (ns ++ last ∷ []) = All-push (λ n. n < count) ns last all below in
          let short : length (ns ++ last ∷ []) ≤ count = length-le_from_distinct_below (ns ++ last ∷ []) count d
          (λ q t. All-contains (λ n. n < count) (ns ++ last ∷ []) q each
          (Contains-from_any eqb-true q (ns ++ last ∷ []) t)) in
          absurd (omega (arith, length-append ns (last ∷ []), short))
    ]

-- a chain that has room for some bytes
pub chain_some : (s : Store) (start bytes : ℕ) (ns : List ℕ) → 0 < bytes → IsChainOf s start bytes ns
    → IsChain s start bytes ns
chain_some s start zero ns some h = absurd (omega arith)
chain_some s start (suc n) ns some h = h

pub chain_any : (s : Store) (start bytes : ℕ) (ns : List ℕ) → IsChain s start bytes ns → IsChain s start 0 ns
chain_any s start bytes ns h = record { linked = h.linked; present = h.present; enough = omega arith }

-- the room in a chain
pub chain_room : (s : Store) (start bytes : ℕ) (ns : List ℕ) → IsChainOf s start bytes ns → bytes ≤ s.width * length ns
chain_room s start zero ns h = omega arith
chain_room s start (suc n) ns h = h.enough
