-- Walks that mark what they meet, and how their marks are taken back.
use Rattle.std.proofs.Common.{◌≡◌, ◌≢◌, ◌<◌, ◌≤◌, ◌+◌, ◌-◌, inl, inr, Bool, set, ℕ, zero, suc, true, false, List, []}
use Rattle.std.proofs.Common.{◌∷◌, ◌++◌, length, length-append, get_or, get_or-set_other, length-set, refl, sym, ap}
use Rattle.std.proofs.Common.{subst, ◌∙◌, arith}
use Rattle.std.proofs.lemmas.Bool.{cases_Bool}
use Rattle.std.proofs.lemmas.List.Elements.{All-append, All-head, All-push, All-tail}
use Rattle.std.specs.List.{All}
use Rattle.cfb_chains.specs.Chain.{END_OF_CHAIN, Leads}
use Rattle.cfb_chains.specs.Fat.{FatValue, IsFreeChain, set_all}
use Rattle.read_chains.specs.Walks.{IsUnmarked, IsWalk}
use Rattle.cfb_chains.proofs.Chains.{free_chain, leads_push}
use Rattle.cfb_chains.proofs.Marks.{clear_all, length-set_all, marked_kept, set_all-append, set_and_cleared}

-- what isn't marked now wasn't marked before
unmarked_before : (before now : List Bool) (ns : List ℕ) (n : ℕ) → now ≡ set_all before ns
    → get_or now n true ≡ false → get_or before n true ≡ false
unmarked_before before now ns n made h =
    elim (cases_Bool (get_or before n true)) [
      | inl t ↦ absurd (let e : true ≡ false = sym (marked_kept before ns n t)
          ∙ ap (λ us. get_or us n true) (sym made) ∙ h in cc)
      | inr e ↦ e
    ]

-- ---- the walk
pub walk_start : (next : ℕ → ℕ) (start : ℕ) (used : List Bool) → IsWalk next start used used 0 start
walk_start next start used = record {
  sectors = [];
  linked = refl;
  unmarked = λ k d l. absurd (omega arith);
  counted = refl;
  few = omega arith;
  marks = refl;
}

pub walk_step : (next : ℕ → ℕ) (start : ℕ) (before now : List Bool) (count stop new : ℕ)
    → IsWalk next start before now count stop
    → stop < length now → get_or now stop true ≡ false → count < length now → new ≡ next stop
    → IsWalk next start before (set now stop true) (count + 1) new
walk_step next start before now count stop new w there free few e =
    let long : length now ≡ length before = ap length w.marks ∙ length-set_all before w.sectors in
    record {
      sectors = w.sectors ++ stop ∷ [];
      linked = subst (λ x. Leads next start (w.sectors ++ stop ∷ []) x) (sym e)
          (leads_push next start w.sectors stop w.linked);
      unmarked = All-push (IsUnmarked before) w.sectors stop w.unmarked
          (omega (arith, there, long), unmarked_before before now w.sectors stop w.marks free);
      counted = omega (arith, length-append w.sectors (stop ∷ []), w.counted);
      few = omega (arith, few, long);
      marks = ap (λ us. set us stop true) w.marks ∙ sym (set_all-append before w.sectors (stop ∷ []));
    }

pub walk_long : (next : ℕ → ℕ) (start : ℕ) (before now : List Bool) (count stop : ℕ)
    → IsWalk next start before now count stop → length now ≡ length before
walk_long next start before now count stop w = ap length w.marks ∙ length-set_all before w.sectors

-- a walk that goes on where another one stopped
leads_joined : (next : ℕ → ℕ) (start : ℕ) (ns : List ℕ) (middle : ℕ) (ms : List ℕ) (stop : ℕ)
    → Leads next start ns middle → Leads next middle ms stop
    → Leads next start (ns ++ ms) stop
leads_joined next start [] middle ms stop h g = subst (λ x. Leads next x ms stop) (sym h) g
leads_joined next start (n ∷ ns) middle ms stop h g = (h.0, leads_joined next (next n) ns middle ms stop h.1 g)

pub walk_joined : (next : ℕ → ℕ) (start : ℕ) (before between after : List Bool) (count middle more stop : ℕ)
    → IsWalk next start before between count middle
    → IsWalk next middle between after more stop → count + more ≤ length before
    → IsWalk next start before after (count + more) stop
walk_joined next start before between after count middle more stop w v few =
    let long : length between ≡ length before = ap length w.marks ∙ length-set_all before w.sectors in
    record {
      sectors = w.sectors ++ v.sectors;
      linked = leads_joined next start w.sectors middle v.sectors stop w.linked v.linked;
      unmarked = All-append (IsUnmarked before) w.sectors v.sectors w.unmarked
          (λ k d l. (
            omega (arith, (v.unmarked k d l).0, long),
            unmarked_before before between w.sectors
                (get_or v.sectors k d) w.marks (v.unmarked k d l).1,
          ));
      counted = length-append w.sectors v.sectors ∙ (λ i. w.counted i + v.counted i);
      few = few;
      marks = v.marks ∙ ap (λ us. set_all us v.sectors) w.marks ∙ sym (set_all-append before w.sectors v.sectors);
    }

-- sectors in a row: the walk stands at the last one, which is still to be marked
pub record IsRow (next : ℕ → ℕ) (first : ℕ) (before now : List Bool) (last : ℕ) : Type 0 where
  pub walk : IsWalk next first before now (last - first) last
  pub free : IsUnmarked now last
  pub behind : first ≤ last

pub row_start : (next : ℕ → ℕ) (first : ℕ) (used : List Bool) → IsUnmarked used first → IsRow next first used used first
row_start next first used free =
    let none : 0 ≡ first - first = omega arith in
    record {
      walk = subst (λ k. IsWalk next first used used k first) none (walk_start next first used);
      free = free;
      behind = omega arith;
    }

pub row_end : (next : ℕ → ℕ) (first : ℕ) (before now : List Bool) (last new : ℕ) → IsRow next first before now last
    → new ≡ next last
    → IsWalk next first before (set now last true) (last + 1 - first) new
row_end next first before now last new r e =
    let one : last - first + 1 ≡ last + 1 - first = omega (arith, r.behind) in
    let few : last - first < length now = omega (arith, r.free.0) in
    subst (λ k. IsWalk next first before (set now last true) k new) one
    (walk_step next first before now (last - first) last new r.walk r.free.0 r.free.1 few e)

pub row_step : (next : ℕ → ℕ) (first : ℕ) (before now : List Bool) (last : ℕ) → IsRow next first before now last
    → last + 1 ≡ next last
    → IsUnmarked now (last + 1) → IsRow next first before (set now last true) (last + 1)
row_step next first before now last r e free =
    let other : last + 1 ≢ last = λ same. omega (arith, same) in
    record {
      walk = row_end next first before now last (last + 1) r e;
      free = (
        omega (arith, free.0, length-set now last true),
        get_or-set_other now last (last + 1) true true other
            ∙ free.1,
      );
      behind = omega (arith, r.behind);
    }

-- entries that are the same in the table lead the same way
leads_alike : (f g : ℕ → ℕ) (count start : ℕ) (ns : List ℕ) (stop : ℕ) → ((n : ℕ) → n < count → f n ≡ g n)
    → All (λ n. n < count) ns
    → Leads f start ns stop → Leads g start ns stop
leads_alike f g count start [] stop same below h = h
leads_alike f g count start (n ∷ ns) stop same below h =
    let P : ℕ → Type 0 = λ x. Leads g x ns stop in (
      h.0,
      subst P (same n (All-head (λ n. n < count) n ns below))
          (leads_alike f g count (f n) ns stop same (All-tail (λ n. n < count) n ns below) h.1),
    )

pub walk_alike : (f g : ℕ → ℕ) (start : ℕ) (before now : List Bool) (count stop : ℕ)
    → ((n : ℕ) → n < length before → f n ≡ g n)
    → IsWalk f start before now count stop → IsWalk g start before now count stop
walk_alike f g start before now count stop same w = record {
  sectors = w.sectors;
  linked = leads_alike f g (length before) start w.sectors stop same (λ k d l. (w.unmarked k d l).0) w.linked;
  unmarked = w.unmarked;
  counted = w.counted;
  few = w.few;
  marks = w.marks;
}

-- a walk that comes to the end has met the whole chain
pub walked_chain : (f : FatValue) (start count : ℕ) (after : List Bool)
    (w : IsWalk (λ n. get_or f.table n 0) start f.used after count END_OF_CHAIN)
    → length f.table ≡ length f.used → length f.table ≤ 0xFFFFFFF9 → IsFreeChain f start w.sectors
walked_chain f start count after w each few =
    free_chain f few start w.sectors w.linked
    (λ k d l. (omega (arith, (w.unmarked k d l).0, each), (w.unmarked k d l).1))

-- ---- marks that are taken back
-- so many sectors from one on, each followed by the next
abbrev pub sectors_from : (ℕ → ℕ) → ℕ → ℕ → List ℕ
sectors_from next zero at = []
sectors_from next (suc count) at = at ∷ sectors_from next count (next at)

sectors_met : (next : ℕ → ℕ) (start : ℕ) (ns : List ℕ) (stop : ℕ) → Leads next start ns stop
    → sectors_from next (length ns) start ≡ ns
sectors_met next start [] stop h = refl
sectors_met next start (n ∷ ns) stop h =
    let rest : sectors_from next (length ns) (next start) ≡ ns =
    subst (λ x. sectors_from next (length ns) (next x) ≡ ns) (sym h.0) (sectors_met next (next n) ns stop h.1) in
    λ i. h.0 i ∷ rest i

sectors_walked : (next : ℕ → ℕ) (start : ℕ) (before now : List Bool) (count stop : ℕ)
    (w : IsWalk next start before now count stop) → sectors_from next count start ≡ w.sectors
sectors_walked next start before now count stop w =
    ap (λ k. sectors_from next k start) (sym w.counted) ∙ sectors_met next start w.sectors stop w.linked

-- so many marks are still to be taken back, from a sector on
pub record IsClearing (next : ℕ → ℕ) (start count : ℕ) (old now : List Bool) (at left : ℕ) : Type 0 where
  pub rest : clear_all now (sectors_from next left at) ≡ clear_all old (sectors_from next count start)
  pub below : All (λ n. n < length old) (sectors_from next left at)
  pub long : length now ≡ length old

pub clearing_start : (next : ℕ → ℕ) (start count left : ℕ) (old : List Bool) → left ≡ count
    → ((before : List Bool) × ((stop : ℕ) × IsWalk next start before old count stop))
    → IsClearing next start count old old start left
clearing_start next start count left old e w =
    let walk = w.1.1 in
    let long : length old ≡ length w.0 = walk_long next start w.0 old count w.1.0 walk in
    record {
      rest = ap (λ k. clear_all old (sectors_from next k start)) e;
      below = subst (All (λ n. n < length old))
          (sym (ap (λ k. sectors_from next k start) e ∙ sectors_walked next start w.0 old count w.1.0 walk))
          (λ k d l. omega (arith, (walk.unmarked k d l).0, long));
      long = refl;
    }

sectors_more : (next : ℕ → ℕ) (at left : ℕ) → 0 < left → sectors_from next left at
    ≡ at ∷ sectors_from next (left - 1) (next at)
sectors_more next at zero some = absurd (omega (arith, some))
sectors_more next at (suc left) some = let e : left ≡ suc left - 1 = omega arith in
    ap (λ k. at ∷ sectors_from next k (next at)) e

pub clearing_below : (next : ℕ → ℕ) (start count : ℕ) (old now : List Bool) (at left : ℕ)
    → IsClearing next start count old now at left → 0 < left → at < length now
clearing_below next start count old now at left h some =
    let l : at < length old =
    All-head (λ n. n < length old) at (sectors_from next (left - 1) (next at))
    (subst (All (λ n. n < length old)) (sectors_more next at left some) h.below) in
    omega (arith, l, h.long)

pub clearing_step : (next : ℕ → ℕ) (start count : ℕ) (old now : List Bool) (at left new less : ℕ)
    → IsClearing next start count old now at left → 0 < left
    → new ≡ next at → less ≡ left - 1 → IsClearing next start count old (set now at false) new less
clearing_step next start count old now at left new less h some e l =
    let rest : List ℕ = sectors_from next (left - 1) (next at) in
    let is : sectors_from next less new ≡ rest = λ i. sectors_from next (l i) (e i) in
    record {
      rest = ap (clear_all (set now at false)) is ∙ sym (ap (clear_all now) (sectors_more next at left some)) ∙ h.rest;
      below = subst (All (λ n. n < length old)) (sym is)
          (All-tail (λ n. n < length old) at rest
          (subst (All (λ n. n < length old)) (sectors_more next at left some) h.below));
      long = length-set now at false ∙ h.long;
    }

pub clearing_end : (next : ℕ → ℕ) (start count : ℕ) (old now : List Bool) (at left : ℕ) (before : List Bool)
    (stop : ℕ) → IsClearing next start count old now at left
    → left ≡ 0 → IsWalk next start before old count stop → now ≡ before
clearing_end next start count old now at left before stop h none w =
    sym (ap (λ k. clear_all now (sectors_from next k at)) none) ∙ h.rest
    ∙ (λ i. clear_all (w.marks i) (sectors_walked next start before old count stop w i))
    ∙ set_and_cleared before w.sectors (λ k d l. (w.unmarked k d l).1)
