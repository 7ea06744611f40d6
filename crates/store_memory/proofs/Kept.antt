-- One call more in the list of calls of a disk in memory.
use Rattle.std.proofs.Common.{◌≡◌, ◌⊎◌, ◌+◌, ◌≤◌, inl, inr, ⊎_elim, ℕ, List, [], ◌∷◌, ◌++◌, length, take, Vec, refl}
use Rattle.std.proofs.Common.{sym, ◌∙◌, ap, subst, arith, length-append}
use Rattle.std.proofs.lemmas.List.{take-append-le, take_all, take_min}
use Rattle.std.proofs.lemmas.Bool.{cases_lt}
use Rattle.store_memory.specs.Calls.{called, LeftAfter, LeftBy, LeftFrom, LeftSince, reads_after}
use Rattle.store_model.specs.Crash.{Elapses, InArea, Torn}
use Rattle.store_model.specs.Image.{Image}
use Rattle.store_model.specs.declared.area.Area.{Area}
use Rattle.store_model.specs.declared.area.Area.TheVariants.{Document, Journal}
use Rattle.store_memory.specs.declared.areas.Call.{Call}
use Rattle.store_memory.specs.declared.areas.Call.TheVariants.{Write}
use Rattle.std.specs.declared.alloc.Global.{Global}

pub reads_push : (reads : Image) (calls : List Call) (call : Call) → reads_after reads (calls ++ call ∷ [])
    ≡ called call (reads_after reads calls)
reads_push reads [] call = refl
reads_push reads (x ∷ calls) call = reads_push (called x reads) calls call

left_push : (before : Image → Type 0) (reads : Image) (calls : List Call) (call : Call) (c : Image)
    → LeftFrom before reads (calls ++ call ∷ []) c → LeftBy call (reads_after reads calls)
    (λ d. LeftFrom before reads calls d) c
left_push before reads [] call c left = left
left_push before reads (x ∷ calls) call c left = left_push (LeftBy x reads before) (called x reads) calls call c left

pub left_by_last : (first : Image) (calls later : List Call) (call : Call) → later ≡ calls ++ call ∷ []
    → (c : Image) → LeftAfter first later c → LeftBy call (reads_after first calls) (λ d. LeftAfter first calls d) c
left_by_last first calls later call is c left = left_push (λ d. d ≡ first) first calls call c
    (subst (λ (l : List Call). LeftAfter first l c) is left)

left_pushed : (before : Image → Type 0) (reads : Image) (calls : List Call) (call : Call) (c : Image)
    → LeftBy call (reads_after reads calls) (λ d. LeftFrom before reads calls d) c
    → LeftFrom before reads (calls ++ call ∷ []) c
left_pushed before reads [] call c left = left
left_pushed before reads (x ∷ calls) call c left = left_pushed (LeftBy x reads before) (called x reads) calls call c
    left

-- a write of which nothing is done
torn_none : (old : List ℕ) (at n : ℕ) → Torn at n old old
torn_none old at n = record {
  before = ap (λ (k : ℕ). take k old) (omega arith) ∙ take_min at old;
  after = refl;
  no_shorter = omega arith;
  no_longer = omega arith;
}

not_written : (area : Area) (at n : ℕ) (c : Image) → InArea area (Torn at n) c c
not_written Document at n c = (torn_none c.document at n, refl)
not_written Journal at n c = (refl, torn_none c.journal at n)

-- what a crash might have left before a write it may leave after it
pub left_still : (first : Image) (calls later : List Call) (area : Area) (at : ℕ) (bytes : Vec ℕ Global)
    → later ≡ calls ++ Write area at bytes ∷ [] → (c : Image) → LeftAfter first calls c → LeftAfter first later c
left_still first calls later area at bytes is c left = subst (λ (l : List Call). LeftAfter first l c) (sym is)
    (left_pushed (λ d. d ≡ first) first calls (Write area at bytes) c
    (c, left, not_written area at (length bytes.items) c))

pub elapses_same : (first : Image) (calls : List Call)
    → Elapses (length calls) (length calls) (LeftSince first calls) (LeftSince first calls) (LeftAfter first calls)
elapses_same first calls = record {
  later = omega arith;
  nothing_else = λ t c le left. inl left;
  keeps = λ t c le left. left;
}

elapses_push : (first : Image) (calls : List Call) (call : Call)
    → Elapses (length calls) (length (calls ++ call ∷ [])) (LeftSince first calls)
    (LeftSince first (calls ++ call ∷ [])) (LeftAfter first (calls ++ call ∷ []))
elapses_push first calls call = record { later = omega (arith, longer); nothing_else = nothing_else; keeps = keeps }
  where
    longer : length (calls ++ call ∷ []) ≡ length calls + 1
    longer = length-append calls (call ∷ [])

    nothing_else : (t : ℕ) (c : Image) → t ≤ length calls → LeftSince first (calls ++ call ∷ []) t c
        → LeftSince first calls t c ⊎ LeftAfter first (calls ++ call ∷ []) c
    nothing_else t c le since = ⊎_elim
        (λ after. inr (subst (λ (l : List Call). LeftAfter first l c)
        (take_all since.0 (calls ++ call ∷ []) (omega (arith, longer, after))) since.3))
        (λ before. inl (
          since.0,
          since.1,
          before,
          subst (λ (l : List Call). LeftAfter first l c)
              (take-append-le since.0 calls (call ∷ []) before) since.3,
        ))
        (cases_lt (length calls) since.0)

    keeps : (t : ℕ) (c : Image) → t ≤ length calls → LeftSince first calls t c
        → LeftSince first (calls ++ call ∷ []) t c
    keeps t c le since = (
      since.0,
      since.1,
      omega (arith, longer, since.2),
      subst (λ (l : List Call). LeftAfter first l c)
          (sym (take-append-le since.0 calls (call ∷ []) since.2)) since.3,
    )

pub elapses_to : (first : Image) (calls later : List Call) (call : Call) → later ≡ calls ++ call ∷ []
    → Elapses (length calls) (length later) (LeftSince first calls) (LeftSince first later) (LeftAfter first later)
elapses_to first calls later call is =
    subst (λ (l : List Call). Elapses (length calls) (length l) (LeftSince first calls) (LeftSince first l)
    (LeftAfter first l)) (sym is) (elapses_push first calls call)

-- what reads give is still what the calls made of the first bytes
pub replayed_to : (first old new : Image) (calls later : List Call) (call : Call) → old ≡ reads_after first calls
    → later ≡ calls ++ call ∷ [] → new ≡ called call old → new ≡ reads_after first later
replayed_to first old new calls later call replayed is done_now =
    done_now ∙ ap (λ (i : Image). called call i) replayed ∙ sym (reads_push first calls call)
    ∙ ap (λ (l : List Call). reads_after first l) (sym is)
