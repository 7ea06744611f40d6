-- What holds of each list of calls.
use Rattle.std.proofs.Common.{◌≡◌, ◌<◌, ◌≤◌, ◌+◌, ◌-◌, ⊎_elim, ℕ, List, [], ◌∷◌, ◌++◌, length, take, drop, min, refl}
use Rattle.std.proofs.Common.{sym, ◌∙◌, ap, subst, arith, length-append, length-take, length-drop, append_assoc}
use Rattle.std.proofs.lemmas.List.{take_at, take_all, drop_at, drop_all}
use Rattle.std.proofs.lemmas.Bool.{cases_lt}
use Rattle.store_memory.specs.Calls.{called, LeftBy, LeftAfter, LeftFrom, LeftSince, reads_after}
use Rattle.store_model.specs.Crash.{CutShort, Torn}
use Rattle.store_model.specs.Image.{Image, put}
use Rattle.store_model.specs.declared.area.Area.TheVariants.{Document, Journal}
use Rattle.store_memory.specs.declared.areas.Call.{Call}
use Rattle.store_memory.specs.declared.areas.Call.TheVariants.{Write, Cut, Sync}

length_front : (old bytes : List ℕ) (at : ℕ) → length (take at old ++ bytes) ≡ min at (length old) + length bytes
length_front old bytes at = omega (arith, length-append (take at old) bytes, length-take at old)

length_put : (old bytes : List ℕ) (at : ℕ) → length (put old at bytes) ≡ min at (length old) + length bytes
    + (length old - (at + length bytes))
length_put old bytes at =
    omega (
      arith,
      length_front old bytes at,
      length-append (take at old ++ bytes) (drop (at + length bytes) old),
      length-drop (at + length bytes) old,
    )

-- a write that is done is one of its torn outcomes
torn_put : (old bytes : List ℕ) (at : ℕ) → Torn at (length bytes) old (put old at bytes)
torn_put old bytes at = record {
  before = ap (λ (l : List ℕ). take (min at (length old)) l)
      (append_assoc (take at old) bytes (drop (at + length bytes) old))
      ∙ take_at (take at old) (bytes ++ drop (at + length bytes) old) (min at (length old)) (length-take at old);
  after = ⊎_elim past inside (cases_lt (length old) at);
  no_shorter = omega (arith, length_put old bytes at);
  no_longer = omega (arith, length_put old bytes at);
}
  where
    inside : at ≤ length old → drop (at + length bytes) (put old at bytes) ≡ drop (at + length bytes) old
    inside le = drop_at (take at old ++ bytes) (drop (at + length bytes) old) (at + length bytes)
        (omega (arith, le, length_front old bytes at))

    past : length old < at → drop (at + length bytes) (put old at bytes) ≡ drop (at + length bytes) old
    past lt = drop_all (at + length bytes) (put old at bytes) (omega (arith, lt, length_put old bytes at))
        ∙ sym (drop_all (at + length bytes) old (omega (arith, lt)))

-- so is a cut that is done
cut_take : (old : List ℕ) (size : ℕ) → CutShort size old (take size old)
cut_take old size = record {
  no_shorter = omega (arith, length-take size old);
  front = sym (ap (λ n. take n old) (length-take size old) ∙ least);
}
  where
    least : take (min size (length old)) old ≡ take size old
    least = ⊎_elim
        (λ lt. let is : min size (length old) ≡ length old = omega (arith, lt) in
        ap (λ n. take n old) is ∙ take_all (length old) old (omega arith)
        ∙ sym (take_all size old (omega (arith, lt))))
        (λ le. let is : min size (length old) ≡ size = omega (arith, le) in ap (λ n. take n old) is)
        (cases_lt (length old) size)

-- what reads give after a call is one of the images that a crash may leave
call_stays_left : (call : Call) (reads : Image) (before : Image → Type 0) → before reads
    → LeftBy call reads before (called call reads)
call_stays_left (Write Document at bytes) reads before here =
    (reads, here, (torn_put reads.document bytes.items at, refl))
call_stays_left (Write Journal at bytes) reads before here =
    (reads, here, (refl, torn_put reads.journal bytes.items at))
call_stays_left (Cut Document size) reads before here = (reads, here, (cut_take reads.document size, refl))
call_stays_left (Cut Journal size) reads before here = (reads, here, (refl, cut_take reads.journal size))
call_stays_left (Sync area) reads before here = (here, refl)

stay_left : (before : Image → Type 0) (reads : Image) (calls : List Call) → before reads
    → LeftFrom before reads calls (reads_after reads calls)
stay_left before reads [] here = here
stay_left before reads (call ∷ calls) here = stay_left (LeftBy call reads before) (called call reads) calls
    (call_stays_left call reads before here)

pub reads_stay_left : (first : Image) (calls : List Call) → LeftAfter first calls (reads_after first calls)
reads_stay_left first calls = stay_left (λ d. d ≡ first) first calls refl

pub here_now : (first : Image) (calls : List Call) (t : ℕ) (c : Image) → t ≤ length calls → LeftAfter first calls c
    → LeftSince first calls t c
here_now first calls t c le left = (
  length calls,
  le,
  omega arith,
  subst (λ (l : List Call). LeftAfter first l c)
      (sym (take_all (length calls) calls (omega arith))) left,
)

pub none_but_now : (first : Image) (calls : List Call) (c : Image) → LeftSince first calls (length calls) c
    → LeftAfter first calls c
none_but_now first calls c since = subst (λ (l : List Call). LeftAfter first l c) (take_all since.0 calls since.1)
    since.3
