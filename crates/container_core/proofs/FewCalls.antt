-- How many calls may be pending: at most one for each object, and each frame has so many objects at most.
use Rattle.std.proofs.Common.{◌≡◌, ◌≤◌, ◌+◌, ◌*◌, ◌==◌, ℕ, zero, suc, true, false, List, [], ◌∷◌, length, Option, Some}
use Rattle.std.proofs.Common.{None, Result, Ok, Err, refl, sym, subst, arith, if◌then◌else◌}
use Rattle.std.proofs.lemmas.Bool.{eqb-false}
use Rattle.std.proofs.lemmas.List.{length-append}
use Rattle.std.proofs.lemmas.Option.{slice_get_within}
use Rattle.std.specs.Prelude.{IfOk}
use Rattle.std.specs.List.{AllByRecursion}
use Rattle.message_values.specs.Found.{nth}
use Rattle.message_values.specs.declared.message.Message.{Message}
use Rattle.message_values.specs.declared.operation.Operation.{Operation}
use Rattle.container_model.specs.declared.record.Link.{Link}
use Rattle.container_model.specs.declared.record.Object.{Object}
use Rattle.container_model.specs.Record.{Record, count_objects}
use Rattle.container_model.specs.Replies.{pending_at, pending_call, pending_calls}
use Rattle.container_queues.proofs.SteadyLookups.{each_weaker}
use Rattle.container_steady.proofs.SteadyTells.{some_and}
use Rattle.container_queues.specs.Steady.{Steady, SteadyObject}
use Rattle.container_numbers.specs.FewFrames.{FewFrames}

-- ---- at most one for each object
one_at : (l : Link) (pending : Option Operation) → length (pending_at l pending) ≤ 1
one_at l None = omega arith
one_at l (Some op) = omega arith

one_call : (link : Option Link) → length (pending_call link) ≤ 1
one_call None = omega arith
one_call (Some l) = one_at l l.pending

pub single_calls : (os : List Object) → length (pending_calls os) ≤ length os
single_calls [] = omega arith
single_calls (o ∷ os) =
    let both = length-append (pending_call o.link) (pending_calls os) in
    let one = one_call o.link in
    let rest = single_calls os in
    omega arith

-- ---- how many objects the first n frames have
abbrev counted : ℕ → List Object → ℕ
counted zero os = 0
counted (suc n) os = count_objects (suc n) os + counted n os

counted_few : (n : ℕ) (os : List Object) → ((f : ℕ) → count_objects f os ≤ 64) → counted n os ≤ 64 * n
counted_few zero os few = omega arith
counted_few (suc n) os few = (let one = few (suc n) in let rest = counted_few n os few in omega arith)

-- an object of a frame from 1 to n
abbrev IsAmong : ℕ → Object → Type 0
IsAmong n o = (1 ≤ o.frame) × (o.frame ≤ n)

count_more : (f : ℕ) (o : Object) (os : List Object) → count_objects f os ≤ count_objects f (o ∷ os)
count_more f o os = elim (o.frame == f) as (λ b. count_objects f os
    ≤ (if b then 1 + count_objects f os else count_objects f os)) [ true ↦ omega arith | false ↦ omega arith ]

counted_more : (n : ℕ) (o : Object) (os : List Object) → counted n os ≤ counted n (o ∷ os)
counted_more zero o os = omega arith
counted_more (suc n) o os = (let one = count_more (suc n) o os in let rest = counted_more n o os in omega arith)

counted_one : (n : ℕ) (o : Object) (os : List Object) → IsAmong n o → counted n os + 1 ≤ counted n (o ∷ os)
counted_one zero o os h = (let low = h.0 in let high = h.1 in absurd (omega arith))
counted_one (suc n) o os h = elim (o.frame == suc n) as (λ b. (o.frame == suc n) ≡ b
    → counted (suc n) os + 1 ≤ (if b then 1 + count_objects (suc n) os else count_objects (suc n) os)
    + counted n (o ∷ os)) [
      | true ↦ (λ t. let rest = counted_more n o os in omega arith)
      | false ↦ (λ t.
          let high = h.1 in
          let ne = eqb-false o.frame (suc n) t in
          let below : o.frame ≤ n = omega arith in
          let rest = counted_one n o os (h.0, below) in
          omega arith)
    ] refl

all_counted : (n : ℕ) (os : List Object) → AllByRecursion (IsAmong n) os → length os ≤ counted n os
all_counted n [] h = omega arith
all_counted n (o ∷ os) h = (let rest = all_counted n os h.1 in let one = counted_one n o os h.0 in omega arith)

-- ---- each object's frame is there
within : {A : Type 0} (xs : List A) (n : ℕ) (x : A) → nth xs n ≡ Some x → (1 ≤ n) × (n ≤ length xs)
within xs zero x e = cc
within xs (suc i) x e = (let lt = slice_get_within xs i x e in (omega arith, omega arith))

among : (r : Record) (o : Object) → SteadyObject r o → IsAmong (length r.frames) o
among r o h = (let at = some_and _ (nth r.frames o.frame) h.linked in within r.frames o.frame at.0 at.1)

pub few_objects : (r : Record) → Steady r → FewFrames r → length r.objects ≤ 512
few_objects r s few =
    let all = all_counted (length r.frames) r.objects
    (each_weaker (SteadyObject r) (IsAmong (length r.frames)) r.objects (among r) s.objects) in
    let most = counted_few (length r.frames) r.objects s.count in
    let frames : length r.frames ≤ 8 = few in
    omega arith

pub few_calls : (r : Record) → Steady r → FewFrames r → length (pending_calls r.objects) ≤ 512
few_calls r s few = (let single = single_calls r.objects in let most = few_objects r s few in omega arith)

-- ---- what is sent, where there is memory for it
pub sends_few : {T E : Type 0} (items : T → List Message) (res : Result T E) (ms : List Message) (most : ℕ)
    → length ms ≤ most → IfOk res (λ v. items v ≡ ms) → IfOk res (λ v. length (items v) ≤ most)
sends_few items (Err fault) ms most le h = tt
sends_few items (Ok v) ms most le h = subst (λ (xs : List Message). length xs ≤ most) (sym h) le
