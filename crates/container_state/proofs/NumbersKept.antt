-- Objects keep their numbers where all of them change at once.
use Rattle.std.proofs.Common.{◌≡◌, ◌∙◌, ◌+◌, ◌==◌, ℕ, true, false, List, [], ◌∷◌, map, Option, Some, None}
use Rattle.std.proofs.Common.{if◌then◌else◌, refl}
use Rattle.message_values.specs.Found.{nth}
use Rattle.message_values.specs.declared.operation.Operation.{Operation}
use Rattle.message_values.specs.declared.operation.Operation.TheVariants.{HandsOff, SaveDropped}
use Rattle.container_model.specs.declared.record.Frame.{Frame}
use Rattle.container_model.specs.declared.record.Link.{Link}
use Rattle.container_model.specs.declared.record.Object.{Object}
use Rattle.container_model.specs.HandOffs.{hand_off, hand_off_at, hand_off_each, hand_off_in, handed_off, hands_off}
use Rattle.container_model.specs.HandOffs.{unasked}
use Rattle.container_model.specs.Messages.{reaped_object}
use Rattle.container_model.specs.Record.{Record, asked_link, asked_object}
use Rattle.container_model.specs.Saves.{cleared, completed, completion, counted_object, dropped_object}
use Rattle.container_model.specs.Saves.{forgotten_object, kept}
use Rattle.container_checks.proofs.Numbers.{each_kept, numbers}

asked_number : (f : ℕ) (op : Operation) (o : Object) → (asked_object f op o).number ≡ o.number
asked_number f op o =
    elim (o.frame == f) as (λ b. (if b then record o { link = asked_link op o.link } else o).number
    ≡ o.number) [ true ↦ refl | false ↦ refl ]

counted_number : (f : ℕ) (o : Object) → (counted_object f o).number ≡ o.number
counted_number f o =
    elim (o.frame == f) as (λ b. (if b then record o { work = kept o; link = cleared o.link } else o).number
    ≡ o.number) [ true ↦ refl | false ↦ refl ]

forgotten_number : (f : ℕ) (o : Object) → (forgotten_object f o).number ≡ o.number
forgotten_number f o = elim (o.frame == f) as (λ b. (if b then record o { link = cleared o.link } else o).number
    ≡ o.number) [ true ↦ refl | false ↦ refl ]

reaped_number : (inc : ℕ) (o : Object) (link : Option Link) → (reaped_object inc o link).number ≡ o.number
reaped_number inc o None = refl
reaped_number inc o (Some l) =
    elim (l.inc == inc) as (λ b. (if b then record o { work = kept o; link = None } else o).number
    ≡ o.number) [ true ↦ refl | false ↦ refl ]

pub asked_kept : (f : ℕ) (op : Operation) (os : List Object) → numbers (map (asked_object f op) os) ≡ numbers os
asked_kept f op os = each_kept (asked_object f op) (asked_number f op) os

pub completed_kept : (f : ℕ) (frame : Frame) (os : List Object) → numbers (map (completed f frame) os) ≡ numbers os
completed_kept f frame os = each_kept (completed f frame)
    (λ o. asked_number f (completion frame) (counted_object f o) ∙ counted_number f o) os

pub dropped_kept : (f : ℕ) (frame : Frame) (os : List Object) → numbers (map (dropped_object f frame) os) ≡ numbers os
dropped_kept f frame os = each_kept (dropped_object f frame)
    (λ o. asked_number f (SaveDropped frame.k) (forgotten_object f o) ∙ forgotten_number f o) os

pub reaped_kept : (inc : ℕ) (os : List Object) → numbers (map (λ (o : Object). reaped_object inc o o.link) os)
    ≡ numbers os
reaped_kept inc os = each_kept (λ (o : Object). reaped_object inc o o.link) (λ o. reaped_number inc o o.link) os

-- ---- where frames hand off
handed_at : (r : Record) (f : ℕ) (t : Option Frame) → numbers (hand_off_at r f t).rec.objects ≡ numbers r.objects
handed_at r f None = refl
handed_at r f (Some frame) =
    elim (hands_off f r.objects frame) as (λ b. numbers (if b then handed_off r f frame else unasked r).rec.objects
    ≡ numbers r.objects) [ true ↦ asked_kept f HandsOff r.objects | false ↦ refl ]

handed_each : (f : ℕ) (frames : List Frame) (r : Record) → numbers (hand_off_each f frames r).rec.objects
    ≡ numbers r.objects
handed_each f [] r = refl
handed_each f (x ∷ xs) r = handed_each (f + 1) xs (hand_off_in r f).rec ∙ handed_at r f (nth r.frames f)

pub handed_kept : (r : Record) → numbers (hand_off r).rec.objects ≡ numbers r.objects
handed_kept r = handed_each 1 r.frames r
