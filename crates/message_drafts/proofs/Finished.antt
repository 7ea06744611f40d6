-- A body of which all bytes came.
use Rattle.std.proofs.Common.{◌≡◌, ℕ, ◌<◌, ◌≤◌, List, [], ◌++◌, length, take, drop, Some, None, refl, sym, ap, ◌∙◌}
use Rattle.std.proofs.Common.{arith}
use Rattle.std.proofs.lemmas.List.{append-nil}
use Rattle.message_model.specs.Reading.{more}
use Rattle.message_drafts.specs.declared.draft.Draft.{Draft}
use Rattle.message_drafts.specs.declared.draft.Phase.{Phase}
use Rattle.message_drafts.specs.declared.draft.Phase.TheVariants.{Fields, Picture, Bad}
use Rattle.message_drafts.specs.Drafts.{IsPlanned, frame_of, last, lengthened, need, read_on, resume}
use Rattle.message_drafts.proofs.Bodies.{planned_at}
use Rattle.message_drafts.proofs.Ends.{fields_short}

pub finished_bad : (d : Draft) → d.plan.phase ≡ Bad → None ≡ resume d []
unfolding resume
finished_bad d e = λ i. read_on (sym e i) d.plan.left d.plan.room d.plan.missing (take d.plan.len d.plan.held)
    d.opening d.streams.items d.picture []

pub finished_fields : (d : Draft) → IsPlanned d → d.plan.to_come ≡ 0 → d.plan.phase ≡ Fields → None ≡ resume d []
unfolding resume
finished_fields d p over e =
    let at = planned_at d Fields e p in
    let fits : d.plan.missing ≤ d.plan.to_come = at.2 in
    let none : d.plan.missing ≡ 0 = omega (arith, over, fits) in
    let h : List ℕ = take d.plan.len d.plan.held in
    sym ((λ i. read_on (e i) d.plan.left d.plan.room (none i) h d.opening d.streams.items d.picture [])
    ∙ ap (λ (x : List ℕ). more d.plan.left (lengthened d.streams.items []) d.plan.room (last d.opening) x)
    (append-nil h)
    ∙ fields_short d.plan.left h d.opening (lengthened d.streams.items []) d.plan.room at.0)

pub finished_picture : (d : Draft) → IsPlanned d → d.plan.to_come ≡ 0 → d.plan.phase ≡ Picture
    → Some (frame_of d.opening d.streams.items d.picture) ≡ resume d []
unfolding resume
finished_picture d p over e =
    let fits : d.plan.missing ≤ d.plan.to_come = planned_at d Picture e p in
    let none : d.plan.missing ≡ 0 = omega (arith, over, fits) in
    sym ((λ i. read_on (e i) d.plan.left d.plan.room (none i) (take d.plan.len d.plan.held) d.opening
    d.streams.items d.picture [])
    ∙ ap (λ (x : List ℕ). Some (frame_of d.opening d.streams.items x)) (append-nil d.picture))

pub finished_other : (p : Phase) (d : Draft) → d.plan.phase ≡ p → (p ≡ Picture → ⊥) → IsPlanned d
    → d.plan.to_come ≡ 0 → None ≡ resume d []
finished_other Fields d e other p over = finished_fields d p over e
finished_other Picture d e other p over = absurd (other refl)
finished_other Bad d e other p over = finished_bad d e
