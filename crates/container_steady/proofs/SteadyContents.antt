-- What a commit makes of each object, and which contents it takes.
use Rattle.std.proofs.Common.{◌≡◌, ℕ, inl, inr, true, false, Option, Some, None, refl, ap, ◌∙◌, subst, ◌==◌}
use Rattle.std.proofs.Common.{if◌then◌else◌}
use Rattle.std.proofs.lemmas.Bool.{eqb-true, eqb-false}
use Rattle.std.specs.Prelude.{is_some}
use Rattle.message_values.specs.Found.{nth}
use Rattle.message_values.specs.declared.operation.Operation.TheVariants.{SaveDropped}
use Rattle.tree_streams.specs.declared.stored.Stored.{Stored}
use Rattle.container_model.specs.declared.record.Object.{Object}
use Rattle.container_model.specs.declared.record.Frame.{Frame}
use Rattle.container_model.specs.declared.record.Phase.{Phase}
use Rattle.container_model.specs.Record.{is_object, asked_link, asked_object}
use Rattle.container_model.specs.Saves.{kept, kept_by, kept_in, cleared, completion, completed, dropped_object}
use Rattle.container_queues.specs.Roles.{role_in}
use Rattle.container_queues.specs.Steady.{SteadyLink, SteadyObject, IsSavedIn, IsUnsettled, CommitsAnsweredContents}
use Rattle.container_queues.proofs.SteadyLookups.{each_found}
use Rattle.container_steady.proofs.SteadyRecords.{if_told, at_some, if_at, Held}

-- what becomes of an object, whether it is of the frame or not
pub completed_if : (P : Object → Type 0) (f : ℕ) (frame : Frame) (o : Object)
    → (o.frame ≡ f → P (record o { work = kept o; link = asked_link (completion frame) (cleared o.link) }))
    → ((o.frame ≡ f → ⊥) → P o) → P (completed f frame o)
completed_if P f frame o here other = elim (o.frame == f) as (λ b. (o.frame == f) ≡ b
    → P (asked_object f (completion frame) (if b then record o { work = kept o; link = cleared o.link } else o))) [
      | true ↦
          (λ e. if_told P (o.frame == f)
          (record o { work = kept o; link = asked_link (completion frame) (cleared o.link) })
          (record o { work = kept o; link = cleared o.link }) (λ t. here (eqb-true o.frame f e))
          (λ t. absurd (eqb-false o.frame f t (eqb-true o.frame f e))))
      | false ↦ (λ e. if_told P (o.frame == f) (record o { link = asked_link (completion frame) o.link }) o
          (λ t. absurd (eqb-false o.frame f e (eqb-true o.frame f t))) (λ t. other (eqb-false o.frame f e)))
    ] refl

-- the same where its save is dropped
pub dropped_if : (P : Object → Type 0) (f : ℕ) (frame : Frame) (o : Object)
    → (o.frame ≡ f → P (record o { link = asked_link (SaveDropped frame.k) (cleared o.link) }))
    → ((o.frame ≡ f → ⊥) → P o) → P (dropped_object f frame o)
dropped_if P f frame o here other = elim (o.frame == f) as (λ b. (o.frame == f) ≡ b
    → P (asked_object f (SaveDropped frame.k) (if b then record o { link = cleared o.link } else o))) [
      | true ↦ (λ e. if_told P (o.frame == f) (record o { link = asked_link (SaveDropped frame.k) (cleared o.link) })
          (record o { link = cleared o.link }) (λ t. here (eqb-true o.frame f e))
          (λ t. absurd (eqb-false o.frame f t (eqb-true o.frame f e))))
      | false ↦ (λ e. if_told P (o.frame == f) (record o { link = asked_link (SaveDropped frame.k) o.link }) o
          (λ t. absurd (eqb-false o.frame f e (eqb-true o.frame f t))) (λ t. other (eqb-false o.frame f e)))
    ] refl

-- each content that is committed was answered in this save
there : {A : Type 0} (o : Option A) → is_some o ≡ true → (x : A) × (o ≡ Some x)
there None e = cc
there (Some x) e = (x, refl)

known_in : (phase : Phase) (saved : Option Stored) → IsUnsettled phase → IsSavedIn phase saved → is_some saved ≡ true
known_in phase saved (inl e) h = subst (λ (z : Phase). IsSavedIn z saved) e h
known_in phase saved (inr e) h = subst (λ (z : Phase). IsSavedIn z saved) e h

pub commits_answered_contents : CommitsAnsweredContents
commits_answered_contents r n o l frame s found is at unsettled =
    let h = each_found (SteadyObject r) (is_object n) r.objects o s.objects found in
    let held = if_at (SteadyLink r.servers r.last_act frame.phase frame.asked frame.k
    (role_in frame.ui.state o.number)) o.link l is
    (at_some (Held r o.number o.link) (nth r.frames o.frame) frame at h.linked) in
    let c = there l.saved (known_in frame.phase l.saved unsettled held.saved_known) in
    (c.0, c.1, ap (kept_by o.work) is ∙ ap (kept_in o.work) c.1)
