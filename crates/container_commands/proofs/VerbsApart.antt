-- An object that takes steps to menus and border doesn't hold its frame.
use Rattle.std.proofs.Common.{◌≡◌, ◌≢◌, ◌==◌, ℕ, zero, suc, Bool, true, false, List, [], ◌∷◌, Option, Some, None}
use Rattle.std.proofs.Common.{IfSome, IsSomeAnd, refl, sym, ◌∙◌, ap, subst, slice_get, arith, if◌then◌else◌}
use Rattle.std.specs.List.{AllByRecursion}
use Rattle.message_values.specs.Found.{nth}
use Rattle.object_state.specs.declared.object_states.ObjectState.{ObjectState}
use Rattle.object_state.specs.declared.object_states.ObjectState.TheVariants.{UiActive}
use Rattle.object_state.specs.declared.verbs.Step.{Step}
use Rattle.object_state.specs.declared.verbs.Verb.{Verb}
use Rattle.object_state.specs.declared.verbs.Verb.TheVariants as verb
use Rattle.object_state.specs.declared.grant_states.Claim.{Claim}
use Rattle.object_state.specs.declared.grant_states.Tools.{Tools}
use Rattle.object_state.specs.declared.grant_states.GrantState.{GrantState}
use Rattle.object_state.specs.declared.grant_states.GrantState.TheVariants as state
use Rattle.container_queues.specs.Roles.{Holding, IsShown, Other, role_in}
use Rattle.container_queues.specs.Steady.{Steady, SteadyLink, SteadyObject}
use Rattle.container_model.specs.declared.record.Frame.{Frame}
use Rattle.container_model.specs.declared.record.Link.{Link}
use Rattle.container_model.specs.declared.record.Object.{Object}
use Rattle.container_model.specs.Record.{Record}
use Rattle.container_model.specs.Verbs.{holder_of, steps_of, takes}

-- nothing more is taken by an object that has menus and border
abbrev takes_in : Option (List Step) → Bool
takes_in None = false
takes_in (Some steps) = takes steps

shown_takes : (v : Option Verb) → takes_in (steps_of v UiActive) ≡ false
shown_takes None = refl
shown_takes (Some verb.Primary) = refl
shown_takes (Some verb.Show) = refl
shown_takes (Some verb.Open) = refl
shown_takes (Some verb.Hide) = refl
shown_takes (Some verb.UiActivate) = refl
shown_takes (Some verb.InPlaceActivate) = refl

never_taken : (v : Option Verb) (s : ObjectState) (steps : List Step) → s ≡ UiActive → steps_of v s ≡ Some steps
    → takes steps ≡ true → ⊥
never_taken v s steps e is t =
    let h : false ≡ true = sym (shown_takes v) ∙ (ap (λ x. takes_in (steps_of v x)) (sym e) ∙ (ap takes_in is ∙ t)) in
    absurd (cc)

-- what holds of each item
each_at : {A : Type 0} (P : A → Type 0) (xs : List A) (i : ℕ) (x : A) → AllByRecursion P xs
    → slice_get xs i ≡ Some x → P x
each_at P [] i x all e = absurd (cc)
each_at P (y ∷ ys) zero x all e = subst (λ t. IfSome t P) e all.0
each_at P (y ∷ ys) (suc i) x all e = each_at P ys i x all.1 e

same_number : (n m : ℕ) → n ≡ m → (n == m) ≡ true
same_number n m e = grind arith

held_shown : (holder : Claim) (tools : Tools) (number : ℕ) (s : ObjectState) (b : Bool) → b ≡ true
    → IsShown (if b then Holding holder.g tools else Other) s → s ≡ UiActive
held_shown holder tools number s true e h = h
held_shown holder tools number s false e h = absurd (cc)

apart_in : (g : GrantState) (number : ℕ) (v : Option Verb) (s : ObjectState) (steps : List Step)
    → IsShown (role_in g number) s → steps_of v s ≡ Some steps → takes steps ≡ true
    → IfSome (holder_of g) (λ n. n ≢ number)
apart_in state.Free number v s steps h e t = tt
apart_in (state.Granting claim) number v s steps h e t = tt
apart_in (state.Held holder tools) number v s steps h e t =
    λ same. never_taken v s steps (held_shown holder tools number s (holder.object == number)
    (same_number holder.object number same) h) e t
apart_in (state.Revoking holder next) number v s steps h e t = tt

pub apart : (r : Record) (i : ℕ) (o : Object) (l : Link) (frame : Frame) (v : Option Verb) (steps : List Step)
    → Steady r → slice_get r.objects i ≡ Some o → o.link ≡ Some l → nth r.frames o.frame ≡ Some frame
    → steps_of v l.states.object ≡ Some steps → takes steps ≡ true
    → IfSome (holder_of frame.ui.state) (λ n. n ≢ o.number)
apart r i o l frame v steps h at linked there e t =
    let known : SteadyObject r o = each_at (SteadyObject r) r.objects i o h.objects at in
    let inside : IfSome o.link (SteadyLink r.servers r.last_act frame.phase frame.asked frame.k
    (role_in frame.ui.state o.number)) =
    subst
    (λ x. IsSomeAnd x
    (λ (f : Frame). IfSome o.link (SteadyLink r.servers r.last_act f.phase f.asked f.k
    (role_in f.ui.state o.number)))) there known.linked in
    let steady : SteadyLink r.servers r.last_act frame.phase frame.asked frame.k (role_in frame.ui.state o.number)
    l =
    subst (λ x. IfSome x (SteadyLink r.servers r.last_act frame.phase frame.asked frame.k
    (role_in frame.ui.state o.number))) linked inside in
    apart_in frame.ui.state o.number v l.states.object steps steady.shown e t
