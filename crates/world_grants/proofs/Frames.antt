-- Frames that changed: who is named, and who holds each.
use Rattle.std.proofs.Common.{◌≡◌, ℕ, zero, suc, Bool, true, false, List, [], ◌∷◌, ◌++◌, map, Some, refl, sym, ap, ◌∙◌}
use Rattle.std.proofs.Common.{inl, inr, subst, if◌then◌else◌, slice_get}
use Rattle.std.proofs.lemmas.Bool.Decides.{eqb_tells}
use Rattle.message_values.specs.Found.{nth, set_nth}
use Rattle.object_state.specs.declared.grant_states.Claim.{Claim}
use Rattle.object_state.specs.declared.grant_states.Tools.{Tools}
use Rattle.object_state.specs.Grants.{IsApart}
use Rattle.object_state.specs.Frames.{Ui}
use Rattle.container_model.specs.declared.record.Object.{Object}
use Rattle.container_model.specs.declared.record.Frame.{Frame}
use Rattle.container_model.specs.declared.record.Phase.TheVariants.{Committing}
use Rattle.container_model.specs.Saves.{is_ready, settled_frame, settled_frames}
use Rattle.container_model.specs.Grants.{freed_frame}
use Rattle.container_queues.proofs.SteadyLookups.{nth-set_same, nth-set_other, nth-settled}
use Rattle.world_grants.specs.Grants.{Moves, NoTools}
use Rattle.world_grants.proofs.States.{same, weaker, IsHosted, freed_moves}

-- each frame stays, and its grant moves so
abbrev pub AllMove : (Gone : Claim → Type 0) (New : Claim → Tools → Type 0) → List Frame → List Frame → Type 0
AllMove Gone New fs gs = (f : ℕ) (frame : Frame) → nth fs f ≡ Some frame → (later : Frame) × (nth gs f ≡ Some later)
    × Moves Gone New frame.ui.state later.ui.state

module _ (Gone : Claim → Type 0) (New : Claim → Tools → Type 0) where
  pub none_move : (fs : List Frame) → AllMove Gone New fs fs
  none_move fs f frame e = (frame, e, weaker Gone New frame.ui.state frame.ui.state (same frame.ui.state))

  pub one_moves : (fs : List Frame) (n : ℕ) (before after : Frame) → nth fs n ≡ Some before
      → Moves Gone New before.ui.state after.ui.state → AllMove Gone New fs (set_nth fs n after)
  one_moves fs n before after at h f frame e = elim (eqb_tells n f) [
    | inl s ↦ (let is : before ≡ frame = (let z : Some before ≡ Some frame = sym at ∙ (ap (nth fs) s.1 ∙ e) in cc) in (
      after,
      ap (nth (set_nth fs n after)) (sym s.1) ∙ nth-set_same fs n before after at,
      subst (λ (x : Frame). Moves Gone New x.ui.state after.ui.state) is h,
    ))
    | inr s ↦ (
      frame,
      nth-set_other fs n f after s.1 ∙ e,
      weaker Gone New frame.ui.state frame.ui.state
          (same frame.ui.state),
    )
  ]

  -- saves go on
  settled_ui : (f : ℕ) (os : List Object) (frame : Frame) → (settled_frame f os frame).ui ≡ frame.ui
  settled_ui f os frame = at (is_ready f os frame)
    where
      at : (b : Bool) → (if b then record frame { phase = Committing } else frame).ui ≡ frame.ui
      at true = refl
      at false = refl

  pub settled_move : (os : List Object) (fs gs : List Frame) → AllMove Gone New fs gs
      → AllMove Gone New fs (settled_frames 1 os gs)
  settled_move os fs gs h f frame e = (let p = h f frame e in (
    settled_frame f os p.0,
    nth-settled os gs f p.0 p.1,
    subst
        (λ (u : Ui). Moves Gone New frame.ui.state u.state) (sym (settled_ui f os p.0)) p.2,
  ))

  more_at : (fs : List Frame) (i : ℕ) (a frame : Frame) → slice_get fs i ≡ Some frame
      → slice_get (fs ++ a ∷ []) i ≡ Some frame
  more_at [] i a frame e = cc
  more_at (x ∷ fs) zero a frame e = e
  more_at (x ∷ fs) (suc i) a frame e = more_at fs i a frame e

  more_nth : (fs : List Frame) (n : ℕ) (a frame : Frame) → nth fs n ≡ Some frame → nth (fs ++ a ∷ []) n ≡ Some frame
  more_nth fs zero a frame e = cc
  more_nth fs (suc i) a frame e = more_at fs i a frame e

  pub more_move : (fs : List Frame) (a : Frame) → AllMove Gone New fs (fs ++ a ∷ [])
  more_move fs a f frame e =
      (frame, more_nth fs f a frame e, weaker Gone New frame.ui.state frame.ui.state (same frame.ui.state))

-- a server ended
mapped_at : (g : Frame → Frame) (fs : List Frame) (i : ℕ) (frame : Frame) → slice_get fs i ≡ Some frame
    → slice_get (map g fs) i ≡ Some (g frame)
mapped_at g [] i frame e = cc
mapped_at g (x ∷ fs) zero frame e = (let q : x ≡ frame = cc in ap (λ z. Some (g z)) q)
mapped_at g (x ∷ fs) (suc i) frame e = mapped_at g fs i frame e

mapped_nth : (g : Frame → Frame) (fs : List Frame) (n : ℕ) (frame : Frame) → nth fs n ≡ Some frame
    → nth (map g fs) n ≡ Some (g frame)
mapped_nth g fs zero frame e = cc
mapped_nth g fs (suc i) frame e = mapped_at g fs i frame e

pub freed_move : (inc : ℕ) (os : List Object) (fs : List Frame)
    → ((f : ℕ) (frame : Frame) → nth fs f ≡ Some frame → IsApart frame.ui.state)
    → AllMove (IsHosted inc os) NoTools fs (map (freed_frame inc os) fs)
freed_move inc os fs h f frame e = (
  freed_frame inc os frame,
  mapped_nth (freed_frame inc os) fs f frame e,
  freed_moves inc os frame.ui
      (h f frame e),
)
