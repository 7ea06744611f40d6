-- Verbs, closes and asks: a frame's grant is asked for or offered back, so nobody loses it and nobody holds it newly.
use Rattle.std.proofs.Common.{◌≡◌, ◌+◌, ℕ, Bool, true, false, List, [], ◌∷◌, Option, Some, None, Ok, Err, refl, sym}
use Rattle.std.proofs.Common.{subst, if◌then◌else◌}
use Rattle.message_values.specs.Found.{find, nth, set_nth}
use Rattle.message_values.specs.declared.operation.Operation.TheVariants.{UiDeactivate}
use Rattle.object_state.specs.declared.verbs.Step.{Step}
use Rattle.object_state.specs.declared.grant_states.Claim.{Claim}
use Rattle.object_state.specs.Grants as grant
use Rattle.container_model.specs.declared.record.Link.{Link}
use Rattle.container_model.specs.declared.record.Object.{Object}
use Rattle.container_model.specs.declared.record.Frame.{Frame}
use Rattle.container_model.specs.declared.fault.ContainerFault.TheVariants.{Stale}
use Rattle.container_model.specs.declared.command.Command.{Command}
use Rattle.container_model.specs.Commands.{kind_of, new_object, on_command, start_made}
use Rattle.container_queues.specs.Steady.{Steady}
use Rattle.container_steady.specs.Made.{IsMade, makes_activation, makes_edit, makes_end, makes_fewer, makes_frame}
use Rattle.container_steady.specs.Made.{makes_nothing, makes_object, makes_save, makes_server, makes_steps}
use Rattle.container_steady.specs.Made.{makes_taking, run_by}
use Rattle.container_steady.proofs.Taken.{command_made}
use Rattle.container_model.specs.Record.{Record, Took, is_object, is_linked, is_alive, counts_none, with_frame, acts}
use Rattle.container_model.specs.Record.{sends}
use Rattle.container_model.specs.Grants.{moved, grant_of}
use Rattle.container_model.specs.Verbs.{gives_up, left, claim_of, leaving_made, holder_of, revoked_at, claimed, revoked}
use Rattle.container_model.specs.Verbs.{taking_made}
use Rattle.container_model.specs.Messages.{is_held_by, relieved, ask_framed, ask_found, on_ask}
use Rattle.world_grants.specs.Grants.{NoClaim, NoTools}
use Rattle.world_grants.proofs.States.{asked}
use Rattle.world_grants.proofs.Objects.{AreKept, all_kept, with_found, request_kept, request_frames, kept_stay}
use Rattle.world_grants.proofs.Objects.{more_stay, without_stay}
use Rattle.world_grants.proofs.Frames.{AllMove, none_move, one_moves, more_move}
use Rattle.world_grants.proofs.Commands.{Leaves, leaves_all, linked_leaves, save_leaves}

-- a frame's grant is asked for
pub asked_moves : (r : Record) (f : ℕ) (frame : Frame) (claim : Claim) → nth r.frames f ≡ Some frame
    → AllMove NoClaim NoTools r.frames (set_nth r.frames f (moved frame (grant.Ask claim)))
asked_moves r f frame claim e = one_moves NoClaim NoTools r.frames f frame (moved frame (grant.Ask claim)) e
    (asked frame.ui.state claim)

-- the frame is given up, or isn't had
left_as : (r : Record) (frame : Frame) (o : Object) (claim : Claim) (b : Bool) → nth r.frames o.frame ≡ Some frame
    → ((if b then with_frame r o.frame (moved frame (grant.Ask claim)) else r).objects ≡ r.objects)
    × AllMove NoClaim NoTools r.frames (if b then with_frame r o.frame (moved frame (grant.Ask claim))
    else r).frames
left_as r frame o claim true e = (refl, asked_moves r o.frame frame claim e)
left_as r frame o claim false e = (refl, none_move NoClaim NoTools r.frames)

leaving_leaves : (r : Record) (n : ℕ) (frame : Frame) (o : Object) (l : Link) (steps : List Step)
    → find (is_object n) r.objects ≡ Some o → nth r.frames o.frame ≡ Some frame
    → Leaves r (leaving_made r frame o l steps).rec
leaving_leaves r n frame o l steps f at =
    let u = left r frame o l steps in
    let h = left_as r frame o (claim_of o l (grant_of frame.ui.state)) (gives_up steps) at in (
      kept_stay r.objects _ (with_found n r.objects u.objects o _
          (subst (AreKept r.objects) (sym h.0) (all_kept r.objects)) f (record { number = refl; frame = refl })),
      h.1,
    )

-- the frame is taken, from whoever holds it
revoked_kept : (u : Record) (n : Option ℕ) → AreKept u.objects (revoked_at u n).rec.objects
    × ((revoked_at u n).rec.frames ≡ u.frames)
revoked_kept u None = (all_kept u.objects, refl)
revoked_kept u (Some n) = (request_kept u n UiDeactivate, request_frames u n UiDeactivate)

taking_leaves : (r : Record) (n : ℕ) (frame : Frame) (o : Object) (l : Link) (steps : List Step)
    → find (is_object n) r.objects ≡ Some o → nth r.frames o.frame ≡ Some frame
    → Leaves r (taking_made r frame o l steps).rec
taking_leaves r n frame o l steps f at =
    let u = claimed r frame o l in
    let h = revoked_kept u (holder_of frame.ui.state) in (
      kept_stay r.objects _ (with_found n r.objects (revoked r frame o l).rec.objects o _ h.0 f
          (record { number = refl; frame = refl })),
      subst (AllMove NoClaim NoTools r.frames) (sym h.1) (asked_moves r o.frame frame (claim_of o l (r.last_g + 1)) at),
    )

-- whatever a command makes leaves frames to whoever has them
made_leaves : (r : Record) (ns : List ℕ) (t : Took) → Steady r → IsMade r t ns → Leaves r t.rec
made_leaves r _ t s (makes_nothing made) = subst (λ (v : Took). Leaves r v.rec) made (leaves_all r r refl refl)
made_leaves r _ t s (makes_frame name w h new made) = subst (λ (v : Took). Leaves r v.rec) made
    (kept_stay r.objects r.objects (all_kept r.objects), more_move NoClaim NoTools r.frames _)
made_leaves r _ t s (makes_object f kind area at made) = subst (λ (v : Took). Leaves r v.rec) made (
  more_stay r.objects (new_object (r.last_object + 1) f (kind_of kind) area ∷ []) (refl, tt),
  none_move NoClaim NoTools r.frames,
)
made_leaves r _ t s (makes_fewer n at passive made) = subst (λ (v : Took). Leaves r v.rec) made
    (without_stay r.objects at.object.number s.order, none_move NoClaim NoTools r.frames)
made_leaves r _ t s (makes_server started made) = subst (λ (v : Took). Leaves r v.rec) made
    (leaves_all r (start_made r).rec refl refl)
made_leaves r _ t s (makes_end inc alive made) = subst (λ (v : Took). Leaves r v.rec) made (leaves_all r r refl refl)
made_leaves r _ t s (makes_activation n inc at run made) = subst (λ (v : Took). Leaves r v.rec) made (
  linked_leaves r n at.object _ at.found (record { number = refl; frame = refl }),
  none_move NoClaim NoTools
      r.frames,
)
made_leaves r _ t s (makes_edit n bytes go small has made) = subst (λ (v : Took). Leaves r v.rec) made (
  linked_leaves r n go.at.object _ go.at.found (record { number = refl; frame = refl }),
  none_move NoClaim
      NoTools r.frames,
)
made_leaves r _ t s (makes_save f raised name at raising other made) =
    subst (λ (v : Took). Leaves r v.rec) made (save_leaves r f at.frame raised name at.there)
made_leaves r _ t s (makes_steps n go ts has row made) = subst (λ (v : Took). Leaves r v.rec) made
    (leaving_leaves r n go.at.frame go.at.object go.link ts go.at.found go.at.inside)
made_leaves r _ t s (makes_taking n go ts taking made) = subst (λ (v : Took). Leaves r v.rec) made
    (taking_leaves r n go.at.frame go.at.object go.link ts go.at.found go.at.inside)

pub command_leaves : (r : Record) (c : Command) (t : Took) → Steady r → on_command r c ≡ Ok t → Leaves r t.rec
command_leaves r c t s e = made_leaves r (run_by c) t s (command_made r c t e)

-- the holder asks to be relieved of its frame
relieved_leaves : (r : Record) (o : Object) (act g : ℕ) (frame : Frame) → nth r.frames o.frame ≡ Some frame
    → Leaves r (relieved r o act g frame).rec
relieved_leaves r o act g frame at =
    let u = with_frame r o.frame (moved frame (grant.Ask (record { object = o.number; act = act; g = g }))) in (
      kept_stay r.objects _ (request_kept u o.number UiDeactivate),
      subst (AllMove NoClaim NoTools r.frames) (sym (request_frames u o.number UiDeactivate))
          (asked_moves r o.frame frame (record { object = o.number; act = act; g = g }) at),
    )

ask_leaves_framed : (r : Record) (o : Object) (act g : ℕ) (frame : Option Frame) (t : Took)
    → nth r.frames o.frame ≡ frame → ask_framed r o act g frame ≡ Ok t → Leaves r t.rec
ask_leaves_framed r o act g None t at e = cc
ask_leaves_framed r o act g (Some frame) t at e = by_holder (is_held_by act g frame.ui.state) e
  where
    made : Took
    made = counts_none (relieved r o act g frame).rec (acts (sends (relieved r o act g frame).sent))

    by_holder : (b : Bool) → (if b then Ok made else Err Stale) ≡ Ok t → Leaves r t.rec
    by_holder true k = (let is : made ≡ t = cc in
        subst (λ (v : Took). Leaves r v.rec) is (relieved_leaves r o act g frame at))
    by_holder false k = cc

ask_leaves_found : (r : Record) (act g : ℕ) (o : Option Object) (t : Took) → ask_found r act g o ≡ Ok t → Leaves r t.rec
ask_leaves_found r act g None t e = cc
ask_leaves_found r act g (Some o) t e = ask_leaves_framed r o act g (nth r.frames o.frame) t refl e

pub ask_leaves : (r : Record) (inc act g : ℕ) (t : Took) → on_ask r inc act g ≡ Ok t → Leaves r t.rec
ask_leaves r inc act g t e = at (is_alive r inc) e
  where
    at : (b : Bool) → (if b then ask_found r act g (find (is_linked inc act) r.objects) else Err Stale) ≡ Ok t
        → Leaves r t.rec
    at true k = ask_leaves_found r act g (find (is_linked inc act) r.objects) t k
    at false k = cc
