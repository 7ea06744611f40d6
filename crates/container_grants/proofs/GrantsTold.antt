-- What an answer tells of a frame's grant, in the record.
use Rattle.std.proofs.Common.{◌≡◌, ℕ, zero, suc, true, false, List, [], ◌∷◌, Option, Some, None, Ok, refl, sym, ap}
use Rattle.std.proofs.Common.{eq-eqb, slice_get, slice_set, if◌then◌else◌}
use Rattle.std.specs.Prelude.{option_to_list}
use Rattle.message_values.specs.Found.{nth, set_nth}
use Rattle.object_state.specs.declared.grant_states.Claim.{Claim}
use Rattle.object_state.specs.declared.grant_states.GrantState.{GrantState}
use Rattle.object_state.specs.declared.grant_states.GrantState.TheVariants.{Free, Granting, Held, Revoking}
use Rattle.object_state.specs.declared.grant_states.Tools.{Tools}
use Rattle.object_state.specs.Frames.{after, kept}
use Rattle.object_state.specs.Grants.{Event, Granted, Revoked, table, waiting, who}
use Rattle.container_links.specs.Relieving.{given_by, gives_up}
use Rattle.container_model.specs.declared.grants.Tells.{Tells}
use Rattle.container_model.specs.declared.grants.Tells.TheVariants.{Gets, GivesUp}
use Rattle.container_model.specs.declared.record.Frame.{Frame}
use Rattle.container_model.specs.Grants.{Regranted, event_of, grant_of, is_by, moved, passed_to, regranted}
use Rattle.container_model.specs.Grants.{regranted_by, regranted_in}
use Rattle.container_model.specs.Messages.{Replied}
use Rattle.container_model.specs.Record.{Record, with_frame}
use Rattle.container_grants.specs.Granted.{claims_if, claims_of, lacks_by, moved_by, told_frames, told_frames_in}
use Rattle.container_grants.specs.Granted.{told_space_in}
use Rattle.container_grants.proofs.GrantsEach.{grant_each_is, granted_objects, granted_sent}

-- who gets a frame that an answer moves
abbrev passed_by : Frame → Option Event → List Claim
passed_by frame None = []
passed_by frame (Some e) = passed_to frame.ui.state (after frame.ui e).state

abbrev pub claims_told : Option Tells → Option Frame → List Claim
claims_told None frame = []
claims_told (Some told) None = []
claims_told (Some told) (Some frame) = passed_by frame (event_of frame.ui.state told)

abbrev pub told_record : Record → ℕ → Option Tells → Regranted
told_record q f told = record {
  rec = record q {
    frames = told_frames f told q.frames;
    objects = granted_objects q.objects (claims_told told (nth q.frames f));
  };
  sent = granted_sent q.objects (claims_told told (nth q.frames f));
  no_tools = told_space_in told (nth q.frames f);
}

-- a frame that is put where it stands
set_kept : {A : Type 0} (xs : List A) (i : ℕ) (x : A) → slice_get xs i ≡ Some x → slice_set xs i x ≡ xs
set_kept [] i x e = cc
set_kept (y ∷ ys) zero x e = (let same : y ≡ x = cc in ap (λ z. z ∷ ys) (sym same))
set_kept (y ∷ ys) (suc i) x e = ap (λ zs. y ∷ zs) (set_kept ys i x e)

nth_kept : {A : Type 0} (xs : List A) (n : ℕ) (x : A) → nth xs n ≡ Some x → set_nth xs n x ≡ xs
nth_kept xs zero x e = refl
nth_kept xs (suc i) x e = set_kept xs i x e

moved_is : (q : Record) (f : ℕ) (frame : Frame) (e : Option Event) → nth q.frames f ≡ Some frame
    → regranted_by q f frame e ≡ record {
      rec = record q {
        frames = set_nth q.frames f (moved_by frame e);
        objects = granted_objects q.objects (passed_by frame e);
      };
      sent = granted_sent q.objects (passed_by frame e);
      no_tools = lacks_by frame e;
    }
moved_is q f frame None at = ap {A = List Frame} {B = Regranted}
    (λ fs. record { rec = record q { frames = fs }; sent = []; no_tools = false })
    (sym (nth_kept q.frames f frame at))
moved_is q f frame (Some e) at =
    rw (grant_each_is (passed_to frame.ui.state (after frame.ui e).state) (with_frame q f (moved frame e))) refl

found_is : (q : Record) (f : ℕ) (told : Tells) (found : Option Frame) → nth q.frames f ≡ found
    → regranted_in q f told found ≡ record {
      rec = record q {
        frames = told_frames_in f told q.frames found;
        objects = granted_objects q.objects (claims_told (Some told) found);
      };
      sent = granted_sent q.objects (claims_told (Some told) found);
      no_tools = told_space_in (Some told) found;
    }
found_is q f told None at = refl
found_is q f told (Some frame) at = moved_is q f frame (event_of frame.ui.state told) at

pub regranted_is : (q : Record) (f : ℕ) (told : Option Tells) → regranted q f told ≡ told_record q f told
regranted_is q f None = refl
regranted_is q f (Some told) = found_is q f told (nth q.frames f) refl

-- a frame that is given up passes to whoever waits, and one that an object gets to nobody
passed_gets : (state : GrantState) (g : ℕ) (tools : Tools)
    → passed_to state (kept state (table state (Granted g tools))) ≡ []
passed_gets Free g tools = refl
passed_gets (Granting claim) g tools = refl
passed_gets (Held holder had) g tools = refl
passed_gets (Revoking holder None) g tools = refl
passed_gets (Revoking holder (Some next)) g tools = refl

passed_gives : (state : GrantState) → passed_to state (kept state (table state (Revoked (grant_of state))))
    ≡ option_to_list (waiting state)
passed_gives Free = refl
passed_gives (Granting claim) = refl
passed_gives (Held holder had) = refl
passed_gives (Revoking holder None) = refl
passed_gives (Revoking holder (Some next)) = rw (eq-eqb holder.g holder.g refl) refl

passed_given : (act : ℕ) (frame : Frame) → passed_by frame (event_of frame.ui.state (GivesUp act))
    ≡ claims_of act frame.ui.state
passed_given act frame =
    elim (is_by act (who frame.ui.state)) as (λ b. passed_by frame
    (if b then Some (Revoked (grant_of frame.ui.state)) else None)
    ≡ (if b then option_to_list (waiting frame.ui.state) else [])) [
      | true ↦ passed_gives frame.ui.state
      | false ↦ refl
    ]

claims_same : (told : Option Tells) (frame : Option Frame) → claims_told told frame ≡ claims_if (given_by told) frame
claims_same None frame = refl
claims_same (Some (Gets g tools)) None = refl
claims_same (Some (Gets g tools)) (Some frame) = passed_gets frame.ui.state g tools
claims_same (Some (GivesUp act)) None = refl
claims_same (Some (GivesUp act)) (Some frame) = passed_given act frame

pub claims_are : (replied : Replied) (frame : Option Frame) → claims_told replied.grant frame
    ≡ claims_if (gives_up (Ok replied)) frame
claims_are replied frame = claims_same replied.grant frame
