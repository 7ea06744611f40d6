-- How a save under another name goes on: objects give their storages away before the commit is asked for.
use Rattle.std.specs.Prelude.{◌+◌, ◌&&◌, ℕ, Bool, true, false, not, List, [], ◌∷◌, map, Option, Some, None, is_some}
use Rattle.std.specs.Prelude.{if◌then◌else◌}
use Rattle.message_values.specs.Found.{nth, set_nth}
use Rattle.message_values.specs.declared.operation.Operation.TheVariants.{HandsOff}
use Rattle.container_model.specs.declared.record.Frame.{Frame}
use Rattle.container_model.specs.declared.record.Link.{Link}
use Rattle.container_model.specs.declared.record.Object.{Object}
use Rattle.container_model.specs.declared.record.Phase.{Phase}
use Rattle.container_model.specs.declared.record.Phase.TheVariants.{Saving, HandingOff}
use Rattle.container_model.specs.Record.{Record, asked_all, asked_object}
use Rattle.container_model.specs.Grants.{Requested, further}
use Rattle.container_model.specs.Saves.{awaits, is_awaited_link}

-- a frame that is saving under another name hands off once each content is there
abbrev pub hands_off_at : Phase → Option (List ℕ) → Bool → Bool
hands_off_at Saving (Some name) waits = not waits
hands_off_at phase asked waits = false

abbrev pub hands_off : ℕ → List Object → Frame → Bool
hands_off f os frame = hands_off_at frame.phase frame.asked (awaits f os)

-- each of its objects that isn't passive is asked to give its storage away
abbrev pub handing_frame : Frame → Frame
handing_frame frame = record frame { phase = HandingOff }

abbrev pub handed_off : Record → ℕ → Frame → Requested
handed_off r f frame = record {
  rec = record r {
    frames = set_nth r.frames f (handing_frame frame);
    objects = map (asked_object f HandsOff) r.objects;
  };
  sent = asked_all f HandsOff r.objects;
}

abbrev pub unasked : Record → Requested
unasked r = record { rec = r; sent = [] }

abbrev pub hand_off_at : Record → ℕ → Option Frame → Requested
hand_off_at r f None = unasked r
hand_off_at r f (Some frame) = if hands_off f r.objects frame then handed_off r f frame else unasked r

-- the frame of this number
abbrev pub hand_off_in : Record → ℕ → Requested
hand_off_in r f = hand_off_at r f (nth r.frames f)

-- so many frames, one after the other, the first of them of number f
abbrev pub hand_off_each : ℕ → List Frame → Record → Requested
hand_off_each f [] r = unasked r
hand_off_each f (frame ∷ frames) r = further (hand_off_in r f) (hand_off_each (f + 1) frames (hand_off_in r f).rec)

-- all frames, by rising number
abbrev pub hand_off : Record → Requested
hand_off r = hand_off_each 1 r.frames r

-- An answer may be the last content that its frame's save waits for: none was there before, and one is there after it.
abbrev pub has_saved : Option Link → Bool
has_saved None = false
has_saved (Some l) = is_some l.saved

abbrev pub is_answered : Option Link → Option Link → Bool
is_answered before later = is_awaited_link before && has_saved later
