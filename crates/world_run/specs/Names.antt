-- The names of files that a story keeps: that of the session document, and those that a stop kept.
use Rattle.std.specs.Prelude.{ℕ, Bool, true, false, List, not, Option, Some, None, if◌then◌else◌, ◌||◌, ◌==◌}
use Rattle.std.specs.List.{filter}
use Rattle.std.specs.Str.{bytes_eq}
use Rattle.message_values.specs.Found.{nth}
use Rattle.container_model.specs.Record.{Record}
use Rattle.container_model.specs.declared.record.Frame.{Frame}
use Rattle.world_model.specs.declared.event.Event.{Event}
use Rattle.world_model.specs.declared.event.Event.TheVariants as event
use Rattle.world_model.specs.Story.{is_among, made_name}

-- frame 1 bears the name of the session document, where there is such a frame
abbrev pub borne_by : Option Frame → List ℕ → List ℕ
borne_by None document = document
borne_by (Some frame) document = frame.name

-- the name of the session document, if there is one
abbrev pub document_of : Record → Bool → List ℕ → Option (List ℕ)
document_of r has document = if has then Some (borne_by (nth r.frames 1) document) else None

-- What a commit that was counted leaves: its frame bears the name of the file that it made.
abbrev pub struck : List ℕ → List (List ℕ) → List (List ℕ)
struck name kept = filter (λ (x : List ℕ). not (bytes_eq x name)) kept

abbrev pub struck_by : Option Frame → List (List ℕ) → List (List ℕ)
struck_by None kept = kept
struck_by (Some frame) kept = struck frame.name kept

-- What an event that has happened leaves, with these frames after it.
abbrev pub has_after : Event → Bool → Bool
has_after (event.Done f) has = has || (f == 1)
has_after (event.Resolve f true) has = has || (f == 1)
has_after (event.Resolve f false) has = has
has_after (event.Command c) has = has
has_after (event.Deliver p) has = has
has_after (event.Forge inc m) has = has
has_after (event.Crash session inc) has = has
has_after (event.Reap inc) has = has
has_after (event.Fail f) has = has
has_after (event.Open name width height) has = has
has_after (event.Scribble session inc act) has = has
has_after (event.Ask session inc act) has = has

abbrev pub kept_after : Event → List Frame → List (List ℕ) → List (List ℕ)
kept_after (event.Done f) frames kept = struck_by (nth frames f) kept
kept_after (event.Resolve f true) frames kept = struck_by (nth frames f) kept
kept_after (event.Resolve f false) frames kept = kept
kept_after (event.Command c) frames kept = kept
kept_after (event.Deliver p) frames kept = kept
kept_after (event.Forge inc m) frames kept = kept
kept_after (event.Crash session inc) frames kept = kept
kept_after (event.Reap inc) frames kept = kept
kept_after (event.Fail f) frames kept = kept
kept_after (event.Open name width height) frames kept = kept
kept_after (event.Scribble session inc act) frames kept = kept
kept_after (event.Ask session inc act) frames kept = kept

-- What a stop leaves: the name that frame 1 bore, or that of the commit that the disk has kept.
abbrev pub name_left : List ℕ → Option Frame → Bool → Option (List ℕ)
name_left fs None has = None
name_left fs (Some frame) has = if is_among fs 1 then Some (made_name frame) else if has then Some frame.name else None

abbrev pub or_else : Option (List ℕ) → List ℕ → List ℕ
or_else None document = document
or_else (Some name) document = name
