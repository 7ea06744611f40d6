-- What a world without servers and stock refuses, the same world with them refuses; and what is made of the one is made
-- of the other.
use Rattle.std.proofs.Common.{ℕ, Bool, true, false, List, [], Option, Some, None, Result, Ok, Err, length}
use Rattle.std.proofs.Common.{if◌then◌else◌, rules}
use Rattle.std.specs.Prelude.{nat_le}
use Rattle.message_values.specs.Found.{nth}
use Rattle.container_model.specs.Record.{Took}
use Rattle.container_model.specs.Saves.{image, commit_done, resolve}
use Rattle.container_model.specs.declared.answer.FrameDocument.{FrameDocument}
use Rattle.container_model.specs.declared.record.Frame.{Frame}
use Rattle.container_model.specs.declared.fault.ContainerFault.{ContainerFault}
use Rattle.world_model.specs.declared.event.Stop.{Stop}
use Rattle.world_model.specs.declared.event.Stop.TheVariants.{NotEnabled, OutOfStock, EventLimit, NoMemory}
use Rattle.world_model.specs.World.{World, StopsFor, limited, done, only_taken}
use Rattle.world_model.specs.World.{resolved, MOST_EVENTS, Choice, done_with}

abbrev pub emptied : World → World
emptied w = record w { instances = []; stock = [] }

limit_same : (b : Bool) (u v : World) (stop : Stop) → StopsFor (if b then Err EventLimit else Ok u) stop
    → StopsFor (if b then Err EventLimit else Ok v) stop
limit_same true u v stop h = h
limit_same false u v NotEnabled h = cc
limit_same false u v OutOfStock h = cc
limit_same false u v EventLimit h = cc
limit_same false u v NoMemory h = search rules

with_same : (w : World) (f : ℕ) (bytes : List ℕ) (frame : Option Frame) (saved : Result FrameDocument ContainerFault)
    (told : Result Took ContainerFault) (stop : Stop)
    → StopsFor (limited (emptied w) (done_with (emptied w) f bytes frame saved told)) stop
    → StopsFor (limited w (done_with w f bytes frame saved told)) stop
with_same w f bytes None saved told stop h = h
with_same w f bytes (Some frame) (Err fault) told stop h = h
with_same w f bytes (Some frame) (Ok saved) (Err fault) stop h = h
with_same w f bytes (Some frame) (Ok saved) (Ok t) stop h = limit_same (nat_le MOST_EVENTS (length w.answers)) _ _
    stop h

pub done_refused : (w : World) (f : ℕ) (stop : Stop)
    → ((bytes : List ℕ) → StopsFor (limited (emptied w) (done (emptied w) f bytes)) stop) → (choice : Choice)
    → StopsFor (limited w (done w f choice.file)) stop
done_refused w f stop h choice = with_same w f choice.file (nth w.rec.frames f) (image w.rec f)
    (commit_done w.rec f) stop (h choice.file)

pub kept_refused : (w : World) (f : ℕ) (stop : Stop)
    → ((bytes : List ℕ) → StopsFor (limited (emptied w) (resolved (emptied w) f true bytes)) stop)
    → (choice : Choice) → StopsFor (limited w (resolved w f true choice.file)) stop
kept_refused w f stop h choice = with_same w f choice.file (nth w.rec.frames f) (image w.rec f)
    (resolve w.rec f true) stop (h choice.file)

-- the same of a step of the container that happens only where it is taken
pub only_refused : (w : World) (told : Result Took ContainerFault) (stop : Stop)
    → StopsFor (limited (emptied w) (only_taken (emptied w) told)) stop
    → StopsFor (limited w (only_taken w told)) stop
only_refused w (Err fault) stop h = h
only_refused w (Ok t) stop h = limit_same (nat_le MOST_EVENTS (length w.answers)) _ _ stop h
