-- Worked runs: objects that take the menus and border of their frame in turn, that offer them back, and that lose them.
use Rattle.std.specs.Prelude.{◌≡◌, ◌++◌, ℕ, pos, negsuc, true, List, [], ◌∷◌, Ok, Result, codes}
use Rattle.object_state.specs.declared.operations.CloseOption.TheVariants.{NoSave}
use Rattle.object_core.specs.Kinds.{Note, Table, Drawing}
use Rattle.tree_streams.specs.declared.area.Area.{Area}
use Rattle.container_model.specs.declared.command.Command.TheVariants.{New, Insert, Session, Start, Run, Edit, Save}
use Rattle.container_model.specs.declared.command.Command.TheVariants.{Close, Verb}
use Rattle.container_model.specs.declared.command.ObjectKind.TheVariants as chosen
use Rattle.container_model.specs.declared.fault.ContainerFault.TheVariants.{Busy, NotRunning, Stale, WrongState}
use Rattle.world_model.specs.declared.event.Event.{Event}
use Rattle.world_model.specs.declared.event.Event.TheVariants.{Command, Deliver, Crash, Reap, Done, Scribble, Ask}
use Rattle.world_model.specs.declared.event.Stop.{Stop}
use Rattle.world_model.specs.declared.logs.EventAnswer.{EventAnswer}
use Rattle.world_model.specs.declared.logs.EventAnswer.TheVariants.{Took, Refused, Dropped}
use Rattle.server_model.specs.declared.fault.ServerFault.TheVariants.{Ignored}
use Rattle.world_model.specs.World.{World, empty_world, quiet_outcome}
use Rattle.world_model.specs.Runs.{answered, begun, begun_answers, commit, edited, frame, lines, new_note, object, ok}
use Rattle.world_model.specs.Runs.{ran, reported, sent, server, taken}

abbrev pub from_stock : List Event → Result World Stop
from_stock es = ran (Ok (empty_world 1000 (Note ∷ Table ∷ Drawing ∷ Note ∷ []))) es

abbrev pub two_sent : ℕ → ℕ → EventAnswer
two_sent p q = Took (record quiet_outcome { sent = p ∷ q ∷ [] })

abbrev pub no_tools : EventAnswer
no_tools = Took (record quiet_outcome { no_tools = true })

-- the verbs that show an object with menus and border, in a window of its own, and hide it
abbrev pub activating : ℕ → Event
activating o = Command (Verb o (negsuc 3))

abbrev pub opening : ℕ → Event
opening o = Command (Verb o (negsuc 1))

abbrev pub hiding : ℕ → Event
hiding o = Command (Verb o (negsuc 2))

abbrev pub area : ℕ → ℕ → ℕ → ℕ → Area
area x y w h = record { x = x; y = y; w = w; h = h }

-- A note and a table run in one frame; the note gets its menus and border.
abbrev pub both_run : List Event
both_run = begun ++ new_note ∷ Command (Insert 1 chosen.Table (area 0 5 20 5)) ∷ Command Start ∷ Command (Run 1 1)
    ∷ Deliver 1 ∷ Deliver 2 ∷ Command (Run 2 1) ∷ Deliver 3 ∷ Deliver 4 ∷ []

abbrev pub note_held : List Event
note_held = both_run ++ activating 1 ∷ Deliver 5 ∷ Deliver 6 ∷ Deliver 7 ∷ Deliver 8 ∷ []

-- The table asks for them: the note gives them up first, and until it has, no other verb that leads to them is taken.
abbrev pub table_held : List Event
table_held = note_held ++ activating 2 ∷ Deliver 10 ∷ Deliver 11 ∷ activating 1 ∷ Deliver 9 ∷ Deliver 12
    ∷ Deliver 12 ∷ Deliver 9 ∷ Deliver 14 ∷ Deliver 13 ∷ Deliver 15 ∷ []

pub record WorkedTurns : Type 0 where
  pub answers : answered (from_stock table_held) ≡ begun_answers ++ object 1 ∷ object 2 ∷ server 1 ∷ sent 1 ∷ sent 2
      ∷ ok ∷ sent 3 ∷ sent 4 ∷ ok ∷ sent 5 ∷ sent 6 ∷ sent 7 ∷ sent 8 ∷ ok ∷ two_sent 9 10 ∷ sent 11 ∷ ok
      ∷ Refused Busy ∷ sent 12 ∷ sent 13 ∷ Refused Stale ∷ sent 14 ∷ Refused Stale ∷ sent 15 ∷ ok ∷ []
  pub told : reported (from_stock table_held) ≡ lines (
      codes "session 1"
      ∷ codes "frame 1 a Held 2 k 1 stored"
      ∷ codes "object 1 frame 1 Note InPlaceActive Normal act 1 s 1 -"
      ∷ codes "object 2 frame 1 Table UiActive Normal act 2 s 1 -"
      ∷ codes "holds server 1 act 2 grant 2"
      ∷ [])

-- A server that crashes while its note holds the frame: nobody holds it any more, and the reap frees it.
abbrev pub held_lost : List Event
held_lost = edited ++ Scribble 1 1 1 ∷ Deliver 5 ∷ Command (Edit 1 (codes "i 2 c")) ∷ Deliver 6 ∷ Deliver 7
    ∷ Scribble 1 1 1 ∷ Deliver 8 ∷ activating 1 ∷ Deliver 9 ∷ Deliver 10 ∷ Deliver 11 ∷ Deliver 12 ∷ Crash 1 1 ∷ []

abbrev pub held_again : List Event
held_again = held_lost ++ Reap 1 ∷ Command Start ∷ Command (Run 1 2) ∷ Deliver 13 ∷ Deliver 14 ∷ Deliver 12 ∷ []

pub record WorkedFreeing : Type 0 where
  pub answers : answered (from_stock held_again) ≡ answered (from_stock edited) ++ sent 5 ∷ taken ∷ sent 6 ∷ sent 7 ∷ ok
      ∷ sent 8 ∷ taken ∷ sent 9 ∷ sent 10 ∷ sent 11 ∷ sent 12 ∷ ok ∷ ok ∷ ok ∷ server 2 ∷ sent 13 ∷ sent 14 ∷ ok
      ∷ Refused Stale ∷ []
  pub crashed : reported (from_stock held_lost) ≡ lines (
      codes "session 1"
      ∷ codes "frame 1 a Held 1 k 1 stored"
      ∷ codes "object 1 frame 1 Note UiActive Normal act 1 s 1 Text=616263"
      ∷ [])
  pub told : reported (from_stock held_again) ≡ lines (
      codes "session 1"
      ∷ codes "frame 1 a Free k 1 stored"
      ∷ codes "object 1 frame 1 Note Running Normal act 2 s 1 Text=616263"
      ∷ [])

-- A drawing whose border leaves no room gets the frame without one, and is told so; then it offers the frame back,
-- once.
abbrev pub drawn_in : ℕ → List Event
drawn_in w = Command (New (codes "a") w 10) ∷ Command Session ∷ Done 1
    ∷ Command (Insert 1 chosen.Drawing (area 0 0 3 3)) ∷ Command Start ∷ Command (Run 1 1) ∷ Deliver 1 ∷ Deliver 2
    ∷ Command (Verb 1 (pos 0)) ∷ Deliver 3 ∷ Deliver 4 ∷ Deliver 5 ∷ Deliver 6 ∷ []

abbrev pub offered : List Event
offered = drawn_in 3 ++ Ask 1 1 1 ∷ Deliver 7 ∷ Deliver 8 ∷ Deliver 9 ∷ Deliver 7 ∷ Ask 1 1 1 ∷ []

pub record WorkedOffer : Type 0 where
  pub answers : answered (from_stock offered) ≡ begun_answers ++ object 1 ∷ server 1 ∷ sent 1 ∷ sent 2 ∷ ok ∷ sent 3
      ∷ sent 4 ∷ sent 5 ∷ sent 6 ∷ no_tools ∷ sent 7 ∷ sent 8 ∷ sent 9 ∷ ok ∷ Refused Stale ∷ Dropped Ignored ∷ []
  pub held : reported (from_stock (drawn_in 3)) ≡ lines (
      codes "session 1"
      ∷ codes "frame 1 a Held 1 k 1 stored"
      ∷ codes "object 1 frame 1 Drawing UiActive Normal act 1 s 1 -"
      ∷ codes "holds server 1 act 1 grant 1"
      ∷ [])
  pub wide : answered (from_stock (drawn_in 4)) ≡ begun_answers ++ object 1 ∷ server 1 ∷ sent 1 ∷ sent 2 ∷ ok ∷ sent 3
      ∷ sent 4 ∷ sent 5 ∷ sent 6 ∷ ok ∷ []

-- A save of a note that holds the frame; then it is closed: it gives the frame up, is hidden, and ends. Verbs that it
-- has none of are refused, and one that has nothing to do asks nothing.
abbrev pub held_closed : List Event
held_closed = note_held ++ activating 1 ∷ Command (Verb 1 (pos 7)) ∷ opening 2 ∷ Deliver 9 ∷ Deliver 10 ∷ opening 2
    ∷ activating 2
    ∷ Command (Save 1) ∷ Deliver 11 ∷ Deliver 12 ∷ Deliver 13 ∷ Deliver 14 ∷ Done 1 ∷ Deliver 15 ∷ Deliver 16
    ∷ Deliver 17 ∷ Deliver 18
    ∷ Command (Close 1 NoSave) ∷ Deliver 19 ∷ Deliver 20 ∷ Deliver 21 ∷ Deliver 22 ∷ Deliver 23 ∷ Deliver 24
    ∷ hiding 1 ∷ []

pub record WorkedHeldClose : Type 0 where
  pub answers : answered (from_stock held_closed) ≡ answered (from_stock note_held) ++ ok ∷ Refused WrongState ∷ sent 9
      ∷ sent 10 ∷ ok ∷ ok ∷ Refused WrongState
      ∷ two_sent 11 12 ∷ sent 13 ∷ sent 14 ∷ ok ∷ commit 1 ∷ two_sent 15 16 ∷ sent 17 ∷ sent 18 ∷ ok ∷ ok
      ∷ sent 19 ∷ sent 20 ∷ sent 21 ∷ sent 22 ∷ sent 23 ∷ sent 24 ∷ ok ∷ Refused NotRunning ∷ []
  pub told : reported (from_stock held_closed) ≡ lines (
      codes "session 1"
      ∷ codes "frame 1 a Free k 2 stored"
      ∷ codes "object 1 frame 1 Note Passive Text="
      ∷ codes "object 2 frame 1 Table Open Normal act 2 s 2 Cells="
      ∷ codes "done container 1 2"
      ∷ codes "done container 2 2"
      ∷ codes "done server 1 2"
      ∷ codes "done server 2 2"
      ∷ [])

pub record WorkedGrants : Type 0 where
  pub turns : WorkedTurns
  pub freeing : WorkedFreeing
  pub offer : WorkedOffer
  pub held_close : WorkedHeldClose
