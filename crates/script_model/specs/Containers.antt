-- The container of a history: what it was given, in order, and nothing else, moves it.
use Rattle.std.specs.Prelude.{◌≡◌, ◌≢◌, ℕ, List, [], ◌∷◌, Result, Ok, Err}
use Rattle.container_model.specs.Record.{Record, Took, empty}
use Rattle.container_model.specs.Commands.{on_command}
use Rattle.container_model.specs.Messages.{on_message, on_reap}
use Rattle.container_model.specs.Saves.{commit_done, commit_failed, resolve}
use Rattle.container_model.specs.Opens.{Given as Read, opened}
use Rattle.container_model.specs.declared.fault.ContainerFault.{ContainerFault}
use Rattle.script_model.specs.declared.step.Step.{Step}
use Rattle.script_model.specs.declared.step.Step.TheVariants as step
use Rattle.script_model.specs.Events.{Event, Started, Connected, Sent, Heard, Ended, Opened, Found, Shut, Stepped}

-- the greatest number that a script's container draws
abbrev pub MOST_NUMBERS : ℕ
MOST_NUMBERS = 1000000

-- a record after a step, which stays where that is refused
abbrev pub moved : Record → Result Took ContainerFault → Record
moved r (Ok took) = took.rec
moved r (Err fault) = r

-- A container's record now, and before what it was given last.
pub record Given : Type 0 where
  pub before : Record
  pub now : Record

abbrev pub gives : Given → Result Took ContainerFault → Given
gives g told = record { before = g.now; now = moved g.now told }

abbrev pub given : Given → Step → Given
given g (step.Begins n) = g
given g (step.Command c) = gives g (on_command g.now c)
given g (step.Message inc m) = gives g (on_message g.now (record { session = g.now.session; inc = inc }) m)
given g (step.Reap inc) = gives g (on_reap g.now inc)
given g (step.Committed f) = gives g (commit_done g.now f)
given g (step.Failed f) = gives g (commit_failed g.now f)
given g (step.Resolved f is_kept) = gives g (resolve g.now f is_kept)
given g (step.Open name w h session objects) =
    gives g (opened g.now name w h (Read.Holding (record { session = session; objects = objects })))
given g step.NoMemory = record { before = g.before; now = g.before }

abbrev pub given_by : {D : Type 0} → List (Event D) → Given
given_by [] = record { before = empty MOST_NUMBERS; now = empty MOST_NUMBERS }
given_by (Stepped step ∷ es) = given (given_by es) step
given_by (Started session inc ok ∷ es) = given_by es
given_by (Connected inc ok ∷ es) = given_by es
given_by (Sent inc bytes ok ∷ es) = given_by es
given_by (Heard inc bytes ok ∷ es) = given_by es
given_by (Ended inc ∷ es) = given_by es
given_by (Opened name disk ∷ es) = given_by es
given_by (Found name disk ∷ es) = given_by es
given_by (Shut name disk ∷ es) = given_by es

-- the container's record: its step applied to the commands, to the messages, each with the link that it came on, to the
-- ends of servers, to what became of commits and to the documents of files that are opened, in their order, from a
-- container without frames, objects and servers
abbrev pub record_of : {D : Type 0} → List (Event D) → Record
record_of es = (given_by es).now

-- Each server is started in the session of its container, which has one then.
abbrev pub AreStarted : {D : Type 0} → List (Event D) → Type 0
AreStarted [] = Unit {0}
AreStarted (Started session inc ok ∷ es) = (session ≡ (record_of es).session) × (session ≢ 0) × AreStarted es
AreStarted (Connected inc ok ∷ es) = AreStarted es
AreStarted (Sent inc bytes ok ∷ es) = AreStarted es
AreStarted (Heard inc bytes ok ∷ es) = AreStarted es
AreStarted (Ended inc ∷ es) = AreStarted es
AreStarted (Opened name disk ∷ es) = AreStarted es
AreStarted (Found name disk ∷ es) = AreStarted es
AreStarted (Shut name disk ∷ es) = AreStarted es
AreStarted (Stepped step ∷ es) = AreStarted es
