-- What is printed of the answers of events.
use Rattle.std.specs.Prelude.{◌+◌, ◌++◌, ℕ, Bool, true, false, List, [], ◌∷◌, Option, Some, None, codes}
use Rattle.std.specs.Fmt.{decimal}
use Rattle.std.specs.List.{flat_map}
use Rattle.text_spelling.specs.Written.{numbered}
use Rattle.message_values.specs.Refusals.{code_of}
use Rattle.message_values.specs.declared.refusal.Refusal.{Refusal}
use Rattle.container_model.specs.FaultNames.{fault_name}
use Rattle.world_model.specs.StopNames.{stop_name}
use Rattle.world_model.specs.declared.event.Stop.{Stop}
use Rattle.world_model.specs.declared.logs.Outcome.{Outcome}
use Rattle.server_model.specs.FaultNames.{fault_name as server_fault_name}
use Rattle.world_model.specs.declared.logs.EventAnswer.{EventAnswer}
use Rattle.world_model.specs.declared.logs.EventAnswer.TheVariants.{Took, Refused, Dropped}

-- each thing that an event led to stands behind a space
abbrev pub frame_text : Option ℕ → List ℕ
frame_text None = []
frame_text (Some f) = numbered (codes " frame ") f

abbrev pub object_text : ℕ → List ℕ
object_text o = numbered (codes " object ") o

abbrev pub server_text : Option ℕ → List ℕ
server_text None = []
server_text (Some inc) = numbered (codes " server ") inc

abbrev pub taken_text : Bool → List ℕ
taken_text true = codes " taken"
taken_text false = []

abbrev pub refused_text : Option Refusal → List ℕ
refused_text None = []
refused_text (Some refusal) = numbered (codes " refused ") (code_of refusal)

abbrev pub no_tools_text : Bool → List ℕ
no_tools_text true = codes " notools"
no_tools_text false = []

abbrev pub sent_text : ℕ → List ℕ
sent_text place = numbered (codes " sent ") place

abbrev pub commit_text : ℕ → List ℕ
commit_text f = numbered (codes " commit ") f

-- what was made, what became of a call, and what is asked of the world
abbrev pub made_text : Outcome → List ℕ
made_text o = frame_text o.frame ++ flat_map object_text o.objects ++ server_text o.server

abbrev pub told_text : Outcome → List ℕ
told_text o = taken_text o.taken ++ refused_text o.refused ++ no_tools_text o.no_tools

abbrev pub asked_text : Outcome → List ℕ
asked_text o = flat_map sent_text o.sent ++ flat_map commit_text o.commits

-- an event that led to nothing
abbrev pub or_ok : List ℕ → List ℕ
or_ok [] = codes " ok"
or_ok (c ∷ cs) = c ∷ cs

abbrev pub outcome_text : Outcome → List ℕ
outcome_text o = or_ok (made_text o ++ told_text o ++ asked_text o)

abbrev pub answer_text : EventAnswer → List ℕ
answer_text (Took outcome) = outcome_text outcome
answer_text (Refused fault) = 32 ∷ fault_name fault
answer_text (Dropped fault) = 32 ∷ server_fault_name fault

-- the line of event n
abbrev pub answer_line : ℕ → EventAnswer → List ℕ
answer_line n answer = decimal n ++ answer_text answer ++ 10 ∷ []

-- the lines of events, the first of which has number n
abbrev pub answer_lines : ℕ → List EventAnswer → List ℕ
answer_lines n [] = []
answer_lines n (answer ∷ answers) = answer_line n answer ++ answer_lines (n + 1) answers

-- the line of a stop before event n
abbrev pub stop_line : ℕ → Stop → List ℕ
stop_line n stop = codes "stop " ++ decimal n ++ 32 ∷ stop_name stop ++ 10 ∷ []
