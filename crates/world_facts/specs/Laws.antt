-- Laws: each shape of change keeps all facts.
use Rattle.std.specs.Prelude.{◌≡◌, ◌+◌, ◌++◌, ◌∷◌, ℕ, List, [], length, Option, option_map}
use Rattle.message_values.specs.declared.message.Said.{Said}
use Rattle.message_values.specs.declared.message.Said.TheVariants.{Call, Reply}
use Rattle.message_values.specs.declared.operation.Operation.{Operation}
use Rattle.message_values.specs.declared.answer.Answer.{Answer}
use Rattle.server_model.specs.Server.{Activation}
use Rattle.server_model.specs.declared.counted.Counted.{Counted}
use Rattle.container_model.specs.declared.answer.Done.{Done}
use Rattle.world_model.specs.declared.logs.ServerDone.{ServerDone}
use Rattle.world_model.specs.declared.logs.Sent.{Sent}
use Rattle.world_model.specs.World.{view_of, in_session}
use Rattle.world_model.specs.Safe.{Among}
use Rattle.world_facts.specs.Words.{Links, Acts, Lives}
use Rattle.world_facts.specs.Facts.{Facts}
use Rattle.world_facts.specs.Shapes.{AsksAll, IsQuiet, CountsAll, Settles, SendsNext, Begins, EndsSome, StartsOrEnds}
use Rattle.world_facts.specs.Shapes.{IsChanged, ActsOn, IsReady, entries_of, Tells, IsOwn}
use Rattle.world_facts.specs.Views.{Views, Grows, LeavesCloses}

-- the pending operation of one object was answered
abbrev pub SettlingKeeps : Type 0
SettlingKeeps = (hostile : List ℕ) (links after : Links) (acts : Acts) (lives : Lives) (sent : List Said)
    (owners : List ℕ) (last : ℕ) (counted : List Done) (served : List ServerDone) (o : ℕ)
    → Settles hostile links after acts o → Facts hostile links acts lives sent owners last counted served
    → Facts hostile after acts lives sent owners last counted served

-- the first operation that waits is sent
abbrev pub SendingNextKeeps : Type 0
SendingNextKeeps = (hostile : List ℕ) (links after : Links) (acts : Acts) (lives : Lives) (sent more : List Said)
    (owners : List ℕ) (last : ℕ) (counted : List Done) (served : List ServerDone) (o : ℕ)
    → SendsNext links after o more → Facts hostile links acts lives sent owners last counted served
    → Facts hostile after acts lives (sent ++ more) owners last counted served

-- of each object an operation is asked or none, but no end of a save
abbrev pub AskingKeeps : Type 0
AskingKeeps = (hostile : List ℕ) (links after : Links) (acts : Acts) (lives : Lives) (sent more : List Said)
    (owners : List ℕ) (last : ℕ) (counted : List Done) (served : List ServerDone)
    → AsksAll (λ o op. IsQuiet op) links after more → Facts hostile links acts lives sent owners last counted served
    → Facts hostile after acts lives (sent ++ more) owners last counted served

-- a save is counted, and activations are told of it
abbrev pub CountingKeeps : Type 0
CountingKeeps = (hostile : List ℕ) (links after : Links) (acts : Acts) (lives : Lives) (sent more : List Said)
    (owners : List ℕ) (last : ℕ) (counted fresh : List Done) (served : List ServerDone) (k : ℕ)
    → CountsAll links after counted k fresh more → Facts hostile links acts lives sent owners last counted served
    → Facts hostile after acts lives (sent ++ more) owners last (counted ++ fresh) served

-- an object gets a link, with a number that was drawn now
abbrev pub BeginningKeeps : Type 0
BeginningKeeps = (hostile : List ℕ) (links after : Links) (acts : Acts) (lives : Lives) (sent more : List Said)
    (owners extra : List ℕ) (last : ℕ) (counted : List Done) (served : List ServerDone) (o : ℕ)
    → Begins links after lives (owners ++ extra) last o more → length (owners ++ extra) ≡ last + 1
    → Facts hostile links acts lives sent owners last counted served
    → Facts hostile after acts lives (sent ++ more) (owners ++ extra) (last + 1) counted served

-- links go whose activation is closed, or whose server doesn't run or is hostile
abbrev pub EndingKeeps : Type 0
EndingKeeps = (hostile : List ℕ) (links after : Links) (acts : Acts) (lives : Lives) (sent : List Said)
    (owners : List ℕ) (last : ℕ) (counted : List Done) (served : List ServerDone)
    → EndsSome hostile links after acts lives → Facts hostile links acts lives sent owners last counted served
    → Facts hostile after acts lives sent owners last counted served

-- a server starts or ends
abbrev pub StartingKeeps : Type 0
StartingKeeps = (hostile : List ℕ) (links : Links) (acts after : Acts) (lives now : Lives) (sent : List Said)
    (owners : List ℕ) (last : ℕ) (counted : List Done) (served : List ServerDone)
    → StartsOrEnds acts after lives now → Facts hostile links acts lives sent owners last counted served
    → Facts hostile links after now sent owners last counted served

-- a server, honest or not, takes a call that was sent: it acts, or answers again
abbrev pub ActingKeeps : Type 0
ActingKeeps = (hostile : List ℕ) (links : Links) (acts after : Acts) (lives : Lives) (sent : List Said)
    (owners : List ℕ) (last : ℕ) (counted : List Done) (served : List ServerDone)
    (inc act n : ℕ) (op : Operation) (a : Activation) (r : Answer) (told : Option Counted)
    → Facts hostile links acts lives sent owners last counted served → IsReady links
    → Among sent (Call inc act n op) → IsChanged acts after inc act a → ActsOn acts inc act n op a r told
    → Facts hostile links after lives (sent ++ Reply inc act n r ∷ []) owners last counted
    (served ++ entries_of inc act owners told)

-- an activation wrote or asked
abbrev pub TellingKeeps : Type 0
TellingKeeps = (hostile : List ℕ) (links : Links) (acts after : Acts) (lives now : Lives) (sent more : List Said)
    (owners : List ℕ) (last : ℕ) (counted : List Done) (served : List ServerDone)
    → Tells acts after → ((inc : ℕ) → now inc ≡ lives inc) → ((m : Said) → Among more m → IsOwn m)
    → Facts hostile links acts lives sent owners last counted served
    → Facts hostile links after now (sent ++ more) owners last counted served

-- What senders saw stays where no other close is answered, and nothing is written but under its grant;
abbrev pub LeavingKeepsViews : Type 0
LeavingKeepsViews = (hostile : List ℕ) (links now : Links) (acts after : Acts) (log longer : List Sent)
    → LeavesCloses hostile links now acts after → Grows log longer → Views hostile links acts log
    → Views hostile now after longer

-- and where a server takes a call.
abbrev pub ActingKeepsViews : Type 0
ActingKeepsViews = (hostile : List ℕ) (links : Links) (acts after : Acts) (lives : Lives) (sent : List Said)
    (owners : List ℕ) (last : ℕ) (counted : List Done) (served : List ServerDone)
    (inc act n : ℕ) (op : Operation) (a : Activation) (r : Answer) (told : Option Counted)
    → Facts hostile links acts lives sent owners last counted served → IsReady links
    → Among sent (Call inc act n op) → IsChanged acts after inc act a → ActsOn acts inc act n op a r told
    → (log : List Sent) → Views hostile links acts log → (session : ℕ)
    → Views hostile links after (log ++ record {
      message = in_session session (Reply inc act n r);
      view = option_map view_of (acts inc act);
    } ∷ [])

-- What holds of honest servers holds where one of them is hostile from now on.
abbrev pub TurningHostileKeeps : Type 0
TurningHostileKeeps = (hostile : List ℕ) (inc : ℕ) (links : Links) (acts : Acts) (lives : Lives) (sent : List Said)
    (owners : List ℕ) (last : ℕ) (counted : List Done) (served : List ServerDone)
    → Facts hostile links acts lives sent owners last counted served
    → Facts (hostile ++ inc ∷ []) links acts lives sent owners last counted served

abbrev pub TurningHostileKeepsViews : Type 0
TurningHostileKeepsViews = (hostile : List ℕ) (inc : ℕ) (links : Links) (acts : Acts) (log : List Sent)
    → Views hostile links acts log → Views (hostile ++ inc ∷ []) links acts log
