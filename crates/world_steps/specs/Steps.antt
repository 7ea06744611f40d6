-- What a step of a container is, as a list of shapes of change.
use Rattle.std.specs.Prelude.{◌≡◌, ◌+◌, ◌++◌, ℕ, List, [], ◌∷◌, length}
use Rattle.message_values.specs.declared.message.Said.{Said}
use Rattle.container_model.specs.declared.answer.Action.TheVariants.{End}
use Rattle.container_model.specs.Commands.{start_made}
use Rattle.container_model.specs.Record.{Record, Took, acts, counts_none}
use Rattle.world_model.specs.World.{Instance, started_by, ended_by}
use Rattle.world_model.specs.Safe.{links_of}
use Rattle.world_facts.specs.Words.{Links, Acts, Lives, sayings_of}
use Rattle.world_facts.specs.Shapes.{AsksAll, IsQuiet, Begins, Settles, SendsNext, EndsSome}

-- a step that makes no activation, and starts and ends no server
pub record IsPlain (r : Record) (t : Took) : Type 0 where
  pub last_act : t.rec.last_act ≡ r.last_act
  pub servers : length t.rec.servers ≡ length r.servers
  pub starts : (session numbers : ℕ) → started_by session numbers t.answer.actions ≡ []
  pub ends : (instances : List Instance) → ended_by t.answer.actions instances ≡ instances

-- A run that is taken begins an activation.
pub record IsBegun (r : Record) (lives : Lives) (owners : List ℕ) (o : ℕ) (t : Took) : Type 0 where
  pub begins : Begins (links_of r.objects) (links_of t.rec.objects) lives owners r.last_act o
      (sayings_of t.answer.actions)
  pub last_act : t.rec.last_act ≡ r.last_act + 1
  pub servers : length t.rec.servers ≡ length r.servers
  pub starts : (session numbers : ℕ) → started_by session numbers t.answer.actions ≡ []
  pub ends : (instances : List Instance) → ended_by t.answer.actions instances ≡ instances

-- A reply that is taken settles the pending operation, and then the next one that waits is sent; or its object's link
-- ends. A forged one does the same: its server is hostile.
pub data IsAnswered (hostile : List ℕ) (links after : Links) (acts : Acts) (lives : Lives) (more : List Said) : Type
    0 where
  settled : (o : ℕ) → Settles hostile links after acts o → more ≡ [] → IsAnswered hostile links after acts lives more
  goes_on : (o : ℕ) (between : Links) → Settles hostile links between acts o → SendsNext between after o more
      → IsAnswered hostile links after acts lives more
  ended : EndsSome hostile links after acts lives → more ≡ [] → IsAnswered hostile links after acts lives more

-- Operations are asked one after the other, of one object or of several.
pub data AsksInTurn : Links → Links → List Said → Type 0 where
  asks_none : (links after : Links) (more : List Said) → ((o : ℕ) → after o ≡ links o) → more ≡ []
      → AsksInTurn links after more
  asks_first : (links between after : Links) (first rest more : List Said)
      → AsksAll (λ o op. IsQuiet op) links between first → AsksInTurn between after rest → more ≡ first ++ rest
      → AsksInTurn links after more

-- a step that asks objects in turn, and does nothing else that a server or a link is told by
abbrev pub IsTurned : Record → Took → Type 0
IsTurned r t = AsksInTurn (links_of r.objects) (links_of t.rec.objects) (sayings_of t.answer.actions) × IsPlain r t

-- A reply that is taken, after which whoever waits for the frame may be told of its grant.
pub record IsReplied (hostile : List ℕ) (links after : Links) (acts : Acts) (lives : Lives) (more : List Said) :
    Type 0 where
  pub between : Links
  pub first : List Said
  pub rest : List Said
  pub answered : IsAnswered hostile links between acts lives first
  pub asked : AsksInTurn between after rest
  pub joined : more ≡ first ++ rest

-- The end of a server: its links go, and then whoever waits for a frame that is free by it is told of its grant.
pub record IsReaped (hostile : List ℕ) (links after : Links) (acts : Acts) (lives : Lives) (more : List Said) : Type
    0 where
  pub between : Links
  pub ends : EndsSome hostile links between acts lives
  pub asked : AsksInTurn between after more

-- What a command is that is taken, and the objects that get an activation by it: it asks objects in turn, starts a
-- server, begins an activation, or has a server ended.
pub data IsCommanded (r : Record) (lives : Lives) (owners : List ℕ) (t : Took) : List ℕ → Type 0 where
  command_asks : IsTurned r t → IsCommanded r lives owners t []
  command_starts : start_made r ≡ t → IsCommanded r lives owners t []
  command_begins : (o : ℕ) → IsBegun r lives (owners ++ o ∷ []) o t → IsCommanded r lives owners t (o ∷ [])
  command_ends : (inc : ℕ) → counts_none r (acts (End inc ∷ [])) ≡ t → IsCommanded r lives owners t []
