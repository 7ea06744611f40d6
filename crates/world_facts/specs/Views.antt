-- What senders saw: the state of an activation just before it sent a message. So each content that the container takes
-- was sent under the storage grant that its record holds open.
use Rattle.std.specs.Prelude.{◌≡◌, ◌⊎◌, ℕ, true, List, Option, Some, ⊤}
use Rattle.message_values.specs.declared.message.Said.{Said}
use Rattle.message_values.specs.declared.message.Said.TheVariants.{Call, Reply, Write, Ask}
use Rattle.message_values.specs.declared.operation.Operation.TheVariants.{Close}
use Rattle.message_values.specs.declared.answer.Answer.{Answer}
use Rattle.object_state.specs.declared.both_states.States.{States}
use Rattle.object_state.specs.declared.operations.CloseOption.{CloseOption}
use Rattle.object_state.specs.declared.persist_states.PersistState.TheVariants.{Normal}
use Rattle.server_model.specs.Server.{Activation}
use Rattle.container_model.specs.declared.record.Link.{Link}
use Rattle.world_model.specs.declared.logs.Sent.{Sent}
use Rattle.world_model.specs.declared.logs.View.{View}
use Rattle.world_model.specs.World.{in_session}
use Rattle.world_model.specs.Safe.{Among}
use Rattle.world_facts.specs.Words.{Links, Acts, IsHonest}
use Rattle.world_facts.specs.Shapes.{IsSame}

-- open, with its storage for reading and writing, under this storage grant
pub record IsOpenUnder (s : ℕ) (view : View) : Type 0 where
  pub opened : view.opened ≡ true
  pub storage : view.states.persist.state ≡ Normal
  pub grant : view.s ≡ s

-- a write was sent under the storage grant that it names
abbrev pub IsSentOpen : Said → Option View → Type 0
IsSentOpen (Call inc act n op) view = ⊤
IsSentOpen (Reply inc act n answer) view = ⊤
IsSentOpen (Write inc act s w content) view = (v : View) × (view ≡ Some v) × IsOpenUnder s v
IsSentOpen (Ask inc act g) view = ⊤

-- a reply was sent, in a session, by an open activation at these states and this grant
pub record IsSeen (sent : List Sent) (inc act n : ℕ) (answer : Answer) (v : States) (s : ℕ) : Type 0 where
  pub session : ℕ
  pub view : View
  pub among : Among sent (record { message = in_session session (Reply inc act n answer); view = Some view })
  pub opened : view.opened ≡ true
  pub states : view.states ≡ v
  pub grant : view.s ≡ s

pub record Views (hostile : List ℕ) (links : Links) (acts : Acts) (sent : List Sent) : Type 0 where
  pub writes_sent : (x : Sent) → Among sent x → IsSentOpen x.message.said x.view
  -- an answer to a close that is pending was sent at the link's states and grant
  pub closes_sent : (o : ℕ) (l : Link) (a : Activation) (option : CloseOption) → links o ≡ Some l
      → IsHonest hostile l.inc → acts l.inc l.act ≡ Some a → l.pending ≡ Some (Close option) → a.last ≡ l.last
      → IsSeen sent l.inc l.act a.last a.reply l.states l.s

-- the log of messages grew, by writes that were sent under their grants and by other messages
pub record Grows (before after : List Sent) : Type 0 where
  pub kept : (x : Sent) → Among before x → Among after x
  pub new : (x : Sent) → Among after x → Among before x ⊎ IsSentOpen x.message.said x.view

-- links whose close is pending and answered were so before
pub record WasAnswered (links : Links) (acts : Acts) (o : ℕ) (l : Link) (a : Activation) : Type 0 where
  pub link : Link
  pub activation : Activation
  pub linked : links o ≡ Some link
  pub known : acts link.inc link.act ≡ Some activation
  pub same : IsSame link l
  pub last : a.last ≡ activation.last
  pub reply : a.reply ≡ activation.reply

abbrev pub LeavesCloses : List ℕ → Links → Links → Acts → Acts → Type 0
LeavesCloses hostile links now acts after = (o : ℕ) (l : Link) (a : Activation) (option : CloseOption)
    → now o ≡ Some l → IsHonest hostile l.inc → after l.inc l.act ≡ Some a → l.pending ≡ Some (Close option)
    → a.last ≡ l.last
    → WasAnswered links acts o l a
