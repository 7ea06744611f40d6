-- What every world keeps, so that it is safe. No reader has to believe it.
use Rattle.std.specs.Prelude.{◌≡◌, ℕ, List, length, Some}
use Rattle.container_model.specs.Record.{Record}
use Rattle.container_model.specs.declared.answer.Done.{Done}
use Rattle.container_queues.specs.Steady.{Steady}
use Rattle.world_model.specs.declared.logs.Sent.{Sent}
use Rattle.world_model.specs.declared.logs.ServerDone.{ServerDone}
use Rattle.world_model.specs.declared.logs.Taken.{Taken}
use Rattle.world_model.specs.World.{World, Instance}
use Rattle.world_model.specs.Safe.{Among, acts_of, links_of, sayings, IsGranted, IsHonest, WasSent}
use Rattle.world_facts.specs.Words.{lives_of}
use Rattle.world_facts.specs.Facts.{Facts}
use Rattle.world_facts.specs.Views.{Views}
use Rattle.world_files.specs.Files.{Files}
use Rattle.world_grants.specs.Grants.{Grants, roles_of}
use Rattle.world_grants.specs.Numbers.{Numbers}
use Rattle.message_values.specs.declared.message.Message.{Message}
use Rattle.message_values.specs.Found.{nth}
use Rattle.container_numbers.specs.Sessions.{InSession}
pub use Rattle.container_numbers.specs.Sessions.{IsOf}

-- The container's record, the servers, the messages and the logs agree: the record is steady by itself, the servers are
-- those that it started, and the facts hold of what is looked up, of what senders saw, and of who has frames.
pub record Agrees (hostile : List ℕ) (rec : Record) (instances : List Instance) (sent : List Sent) (owners : List ℕ)
    (counted : List Done) (served : List ServerDone) : Type 0 where
  pub steady : Steady rec
  pub servers : length rec.servers ≡ length instances
  pub facts : Facts hostile (links_of rec.objects) (acts_of instances) (lives_of instances) (sayings sent) owners
      rec.last_act counted served
  pub views : Views hostile (links_of rec.objects) (acts_of instances) sent
  pub grants : Grants hostile (links_of rec.objects) (roles_of rec) (acts_of instances) (sayings sent)

abbrev pub AgreesIn : World → Type 0
AgreesIn w = Agrees w.hostile w.rec w.instances w.sent w.owners w.container_done w.server_done

-- all of a world is in its container's session; nothing is in it before there is one
pub record InOneSession (w : World) : Type 0 where
  pub holds : InSession w.rec
  pub sent : (m : Message) → WasSent w m → IsOf w.rec.session m.session
  pub servers : (inc : ℕ) (i : Instance) → nth w.instances inc ≡ Some i → IsOf w.rec.session i.core.session

pub record Holds (w : World) : Type 0 where
  pub in_session : InOneSession w
  pub agrees : AgreesIn w
  pub files : Files w
  pub numbers : Numbers w.rec.numbers w
  -- the contents that were taken of honest servers
  pub taken_held : (t : Taken) → Among w.taken t → IsHonest w.hostile t.inc → IsGranted w t
