-- What a world holds doesn't depend on what the open activations of its servers contain.
use Rattle.std.proofs.Common.{◌≡◌, ℕ, List, length, sym, ◌∙◌}
use Rattle.container_model.specs.Record.{Record}
use Rattle.container_model.specs.declared.answer.Done.{Done}
use Rattle.world_model.specs.declared.logs.Sent.{Sent}
use Rattle.world_model.specs.declared.logs.ServerDone.{ServerDone}
use Rattle.world_model.specs.World.{Instance}
use Rattle.world_model.specs.Safe.{links_of, acts_of, sayings}
use Rattle.world_facts.specs.Words.{lives_of}
pub use Rattle.world_facts.specs.Shapes.{IsAlike, Alike}
use Rattle.world_facts.proofs.Alike.{facts_alike}
use Rattle.world_facts.proofs.Leaving.{tells_leave, grows_none, views_kept}
use Rattle.world_grants.specs.Grants.{roles_of}
use Rattle.world_grants.proofs.Alike.{grants_alike}
use Rattle.world_safety.specs.Holding.{Agrees}

pub agrees_alike : (hostile : List ℕ) (rec : Record) (is js : List Instance) (sent : List Sent) (owners : List ℕ)
    (counted : List Done) (served : List ServerDone)
    → length js ≡ length is → ((inc act : ℕ) → Alike (acts_of is inc act) (acts_of js inc act))
    → ((inc : ℕ) → lives_of js inc ≡ lives_of is inc)
    → Agrees hostile rec is sent owners counted served → Agrees hostile rec js sent owners counted served
agrees_alike hostile rec is js sent owners counted served many same still h = record {
  steady = h.steady;
  servers = h.servers ∙ sym many;
  facts = facts_alike (links_of rec.objects) (acts_of is) (acts_of js) (lives_of is) (lives_of js) (sayings sent)
      owners rec.last_act counted served same still h.facts;
  views = views_kept (links_of rec.objects) (links_of rec.objects) (acts_of is) (acts_of js) sent sent
      (tells_leave hostile (links_of rec.objects) (acts_of is) (acts_of js) same) (grows_none sent) h.views;
  grants = grants_alike (links_of rec.objects) (roles_of rec) (acts_of is) (acts_of js) (sayings sent) same h.grants;
}
