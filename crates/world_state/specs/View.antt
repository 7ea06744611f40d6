-- States of worlds as they are seen: the objects in boxes by what they contain.
use Rattle.std.specs.Prelude.{map}
use Rattle.object_core.specs.Content.{Content}
use Rattle.object_core.specs.Kinds.{Kind, kind_of}
use Rattle.server_core.specs.declared.server.Seat.{Seat}
use Rattle.server_core.specs.View as server
use Rattle.world_state.specs.declared.instance.Instance as code
use Rattle.world_state.specs.declared.instance.Stocked.{Stocked}
use Rattle.world_state.specs.declared.state.State.{State}
use Rattle.world_host.specs.View.{bare}
use Rattle.world_model.specs.World.{World, Instance}

module _ {X : Type 0} {V : X → Type 0} (content : Seat X V → Content) where
  abbrev pub seen_instance : code.Instance X V → Instance
  seen_instance i = record { life = i.life; core = server.seen content i.core }

  abbrev pub seen_stocked : Stocked X V → Kind
  seen_stocked s = kind_of (content (record { boxed = s.boxed }))

  abbrev pub seen : State X V → World
  seen w = record (bare w.host) {
    instances = map seen_instance w.instances.items;
    stock = map seen_stocked w.stock.boxes.items;
  }
