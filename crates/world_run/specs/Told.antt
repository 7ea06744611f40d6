-- Runs as a story, with the objects in boxes by what they contain.
use Rattle.std.specs.Prelude.{List, map, reverse}
use Rattle.object_core.specs.Content.{Content}
use Rattle.server_core.specs.declared.server.Seat.{Seat}
use Rattle.world_model.specs.Story.{Epoch, Story}
use Rattle.world_host.specs.declared.stops.Left.{Left}
use Rattle.world_model.specs.World.{Instance}
use Rattle.world_run.specs.Names.{document_of}
use Rattle.world_run.specs.declared.past.Past.{Past}
use Rattle.world_run.specs.declared.runs.Runs.{Runs}
use Rattle.world_state.specs.View.{seen, seen_instance}

-- what a host has left of a run, with its servers
abbrev pub left_epoch : Left → List Instance → Epoch
left_epoch l instances = record {
  session = l.session;
  instances = instances;
  owners = l.owners.items;
  taken = l.taken.items;
  container_done = l.container_done.items;
  server_done = l.server_done.items;
  counted = l.counted.items;
  hostile = l.hostile.items;
}

module _ {X : Type 0} {V : X → Type 0} (content : Seat X V → Content) where
  abbrev pub seen_past : Past X V → Epoch
  seen_past p = record {
    session = p.session;
    instances = map (seen_instance content) p.instances.items;
    owners = p.owners.items;
    taken = p.taken.items;
    container_done = p.container_done.items;
    server_done = p.server_done.items;
    counted = p.counted.items;
    hostile = p.hostile.items;
  }

  abbrev pub seen_pasts : List (Past X V) → List Epoch
  seen_pasts ps = map seen_past ps

  abbrev pub told : Runs X V → Story
  told r = record {
    now = seen content r.state;
    past = seen_pasts r.past.items;
    document = document_of (seen content r.state).rec r.has_document r.document;
    kept = reverse r.kept.items;
  }
