-- The host of a container as a part of a world.
use Rattle.std.specs.Prelude.{ℕ, List, [], map}
use Rattle.world_host.specs.declared.host.Host.{Host}
use Rattle.world_model.specs.World.{World, started_instance}

-- a host as a world without servers and stock
abbrev pub bare : Host → World
bare l = record {
  rec = l.core;
  instances = [];
  files = l.files.items;
  stock = [];
  sent = l.sent.items;
  owners = l.owners.items;
  answers = l.answers.items;
  taken = l.taken.items;
  container_done = l.container_done.items;
  server_done = l.server_done.items;
  counted = l.counted.items;
  hostile = l.hostile.items;
}

-- a world with new servers of these incarnations alone
abbrev pub started : World → List ℕ → World
started w starts = record w { instances = map (started_instance w.rec.session w.rec.numbers) starts }
