use Rattle.std.proofs.Common.{◌∙◌, ap}
use Rattle.std.specs.List.{flat_map}
use Rattle.world_host.specs.Stops.{named}
use Rattle.world_host.specs.View.{bare}
use Rattle.world_host.proofs.Stopping.{leaves, names_made, rests}
use Rattle.world_host.proofs.host.Host.rest.Goals as goal

pub returns-clause-stopped : goal.returns-clause-stopped
returns-clause-stopped c = rests (bare c.args.self.now) (bare c.file_room.new.self) (bare c.begin_anew.new.self)
    c.args.frames.now c.in_ok-made.made.items
    c.file_room.ensures.kept c.in_ok-made.ensures c.begin_anew.ensures.begun

pub returns-clause-left : goal.returns-clause-left
returns-clause-left c = leaves c.args.self.now c.file_room.new.self c.in_ok-names.names.items _ c.begin_anew.result
    c.file_room.ensures.kept
    (c.in_ok-names.ensures ∙ (ap (flat_map named) c.deref.ensures.value
    ∙ names_made (bare c.args.self.now) c.args.frames.now 1 c.args.self.now.core.frames c.in_ok-made.made.items
    c.in_ok-made.ensures))
    c.begin_anew.ensures.left
