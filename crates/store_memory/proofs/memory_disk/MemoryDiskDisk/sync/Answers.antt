use Rattle.std.proofs.Common.{refl}
use Rattle.store_memory.specs.Calls.{image_of}
use Rattle.store_memory.specs.declared.areas.Call.TheVariants.{Sync}
use Rattle.store_memory.proofs.Kept.{elapses_to, left_by_last, replayed_to}
use Rattle.store_memory.proofs.memory_disk.MemoryDiskDisk.sync.Goals as goal

pub invariant_of-self-in-Ok : goal.invariant_of-self-in-Ok
invariant_of-self-in-Ok c =
    record {
      replayed = replayed_to (image_of c.args.self.now.first) (image_of c.args.self.now.held)
          (image_of c.args.self.now.held) c.args.self.now.calls.items c.log_sync.new.calls.items (Sync c.args.area)
          c.args.self.now.replayed c.in-Ok.ensures.logged refl;
    }

pub returns-in-Ok-clause-durable : goal.returns-in-Ok-clause-durable
returns-in-Ok-clause-durable c i left =
    (left_by_last (image_of c.args.self.now.first) c.args.self.now.calls.items c.log_sync.new.calls.items
    (Sync c.args.area) c.in-Ok.ensures.logged i left).1

pub returns-in-Ok-clause-crash : goal.returns-in-Ok-clause-crash
returns-in-Ok-clause-crash c i left =
    (left_by_last (image_of c.args.self.now.first) c.args.self.now.calls.items c.log_sync.new.calls.items
    (Sync c.args.area) c.in-Ok.ensures.logged i left).0

pub returns-in-Ok-clause-time : goal.returns-in-Ok-clause-time
returns-in-Ok-clause-time c =
    elapses_to (image_of c.args.self.now.first) c.args.self.now.calls.items c.log_sync.new.calls.items
    (Sync c.args.area) c.in-Ok.ensures.logged
