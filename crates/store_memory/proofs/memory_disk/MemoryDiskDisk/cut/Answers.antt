use Rattle.store_memory.specs.Calls.{image_of}
use Rattle.store_memory.specs.declared.areas.Call.TheVariants.{Cut}
use Rattle.store_memory.proofs.Kept.{elapses_to, left_by_last, replayed_to}
use Rattle.store_memory.proofs.memory_disk.MemoryDiskDisk.cut.Goals as goal

pub invariant_of-self-in-Ok : goal.invariant_of-self-in-Ok
invariant_of-self-in-Ok c =
    record {
      replayed = replayed_to (image_of c.args.self.now.first) (image_of c.args.self.now.held)
          (image_of c.log_cut.new.areas) c.args.self.now.calls.items c.log_cut.new.calls.items
          (Cut c.args.area c.args.size) c.args.self.now.replayed c.in-Ok.ensures.logged c.in-Ok.ensures.cut;
    }

pub returns-in-Ok-clause-crash : goal.returns-in-Ok-clause-crash
returns-in-Ok-clause-crash c i left =
    left_by_last (image_of c.args.self.now.first) c.args.self.now.calls.items c.log_cut.new.calls.items
    (Cut c.args.area c.args.size) c.in-Ok.ensures.logged i left

pub returns-in-Ok-clause-time : goal.returns-in-Ok-clause-time
returns-in-Ok-clause-time c =
    elapses_to (image_of c.args.self.now.first) c.args.self.now.calls.items c.log_cut.new.calls.items
    (Cut c.args.area c.args.size) c.in-Ok.ensures.logged
