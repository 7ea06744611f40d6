use Rattle.std.proofs.Common.{length, sym, subst}
use Rattle.store_memory.specs.Memory.{left_since_of, may_leave_of, moment_of}
use Rattle.store_memory.specs.declared.memory_disk.MemoryDisk.{MemoryDisk}
use Rattle.store_files.specs.Files.{disk_in}
use Rattle.store_files.proofs.Writes.{front_follows}
use Rattle.store_model.specs.Crash.{Elapses, Follows, InArea, Torn}
use Rattle.store_files.proofs.memory_files.MemoryFilesDiskFiles.write_at.Goals as goal

pub returns-in-Ok-clause-crash : goal.returns-in-Ok-clause-crash
returns-in-Ok-clause-crash c model =
    front_follows c.args.area c.args.at c.args.bytes.now c.min-n.result (may_leave_of (disk_in c.args.self.now))
    (may_leave_of c.write.new.self) c.write.ensures.crash

pub returns-in-Err-clause-crash : goal.returns-in-Err-clause-crash
returns-in-Err-clause-crash c model =
    let old : MemoryDisk = disk_in c.args.self.now in
    subst (λ (d : MemoryDisk). Follows (InArea c.args.area (Torn c.args.at (length c.args.bytes.now)))
    (may_leave_of old) (may_leave_of d)) (sym c.lose.ensures.disk)
    (front_follows c.args.area c.args.at c.args.bytes.now c.min-n.result (may_leave_of old)
    (may_leave_of c.write.new.self) c.write.ensures.crash)

pub returns-in-Err-clause-time : goal.returns-in-Err-clause-time
returns-in-Err-clause-time c model =
    let old : MemoryDisk = disk_in c.args.self.now in
    subst (λ (d : MemoryDisk). Elapses (moment_of old) (moment_of d) (left_since_of old) (left_since_of d)
    (may_leave_of d)) (sym c.lose.ensures.disk) c.write.ensures.time
