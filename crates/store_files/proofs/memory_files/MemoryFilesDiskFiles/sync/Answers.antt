use Rattle.std.proofs.Common.{sym, subst}
use Rattle.store_memory.specs.Memory.{left_since_of, may_leave_of, moment_of}
use Rattle.store_memory.specs.declared.memory_disk.MemoryDisk.{MemoryDisk}
use Rattle.store_files.specs.Files.{disk_in}
use Rattle.store_model.specs.Crash.{Elapses}
use Rattle.store_files.proofs.memory_files.MemoryFilesDiskFiles.sync.Goals as goal

pub returns-in-Err-clause-time : goal.returns-in-Err-clause-time
returns-in-Err-clause-time c model =
    let old : MemoryDisk = disk_in c.args.self.now in
    subst (λ (d : MemoryDisk). Elapses (moment_of old) (moment_of d) (left_since_of old) (left_since_of d)
    (may_leave_of d)) (sym c.lose.ensures.disk) c.sync.ensures.time
