-- What contracts see of a disk in memory.
use Rattle.std.specs.Prelude.{◌≡◌, ℕ, zero, suc, List, length, Bool, true, false, Result, IsErr, OnOk}
use Rattle.store_memory.specs.Calls.{image_of, reads_after, LeftAfter, LeftSince}
use Rattle.store_model.specs.Crash.{Rose}
use Rattle.store_model.specs.Image.{Image}
use Rattle.store_memory.specs.declared.areas.Call.{Call}
use Rattle.store_model.specs.declared.disk.DiskFailure.{DiskFailure}
use Rattle.store_memory.specs.declared.memory_disk.Faults.{Faults}
use Rattle.store_memory.specs.declared.memory_disk.Faults.TheVariants.{Never, Once, From}
use Rattle.store_memory.specs.declared.memory_disk.MemoryDisk.{MemoryDisk}

-- what the areas held at first
abbrev pub first_of : MemoryDisk → Image
first_of disk = image_of disk.first

-- the calls since then
abbrev pub calls_of : MemoryDisk → List Call
calls_of disk = disk.calls.items

-- how many calls have failed
abbrev pub failed_of : MemoryDisk → ℕ
failed_of disk = disk.failed

-- how many calls have failed for want of memory
abbrev pub refused_of : MemoryDisk → ℕ
refused_of disk = disk.refused

-- what reads give
abbrev pub reads_of : MemoryDisk → Image
reads_of disk = reads_after (first_of disk) (calls_of disk)

-- what a crash now may leave
abbrev pub may_leave_of : MemoryDisk → Image → Type 0
may_leave_of disk c = LeftAfter (first_of disk) (calls_of disk) c

-- the number of calls so far
abbrev pub moment_of : MemoryDisk → ℕ
moment_of disk = length (calls_of disk)

-- what a crash since then might have left
abbrev pub left_since_of : MemoryDisk → ℕ → Image → Type 0
left_since_of disk t c = LeftSince (first_of disk) (calls_of disk) t c

-- which of the next calls fail
abbrev pub faults_of : MemoryDisk → Faults
faults_of disk = disk.faults

-- whether the next call fails
abbrev pub strikes : Faults → Bool
strikes Never = false
strikes (Once zero) = true
strikes (Once (suc n)) = false
strikes (From zero) = true
strikes (From (suc n)) = false

-- which calls fail after that one
abbrev pub after_call : Faults → Faults
after_call Never = Never
after_call (Once zero) = Never
after_call (Once (suc n)) = Once n
after_call (From zero) = From zero
after_call (From (suc n)) = From n

-- a call that was to fail has failed, and has been counted off
pub record IsStruck {T : Type 0} (old new : Faults) (result : Result T DiskFailure) : Type 0 where
  pub fails : strikes old ≡ true → IsErr result
  pub next : new ≡ after_call old

-- a call has answered, or it was refused memory and that is counted
pub record IsAnswered {T : Type 0} (old new : MemoryDisk) (result : Result T DiskFailure) : Type 0 where
  pub refused : IsErr result → Rose (refused_of old) (refused_of new)
  pub else_same : OnOk result (refused_of new ≡ refused_of old)
