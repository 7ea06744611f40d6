-- What contracts see of a disk over files.
use Rattle.std.specs.Prelude.{ℕ, Bool}
use Rattle.store_disk.specs.declared.disk_files.DiskFiles.{Ghosts}
use Rattle.store_disk.specs.declared.file_disk.FileDisk.{FileDisk}

-- its files
abbrev pub files_of : {F : Type 0} {g : Ghosts F} → FileDisk F g → F
files_of disk = disk.files

-- how many calls have failed
abbrev pub failures_of : {F : Type 0} {g : Ghosts F} → FileDisk F g → ℕ
failures_of disk = disk.failed

-- whether a sync has failed
abbrev pub sync_may_lie_of : {F : Type 0} {g : Ghosts F} → FileDisk F g → Bool
sync_may_lie_of disk = disk.sync_may_lie
