-- What contracts see of files in memory, and of a store over them.
use Rattle.std.specs.Prelude.{ℕ, Bool}
use Rattle.store_disk.specs.Files.{files_of}
use Rattle.store_disk.specs.declared.disk_files.DiskFiles.{Ghosts}
use Rattle.store_disk.specs.declared.file_disk.FileDisk.{FileDisk}
use Rattle.store_memory.specs.Memory.{left_since_of, may_leave_of, moment_of, reads_of}
use Rattle.store_memory.specs.declared.memory_disk.MemoryDisk.{MemoryDisk}
use Rattle.store_files.specs.declared.memory_files.MemoryFiles.{MemoryFiles}
use Rattle.store_model.specs.Image.{Image}

-- the disk in memory that has their bytes
abbrev pub disk_in : MemoryFiles → MemoryDisk
disk_in files = files.disk

-- how many bytes a call reads or writes at most
abbrev pub most_in : MemoryFiles → ℕ
most_in files = files.most

-- whether a sync may lie
abbrev pub sync_may_lie_in : MemoryFiles → Bool
sync_may_lie_in files = files.sync_may_lie

-- whether a crash leaves their names
abbrev pub has_names_in : MemoryFiles → Bool
has_names_in files = files.has_names

-- what a disk over them reads
abbrev pub reads_over : {g : Ghosts MemoryFiles} → FileDisk MemoryFiles g → Image
reads_over disk = reads_of (disk_in (files_of disk))

-- what a crash now may leave of it
abbrev pub left_over : {g : Ghosts MemoryFiles} → FileDisk MemoryFiles g → Image → Type 0
left_over disk c = may_leave_of (disk_in (files_of disk)) c

-- its moment
abbrev pub moment_over : {g : Ghosts MemoryFiles} → FileDisk MemoryFiles g → ℕ
moment_over disk = moment_of (disk_in (files_of disk))

-- what a crash since then might have left of it
abbrev pub left_since_over : {g : Ghosts MemoryFiles} → FileDisk MemoryFiles g → ℕ → Image → Type 0
left_since_over disk t c = left_since_of (disk_in (files_of disk)) t c
