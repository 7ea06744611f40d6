-- What contracts see of a store.
use Rattle.std.specs.Prelude.{Bool}
use Rattle.store_core.specs.declared.store.Store.{Store}
use Rattle.store_model.specs.declared.disk.Disk.{Ghosts}

-- its disk
abbrev pub disk_of : {D : Type 0} {g : Ghosts D} → Store D g → D
disk_of store = store.disk

-- whether it has to be opened again
abbrev pub needs_reopen_of : {D : Type 0} {g : Ghosts D} → Store D g → Bool
needs_reopen_of store = store.needs_reopen
