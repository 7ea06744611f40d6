-- Which errors a history shows.
use Rattle.std.specs.Prelude.{List}
use Rattle.store_model.specs.declared.disk.Disk.{Ghosts as Disks}
use Rattle.script_model.specs.Errors.{IsUnknown, IsUnsettled, IsUnstarted}
use Rattle.script_model.specs.Events.{Event}
use Rattle.script_container.specs.declared.fault.ScriptFault.{ScriptFault}
use Rattle.script_container.specs.declared.fault.ScriptFault.TheVariants as fault

-- A history shows this error, told of the command that began last: a server isn't started, what is asked isn't
-- answered, a frame's file is still to be committed, or it isn't known what became of a save. Of memory and of writers
-- a history says nothing; and the script was read before.
abbrev pub Shows : {D : Type 0} (disks : Disks D) → List (Event D) → ScriptFault → Type 0
Shows disks es (fault.Input why) = ⊥
Shows disks es (fault.Line n why) = ⊥
Shows disks es (fault.Link inc) = IsUnstarted inc es
Shows disks es fault.Stalled = IsUnsettled es
Shows disks es (fault.File name why) = IsUnknown disks es name.items why
Shows disks es fault.NoMemory = Unit {0}
Shows disks es fault.Unwritable = Unit {0}
