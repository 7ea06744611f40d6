-- Why files aren't opened.
use Rattle.std.specs.Prelude.{ℕ}
use Rattle.store_model.specs.Crash.{Rose}
use Rattle.store_model.specs.declared.fault.StoreFault.{StoreFault}
use Rattle.store_model.specs.declared.fault.StoreFault.TheVariants.{Device, NeedsReopen, TooBig, Damaged, NoMemory}

-- a call failed, by the count of these before and after: the system refused it, or there was no memory for a name
abbrev pub FilesRefuse : ℕ → ℕ → StoreFault → Type 0
FilesRefuse before after Device = Rose before after
FilesRefuse before after NeedsReopen = ⊥
FilesRefuse before after TooBig = ⊥
FilesRefuse before after Damaged = ⊥
FilesRefuse before after NoMemory = Rose before after
