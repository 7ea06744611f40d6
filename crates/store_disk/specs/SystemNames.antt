-- What contracts see of the system's names.
use Rattle.std.specs.Prelude.{ℕ}
use Rattle.store_disk.specs.declared.system_names.SystemNames.{SystemNames}

-- how many calls have failed
abbrev pub failed_of : {R : Type 0} → SystemNames R → ℕ
failed_of names = names.failed
