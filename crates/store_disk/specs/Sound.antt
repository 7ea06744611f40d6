-- What calls of files leave in force.
use Rattle.std.specs.Prelude.{◌≡◌, ◌⊎◌, Bool, false, true, Result, OnOk, IfErr}
use Rattle.std.specs.IoError.{error_kind}
use Rattle.std.specs.declared.io.Error.{Error}
use Rattle.std.specs.declared.io.ErrorKind.TheVariants.{FileTooLarge, QuotaExceeded, StorageFull}

-- what held of files before a call holds after it: that a sync of them doesn't lie, and that a crash leaves their names
pub record StaysSound {F : Type 0} (sync_may_lie has_names : F → Bool) (old new : F) : Type 0 where
  pub sound : sync_may_lie old ≡ false → sync_may_lie new ≡ false
  pub named : has_names old ≡ true → has_names new ≡ true

-- the error says that there was no room for a write
abbrev pub SaysNoRoom : Error → Type 0
SaysNoRoom error = (error_kind error ≡ StorageFull) ⊎ (error_kind error ≡ QuotaExceeded)
    ⊎ (error_kind error ≡ FileTooLarge)

-- A write keeps that a sync doesn't lie, unless it fails for another reason than want of room.
pub record WritesSound {F T : Type 0} (sync_may_lie has_names : F → Bool) (old new : F) (result : Result T Error) :
    Type 0 where
  pub written : OnOk result (sync_may_lie old ≡ false → sync_may_lie new ≡ false)
  pub refused : IfErr result (λ error. SaysNoRoom error → sync_may_lie old ≡ false → sync_may_lie new ≡ false)
  pub named : has_names old ≡ true → has_names new ≡ true
