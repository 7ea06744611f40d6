-- Why a save is lost, and why it isn't known what became of one.
use Rattle.std.proofs.Common.{◌≡◌, ◌≤◌, ◌<◌, ◌^◌, inl, inr, ⊎_elim, ℕ, List, Bool, false, length, Result, Ok, Err}
use Rattle.std.proofs.Common.{IfErr, IfOk, sym, ◌∙◌, subst, arith}
use Rattle.store_model.specs.Crash.{Rose}
use Rattle.store_model.specs.Store.{HoldsRefuses, OpenRefuses}
use Rattle.store_model.specs.declared.disk.Disk.{Ghosts as Disks}
use Rattle.store_model.specs.declared.fault.StoreFault.{StoreFault}
use Rattle.store_model.specs.declared.fault.StoreFault.TheVariants.{Device, NeedsReopen, TooBig, Damaged, NoMemory}
use Rattle.store_core.specs.Resolved.{LostAs, ReopenRefuses}
use Rattle.store_core.specs.declared.outcome.Outcome.{Outcome}
use Rattle.store_core.specs.declared.outcome.Outcome.TheVariants.{Kept, Lost}
use Rattle.script_model.specs.Errors.{IsUntoldFor, MayBeDamaged}
use Rattle.script_model.specs.Saved.{HasFailed, IsAsGiven, IsRefusedOn, IsSince}
use Rattle.script_container.specs.Told.{IfLost}

-- ---- counts

-- a count that has risen is no less, where it can't be past its last value
pub no_less : (before now : ℕ) → before < 2 ^ 64 → Rose before now → before ≤ now
no_less before now within rose = ⊎_elim (λ more. omega (arith, more)) (λ last. omega (arith, last, within)) rose

rose_since : (first before now : ℕ) → first ≤ before → Rose before now → Rose first now
rose_since first before now later rose = ⊎_elim (λ more. inl (omega (arith, later, more))) (λ last. inr last) rose

module _ {D : Type 0} (disks : Disks D) where
  -- ---- lost saves

  -- a cause since a later moment is one since an earlier moment
  pub refused_earlier : (given mid disk : D) (bytes : List ℕ) → disks.failed given ≤ disks.failed mid
      → IsRefusedOn disks mid bytes disk → IsRefusedOn disks given bytes disk
  refused_earlier given mid disk bytes later cause =
      ⊎_elim (λ many. inl many)
      (λ rose. inr (rose_since (disks.failed given) (disks.failed mid) (disks.failed disk) later rose)) cause

  refused_as : (given disk : D) (bytes : List ℕ) (was : Bool) (fault : StoreFault) → was ≡ false
      → LostAs (Lost fault) (length bytes) was (disks.failed given) (disks.failed disk)
      → IsRefusedOn disks given bytes disk
  refused_as given disk bytes was Device ready why = inr why.3
  refused_as given disk bytes was NeedsReopen ready why = absurd (cc)
  refused_as given disk bytes was TooBig ready why = inl why.1
  refused_as given disk bytes was Damaged ready why = absurd why
  refused_as given disk bytes was NoMemory ready why = absurd why

  -- the cause that a store tells of a commit that is lost
  pub lost_as : (given held disk : D) (bytes : List ℕ) (was : Bool) (o : Outcome) → was ≡ false → disk ≡ held
      → LostAs o (length bytes) was (disks.failed given) (disks.failed held)
      → IfLost o (IsRefusedOn disks given bytes disk)
  lost_as given held disk bytes was Kept ready is why = tt
  lost_as given held disk bytes was (Lost fault) ready is why = subst (λ (d : D). IsRefusedOn disks given bytes d)
      (sym is) (refused_as given held bytes was fault ready why)

  -- the cause of a commit on a store that was opened on a disk
  pub lost_there : {E : Type 0} (told : Result Outcome E) (given mid disk : D) (bytes : List ℕ)
      → disks.failed mid ≡ disks.failed given → IfOk told (λ o. IfLost o (IsRefusedOn disks mid bytes disk))
      → IfOk told (λ o. IfLost o (IsRefusedOn disks given bytes disk))
  lost_there (Ok Kept) given mid disk bytes same cause = tt
  lost_there (Ok (Lost fault)) given mid disk bytes same cause =
      refused_earlier given mid disk bytes (omega (arith, same)) cause
  lost_there (Err e) given mid disk bytes same cause = tt

  -- a call failed before, and none since
  failed_before : (given mid disk : D) → HasFailed disks given mid → disks.failed disk ≡ disks.failed mid
      → HasFailed disks given disk
  failed_before given mid disk failed same = subst (λ (n : ℕ). Rose (disks.failed given) n) (sym same) failed

  pub lost_before : {E : Type 0} (told : Result Outcome E) (given mid disk : D) (bytes : List ℕ)
      → HasFailed disks given mid → (IfOk told (λ o. disks.failed disk ≡ disks.failed mid))
      → IfOk told (λ o. IfLost o (IsRefusedOn disks given bytes disk))
  lost_before (Ok Kept) given mid disk bytes failed same = tt
  lost_before (Ok (Lost fault)) given mid disk bytes failed same = inr (failed_before given mid disk failed same)
  lost_before (Err e) given mid disk bytes failed same = tt

  -- ---- what isn't known

  -- where opening refuses as a call failed
  pub failed_unopened : (given disk : D) (why : StoreFault) → why ≡ Device
      → OpenRefuses disks.follows_model (disks.reads given) (disks.failed given) (disks.failed disk) why
      → HasFailed disks given disk
  failed_unopened given disk why is refuses =
      subst (λ (f : StoreFault). OpenRefuses disks.follows_model (disks.reads given) (disks.failed given)
      (disks.failed disk) f) is refuses

  -- where opening refuses
  pub untold_unopened : (given disk : D) (why : StoreFault) → disks.may_leave given (disks.reads given)
      → OpenRefuses disks.follows_model (disks.reads given) (disks.failed given) (disks.failed disk) why
      → IsUntoldFor disks given disk why
  untold_unopened given disk Device left refuses = refuses
  untold_unopened given disk NeedsReopen left refuses = refuses
  untold_unopened given disk TooBig left refuses = refuses
  untold_unopened given disk Damaged left refuses = λ m. (disks.reads given, left, refuses m)
  untold_unopened given disk NoMemory left refuses = refuses

  -- where comparing refuses, of a store that needn't be opened again
  pub untold_held : (given held disk : D) (was now : Bool) (why : StoreFault) → was ≡ false → disk ≡ held
      → HoldsRefuses was now (disks.failed given) (disks.failed held) why → IsUntoldFor disks given disk why
  untold_held given held disk was now Device ready is refuses = subst (λ (d : D). HasFailed disks given d) (sym is)
      refuses.2
  untold_held given held disk was now NeedsReopen ready is refuses = absurd (cc)
  untold_held given held disk was now TooBig ready is refuses = refuses
  untold_held given held disk was now Damaged ready is refuses = absurd refuses
  untold_held given held disk was now NoMemory ready is refuses = refuses

  -- where a commit's disk isn't opened again
  pub untold_reopened : (given disk : D) (was : Bool) (why : StoreFault) → was ≡ false
      → ReopenRefuses disks.follows_model was (disks.failed given) (disks.failed disk) why
      → IsUntoldFor disks given disk why
  untold_reopened given disk was Device ready refuses = refuses
  untold_reopened given disk was NeedsReopen ready refuses = refuses
  untold_reopened given disk was TooBig ready refuses = refuses
  untold_reopened given disk was Damaged ready refuses = λ m. let again = refuses m in absurd (cc)
  untold_reopened given disk was NoMemory ready refuses = refuses

  damaged_earlier : (given mid : D) → IsSince disks given mid (IsAsGiven disks given) → MayBeDamaged disks mid
      → MayBeDamaged disks given
  damaged_earlier given mid first damaged = let stands = first.now damaged.0 damaged.1 in
      (stands.0, stands.1, sym stands.2 ∙ damaged.2)

  untold_since : (given mid disk : D) (why : StoreFault) → disks.failed given ≤ disks.failed mid
      → (disks.follows_model → IsSince disks given mid (IsAsGiven disks given)) → IsUntoldFor disks mid disk why
      → IsUntoldFor disks given disk why
  untold_since given mid disk Device later first untold = rose_since (disks.failed given) (disks.failed mid)
      (disks.failed disk) later untold
  untold_since given mid disk NeedsReopen later first untold = untold
  untold_since given mid disk TooBig later first untold = untold
  untold_since given mid disk Damaged later first untold = λ m. damaged_earlier given mid (first m) (untold m)
  untold_since given mid disk NoMemory later first untold = untold

  -- What can't be told of a disk since a later moment can't be told since an earlier one.
  pub untold_earlier : {A : Type 0} (told : Result A StoreFault) (given mid disk : D)
      → disks.failed given ≤ disks.failed mid
      → (disks.follows_model → IsSince disks given mid (IsAsGiven disks given))
      → IfErr told (λ why. IsUntoldFor disks mid disk why) → IfErr told (λ why. IsUntoldFor disks given disk why)
  untold_earlier (Ok x) given mid disk later first untold = tt
  untold_earlier (Err e) given mid disk later first untold = untold_since given mid disk e later first untold
