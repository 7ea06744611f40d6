-- Why an edit is refused.
use Rattle.std.proofs.Common.{◌≡◌, ◌≤◌, ◌<◌, ◌⊎◌, inl, inr, ⊎_elim, ℕ, Bool, true, false, List, Option, Some, None}
use Rattle.std.proofs.Common.{Result, Ok, Err, IfErr, length, sym, ap, ◌∙◌, subst, refl, arith, rules}
use Rattle.store_model.specs.Crash.{Rose}
use Rattle.store_model.specs.Journal.{restored}
use Rattle.store_model.specs.Store.{CommitRefuses, CurrentRefuses, OpenRefuses, StandsFor}
use Rattle.store_model.specs.declared.disk.Disk.{Ghosts as Disks}
use Rattle.store_model.specs.declared.fault.StoreFault.{StoreFault}
use Rattle.store_model.specs.declared.fault.StoreFault.TheVariants.{Device, NeedsReopen, TooBig, Damaged, NoMemory}
use Rattle.store_core.specs.Resolved.{LostAs, ReopenRefuses}
use Rattle.store_core.specs.declared.outcome.Outcome.TheVariants.{Kept, Lost}
use Rattle.tree_edits.specs.declared.change.Change.{Change}
use Rattle.store_edits.specs.Edits.{IsEdit, MayRefuseUpdate}
use Rattle.store_edits.specs.Disks.{HasFailed, MayRefuseCommit, MayRefuseOn, MayRefuseOver, Tells, most}
use Rattle.store_core.specs.declared.outcome.Outcome.{Outcome}
use Rattle.store_edits.specs.declared.editing.Edited.{Edited}
use Rattle.store_edits.specs.declared.fault.EditFault.{EditFault}
use Rattle.store_edits.specs.declared.fault.EditFault.TheVariants.{Store, Read, Line, Write}

module _ {D : Type 0} (disks : Disks D) where
  failed_here : (given disk : D) → Rose (disks.failed given) (disks.failed disk) → HasFailed disks given disk
  failed_here given disk rose = (given, (λ m. omega arith), rose)

  failed_since : (given mid disk : D) → (disks.follows_model → disks.moment given ≤ disks.moment mid)
      → HasFailed disks mid disk → HasFailed disks given disk
  failed_since given mid disk later failed =
      (failed.0, (λ m. let a = later m in let b = failed.1 m in omega (arith, a, b)), failed.2)

  -- ---- a commit
  pub lost : (given held disk : D) (bytes : List ℕ) (was : Bool) (fault : StoreFault) → was ≡ false → disk ≡ held
      → LostAs (Lost fault) (length bytes) was (disks.failed given) (disks.failed held)
      → MayRefuseCommit disks bytes given disk (Store fault)
  lost given held disk bytes was Device ready is why =
      failed_here given disk (subst (λ (d : D). Rose (disks.failed given) (disks.failed d)) (sym is) why.3)
  lost given held disk bytes was NeedsReopen ready is why = absurd (cc)
  lost given held disk bytes was TooBig ready is why = why.1
  lost given held disk bytes was Damaged ready is why = absurd why
  lost given held disk bytes was NoMemory ready is why = absurd why

  pub unresolved : (given disk : D) (bytes : List ℕ) (was : Bool) (fault : StoreFault) → was ≡ false
      → ReopenRefuses disks.follows_model was (disks.failed given) (disks.failed disk) fault
      → MayRefuseCommit disks bytes given disk (Store fault)
  unresolved given disk bytes was Device ready why = failed_here given disk why
  unresolved given disk bytes was NeedsReopen ready why = absurd why
  unresolved given disk bytes was TooBig ready why = absurd why
  unresolved given disk bytes was Damaged ready why = λ m. let again = why m in absurd (cc)
  unresolved given disk bytes was NoMemory ready why = absurd why

  -- ---- an edit of a store's document
  module _ (changes : List (ℕ × Change)) (document : List ℕ) where
    committing : (given disk : D) (bytes : List ℕ) (fault : StoreFault)
        → (disks.follows_model → IsEdit changes document bytes)
        → MayRefuseCommit disks bytes given disk (Store fault)
        → MayRefuseOver disks changes document given disk (Store fault)
    committing given disk bytes Device edit why = why
    committing given disk bytes NeedsReopen edit why = absurd why
    committing given disk bytes TooBig edit why = λ m. inr (refl, bytes, edit m, why)
    committing given disk bytes Damaged edit why = why
    committing given disk bytes NoMemory edit why = absurd why

    pub uncommitted : (given disk : D) (bytes : List ℕ) (fault : EditFault)
        → (disks.follows_model → IsEdit changes document bytes)
        → MayRefuseCommit disks bytes given disk fault → MayRefuseOver disks changes document given disk fault
    uncommitted given disk bytes (Store fault) edit why = committing given disk bytes fault edit why
    uncommitted given disk bytes (Read fault) edit why = absurd why
    uncommitted given disk bytes (Line n fault) edit why = absurd why
    uncommitted given disk bytes (Write fault) edit why = absurd why

    pub not_updated : (given disk : D) (slice : List ℕ) (fault : EditFault)
        → (disks.follows_model → slice ≡ document) → MayRefuseUpdate changes slice fault
        → MayRefuseOver disks changes document given disk fault
    not_updated given disk slice (Store fault) same why =
        subst (λ (f : StoreFault). MayRefuseOver disks changes document given disk (Store f)) (sym why.0)
        (λ m. inr (refl, why.1, subst (λ (d : List ℕ). IsEdit changes d why.1) (same m) why.2, why.3))
    not_updated given disk slice (Read fault) same why =
        λ m. subst (λ (d : List ℕ). MayRefuseUpdate changes d (Read fault)) (same m) why
    not_updated given disk slice (Line n fault) same why =
        λ m. subst (λ (d : List ℕ). MayRefuseUpdate changes d (Line n fault)) (same m) why
    not_updated given disk slice (Write fault) same why =
        λ m. subst (λ (d : List ℕ). MayRefuseUpdate changes d (Write fault)) (same m) why

    pub unread : (given disk : D) (was now : Bool) (fault : StoreFault)
        → (fault ≡ TooBig → disks.follows_model → most < length document)
        → ((fault ≡ TooBig → ⊥) → CurrentRefuses was now (disks.failed given) (disks.failed disk) fault)
        → was ≡ false → MayRefuseOver disks changes document given disk (Store fault)
    unread given disk was now Device big why ready = failed_here given disk (why (λ is. absurd (cc))).2
    unread given disk was now NeedsReopen big why ready = let again = why (λ is. absurd (cc)) in absurd (cc)
    unread given disk was now TooBig big why ready = λ m. inl (big refl m)
    unread given disk was now Damaged big why ready = absurd (why (λ is. absurd (cc)))
    unread given disk was now NoMemory big why ready = tt

    -- since an earlier moment
    pub refused_earlier : (given mid disk : D) (fault : EditFault)
        → (disks.follows_model → disks.moment given ≤ disks.moment mid)
        → MayRefuseOver disks changes document mid disk fault → MayRefuseOver disks changes document given disk fault
    refused_earlier given mid disk (Store Device) later why = failed_since given mid disk later why
    refused_earlier given mid disk (Store NeedsReopen) later why = why
    refused_earlier given mid disk (Store TooBig) later why = why
    refused_earlier given mid disk (Store Damaged) later why = why
    refused_earlier given mid disk (Store NoMemory) later why = why
    refused_earlier given mid disk (Read fault) later why = why
    refused_earlier given mid disk (Line n fault) later why = why
    refused_earlier given mid disk (Write fault) later why = why

  -- ---- an edit of the document of a disk as it was given
  pub unopened : (changes : List (ℕ × Change)) (given disk : D) (fault : StoreFault)
      → OpenRefuses disks.follows_model (disks.reads given) (disks.failed given) (disks.failed disk) fault
      → MayRefuseOn disks changes given disk (Store fault)
  unopened changes given disk Device why = failed_here given disk why
  unopened changes given disk NeedsReopen why = absurd why
  unopened changes given disk TooBig why = absurd why
  unopened changes given disk Damaged why = why
  unopened changes given disk NoMemory why = absurd why

  pub refused_opened : (changes : List (ℕ × Change)) (given mid disk : D) (document : List ℕ) (fault : EditFault)
      → (disks.follows_model → disks.moment given ≤ disks.moment mid)
      → (disks.follows_model → StandsFor document (disks.reads given))
      → MayRefuseOver disks changes document mid disk fault → MayRefuseOn disks changes given disk fault
  refused_opened changes given mid disk document (Store Device) later opened why = failed_since given mid disk later why
  refused_opened changes given mid disk document (Store NeedsReopen) later opened why = absurd why
  refused_opened changes given mid disk document (Store TooBig) later opened why = λ m. (document, opened m, why m)
  refused_opened changes given mid disk document (Store Damaged) later opened why = λ m. absurd (why m)
  refused_opened changes given mid disk document (Store NoMemory) later opened why = tt
  refused_opened changes given mid disk document (Read fault) later opened why = λ m. (document, opened m, why m)
  refused_opened changes given mid disk document (Line n fault) later opened why = λ m. (document, opened m, why m)
  refused_opened changes given mid disk document (Write fault) later opened why = λ m. (document, opened m, why m)

  -- ---- of what is told
  pub lost_told : (told : Result Edited EditFault) (o : Outcome) (given held disk : D) (bytes : List ℕ) (blocks : ℕ)
      (was : Bool) → was ≡ false → disk ≡ held → Tells o bytes blocks told
      → LostAs o (length bytes) was (disks.failed given) (disks.failed held)
      → IfErr told (λ e. MayRefuseCommit disks bytes given disk e)
  lost_told (Ok t) o given held disk bytes blocks was ready is tells why = tt
  lost_told (Err e) Kept given held disk bytes blocks was ready is tells why = absurd tells
  lost_told (Err e) (Lost cause) given held disk bytes blocks was ready is tells why =
      subst (λ (f : EditFault). MayRefuseCommit disks bytes given disk f) (sym tells)
      (lost given held disk bytes was cause ready is why)

  pub uncommitted_told : (changes : List (ℕ × Change)) (told : Result Edited EditFault) (given disk : D)
      (document slice image bytes : List ℕ) → (disks.follows_model → slice ≡ document) → bytes ≡ image
      → IsEdit changes slice image → IfErr told (λ e. MayRefuseCommit disks bytes given disk e)
      → IfErr told (λ e. MayRefuseOver disks changes document given disk e)
  uncommitted_told changes (Ok t) given disk document slice image bytes same is edit why = tt
  uncommitted_told changes (Err e) given disk document slice image bytes same is edit why =
      uncommitted changes document given disk bytes e
      (λ m. subst (λ (b : List ℕ). IsEdit changes document b) (sym is)
      (subst (λ (d : List ℕ). IsEdit changes d image) (same m) edit)) why

  pub refused_read : (changes : List (ℕ × Change)) (told : Result Edited EditFault) (given mid disk : D)
      (document other : List ℕ) → (disks.follows_model → disks.moment given ≤ disks.moment mid)
      → (disks.follows_model → other ≡ document) → IfErr told (λ e. MayRefuseOver disks changes other mid disk e)
      → IfErr told (λ e. MayRefuseOver disks changes document given disk e)
  refused_read changes (Ok t) given mid disk document other later same why = tt
  refused_read changes (Err e) given mid disk document other later same why =
      refused_earlier changes document given mid disk e later (at e why) where
        at : (f : EditFault) → MayRefuseOver disks changes other mid disk f
            → MayRefuseOver disks changes document mid disk f
        at (Store Device) why = why
        at (Store NeedsReopen) why = why
        at (Store TooBig) why = λ m. subst (λ (d : List ℕ). (most < length d)
            ⊎ MayRefuseUpdate changes d (Store TooBig)) (same m) (why m)
        at (Store Damaged) why = why
        at (Store NoMemory) why = why
        at (Read fault) why = λ m. subst (λ (d : List ℕ). MayRefuseUpdate changes d (Read fault)) (same m) (why m)
        at (Line n fault) why = λ m. subst (λ (d : List ℕ). MayRefuseUpdate changes d (Line n fault)) (same m) (why m)
        at (Write fault) why = λ m. subst (λ (d : List ℕ). MayRefuseUpdate changes d (Write fault)) (same m) (why m)

  pub refused_told : (changes : List (ℕ × Change)) (told : Result Edited EditFault) (given mid disk : D)
      (document : List ℕ) → (disks.follows_model → disks.moment given ≤ disks.moment mid)
      → (disks.follows_model → StandsFor document (disks.reads given))
      → IfErr told (λ e. MayRefuseOver disks changes document mid disk e)
      → IfErr told (λ e. MayRefuseOn disks changes given disk e)
  refused_told changes (Ok t) given mid disk document later opened why = tt
  refused_told changes (Err e) given mid disk document later opened why =
      refused_opened changes given mid disk document e later opened why
