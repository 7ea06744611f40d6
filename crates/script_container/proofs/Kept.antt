-- What a store that is opened on a disk, and committed to or read, leaves of this disk.
use Rattle.std.proofs.Common.{◌≡◌, inl, inr, ⊎_elim, ℕ, List, Bool, false, Some, Result, Ok, Err, IfOk, OnOk, Vec, sym}
use Rattle.std.proofs.Common.{ap, ◌∙◌, subst, arith}
use Rattle.std.specs.declared.alloc.Global.{Global}
use Rattle.store_model.specs.Image.{Image}
use Rattle.store_model.specs.Journal.{restored}
use Rattle.store_model.specs.Store.{IsBeforeOrAfter, StandsFor}
use Rattle.store_model.specs.declared.disk.Disk.{Ghosts as Disks}
use Rattle.store_core.specs.declared.outcome.Outcome.{Outcome}
use Rattle.store_core.specs.declared.outcome.Outcome.TheVariants.{Kept, Lost}
use Rattle.script_model.specs.Saved.{IsAsGiven, IsAsGivenOr, IsLostOn, IsReadOf, IsSavedOn, IsSince}
use Rattle.script_container.specs.Told.{IfKept, IfLost, IsLeftOn, IsReplacedOn}

pub kept_then : (o : Outcome) (P Q : Type 0) → (P → Q) → IfKept o P → IfKept o Q
kept_then Kept P Q then has = then has
kept_then (Lost fault) P Q then has = tt

pub lost_then : (o : Outcome) (P Q : Type 0) → (P → Q) → IfLost o P → IfLost o Q
lost_then Kept P Q then has = tt
lost_then (Lost fault) P Q then has = then has

module _ {D : Type 0} (disks : Disks D) where
  -- one run after another, where what either leaves has Q
  joined : (old mid new : D) (P R Q : Image → Type 0) → IsSince disks old mid P → ((c : Image) → P c → Q c)
      → IsSince disks mid new R → ((c : Image) → R c → Q c) → IsSince disks old new Q
  joined old mid new P R Q first p second r = record {
    any_moment = record {
      later = let a = first.any_moment.later in let b = second.any_moment.later in omega (arith, a, b);
      each = λ c left. ⊎_elim (λ was. p c (first.any_moment.each c was)) (r c)
          (second.any_moment.before (disks.moment old) c first.any_moment.later left);
      before = λ t c le left. ⊎_elim (λ was. ⊎_elim (λ earlier. inl earlier) (λ has. inr (p c has))
          (first.any_moment.before t c le was)) (λ has. inr (r c has))
          (second.any_moment.before t c (let a = first.any_moment.later in omega (arith, le, a)) left);
    };
    now = λ c left. r c (second.now c left);
  }

  -- what stands for what reads gave of a disk stands for what a crash might have left of it
  as_given : (given : D) (document : List ℕ) → disks.may_leave given (disks.reads given)
      → restored (disks.reads given) ≡ Some document → (c : Image) → StandsFor document c → IsAsGiven disks given c
  as_given given document left opened c stands = (disks.reads given, left, stands ∙ sym opened)

  as_given_before : (given mid : D) → ((c : Image) → disks.may_leave mid c → IsAsGiven disks given c) → (c : Image)
      → IsAsGiven disks mid c → IsAsGiven disks given c
  as_given_before given mid now c stands = let first = now stands.0 stands.1 in (first.0, first.1, stands.2 ∙ first.2)

  opened_then : (given mid disk : D) (document bytes : List ℕ) → disks.may_leave given (disks.reads given)
      → restored (disks.reads given) ≡ Some document → IsSince disks given mid (IsAsGiven disks given)
      → IsReplacedOn disks mid document bytes disk → IsSavedOn disks given bytes disk
  opened_then given mid disk document bytes left opened first replaced = record {
    since = joined given mid disk (IsAsGiven disks given) (IsBeforeOrAfter document bytes)
        (IsAsGivenOr disks given bytes) first (λ c stands. inl stands) replaced.0
        (λ c either. ⊎_elim (λ old. inl (as_given given document left opened c old)) (λ new. inr new) either);
    durable = replaced.1;
  }

  opened_left : (given mid disk : D) (document bytes : List ℕ) → disks.may_leave given (disks.reads given)
      → restored (disks.reads given) ≡ Some document → IsSince disks given mid (IsAsGiven disks given)
      → IsLeftOn disks mid document bytes disk → IsLostOn disks given bytes disk
  opened_left given mid disk document bytes left opened first kept = record {
    since = joined given mid disk (IsAsGiven disks given) (IsBeforeOrAfter document bytes)
        (IsAsGivenOr disks given bytes) first (λ c stands. inl stands) kept.0
        (λ c either. ⊎_elim (λ old. inl (as_given given document left opened c old)) (λ new. inr new) either);
    stays = λ c now. as_given given document left opened c (kept.1 c now);
  }

  again_left : (given mid disk : D) (bytes : List ℕ) → IsSince disks given mid (IsAsGiven disks given)
      → IsLostOn disks mid bytes disk → IsLostOn disks given bytes disk
  again_left given mid disk bytes first lost = record {
    since = joined given mid disk (IsAsGiven disks given) (IsAsGivenOr disks mid bytes)
        (IsAsGivenOr disks given bytes) first (λ c stands. inl stands) lost.since
        (λ c either. ⊎_elim (λ old. inl (as_given_before given mid first.now c old)) (λ new. inr new) either);
    stays = λ c now. as_given_before given mid first.now c (lost.stays c now);
  }

  again_then : (given mid disk : D) (bytes : List ℕ) → IsSince disks given mid (IsAsGiven disks given)
      → IsSavedOn disks mid bytes disk → IsSavedOn disks given bytes disk
  again_then given mid disk bytes first saved = record {
    since = joined given mid disk (IsAsGiven disks given) (IsAsGivenOr disks mid bytes)
        (IsAsGivenOr disks given bytes) first (λ c stands. inl stands) saved.since
        (λ c either. ⊎_elim (λ old. inl (as_given_before given mid first.now c old)) (λ new. inr new) either);
    durable = saved.durable;
  }

  -- What takes the place of a store's document is saved on the disk that the store was opened on.
  pub saved_on_opened : {E : Type 0} (told : Result Outcome E) (given mid disk : D) (document bytes : List ℕ)
      → disks.may_leave given (disks.reads given) → restored (disks.reads given) ≡ Some document
      → IsSince disks given mid (IsAsGiven disks given)
      → IfOk told (λ o. IfKept o (IsReplacedOn disks mid document bytes disk))
      → IfOk told (λ o. IfKept o (IsSavedOn disks given bytes disk))
  saved_on_opened (Ok o) given mid disk document bytes left opened first has =
      kept_then o (IsReplacedOn disks mid document bytes disk) (IsSavedOn disks given bytes disk)
      (opened_then given mid disk document bytes left opened first) has
  saved_on_opened (Err e) given mid disk document bytes left opened first has = tt

  -- What is saved on a disk that wasn't opened at first is saved on this disk as it was given.
  pub saved_again : {E : Type 0} (told : Result Outcome E) (given mid disk : D) (bytes : List ℕ)
      → IsSince disks given mid (IsAsGiven disks given)
      → IfOk told (λ o. IfKept o (IsSavedOn disks mid bytes disk))
      → IfOk told (λ o. IfKept o (IsSavedOn disks given bytes disk))
  saved_again (Ok o) given mid disk bytes first has = kept_then o (IsSavedOn disks mid bytes disk)
      (IsSavedOn disks given bytes disk) (again_then given mid disk bytes first) has
  saved_again (Err e) given mid disk bytes first has = tt

  -- What is left of a store's document is left on the disk that the store was opened on.
  pub lost_on_opened : {E : Type 0} (told : Result Outcome E) (given mid disk : D) (document bytes : List ℕ)
      → disks.may_leave given (disks.reads given) → restored (disks.reads given) ≡ Some document
      → IsSince disks given mid (IsAsGiven disks given)
      → IfOk told (λ o. IfLost o (IsLeftOn disks mid document bytes disk))
      → IfOk told (λ o. IfLost o (IsLostOn disks given bytes disk))
  lost_on_opened (Ok o) given mid disk document bytes left opened first has =
      lost_then o (IsLeftOn disks mid document bytes disk) (IsLostOn disks given bytes disk)
      (opened_left given mid disk document bytes left opened first) has
  lost_on_opened (Err e) given mid disk document bytes left opened first has = tt

  -- What isn't saved on a disk that wasn't opened at first isn't saved on this disk as it was given.
  pub lost_again : {E : Type 0} (told : Result Outcome E) (given mid disk : D) (bytes : List ℕ)
      → IsSince disks given mid (IsAsGiven disks given)
      → IfOk told (λ o. IfLost o (IsLostOn disks mid bytes disk))
      → IfOk told (λ o. IfLost o (IsLostOn disks given bytes disk))
  lost_again (Ok o) given mid disk bytes first has = lost_then o (IsLostOn disks mid bytes disk)
      (IsLostOn disks given bytes disk) (again_left given mid disk bytes first) has
  lost_again (Err e) given mid disk bytes first has = tt

  -- Calls that change no byte, of the disk of a store that was opened.
  pub quiet_on_opened : (given mid held disk : D) → IsSince disks given mid (IsAsGiven disks given) → held ≡ mid
      → IsSince disks held disk (disks.may_leave held) → IsSince disks given disk (IsAsGiven disks given)
  quiet_on_opened given mid held disk first is quiet =
      joined given mid disk (IsAsGiven disks given) (disks.may_leave mid) (IsAsGiven disks given) first
      (λ c stands. stands) (subst (λ (d : D). IsSince disks d disk (disks.may_leave d)) is quiet) first.now

  -- What a store that is opened and read leaves of the disk that it was opened on.
  pub looked_on_opened : (given mid held disk : D) → disks.may_leave given (disks.reads given)
      → restored (disks.reads given) ≡ Some (disks.reads mid).document
      → IsSince disks given mid (IsAsGiven disks given)
      → IsSince disks mid held (StandsFor (disks.reads mid).document) → disk ≡ held
      → IsSince disks given disk (IsAsGiven disks given)
  looked_on_opened given mid held disk left opened first run is =
      subst (λ (d : D). IsSince disks given d (IsAsGiven disks given)) (sym is)
      (joined given mid held (IsAsGiven disks given) (StandsFor (disks.reads mid).document) (IsAsGiven disks given)
      first (λ c stands. stands) run (as_given given (disks.reads mid).document left opened))

  read_then : (given mid held disk : D) (bytes : List ℕ) → disks.may_leave given (disks.reads given)
      → restored (disks.reads given) ≡ Some (disks.reads mid).document
      → IsSince disks given mid (IsAsGiven disks given)
      → IsSince disks mid held (StandsFor (disks.reads mid).document) → disk ≡ held
      → disks.reads held ≡ disks.reads mid → bytes ≡ (disks.reads mid).document
      → ((c : Image) → disks.may_leave disk c → StandsFor (disks.reads disk).document c)
      → IsReadOf disks given bytes disk
  read_then given mid held disk bytes left opened first run is same told between =
      let now : (disks.reads disk).document ≡ bytes = ap (λ (d : D). (disks.reads d).document) is
      ∙ ap (λ (i : Image). i.document) same ∙ sym told in
      record {
        read = opened ∙ ap (λ (d : List ℕ). Some d) (sym told);
        since = looked_on_opened given mid held disk left opened first run is;
        durable = λ c here. between c here ∙ ap (λ (d : List ℕ). Some d) now;
      }

  -- The document that a store reads was read of the disk that it was opened on.
  pub read_on_opened : {E : Type 0} (told : Result (Vec ℕ Global) E) (given mid held disk : D) (was needs : Bool)
      → disks.may_leave given (disks.reads given) → restored (disks.reads given) ≡ Some (disks.reads mid).document
      → IsSince disks given mid (IsAsGiven disks given)
      → IsSince disks mid held (StandsFor (disks.reads mid).document) → disk ≡ held
      → OnOk told (disks.reads held ≡ disks.reads mid)
      → IfOk told (λ v. v.items ≡ (disks.reads mid).document) → OnOk told ((was ≡ false) × (needs ≡ false))
      → (needs ≡ false → (c : Image) → disks.may_leave disk c → StandsFor (disks.reads disk).document c)
      → IfOk told (λ v. IsReadOf disks given v.items disk)
  read_on_opened (Ok v) given mid held disk was needs left opened first run is same document ready between =
      read_then given mid held disk v.items left opened first run is same document (between ready.1)
  read_on_opened (Err e) given mid held disk was needs left opened first run is same document ready between = tt
