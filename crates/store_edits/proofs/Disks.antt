-- What calls leave of a disk, one after another.
use Rattle.std.proofs.Common.{◌≡◌, ◌≤◌, ◌⊎◌, inl, inr, ⊎_elim, ℕ, Bool, true, false, List, Option, Some, Result, Ok}
use Rattle.std.proofs.Common.{Err, IfErr, IfOk, OnOk, length, not, sym, ap, ◌∙◌, subst, refl, arith}
use Rattle.store_model.specs.Crash.{StaysIn}
use Rattle.store_model.specs.Image.{Image}
use Rattle.store_model.specs.Journal.{restored}
use Rattle.store_model.specs.Store.{IsBeforeOrAfter, StandsAsOneOf, StandsFor}
use Rattle.store_model.specs.declared.disk.Disk.{Ghosts as Disks}
use Rattle.tree_edits.specs.declared.change.Change.{Change}
use Rattle.store_images.specs.Changed.{changed_blocks}
use Rattle.store_core.specs.Resolved.{Ends}
use Rattle.store_core.specs.declared.outcome.Outcome.{Outcome}
use Rattle.store_core.specs.declared.outcome.Outcome.TheVariants.{Kept, Lost}
use Rattle.store_edits.specs.declared.editing.Edited.{Edited}
use Rattle.store_edits.specs.declared.fault.EditFault.{EditFault}
use Rattle.store_edits.specs.Edits.{IsEdit}
use Rattle.store_edits.specs.Disks.{Holds, IsAsGiven, IsAsGivenOrEdit, IsBeforeOrEdit, IsEdited, IsEditedOn, IsKeptOn}
use Rattle.store_edits.specs.Disks.{Tells}

-- ---- what is told of a commit
pub kept_then : (told : Result Edited EditFault) (o : Outcome) (bytes : List ℕ) (blocks : ℕ) (old document : List ℕ)
    (H : Type 0)
    → Tells o bytes blocks told → Ends o old bytes document → (document ≡ bytes → H) → IfOk told (λ t. H)
kept_then (Ok t) Kept bytes blocks old document H tells ends then = then ends
kept_then (Ok t) (Lost cause) bytes blocks old document H tells ends then = absurd tells
kept_then (Err e) o bytes blocks old document H tells ends then = tt

pub lost_then : (told : Result Edited EditFault) (o : Outcome) (bytes : List ℕ) (blocks : ℕ) (old document : List ℕ)
    (H : Type 0)
    → Tells o bytes blocks told → Ends o old bytes document → (document ≡ old → H) → IfErr told (λ e. H)
lost_then (Ok t) o bytes blocks old document H tells ends then = tt
lost_then (Err e) Kept bytes blocks old document H tells ends then = absurd tells
lost_then (Err e) (Lost cause) bytes blocks old document H tells ends then = then ends.1

pub told_then : (told : Result Edited EditFault) (o : Outcome) (bytes : List ℕ) (blocks : ℕ)
    → Tells o bytes blocks told → IfOk told (λ t. (t.bytes ≡ length bytes) × (t.blocks ≡ blocks))
told_then (Ok t) Kept bytes blocks tells = tells
told_then (Ok t) (Lost cause) bytes blocks tells = absurd tells
told_then (Err e) o bytes blocks tells = tt

pub settled_then : (told : Result Edited EditFault) (settled : Bool) → settled ≡ true → OnOk told (settled ≡ true)
settled_then (Ok t) settled is = is
settled_then (Err e) settled is = tt

-- from one disk to another, as the clauses of calls say it
abbrev pub Stays : {D : Type 0} (disks : Disks D) → (given disk : D) → (Image → Type 0) → Type 0
Stays disks given disk P = StaysIn disks.may_leave disks.moment disks.left_since given disk P

same_some : {A : Type 0} {a b : A} → ◌≡◌ {A = Option A} (Some a) (Some b) → a ≡ b
same_some h = cc

module _ {D : Type 0} (disks : Disks D) where
  -- one run after another, where what either leaves has Q
  pub joined : (old mid new : D) (P R Q : Image → Type 0) → Stays disks old mid P → ((c : Image) → P c → Q c)
      → Stays disks mid new R → ((c : Image) → R c → Q c) → Stays disks old new Q
  joined old mid new P R Q first p second r = record {
    any_moment = record {
      later = let a = first.any_moment.later in let b = second.any_moment.later in omega (arith, a, b);
      each = λ c left. ⊎_elim (λ was. p c (first.any_moment.each c was)) (r c)
          (second.any_moment.before (disks.moment old) c first.any_moment.later left);
      before = λ t c le left. ⊎_elim (λ was. ⊎_elim (λ earlier. inl earlier) (λ has. inr (p c has))
          (first.any_moment.before t c le was)) (λ has. inr (r c has))
          (second.any_moment.before t c (let a = first.any_moment.later in omega (arith, le, a)) left);
    };
    now = λ c left. r c (second.now c left);
  }

  -- what a run leaves, said otherwise
  pub mapped : (old new : D) (P Q : Image → Type 0) → Stays disks old new P → ((c : Image) → P c → Q c)
      → Stays disks old new Q
  mapped old new P Q run p = record {
    any_moment = record {
      later = run.any_moment.later;
      each = λ c left. p c (run.any_moment.each c left);
      before = λ t c le left. ⊎_elim (λ was. inl was) (λ has. inr (p c has)) (run.any_moment.before t c le left);
    };
    now = λ c left. p c (run.now c left);
  }

  -- no call at all
  pub still : (disk : D) (P : Image → Type 0)
      → ((d : D) (c : Image) → disks.left_since d (disks.moment d) c → disks.may_leave d c)
      → ((c : Image) → disks.may_leave disk c → P c) → Stays disks disk disk P
  still disk P only has = record {
    any_moment = record {
      later = omega arith;
      each = λ c left. has c (only disk c left);
      before = λ t c le left. inl left;
    };
    now = has;
  }

  pub still_at : (given disk : D) (P : Image → Type 0) → disk ≡ given
      → ((d : D) (c : Image) → disks.left_since d (disks.moment d) c → disks.may_leave d c)
      → ((c : Image) → disks.may_leave disk c → P c) → Stays disks given disk P
  still_at given disk P is only has = subst (λ (d : D). Stays disks d disk P) is (still disk P only has)

  pub stays_at : (given held disk : D) (P : Image → Type 0) → disk ≡ held → Stays disks given held P
      → Stays disks given disk P
  stays_at given held disk P is run = subst (λ (d : D). Stays disks given d P) (sym is) run

  -- a store's disk has these bytes
  pub held : (disk kept : D) (document : List ℕ) (needs : Bool) → disk ≡ kept
      → (disks.reads kept).document ≡ document → needs ≡ false
      → (needs ≡ false → (c : Image) → disks.may_leave disk c → StandsFor (disks.reads disk).document c)
      → Holds disks disk document
  held disk kept document needs is has ready between =
      let here : (disks.reads disk).document ≡ document = ap (λ (d : D). (disks.reads d).document) is ∙ has in
      record { reads = here; durable = λ c left. between ready c left ∙ ap (λ (b : List ℕ). Some b) here }

  -- a disk that stands for a document, and gives what it stands for, has it
  pub held_still : (disk : D) (document : List ℕ) → disks.may_leave disk (disks.reads disk)
      → ((c : Image) → disks.may_leave disk c → StandsFor document c)
      → ((c : Image) → disks.may_leave disk c → StandsFor (disks.reads disk).document c) → Holds disks disk document
  held_still disk document left stands between = record {
    reads = same_some (sym (between (disks.reads disk) left) ∙ stands (disks.reads disk) left);
    durable = stands;
  }

  -- ---- from a disk as it was given
  pub as_given : (given : D) (document : List ℕ) → disks.may_leave given (disks.reads given)
      → restored (disks.reads given) ≡ Some document → (c : Image) → StandsFor document c → IsAsGiven disks given c
  as_given given document left opened c stands = (disks.reads given, left, stands ∙ sym opened)

  pub opened_then : (changes : List (ℕ × Change)) (given mid disk : D) (document : List ℕ)
      → disks.may_leave given (disks.reads given) → restored (disks.reads given) ≡ Some document
      → Stays disks given mid (StandsAsOneOf (disks.may_leave given))
      → Stays disks mid disk (IsBeforeOrEdit changes document)
      → Stays disks given disk (IsAsGivenOrEdit disks changes given)
  opened_then changes given mid disk document left opened first run =
      joined given mid disk (IsAsGiven disks given) (IsBeforeOrEdit changes document)
      (IsAsGivenOrEdit disks changes given) first (λ c has. inl has) run
      (λ c either. ⊎_elim (λ old. inl (as_given given document left opened c old))
      (λ edit. inr (document, opened, edit.0, edit.1, edit.2)) either)

  pub edited_then : (changes : List (ℕ × Change)) (told : Result Edited EditFault) (disk : D)
      (document slice image bytes : List ℕ) (blocks : ℕ) → slice ≡ document → bytes ≡ image
      → IsEdit changes slice image → blocks ≡ length (changed_blocks slice image)
      → IfOk told (λ t. Holds disks disk bytes)
      → IfOk told (λ t. (t.bytes ≡ length bytes) × (t.blocks ≡ blocks))
      → IfOk told (λ t. IsEdited disks changes document t disk)
  edited_then changes (Ok t) disk document slice image bytes blocks same is edit counted has told = record {
    bytes = image;
    edit = subst (λ (d : List ℕ). IsEdit changes d image) same edit;
    holds = subst (λ (b : List ℕ). Holds disks disk b) is has;
    counted = told.0 ∙ ap (λ (b : List ℕ). length b) is;
    blocks = told.1 ∙ counted ∙ ap (λ (d : List ℕ). length (changed_blocks d image)) same;
  }
  edited_then changes (Err e) disk document slice image bytes blocks same is edit counted has told = tt

  pub either_then : (changes : List (ℕ × Change)) (given disk : D) (document slice image bytes : List ℕ)
      → slice ≡ document → bytes ≡ image → IsEdit changes slice image
      → Stays disks given disk (IsBeforeOrAfter document bytes)
      → Stays disks given disk (IsBeforeOrEdit changes document)
  either_then changes given disk document slice image bytes same is edit run =
      mapped given disk (IsBeforeOrAfter document bytes) (IsBeforeOrEdit changes document) run
      (λ c either. ⊎_elim (λ old. inl old)
      (λ new. inr (
        image,
        subst (λ (d : List ℕ). IsEdit changes d image) same edit,
        subst (λ (b : List ℕ). StandsFor b c) is new,
      )) either)

  -- ---- since the store was opened
  pub edited_opened : (changes : List (ℕ × Change)) (told : Result Edited EditFault) (given disk : D)
      (document : List ℕ) → StandsFor document (disks.reads given)
      → IfOk told (λ t. IsEdited disks changes document t disk) → IfOk told (λ t. IsEditedOn disks changes given t disk)
  edited_opened changes (Ok t) given disk document opened edited = (document, opened, edited)
  edited_opened changes (Err e) given disk document opened edited = tt

  pub kept_opened : (told : Result Edited EditFault) (given disk : D) (document : List ℕ) (settled : Bool)
      → StandsFor document (disks.reads given)
      → IfErr told (λ e. settled ≡ true → Holds disks disk document)
      → IfErr told (λ e. settled ≡ true → IsKeptOn disks given disk)
  kept_opened (Ok t) given disk document settled opened has = tt
  kept_opened (Err e) given disk document settled opened has = λ is. (document, opened, has is)

  -- ---- since the document was read
  pub edited_read : (changes : List (ℕ × Change)) (told : Result Edited EditFault) (disk : D)
      (document other : List ℕ) → other ≡ document
      → IfOk told (λ t. IsEdited disks changes other t disk) → IfOk told (λ t. IsEdited disks changes document t disk)
  edited_read changes told disk document other is has =
      subst (λ (d : List ℕ). IfOk told (λ t. IsEdited disks changes d t disk)) is has

  pub kept_read : (told : Result Edited EditFault) (disk : D) (document other : List ℕ) (settled : Bool)
      → other ≡ document
      → IfErr told (λ e. settled ≡ true → Holds disks disk other)
      → IfErr told (λ e. settled ≡ true → Holds disks disk document)
  kept_read told disk document other settled is has =
      subst (λ (d : List ℕ). IfErr told (λ e. settled ≡ true → Holds disks disk d)) is has

  pub read_then : (changes : List (ℕ × Change)) (given mid disk : D) (document other : List ℕ) → other ≡ document
      → Stays disks given mid (StandsFor document)
      → Stays disks mid disk (IsBeforeOrEdit changes other) → Stays disks given disk (IsBeforeOrEdit changes document)
  read_then changes given mid disk document other is first run =
      joined given mid disk (StandsFor document) (IsBeforeOrEdit changes document) (IsBeforeOrEdit changes document)
      first (λ c has. inl has)
      (subst (λ (d : List ℕ). Stays disks mid disk (IsBeforeOrEdit changes d)) is run) (λ c has. has)

pub not_settled : (b : Bool) → not b ≡ true → b ≡ false
not_settled true is = sym is
not_settled false is = refl
