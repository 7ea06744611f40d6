-- What is told of a file that is to be opened.
use Rattle.std.proofs.Common.{◌≡◌, ◌<◌, ◌⊎◌, ⊎_elim, inl, inr, ℕ, List, ◌∷◌, length, Option, Some, None, Result, Ok}
use Rattle.std.proofs.Common.{Err, IfOk, refl, sym, ap, ◌∙◌, subst}
use Rattle.container_core.specs.Opening.{looked_at}
use Rattle.container_model.specs.Opens.{Given as Holds, IsReadAs, opened}
use Rattle.container_documents.specs.Reading.{as_given}
use Rattle.container_model.specs.Record.{Record}
use Rattle.container_model.specs.declared.fault.ContainerFault.{ContainerFault}
use Rattle.container_model.specs.declared.fault.ContainerFault.TheVariants as fault
use Rattle.ole_model.specs.Documents.{Doc}
use Rattle.store_model.specs.Journal.{restored}
use Rattle.store_model.specs.Store.{OpenRefuses}
use Rattle.store_model.specs.declared.disk.Disk.{Ghosts as Disks}
use Rattle.store_model.specs.declared.fault.StoreFault.{StoreFault}
use Rattle.store_model.specs.declared.fault.StoreFault.TheVariants as store
use Rattle.script_container.specs.declared.fault.ScriptFault.{ScriptFault}
use Rattle.script_model.specs.Answers.{told_opened}
use Rattle.script_model.specs.Containers.{record_of}
use Rattle.script_model.specs.Courses.{Course, Looked, Made, Opening, Read, Unasked, but_opening, course}
use Rattle.script_model.specs.Events.{Event, Found, Shut, Stepped}
use Rattle.script_model.specs.Saved.{IsReadFrom, IsReadOf}
use Rattle.script_model.specs.declared.answer.Told.{Told}
use Rattle.script_model.specs.declared.answer.Told.TheVariants as told
use Rattle.script_model.specs.declared.step.Step.TheVariants as step
use Rattle.script_opens.proofs.Results.{ok_then}
use Rattle.script_opens.specs.Opening.{HoldsMore, IsJustFound, IsOpenTold, IsOpenedBy, IsUnread, bad, broken, empty}
use Rattle.script_opens.specs.Opening.{large, looked, made, refused, void}

-- ---- frames

module _ {D : Type 0} (es after : List (Event D)) (r : Record) (name : List ℕ) (w h : ℕ) (d : Doc)
    (recorded : record_of es ≡ r)
    (given : course after ≡ course (Stepped (step.Open name w h d.session d.objects) ∷ es)) where
  -- a frame that was made of a file, or wasn't
  pub made_so : (t : Told) → told_opened (opened r name w h (Holds.Holding d)) ≡ t
      → course after ≡ record (course es) { opening = Made name w h t }
  made_so t is =
      given
      ∙ ap (λ (q : Record). record (course es) {
        opening =
            Made name w h (told_opened (opened q name w h (Holds.Holding d)));
      }) recorded
      ∙ ap (λ (x : Told). record (course es) { opening = Made name w h x }) is

  pub opening_alone : but_opening (course after) ≡ but_opening (course es)
  opening_alone = ap but_opening given

-- ---- files that were read

module _ {D : Type 0} (before after : Course D) (name : List ℕ) (w h : ℕ) (bytes : List ℕ) where
  pub found_made : (r : Result Told ScriptFault) → IfOk r (λ t. after ≡ record before { opening = Made name w h t })
      → IfOk r (λ t. IsOpenedBy before after name w h bytes t)
  found_made r has = ok_then r (λ t. after ≡ record before { opening = Made name w h t })
      (λ t. IsOpenedBy before after name w h bytes t) (λ t is. made is) has

module _ {D : Type 0} (disks : Disks D) (name bytes : List ℕ) (w h : ℕ) (es mid after : List (Event D))
    (found disk : D) (just : IsJustFound name found es) (shut : mid ≡ Shut name disk ∷ es) where
  -- the disk was given back
  read_now : (course mid).opening ≡ Read name found disk
  read_now = ap (λ (h : List (Event D)). (course h).opening)
      (shut ∙ ap (λ (h : List (Event D)). Shut name disk ∷ h) just.1)

  read_still : course after ≡ course mid → (course after).opening ≡ Read name found disk
  read_still same = ap (λ (k : Course D). k.opening) same ∙ read_now

  unread_told : (t : Told) → (course after).opening ≡ Read name found disk → IsUnread disks found disk t
      → IsOpenTold disks looked name w h (course after).opening t
  unread_told t is why = subst (λ (o : Opening D). IsOpenTold disks looked name w h o t) (sym is) (refl, why)

  opened_told : (t : Told) → (disks.follows_model → IsReadOf disks found bytes disk)
      → IsOpenedBy (course mid) (course after) name w h bytes t
      → IsOpenTold disks looked name w h (course after).opening t
  opened_told t read (made is) = subst (λ (o : Opening D). IsOpenTold disks looked name w h o t)
      (sym (ap (λ (k : Course D). k.opening) is)) (refl, refl, refl, refl)
  opened_told t read (void same is none) = unread_told t (read_still same)
      (empty is (λ m. subst (λ (x : List ℕ). IsReadOf disks found x disk) none (read m)))
  opened_told t read (bad same is holds) = unread_told t (read_still same) (broken bytes is read holds)

  -- what is told of a file that was read
  pub read_told : (r : Result Told ScriptFault) → (disks.follows_model → IsReadOf disks found bytes disk)
      → IfOk r (λ t. IsOpenedBy (course mid) (course after) name w h bytes t)
      → IfOk r (λ t. IsOpenTold disks looked name w h (course after).opening t)
  read_told r read has = ok_then r (λ t. IsOpenedBy (course mid) (course after) name w h bytes t)
      (λ t. IsOpenTold disks looked name w h (course after).opening t) (λ t x. opened_told t read x) has

  -- and of one that wasn't
  pub fault_told : (r : Result Told ScriptFault) (e : StoreFault)
      → (disks.follows_model → e ≡ store.TooBig → HoldsMore disks found) → course after ≡ course mid
      → IfOk r (λ t. (t ≡ told.Unread e) ⊎ ((e ≡ store.TooBig) × (t ≡ told.Fault fault.BadFile)))
      → IfOk r (λ t. IsOpenTold disks looked name w h (course after).opening t)
  fault_told r e more same has =
      ok_then r (λ t. (t ≡ told.Unread e) ⊎ ((e ≡ store.TooBig) × (t ≡ told.Fault fault.BadFile)))
      (λ t. IsOpenTold disks looked name w h (course after).opening t)
      (λ t either. unread_told t (read_still same)
      (⊎_elim (λ is. refused e is) (λ both. large both.1 (λ m. more m both.0)) either)) has

  pub just_read : (disks.follows_model → IsReadOf disks found bytes disk) → disks.follows_model
      → IsReadFrom disks mid name bytes
  just_read read m = record {
    found = found;
    disk = disk;
    before = just.0;
    last = shut ∙ ap (λ (h : List (Event D)). Shut name disk ∷ h) just.1;
    read = read m;
  }

  pub opening_read : but_opening (course mid) ≡ but_opening (course es)
  opening_read =
      ap (λ (h : List (Event D)). but_opening (course h))
      (shut ∙ ap (λ (h : List (Event D)). Shut name disk ∷ h) just.1)
      ∙ sym (ap (λ (h : List (Event D)). but_opening (course h)) just.1)

-- ---- disks that were looked for

module _ {D : Type 0} (disks : Disks D) (name : List ℕ) (w h : ℕ) (es after : List (Event D))
    (found : after ≡ Found name None ∷ es) where
  unfound_now : (course after).opening ≡ Looked name None
  unfound_now = ap (λ (h : List (Event D)). (course h).opening) found

  pub none_found : IsOpenTold disks looked name w h (course after).opening (told.Fault fault.NoSuch)
  none_found = subst (λ (o : Opening D). IsOpenTold disks looked name w h o (told.Fault fault.NoSuch))
      (sym unfound_now) (refl, inl refl)

  unfound_as : (e : StoreFault) (t : Told) → t ≡ told.Unread e
      → IsOpenTold disks looked name w h (course after).opening t
  unfound_as e t is = subst (λ (o : Opening D). IsOpenTold disks looked name w h o t) (sym unfound_now)
      (refl, inr (e, is))

  pub not_found : (r : Result Told ScriptFault) (e : StoreFault) → IfOk r (λ t. t ≡ told.Unread e)
      → IfOk r (λ t. IsOpenTold disks looked name w h (course after).opening t)
  not_found r e has = ok_then r (λ t. t ≡ told.Unread e)
      (λ t. IsOpenTold disks looked name w h (course after).opening t) (λ t is. unfound_as e t is) has

pub opening_looked : {D : Type 0} (name : List ℕ) (found : Option D) (es after : List (Event D))
    → after ≡ Found name found ∷ es → but_opening (course after) ≡ but_opening (course es)
opening_looked {D = D} name found es after is = ap (λ (h : List (Event D)). but_opening (course h)) is

-- ---- what is looked at first

module _ {D : Type 0} (disks : Disks D) (r : Record) (name : List ℕ) (w h : ℕ) where
  pub may_tell : (told : Result Told ScriptFault) (o : Opening D) → Ok tt ≡ looked_at r name w h
      → IfOk told (λ t. IsOpenTold disks looked name w h o t)
      → IfOk told (λ t. IsOpenTold disks (looked_at r name w h) name w h o t)
  may_tell told o may has =
      subst (λ (x : Result (Unit {0}) ContainerFault). IfOk told (λ t. IsOpenTold disks x name w h o t)) may has

  pub may_not : (e : ContainerFault) (o : Opening D) → Err e ≡ looked_at r name w h → o ≡ Unasked
      → IsOpenTold disks (looked_at r name w h) name w h o (told.Fault e)
  may_not e o may unasked =
      subst (λ (x : Result (Unit {0}) ContainerFault). IsOpenTold disks x name w h o (told.Fault e)) may
      (subst (λ (p : Opening D). IsOpenTold disks (Err e) name w h p (told.Fault e)) (sym unasked) refl)

-- a file that holds no document
pub given_none : (file : List ℕ) (d : Option Doc) → d ≡ None → IsReadAs (Some file) (as_given d)
    → IsReadAs (Some file) Holds.Broken
given_none file d none given = subst (λ (x : Option Doc). IsReadAs (Some file) (as_given x)) none given

pub found_none : {D : Type 0} (es after : List (Event D)) (name n : List ℕ) (x : Option D) → after ≡ Found n x ∷ es
    → n ≡ name → x ≡ None → after ≡ Found name None ∷ es
found_none {D = D} es after name n x is same none = is ∙ ap (λ (m : List ℕ). Found m x ∷ es) same
    ∙ ap (λ (y : Option D). Found name y ∷ es) none

-- ---- more bytes than are opened

pub err_same : {A : Type 0} {r : Result A StoreFault} (e : StoreFault) → r ≡ Err e → e ≡ store.TooBig
    → r ≡ Err store.TooBig
err_same e is same = cc

pub fault_of : {A : Type 0} {r : Result A StoreFault} (e : StoreFault) → r ≡ Err store.TooBig → r ≡ Err e
    → e ≡ store.TooBig
fault_of e is so = cc

module _ {D : Type 0} (disks : Disks D) (given : D) where
  pub more_of : {A : Type 0} (told : Result A StoreFault) (document : List ℕ)
      → restored (disks.reads given) ≡ Some document → (told ≡ Err store.TooBig → 134217728 < length document)
      → told ≡ Err store.TooBig → HoldsMore disks given
  more_of told document opened past is = (document, opened, past is)

  pub never_more : (e : StoreFault) (disk : D) → OpenRefuses disks.follows_model (disks.reads given)
      (disks.failed given) (disks.failed disk) e → e ≡ store.TooBig → HoldsMore disks given
  never_more e disk refuses is =
      absurd (subst (λ (x : StoreFault). OpenRefuses disks.follows_model (disks.reads given) (disks.failed given)
      (disks.failed disk) x) is refuses)
