-- A file that is opened is as it was saved.
use Rattle.std.proofs.Common.{◌≡◌, inl, inr, ◌++◌, ℕ, List, [], ◌∷◌, Option, Some, Result, Ok, refl, sym, ap, ◌∙◌}
use Rattle.std.proofs.Common.{subst}
use Rattle.ole_model.specs.Documents.{Doc}
use Rattle.store_model.specs.Crash.{IsWithin}
use Rattle.store_model.specs.Image.{Image}
use Rattle.store_model.specs.Store.{StandsFor}
use Rattle.store_model.specs.declared.disk.Disk.{Ghosts as Disks}
use Rattle.message_values.specs.Found.{nth}
use Rattle.container_laws.specs.OpenLaws.{FilesGiveTheirs, IsFileOf}
use Rattle.container_model.specs.declared.answer.FrameDocument.{FrameDocument}
use Rattle.container_model.specs.declared.record.Frame.{Frame}
use Rattle.container_model.specs.Opens.{Given, IsReadAs}
use Rattle.container_model.specs.Saves.{document, image}
use Rattle.script_model.specs.declared.step.Step.{Step}
use Rattle.script_model.specs.declared.step.Step.TheVariants as step
use Rattle.script_model.specs.Containers.{record_of}
use Rattle.script_model.specs.Events.{Event, Started, Connected, Sent, Heard, Ended, Opened, Found, Shut, Stepped}
use Rattle.script_model.specs.Saved.{CountsSaved, IsOpened, IsSaved, OfEachStep, OpensRead, file_name}
use Rattle.script_run.specs.Again.{IsAsShut, IsFaithful, IsLastShut, IsNotShut, SavesAreOpenedAgain}

-- what holds of each step holds of the earlier ones
earlier : {D : Type 0} (P : Step → List (Event D) → Type 0) (later es : List (Event D)) → OfEachStep P (later ++ es)
    → OfEachStep P es
earlier P [] es all = all
earlier P (Stepped step ∷ later) es all = earlier P later es all.1
earlier P (Started session inc ok ∷ later) es all = earlier P later es all
earlier P (Connected inc ok ∷ later) es all = earlier P later es all
earlier P (Sent inc bytes ok ∷ later) es all = earlier P later es all
earlier P (Heard inc bytes ok ∷ later) es all = earlier P later es all
earlier P (Ended inc ∷ later) es all = earlier P later es all
earlier P (Opened name disk ∷ later) es all = earlier P later es all
earlier P (Found name disk ∷ later) es all = earlier P later es all
earlier P (Shut name disk ∷ later) es all = earlier P later es all

faithful_earlier : {D : Type 0} (disks : Disks D) (later es : List (Event D)) → IsFaithful disks (later ++ es)
    → IsFaithful disks es
faithful_earlier disks [] es all = all
faithful_earlier disks (Stepped step ∷ later) es all = faithful_earlier disks later es all
faithful_earlier disks (Started session inc ok ∷ later) es all = faithful_earlier disks later es all
faithful_earlier disks (Connected inc ok ∷ later) es all = faithful_earlier disks later es all
faithful_earlier disks (Sent inc bytes ok ∷ later) es all = faithful_earlier disks later es all
faithful_earlier disks (Heard inc bytes ok ∷ later) es all = faithful_earlier disks later es all
faithful_earlier disks (Ended inc ∷ later) es all = faithful_earlier disks later es all
faithful_earlier disks (Opened name disk ∷ later) es all = faithful_earlier disks later es all.1
faithful_earlier disks (Found name disk ∷ later) es all = faithful_earlier disks later es all.1
faithful_earlier disks (Shut name disk ∷ later) es all = faithful_earlier disks later es all

-- a disk stays the last one while none is given back under its name
last_still : {D : Type 0} (name : List ℕ) (disk : D) (between es : List (Event D)) → IsNotShut name between
    → IsLastShut name disk es → IsLastShut name disk (between ++ es)
last_still name disk [] es none last = last
last_still name disk (Stepped step ∷ between) es none last = last_still name disk between es none last
last_still name disk (Started session inc ok ∷ between) es none last = last_still name disk between es none last
last_still name disk (Connected inc ok ∷ between) es none last = last_still name disk between es none last
last_still name disk (Sent inc bytes ok ∷ between) es none last = last_still name disk between es none last
last_still name disk (Heard inc bytes ok ∷ between) es none last = last_still name disk between es none last
last_still name disk (Ended inc ∷ between) es none last = last_still name disk between es none last
last_still name disk (Opened other given ∷ between) es none last = last_still name disk between es none last
last_still name disk (Found other given ∷ between) es none last = last_still name disk between es none last
last_still name disk (Shut other shut ∷ between) es none last =
    inr (none.0, last_still name disk between es none.1 last)

-- one image stands for one document
one_document : (a b : List ℕ) (c : Image) → StandsFor a c → StandsFor b c → a ≡ b
one_document a b c first second = let both : ◌≡◌ {A = Option (List ℕ)} (Some a) (Some b) = sym first ∙ second in cc

one_frame : (found : Option Frame) (a b : Frame) → found ≡ Some a → found ≡ Some b → a ≡ b
one_frame found a b first second = cc

-- the disk that was found is the one of the history
one_found : {D : Type 0} (name other : List ℕ) (shut disk found given : D) (rest before : List (Event D))
    → ◌≡◌ {A = List (Event D)} (Shut name shut ∷ Found name (Some found) ∷ rest)
    (Shut other disk ∷ Found other (Some given) ∷ before) → found ≡ given
one_found name other shut disk found given rest before is = cc

document_held : (a b : Doc) → Given.Holding a ≡ Given.Holding b → a ≡ b
document_held a b is = cc

saved_of : {E : Type 0} (counted : Result FrameDocument E) (a b : FrameDocument) → counted ≡ Ok a → counted ≡ Ok b
    → a ≡ b
saved_of counted a b first second = cc

module _ {D : Type 0} (disks : Disks D) (left : (d : D) → disks.may_leave d (disks.reads d))
    (theirs : FilesGiveTheirs) where
  -- the disk of a save, of which a disk that was found leaves no more, has its bytes
  again : (name : List ℕ) (f : ℕ) (before es : List (Event D)) (d : Doc) (found : D)
      (saved : IsSaved disks before f) (opened : IsOpened disks es name d)
      → IsWithin (disks.may_leave saved.shut.disk) (disks.may_leave found) → found ≡ opened.read.found
      → d ≡ document saved.file.saved
  again name f before es d found saved opened within is =
      let read : StandsFor opened.bytes (disks.reads found) =
      subst (λ (x : D). StandsFor opened.bytes (disks.reads x)) (sym is) opened.read.read.read in
      let same : opened.bytes ≡ saved.bytes = one_document opened.bytes saved.bytes (disks.reads found) read
      (saved.shut.saved.durable (disks.reads found) (within (disks.reads found) (left found))) in
      let file : IsFileOf saved.bytes saved.file.saved =
      record { denotes = saved.file.denotes; holds = saved.file.holds } in
      document_held d (document saved.file.saved)
      (theirs saved.bytes saved.file.saved (Given.Holding d) file
      (subst (λ (b : List ℕ). IsReadAs (Some b) (Given.Holding d)) same opened.holds))

  pub saves-are-opened-again : SavesAreOpenedAgain disks
  saves-are-opened-again later between before name w h d found shut f frame kept m saves opens faithful none
      is_frame named counted =
      let mid : List (Event D) = between ++ (Stepped (step.Committed f) ∷ before) in
      let es : List (Event D) = Shut name shut ∷ Found name (Some found) ∷ mid in
      let whole : List (Event D) = Stepped (step.Open name w h d.session d.objects) ∷ es in
      let opened : IsOpened disks es name d = (earlier (OpensRead disks) later whole opens).0 in
      let saved : IsSaved disks before f =
      (earlier (CountsSaved disks) between (Stepped (step.Committed f) ∷ before)
      (earlier (CountsSaved disks) later whole saves).1).0 m in
      let same : saved.name ≡ name = saved.file.named
      ∙ ap file_name (one_frame (nth (record_of before).frames f) saved.file.frame frame saved.file.found
      is_frame) ∙ named in
      let last : IsLastShut name saved.shut.disk before =
      subst (λ (e : List (Event D)). IsLastShut name saved.shut.disk e) (sym saved.shut.last)
      (inl (same, refl)) in
      let as_shut : IsAsShut disks name (Some found) mid = (faithful_earlier disks later whole faithful).0 in
      again name f before es d found saved opened
      (as_shut saved.shut.disk (last_still name saved.shut.disk between (Stepped (step.Committed f) ∷ before)
      none last))
      (one_found name name shut opened.read.disk found opened.read.found mid opened.read.before opened.read.last)
      ∙ ap document (saved_of (image (record_of before) f) saved.file.saved kept saved.file.counted counted)
