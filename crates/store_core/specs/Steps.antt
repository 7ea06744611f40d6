-- What the steps of `open` and `commit` find, write, and may leave.
use Rattle.std.specs.Prelude.{◌≡◌, ◌<◌, ℕ, List, get_or, length, true}
use Rattle.store_model.specs.Crash.{Torn}
use Rattle.store_model.specs.Image.{Image}
use Rattle.store_model.specs.Journal.{count_in, form_in, is_open, is_whole, restored, size_in}
use Rattle.store_model.specs.Store.{IsClosed}
use Rattle.store_core.specs.declared.found.Change.{Change}
use Rattle.store_core.specs.declared.found.Change.TheVariants.{Blocks, Whole}
use Rattle.store_core.specs.declared.found.Found.{Found}
use Rattle.store_core.specs.declared.found.Found.TheVariants.{Closed, Short, Open}
use Rattle.store_model.specs.declared.journal.TheConstants.{BLOCKS, HEADER, OPEN, WHOLE}
use Rattle.store_core.specs.Resting.{IsShut}

-- the document's new length
abbrev pub new_size : Change → ℕ
new_size (Whole size) = size
new_size (Blocks count size) = size

-- the journal holds this change
abbrev pub HoldsChange : List ℕ → Change → Type 0
HoldsChange journal (Whole size) = (form_in journal ≡ WHOLE) × (size ≡ size_in journal)
HoldsChange journal (Blocks count size) = (form_in journal ≡ BLOCKS) × (count ≡ count_in journal)
    × (size ≡ size_in journal)

-- the journal is open, isn't damaged, and holds this change
pub record IsOpenWith (change : Change) (image : Image) : Type 0 where
  pub gate : is_open image.journal ≡ true
  pub whole : is_whole image ≡ true
  pub holds : HoldsChange image.journal change

-- what `open` finds in the journal
abbrev pub Finds : Image → Found → Type 0
Finds image Closed = IsShut image.journal
Finds image Short = (length image.journal < HEADER) × (get_or image.journal 0 0 ≡ OPEN)
Finds image (Open change) = IsOpenWith change image

-- while a document is staged: the document area is as it was, and the gate is closed
abbrev pub IsStaging : Image → Image → Type 0
IsStaging old image = (image.document ≡ old.document) × IsClosed image.journal

-- while the gate is written: all but the gate is as it was
abbrev pub IsGating : Image → Image → Type 0
IsGating old image = (image.document ≡ old.document) × Torn 0 1 old.journal image.journal

-- while the journal is carried out: it is as it was, and the image stands for what it stood for
abbrev pub IsInstalling : Image → Image → Type 0
IsInstalling old image = (image.journal ≡ old.journal) × (restored image ≡ restored old)

-- the journal is open and isn't damaged, and so it is whatever a crash now leaves
pub record CanInstall {D : Type 0} (reads : D → Image) (may_leave : D → Image → Type 0) (disk : D) : Type 0 where
  pub gate : is_open (reads disk).journal ≡ true
  pub whole : is_whole (reads disk) ≡ true
  pub left : (c : Image) → may_leave disk c → IsInstalling (reads disk) c

-- the gate is closed, whatever a crash now leaves, and the document area is as it was
abbrev pub CanStage : {D : Type 0} (reads : D → Image) (may_leave : D → Image → Type 0) (disk : D) → Type 0
CanStage reads may_leave disk = (c : Image) → may_leave disk c → IsStaging (reads disk) c
