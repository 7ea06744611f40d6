-- While the journal is carried out, or a document is staged.
use Rattle.std.proofs.Common.{◌≡◌, ◌≤◌, ℕ, List, true, sym, ◌∙◌, ap, subst}
use Rattle.store_model.specs.Crash.{CutShort, StaysIn, Torn}
use Rattle.store_model.specs.Image.{Image}
use Rattle.store_model.specs.Journal.{changed_document, is_open, is_whole, restored, size_in}
use Rattle.store_model.specs.Patches.{IsTold}
use Rattle.store_model.proofs.Installed.{cut_stands, restores, some_whole, torn_stands}
use Rattle.store_core.specs.Steps.{CanInstall, CanStage, HoldsChange, IsInstalling, IsStaging, new_size}
use Rattle.store_core.specs.declared.found.Change.{Change}
use Rattle.store_core.specs.declared.found.Change.TheVariants.{Blocks, Whole}
use Rattle.store_core.proofs.Closed.{cut_keeps_closed, torn_keeps_closed}
use Rattle.store_core.proofs.Moments.{then_leaves}

pub torn_installs : (old from image : Image) (at n : ℕ) → is_open old.journal ≡ true → is_whole old ≡ true
    → IsTold old.journal at n → IsInstalling old from
    → (Torn at n from.document image.document × (image.journal ≡ from.journal)) → IsInstalling old image
torn_installs old from image at n gate whole told was step = (
  step.1 ∙ was.0,
  torn_stands from image (changed_document old) at n (ap is_open was.0 ∙ gate) (was.1 ∙ restores old gate whole)
      (subst (λ (j : List ℕ). IsTold j at n) (sym was.0) told) step.0 step.1 ∙ sym (restores old gate whole),
)

pub cut_installs : (old from image : Image) (size : ℕ) → is_open old.journal ≡ true → is_whole old ≡ true
    → size ≡ size_in old.journal → IsInstalling old from
    → (CutShort size from.document image.document × (image.journal ≡ from.journal)) → IsInstalling old image
cut_installs old from image size gate whole told was step = (
  step.1 ∙ was.0,
  cut_stands from image (changed_document old) (ap is_open was.0 ∙ gate) (was.1 ∙ restores old gate whole)
      (subst (λ (n : ℕ). CutShort n from.document image.document) (told ∙ ap size_in (sym was.0)) step.0) step.1
      ∙ sym (restores old gate whole),
)

pub installs_on : (old mid image : Image) → IsInstalling old mid → IsInstalling mid image → IsInstalling old image
installs_on old mid image first second = (second.0 ∙ first.0, second.1 ∙ first.1)

pub installs_back : (old mid image : Image) → IsInstalling old mid → IsInstalling old image → IsInstalling mid image
installs_back old mid image first second = (second.0 ∙ sym first.0, second.1 ∙ sym first.1)

pub torn_stages : (old from image : Image) (at n : ℕ) → 1 ≤ at → IsStaging old from
    → ((image.document ≡ from.document) × Torn at n from.journal image.journal) → IsStaging old image
torn_stages old from image at n behind was step =
    (step.0 ∙ was.0, torn_keeps_closed at n from.journal image.journal behind was.1 step.1)

pub cut_stages : (old from image : Image) (size : ℕ) → 1 ≤ size → IsStaging old from
    → ((image.document ≡ from.document) × CutShort size from.journal image.journal) → IsStaging old image
cut_stages old from image size behind was step =
    (step.0 ∙ was.0, cut_keeps_closed size from.journal image.journal behind was.1 step.1)

pub stages_on : (old mid image : Image) → IsStaging old mid → IsStaging mid image → IsStaging old image
stages_on old mid image first second = (second.0 ∙ first.0, second.1)

pub stages_back : (old mid image : Image) → IsStaging old mid → IsStaging old image → IsStaging mid image
stages_back old mid image first second = (second.0 ∙ sym first.0, second.1)

pub size_held : (journal : List ℕ) (change : Change) → HoldsChange journal change → new_size change ≡ size_in journal
size_held journal (Whole size) holds = holds.1
size_held journal (Blocks count size) holds = holds.2

module _ {D : Type 0} (reads : D → Image) (may_leave : D → Image → Type 0) (moment : D → ℕ)
    (left_since : D → ℕ → Image → Type 0) where
  -- after calls within which it is carried out, it can be carried out further
  pub installs_again : (old new : D) → may_leave new (reads new) → CanInstall reads may_leave old
      → StaysIn may_leave moment left_since old new (IsInstalling (reads old)) → CanInstall reads may_leave new
  installs_again old new here ready run =
      let now = run.now (reads new) here in
      record {
        gate = ap is_open now.0 ∙ ready.gate;
        whole = some_whole (reads new) (changed_document (reads old)) (ap is_open now.0 ∙ ready.gate)
            (now.1 ∙ restores (reads old) ready.gate ready.whole);
        left = λ c left. installs_back (reads old) (reads new) c now (run.now c left);
      }

  pub stages_again : (old new : D) → may_leave new (reads new)
      → StaysIn may_leave moment left_since old new (IsStaging (reads old)) → CanStage reads may_leave new
  stages_again old new here run = λ c left. stages_back (reads old) (reads new) c (run.now (reads new) here)
      (run.now c left)

  -- one run of staging after another
  pub stages_more : (old mid new : D) → may_leave mid (reads mid)
      → StaysIn may_leave moment left_since old mid (IsStaging (reads old))
      → StaysIn may_leave moment left_since mid new (IsStaging (reads mid))
      → StaysIn may_leave moment left_since old new (IsStaging (reads old))
  stages_more old mid new here so_far run = then_leaves may_leave moment left_since old mid new
      (IsStaging (reads mid)) (IsStaging (reads old)) so_far run
      (λ c is. stages_on (reads old) (reads mid) c (so_far.now (reads mid) here) is)

  -- a synced disk whose journal is open
  pub installs_first : (old : D) → is_open (reads old).journal ≡ true → is_whole (reads old) ≡ true
      → ((c : Image) → may_leave old c → c ≡ reads old) → CanInstall reads may_leave old
  installs_first old gate whole durable = record {
    gate = gate;
    whole = whole;
    left = λ c left. (ap (λ (i : Image). i.journal) (durable c left), ap restored (durable c left));
  }
