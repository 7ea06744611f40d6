-- Laws on journals.
use Rattle.std.specs.Prelude.{◌≡◌, ◌<◌, ◌≤◌, ◌+◌, ◌*◌, ℕ, List, [], ◌∷◌, length, true, Some, ⊤}
use Rattle.store_model.specs.Changes.{journal_from}
use Rattle.store_model.specs.Journal.{Block, fit, restored}
use Rattle.store_model.specs.Patches.{Misses}
use Rattle.store_model.specs.declared.journal.TheConstants.{BLOCK}
use Rattle.store_model.specs.declared.limit.TheConstants.{MAX_DOCUMENT}

-- the numbers of these blocks rise, from this one on
abbrev pub Rise : ℕ → List Block → Type 0
Rise least [] = ⊤
Rise least (b ∷ bs) = (least ≤ b.number) × Rise (b.number + 1) bs

-- each begins below this size
abbrev pub BeginBelow : ℕ → List Block → Type 0
BeginBelow size [] = ⊤
BeginBelow size (b ∷ bs) = (BLOCK * b.number < size) × BeginBelow size bs

-- each byte below this size is before the end or in one of them
abbrev pub CoverFrom : ℕ → ℕ → List Block → Type 0
CoverFrom size end bs = (p : ℕ) → p < size → Misses p bs → p < end

-- what blocks have that fit a document area, and which blocks these are
pub record Fitting (size end : ℕ) (bs : List Block) : Type 0 where
  pub rise : Rise 0 bs
  pub begin_below : BeginBelow size bs
  pub cover : CoverFrom size end bs

pub record FitIs : Type 0 where
  pub fits : (size end : ℕ) (bs : List Block) → fit size 0 end bs ≡ true → Fitting size end bs
  pub is_fit : (size end : ℕ) (bs : List Block) → Fitting size end bs → fit size 0 end bs ≡ true

-- the journal of a commit, once its gate is open, stands for the new document
abbrev pub CommitsStand : Type 0
CommitsStand = (old new : List ℕ) → length new ≤ MAX_DOCUMENT
    → restored (record { document = old; journal = journal_from 1 old new }) ≡ Some new
