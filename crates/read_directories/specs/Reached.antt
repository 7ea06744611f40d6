-- Entries that links reach, in whatever order.
use Rattle.std.specs.Prelude.{◌≡◌, ℕ, List}
use Rattle.std.specs.List.Sorted.{IsPermutation}
use Rattle.cfb_entries.specs.Entries.{AreFree, AreLinked, EntriesValue, marked}

-- Just the entries that left and right links reach from one. None of them was marked before, and all are now.
pub record AreReached (old new : EntriesValue) (top : ℕ) (ids : List ℕ) : Type 0 where
  pub reached : List ℕ
  pub linked : AreLinked old.directory top reached
  pub free : AreFree old reached
  pub marks : new ≡ marked old reached
  pub same : IsPermutation reached ids
