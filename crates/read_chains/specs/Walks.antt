-- Walks along the entries of a table, which mark the sectors that they meet.
use Rattle.std.specs.Prelude.{◌≡◌, ◌≤◌, ◌<◌, ℕ, Bool, true, false, List, length, slice_index_or}
use Rattle.std.specs.List.{All}
use Rattle.cfb_bytes.specs.Marks.{set_all}
use Rattle.cfb_chains.specs.Chain.{Leads}

-- a sector that is there and isn't marked
abbrev pub IsUnmarked : List Bool → ℕ → Type 0
IsUnmarked used n = (n < length used) × (slice_index_or used n true ≡ false)

-- from `start` so many sectors were met one after another, and after them `stop`; none was marked before, and all are
-- after
pub record IsWalk (next : ℕ → ℕ) (start : ℕ) (before after : List Bool) (count stop : ℕ) : Type 0 where
  pub sectors : List ℕ
  pub linked : Leads next start sectors stop
  pub unmarked : All (IsUnmarked before) sectors
  pub counted : length sectors ≡ count
  pub few : count ≤ length before
  pub marks : after ≡ set_all before sectors
