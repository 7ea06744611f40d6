-- Which sectors the parts of a file have; clauses of functions inside the crate cite these.
use Rattle.std.specs.Prelude.{◌≡◌, ℕ, List}
use Rattle.cfb_file.specs.Denotes.{Layout}
use Rattle.tell_maps.specs.declared.parts.Parts.{Parts}

-- the sectors of the parts that lie so, and those that the streams take
pub record AreParts (l : Layout) (taken : List ℕ) (parts : Parts) : Type 0 where
  pub mini_fat : parts.mini_fat.items ≡ l.mini_fat
  pub directory : parts.directory.items ≡ l.directory
  pub mini_stream : parts.mini_stream.items ≡ l.mini_stream
  pub streams : parts.streams.items ≡ taken
