-- Parts of a mini stream.
use Rattle.std.specs.Prelude.{◌≡◌, ◌<◌, ◌≤◌, ◌+◌, ◌++◌, ◌*◌, ℕ, List, drop, length, replicate, take}
use Rattle.cfb_header.specs.Bytes.{joined, sector}
use Rattle.write_cleaned.specs.declared.window.Window.{Window}
use Rattle.read_streams.specs.declared.tables.Tables.{Tables}

-- the bytes of the mini stream of a file, by its tables
abbrev pub mini_bytes : List ℕ → Tables → List ℕ
mini_bytes file tables = joined (sector file) tables.mini_stream.items

-- a window has bytes of the mini stream of a file
abbrev pub IsWindow : List ℕ → Tables → Window → Type 0
IsWindow file tables window = window.bytes.items ≡ take (length window.bytes.items)
    (drop (512 * window.first) (mini_bytes file tables))

-- so many bytes of the mini stream from a place on were put behind others, and zeros behind them; the window has moved
-- on
pub record IsPartAdded (file : List ℕ) (tables : Tables) (window : Window) (start len zeros : ℕ)
    (old new : List ℕ) : Type 0 where
  pub inside : 0 < len → start + len ≤ length (mini_bytes file tables)
  pub added : new ≡ old ++ (take len (drop start (mini_bytes file tables)) ++ replicate zeros 0)
  pub is_window : IsWindow file tables window

-- bytes were put behind others, and the window has moved on
pub record IsAdded (file : List ℕ) (tables : Tables) (window : Window) (bytes old new : List ℕ) : Type 0 where
  pub added : new ≡ old ++ bytes
  pub is_window : IsWindow file tables window
