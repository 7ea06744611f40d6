-- What becomes of links: where they lead to from a sector on, by a table, where walks stop at marked sectors.
use Rattle.std.specs.Prelude.{◌≡◌, ◌≢◌, ◌⊎◌, ◌<◌, ◌≤◌, ◌*◌, ℕ, Bool, true, false, List, [], ◌∷◌, Option, Some, None}
use Rattle.std.specs.Prelude.{if◌then◌else◌, get_or, length, replicate, slice_index, slice_index_or}
use Rattle.std.specs.List.{All}
use Rattle.cfb_bytes.specs.Marks.{set_all}
use Rattle.cfb_chains.specs.Chain.{END_OF_CHAIN, Leads}
use Rattle.cfb_header.specs.declared.fault.ChainFault.{ChainFault}
use Rattle.cfb_header.specs.declared.fault.ChainFault.TheVariants as chain
use Rattle.tell_faults.specs.Places.{last_of}
use Rattle.tell_faults.specs.declared.walking.Chain.{Chain}
use Rattle.tell_chains.specs.Streams.{lies_in_minis}
use Rattle.tell_chains.specs.declared.fates.Ending.{Ending}
use Rattle.tell_chains.specs.declared.fates.Fate.{Fate}
use Rattle.tell_chains.specs.declared.fates.Fate.TheVariants as fate
use Rattle.tell_chains.specs.declared.fates.Fates.{Fates}
use Rattle.tell_chains.specs.declared.parts.Parts.{Parts}
use Rattle.tell_chains.specs.declared.streams.Stream.{Stream}

-- a sector of the table at which no walk stops
abbrev pub IsFree : List ℕ → List Bool → ℕ → Type 0
IsFree table stops n = (n < length table) × (slice_index_or stops n true ≡ false)

-- From a number on links lead over sectors at which no walk stops.
pub record Runs (table : List ℕ) (stops : List Bool) (start : ℕ) (ns : List ℕ) (to : ℕ) : Type 0 where
  pub linked : Leads (λ n. slice_index table n) start ns to
  pub free : All (IsFree table stops) ns

-- the greatest number of sectors that is counted
abbrev pub MOST : ℕ
MOST = 0xFFFFFFFF

-- the last sector of some, which another one stands before
abbrev pub last_or : Option ℕ → ℕ → Option ℕ
last_or None n = Some n
last_or (Some m) n = Some m

-- Links lead to a number at which walks stop: that of no sector, or of one that is marked.
pub record IsEnd (table : List ℕ) (stops : List Bool) (start : ℕ) (e : Ending) : Type 0 where
  pub ns : List ℕ
  pub runs : Runs table stops start ns e.to
  pub stop : slice_index_or stops e.to true ≡ true
  pub steps : (e.steps ≡ length ns) ⊎ ((e.steps ≡ MOST) × (MOST ≤ length ns))
  pub last : e.last ≡ last_of ns

-- what becomes of links from a number on
abbrev pub IsFate : List ℕ → List Bool → ℕ → Fate → Type 0
IsFate table stops n fate.Unknown = Unit {0}
IsFate table stops n fate.Met = Unit {0}
IsFate table stops n fate.Circle = (ns : List ℕ) (to : ℕ) → Runs table stops n ns to → IsFree table stops to
IsFate table stops n (fate.Ends e) = IsEnd table stops n e

-- the same of each number, as it is noted
abbrev pub AreFates : List ℕ → List Bool → List Fate → Type 0
AreFates table stops fates = (n : ℕ) → IsFate table stops n (get_or fates n fate.Unknown)

-- Links lead over a way to a number of which it is known what becomes of them from there on.
pub record IsSettling (table : List ℕ) (stops : List Bool) (fates : List Fate) (start : ℕ) (way : List ℕ)
    (behind : Fate) : Type 0 where
  pub at : ℕ
  pub runs : Runs table stops start way at
  pub known : IsFate table stops at behind
  pub noted : AreFates table stops fates

-- ---- of streams
-- the marks of some sectors of a table
abbrev pub marks_of : List ℕ → List ℕ → List Bool
marks_of table taken = set_all (replicate (length table) false) taken

-- what becomes of the links of streams, where walks in sectors stop at these
pub record AreFatesOf (p : Parts) (taken : List ℕ) (f : Fates) : Type 0 where
  pub stops : f.stops.items ≡ marks_of p.table.items taken
  pub mini_stops : f.mini_stops.items ≡ marks_of p.minis.items []
  pub sectors : AreFates p.table.items f.stops.items f.sectors.items
  pub minis : AreFates p.minis.items f.mini_stops.items f.minis.items

-- the table in which a stream of a size lies, and at which of its sectors walks stop
abbrev pub table_of : Parts → ℕ → List ℕ
table_of p size = if lies_in_minis size then p.minis.items else p.table.items

abbrev pub taken_in : List ℕ → ℕ → List ℕ
taken_in taken size = if lies_in_minis size then [] else taken

-- what becomes of the links of a stream
abbrev pub IsFateOf : Parts → List ℕ → Stream → Fate → Type 0
IsFateOf p taken s f = IsFate (table_of p s.size) (marks_of (table_of p s.size) (taken_in taken s.size)) s.first f

-- links that lead out so don't lead to what is no sector's number, or don't end too early
abbrev pub IsEndSpared : Ending → Chain → ChainFault → Type 0
IsEndSpared e c chain.OutOfFile = e.to ≡ END_OF_CHAIN
IsEndSpared e c chain.ShortChain = (e.to ≢ END_OF_CHAIN) ⊎ (c.size ≤ c.width * e.steps)
IsEndSpared e c _ = Unit {0}
