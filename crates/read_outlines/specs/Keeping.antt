-- What an outline keeps of what was read.
use Rattle.std.specs.Prelude.{◌≡◌, ℕ, List, [], ◌∷◌, Option, Some, None, Result, cond}
use Rattle.cfb_names.specs.Names.{key, key_eq}
use Rattle.cfb_entries.specs.Tree.{Children}
use Rattle.tree_storage.specs.Change.{Seen, find, look, on_ok}
use Rattle.tree_storage.specs.declared.fault.TreeFault.{TreeFault}
use Rattle.read_outlines.specs.Streams.{stream_at, stream_bytes}
use Rattle.read_outlines.specs.View.{shown, shown_part, shown_parts}
use Rattle.read_outlines.specs.declared.keeping.Keep.{Keep}
use Rattle.read_outlines.specs.declared.keeping.Keep.TheVariants.{All, Path, Nothing}
use Rattle.read_outlines.specs.declared.outline.Outline.{Outline}
use Rattle.read_outlines.specs.declared.outline.Part.{Part}
use Rattle.read_outlines.specs.declared.outline.Place.{Place}

-- all of it, what lies on a path, or nothing
pub data Wanted : Type 0 where
  all : Wanted
  on_path : List (List ℕ) → Wanted
  nothing : Wanted

abbrev pub wanted : Keep → Wanted
wanted All = all
wanted (Path names) = on_path names.now
wanted Nothing = nothing

-- what is wanted of the child of a name
abbrev pub below : List ℕ → Wanted → Wanted
below name all = all
below name (on_path []) = nothing
below name (on_path (first ∷ rest)) = cond (key_eq (key first) (key name)) (on_path rest) nothing
below name nothing = nothing

abbrev pub room : ℕ → Wanted → ℕ
room count all = count
room count (on_path names) = 0
room count nothing = 0

-- the stream at a path below something
abbrev pub stream_below : List (List ℕ) → Seen → Result (List ℕ) TreeFault
stream_below names s = on_ok stream_bytes (look names s)

-- and below the child of a name, where there is one
abbrev pub below_child : (List (List ℕ)) → Option (List ℕ × Seen) → Option (Result (List ℕ) TreeFault)
below_child rest None = None
below_child rest (Some c) = Some (stream_below rest c.1)

abbrev pub stream_under : List ℕ → List (List ℕ) → Children → Option (Result (List ℕ) TreeFault)
stream_under name rest cs = below_child rest (find (key name) cs)

-- An outline keeps what is wanted of a whole one: all, or what tells of the stream at a path, whatever bytes the
-- streams are.
abbrev pub IsKeptOf : Wanted → Outline → Outline → Type 0
IsKeptOf all whole o = o ≡ whole
IsKeptOf (on_path names) whole o = (content : Place → List ℕ) → stream_at names (shown content o)
    ≡ stream_at names (shown content whole)
IsKeptOf nothing whole o = Unit {0}

-- the same of a part of it
abbrev pub IsPartKeptOf : Wanted → Part → Part → Type 0
IsPartKeptOf all whole part = part ≡ whole
IsPartKeptOf (on_path names) whole part = (content : Place → List ℕ) → stream_below names (shown_part content part)
    ≡ stream_below names (shown_part content whole)
IsPartKeptOf nothing whole part = Unit {0}

-- of its parts
abbrev pub AreKeptOf : Wanted → List (List ℕ × Part) → List (List ℕ × Part) → Type 0
AreKeptOf all whole parts = parts ≡ whole
AreKeptOf (on_path []) whole parts = Unit {0}
AreKeptOf (on_path (name ∷ rest)) whole parts = (content : Place → List ℕ)
    → stream_under name rest (shown_parts content parts) ≡ stream_under name rest (shown_parts content whole)
AreKeptOf nothing whole parts = Unit {0}

-- and of a part with its name, which may be left out where nothing is wanted of it
abbrev pub IsChildKeptOf : Wanted → List ℕ → Part → Option (List ℕ × Part) → Type 0
IsChildKeptOf w name whole None = below name w ≡ nothing
IsChildKeptOf w name whole (Some child) = (child.0 ≡ name) × IsPartKeptOf (below name w) whole child.1
