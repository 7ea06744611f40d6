-- Lists of named streams, in the order of names (MS-CFB 2.6.4).
use Rattle.std.specs.Prelude.{ℕ, ◌≡◌, List, [], ◌∷◌, ◌++◌, Bool, true, cond, Option, Some, None, Result, Ok, Err, IsOk}
use Rattle.std.specs.Ordering.{is_eq, is_lt}
use Rattle.std.specs.declared.cmp.Ordering.TheVariants.{Less}
use Rattle.cfb_names.specs.Names.{name_cmp}
use Rattle.tree_streams.specs.declared.streams.NamedStream.{NamedStream}
use Rattle.tree_streams.specs.declared.fault.StreamsFault.{StreamsFault}
use Rattle.tree_streams.specs.declared.fault.StreamsFault.TheVariants.{OutOfOrder, NoMemory}

-- the name is less than those of all of these
abbrev pub AreAfter : List ℕ → List NamedStream → Type 0
AreAfter name [] = Unit {0}
AreAfter name (s ∷ ss) = (name_cmp name s.name ≡ Less) × AreAfter name ss

-- in name order, no name twice
abbrev pub AreInOrder : List NamedStream → Type 0
AreInOrder [] = Unit {0}
AreInOrder (s ∷ ss) = AreAfter s.name ss × AreInOrder ss

-- whether a name is greater than the last one
abbrev pub is_next : List NamedStream → List ℕ → Bool
is_next [] name = true
is_next (s ∷ []) name = is_lt (name_cmp s.name name)
is_next (s ∷ t ∷ ss) name = is_next (t ∷ ss) name

-- these with another one at the end
abbrev pub pushed : List NamedStream → NamedStream → Result (List NamedStream) StreamsFault
pushed streams s = cond (is_next streams s.name) (Ok (streams ++ s ∷ [])) (Err OutOfOrder)

-- the bytes of the stream of a name
abbrev pub bytes_of : List NamedStream → List ℕ → Option (List ℕ)
bytes_of [] name = None
bytes_of (s ∷ ss) name = cond (is_eq (name_cmp s.name name)) (Some s.bytes) (bytes_of ss name)

-- what a call did, given what it is to do
abbrev pub Pushes : Result (Unit {0}) StreamsFault → Result (List NamedStream) StreamsFault → List NamedStream
    → List NamedStream → Type 0
Pushes (Ok u) told old new = told ≡ Ok new
Pushes (Err OutOfOrder) told old new = (told ≡ Err OutOfOrder) × (new ≡ old)
Pushes (Err NoMemory) told old new = IsOk told × (new ≡ old)

-- these streams, where they are in order
abbrev pub Orders : Option (List NamedStream) → List NamedStream → Type 0
Orders (Some streams) items = (streams ≡ items) × AreInOrder items
Orders None items = AreInOrder items → ⊥
