-- What encode answers.
use Rattle.std.specs.Prelude.{◌≡◌, ◌≤◌, ℕ, List, [], ◌∷◌, ◌++◌, length, take, true, false, Result, Ok, Err}
use Rattle.std.specs.Global.{Vec}
use Rattle.std.specs.List.{AllByRecursion}
use Rattle.cfb_names.specs.Names.{IsName}
use Rattle.tree_streams.specs.declared.streams.NamedStream.{NamedStream}
use Rattle.message_model.specs.declared.fault.WireFault.{WireFault}
use Rattle.message_model.specs.declared.fault.WireFault.TheVariants.{BadMagic, BadVersion, BadKind, TooLong, BadField}
use Rattle.message_model.specs.declared.fault.WireFault.TheVariants.{NoMemory}
use Rattle.message_model.specs.declared.frame.Frame.{Frame}
use Rattle.message_model.specs.Frames.{MOST_BODY, fits}
use Rattle.message_model.specs.Spelling.{body, kind, spell}

-- The byte form of a frame that may be sent, and BadField for any other.
abbrev pub Encodes : Result (Vec ℕ) WireFault → Frame → Type 0
Encodes (Ok v) frame = (fits frame ≡ true) × (v.items ≡ spell frame)
Encodes (Err BadField) frame = fits frame ≡ false
Encodes (Err NoMemory) frame = fits frame ≡ true
Encodes (Err BadMagic) frame = ⊥
Encodes (Err BadVersion) frame = ⊥
Encodes (Err BadKind) frame = ⊥
Encodes (Err TooLong) frame = ⊥

-- The same behind other bytes. A frame that is refused adds nothing.
abbrev pub EncodesInto : Result (Unit {0}) WireFault → List ℕ → List ℕ → Frame → Type 0
EncodesInto (Ok u) old new frame = (fits frame ≡ true) × (new ≡ old ++ spell frame)
EncodesInto (Err BadField) old new frame = (fits frame ≡ false) × (new ≡ old)
EncodesInto (Err NoMemory) old new frame = (fits frame ≡ true) × (new ≡ old)
EncodesInto (Err BadMagic) old new frame = ⊥
EncodesInto (Err BadVersion) old new frame = ⊥
EncodesInto (Err BadKind) old new frame = ⊥
EncodesInto (Err TooLong) old new frame = ⊥

-- bytes that stand before others
pub record Begins (old new : List ℕ) : Type 0 where
  pub same : take (length old) new ≡ old

-- a frame behind other bytes, but that its head has 0 in the place of the length of its body
pub record IsUnmeasured (old new : List ℕ) (frame : Frame) : Type 0 where
  pub added : new ≡ (old ++ 79 ∷ 76 ∷ 67 ∷ 77 ∷ 2 ∷ kind frame ∷ 0 ∷ 0 ∷ 0 ∷ 0 ∷ []) ++ body frame
  pub short : length (body frame) ≤ MOST_BODY

-- bytes with these at their end, which are at most so many
pub record Adds (old new text : List ℕ) (most : ℕ) : Type 0 where
  pub added : new ≡ old ++ text
  pub short : length text ≤ most

abbrev pub AreNamed : List NamedStream → Type 0
AreNamed ss = AllByRecursion (λ (t : NamedStream). IsName t.name) ss
