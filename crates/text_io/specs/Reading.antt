-- How far a text of known bytes is read, and what is left of it.
use Rattle.std.specs.Io.KnownBytes.{Consumes}
use Rattle.std.specs.Prelude.{◌≡◌, ◌+◌, ◌<◌, ◌++◌, ℕ, Bool, true, false, List, [], ◌∷◌, Option, Some, None, IfSome}
use Rattle.std.specs.Prelude.{cond, length, nat_eq}
use Rattle.text_words.specs.Words.{lines}
use Rattle.text_io.specs.Input.{most}
use Rattle.text_io.specs.Lines.{asking, is_skipped}
use Rattle.text_io.specs.declared.input.InputFault.{InputFault}
use Rattle.text_io.specs.declared.input.InputFault.TheVariants.{Unreadable, TooBig, NoMemory}
use Rattle.text_io.specs.declared.reading.Part.{Part}
use Rattle.text_io.specs.declared.reading.Part.TheVariants.{Nothing, End, Front, Last}
use Rattle.text_io.specs.declared.reading.Passed.{Passed}

-- what the lines that are left ask for, each with its number
abbrev pub left_asking : Passed → List ℕ → List (ℕ × List ℕ)
left_asking passed text = asking (passed.lines + 1) (lines text)

-- whether a line was read, and which
abbrev pub IsLine : Bool → Passed → Passed → List ℕ → List ℕ → List ℕ → Type 0
IsLine false old new line text rest = (text ≡ []) × (rest ≡ [])
IsLine true old new line text rest =
    left_asking old text ≡ cond (is_skipped line) (left_asking new rest) ((new.lines, line) ∷ left_asking new rest)

-- whether a line that asks for something was found, and which
abbrev pub IsNext : Option ℕ → Passed → Passed → List ℕ → List ℕ → List ℕ → Type 0
IsNext None old new line text rest = (left_asking old text ≡ []) × (rest ≡ [])
IsNext (Some n) old new line text rest = left_asking old text ≡ (n, line) ∷ left_asking new rest

-- what is left behind a line
pub record LeavesLine (is : Bool) (old new : Passed) (line text : List ℕ) (known : Option (List ℕ)) : Type 0 where
  pub rest : List ℕ
  pub left : known ≡ Some rest
  pub counted : new.bytes + length rest ≡ old.bytes + length text
  pub told : IsLine is old new line text rest

-- what is left behind the next line that asks for something
pub record LeavesNext (found : Option ℕ) (old new : Passed) (line text : List ℕ) (known : Option (List ℕ)) : Type
    0 where
  pub rest : List ℕ
  pub left : known ≡ Some rest
  pub counted : new.bytes + length rest ≡ old.bytes + length text
  pub told : IsNext found old new line text rest

-- when a text of so many bytes may be refused
abbrev pub MayRefuseBytes : ℕ → InputFault → Type 0
MayRefuseBytes n Unreadable = Unit {0}
MayRefuseBytes n TooBig = most < n
MayRefuseBytes n NoMemory = Unit {0}

abbrev pub HasNoLineFeed : List ℕ → Type 0
HasNoLineFeed [] = Unit {0}
HasNoLineFeed (c ∷ cs) = (nat_eq c 10 ≡ false) × HasNoLineFeed cs

-- A piece of a line was put behind what was read of it, with a line feed behind it or without.
pub record TakesPiece (old new : Passed) (before after feed : List ℕ) (known left : Option (List ℕ)) : Type 0 where
  pub piece : List ℕ
  pub kept : after ≡ before ++ piece
  pub plain : HasNoLineFeed piece
  pub counted : new.bytes ≡ old.bytes + length (piece ++ feed)
  pub taken : Consumes known left (piece ++ feed)

-- what was read of a line
abbrev pub IsPart : Part → Passed → Passed → List ℕ → List ℕ → Option (List ℕ) → Option (List ℕ) → Type 0
IsPart Nothing old new before after known left = (after ≡ before) × (new.bytes ≡ old.bytes) × Consumes known left []
IsPart End old new before after known left = (after ≡ before) × (new.bytes ≡ old.bytes) × Consumes known left []
    × IfSome known (λ xs. xs ≡ [])
IsPart Front old new before after known left = TakesPiece old new before after [] known left
IsPart Last old new before after known left = TakesPiece old new before after (10 ∷ []) known left
