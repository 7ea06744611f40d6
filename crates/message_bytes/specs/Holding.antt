-- What is kept of a frame of which some bytes came.
use Rattle.std.specs.Prelude.{◌≡◌, ◌<◌, ◌≤◌, ℕ, List, ◌∷◌, length, get_or, take, drop, Option, Some, None}
use Rattle.message_model.specs.declared.codes.Kind.{Kind}
use Rattle.message_model.specs.Codes.{kind_number}
use Rattle.message_model.specs.Frames.{MOST_BODY, number_in}
use Rattle.message_drafts.specs.Opens.{Comes, Form}

-- A head that is whole: so many bytes of a body of this kind come behind it.
pub record IsHead (kind : Kind) (len : ℕ) (bytes : List ℕ) : Type 0 where
  pub long : 10 ≤ length bytes
  pub parts : take 10 bytes ≡ 79 ∷ 76 ∷ 67 ∷ 77 ∷ 2 ∷ kind_number kind ∷ take 4 (drop 6 bytes)
  pub says : number_in (take 4 (drop 6 bytes)) ≡ len
  pub short : len ≤ MOST_BODY

-- how many bytes are held as they came
abbrev pub MOST_HELD : ℕ
MOST_HELD = 86

-- what is kept of a frame of which some bytes came: these bytes, or its body
pub record Rest : Type 0 where
  pub front : List ℕ
  pub body : Option Form

-- the body of a frame of which these bytes came
pub record IsBody (b : Form) (bytes : List ℕ) : Type 0 where
  pub kind : Kind
  pub len : ℕ
  pub head : IsHead kind len bytes
  pub comes : Comes kind len (drop 10 bytes) b
  pub range : (i : ℕ) → get_or bytes i 0 < 256

abbrev pub HoldsAt : Option Form → List ℕ → List ℕ → Type 0
HoldsAt None front bytes = front ≡ bytes
HoldsAt (Some b) front bytes = IsBody b bytes

-- these bytes came
abbrev pub Holds : Rest → List ℕ → Type 0
Holds r bytes = HoldsAt r.body r.front bytes
