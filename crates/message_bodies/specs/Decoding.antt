-- What reading parts of a body answers, and how a decoder stands.
use Rattle.std.specs.Prelude.{◌≡◌, ℕ, suc, List, Option, Some, None, Result, Ok, Err}
use Rattle.message_bodies.specs.declared.body.BodyFault.{BodyFault}
use Rattle.message_bodies.specs.declared.body.BodyFault.TheVariants.{Bad, Memory}
use Rattle.tree_streams.specs.declared.streams.NamedStream.{NamedStream}
use Rattle.message_model.specs.declared.frame.Frame.{Frame}
use Rattle.message_model.specs.Reading.{Reader, more}

-- A part of a body and the bytes behind it are what reading them gives, whatever is read behind them. Where there is no
-- such part, no frame is read; and memory may run out.
abbrev pub Lacks : {B : Type 0} → BodyFault → ((B → Reader) → Reader) → List ℕ → Type 0
Lacks {B} Bad reader bytes = (k : B → Reader) → reader k bytes ≡ None
Lacks Memory reader bytes = Unit {0}

abbrev pub Gives : {X B : Type 0} → (X → B) → (X → List ℕ) → Result X BodyFault → ((B → Reader) → Reader) → List ℕ
    → Type 0
Gives {X} {B} value rest (Ok x) reader bytes = (k : B → Reader) → reader k bytes ≡ k (value x) (rest x)
Gives value rest (Err e) reader bytes = Lacks e reader bytes

-- One more stream behind these: what it is, and how much room is left.
abbrev pub Stops : BodyFault → List NamedStream → ℕ → List ℕ → Type 0
Stops Bad streams room bytes = (left : ℕ) (k : List NamedStream → ℕ → Reader)
    → more (suc left) streams room k bytes ≡ None
Stops Memory streams room bytes = Unit {0}

abbrev pub Continues : {X : Type 0} → (X → ℕ) → (X → List ℕ) → Result X BodyFault → List NamedStream → ℕ → List ℕ
    → List NamedStream → Type 0
Continues room_left rest (Ok x) streams room bytes after = (left : ℕ) (k : List NamedStream → ℕ → Reader)
    → more (suc left) streams room k bytes ≡ more left after (room_left x) k (rest x)
Continues room_left rest (Err e) streams room bytes after = Stops e streams room bytes

-- a whole body
abbrev pub Fails : BodyFault → Option Frame → Type 0
Fails Bad told = told ≡ None
Fails Memory told = Unit {0}

abbrev pub Makes : Result Frame BodyFault → Option Frame → Type 0
Makes (Ok f) told = told ≡ Some f
Makes (Err e) told = Fails e told
