-- A body of which some bytes came, and what is read of it with those that are to come.
use Rattle.std.specs.Prelude.{◌≡◌, ◌⊎◌, ◌<◌, ◌≤◌, ◌+◌, ℕ, zero, suc, Bool, cond, List, [], ◌∷◌, ◌++◌, length, take}
use Rattle.std.specs.Prelude.{drop, Option, Some, None}
use Rattle.tree_streams.specs.Streams.{AreInOrder}
use Rattle.tree_streams.specs.declared.streams.NamedStream.{NamedStream}
use Rattle.message_drafts.specs.declared.draft.Draft.{Draft}
use Rattle.message_drafts.specs.declared.draft.Plan.{Plan}
use Rattle.message_drafts.specs.declared.back.Mark.{Mark}
use Rattle.message_drafts.specs.declared.draft.Phase.{Phase}
use Rattle.message_drafts.specs.declared.draft.Phase.TheVariants.{Fields, Picture, Bad}
use Rattle.message_drafts.specs.declared.draft.Opening.{Opening}
use Rattle.message_drafts.specs.declared.draft.Opening.TheVariants as opening
use Rattle.message_values.specs.declared.operation.Operation.{Operation}
use Rattle.message_values.specs.declared.operation.Operation.TheVariants as op
use Rattle.message_values.specs.declared.answer.Answer.TheVariants as ans
use Rattle.message_values.specs.declared.message.Said.TheVariants.{Call, Reply, Write}
use Rattle.message_model.specs.declared.frame.Frame.{Frame}
use Rattle.message_model.specs.declared.frame.Frame.TheVariants.{Message}
use Rattle.message_model.specs.Reading.{Reader, bad, blob, more, name, sized, whole}

-- a call
abbrev pub call_of : ℕ → ℕ → ℕ → ℕ → Operation → Frame
call_of session inc act n o = Message (record { session = session; said = Call inc act n o })

-- the frame that these streams and this picture complete; an edit stands in the place of the picture
abbrev pub frame_of : Opening → List NamedStream → List ℕ → Frame
frame_of (opening.Edit session inc act n) ss bs = call_of session inc act n (op.Edit bs)
frame_of (opening.Load session inc act n class) ss bs =
    call_of session inc act n (op.Load class (record { streams = ss; picture = bs }))
frame_of (opening.Content session inc act n) ss bs =
    Message
    (record { session = session; said = Reply inc act n (ans.Content (record { streams = ss; picture = bs })) })
frame_of (opening.Write session inc act s w) ss bs =
    Message (record { session = session; said = Write inc act s w (record { streams = ss; picture = bs }) })

-- the last bytes of a body, and nothing behind them
abbrev pub last : Opening → List NamedStream → ℕ → Reader
last o ss room = blob room (λ bs. whole (frame_of o ss bs))

abbrev pub longer : NamedStream → List ℕ → NamedStream
longer s bs = record { name = s.name; bytes = s.bytes ++ bs }

-- streams whose last one has these bytes more
abbrev pub lengthened : List NamedStream → List ℕ → List NamedStream
lengthened [] bs = []
lengthened (s ∷ []) bs = longer s bs ∷ []
lengthened (s ∷ t ∷ ss) bs = s ∷ lengthened (t ∷ ss) bs

-- What is read of a body with the bytes that are to come: first those that the last blob lacks, then fields.
abbrev pub read_on : Phase → ℕ → ℕ → ℕ → List ℕ → Opening → List NamedStream → List ℕ → Reader
read_on Fields left room missing held o ss picture xs = more left (lengthened ss (take missing xs)) room (last o)
    (held ++ drop missing xs)
read_on Picture left room missing held o ss picture xs = whole (frame_of o ss (picture ++ take missing xs))
    (drop missing xs)
read_on Bad left room missing held o ss picture xs = None

unfoldable pub resume : Draft → Reader
resume d xs = read_on d.plan.phase d.plan.left d.plan.room d.plan.missing (take d.plan.len d.plan.held) d.opening
    d.streams.items d.picture xs

-- how many bytes the next field has, of which these came: the length of the picture, or a stream's name and length
abbrev pub need : ℕ → List ℕ → ℕ
need zero held = 4
need (suc left) [] = 1
need (suc left) (n ∷ held) = n + 5

-- what holds of a body at all times
abbrev pub IsPlannedAt : Phase → ℕ → ℕ → ℕ → List ℕ → List ℕ → Type 0
IsPlannedAt Fields left missing to_come held picture =
    (length held < need left held) × (need left held ≤ 36) × (missing ≤ to_come) × (picture ≡ [])
    × (0 < missing → held ≡ [])
IsPlannedAt Picture left missing to_come held picture = missing ≤ to_come
IsPlannedAt Bad left missing to_come held picture = Unit {0}

pub record IsPlanned (d : Draft) : Type 0 where
  pub at : IsPlannedAt d.plan.phase d.plan.left d.plan.missing d.plan.to_come (take d.plan.len d.plan.held) d.picture
  pub order : AreInOrder d.streams.items
  pub len : d.plan.len ≤ 36

-- These streams, the last of them with more bytes, and more streams behind them.
abbrev pub Grew : List NamedStream → List NamedStream → Type 0
Grew [] new = Unit {0}
Grew (s ∷ ss) [] = ⊥
Grew (s ∷ []) (t ∷ ts) = (s.name ≡ t.name) × ((more : List ℕ) × (t.bytes ≡ s.bytes ++ more))
Grew (s ∷ u ∷ ss) (t ∷ ts) = (s ≡ t) × Grew (u ∷ ss) ts

-- what a body keeps while it grows
pub record Keeps (old new : Draft) : Type 0 where
  pub opening : new.opening ≡ old.opening
  pub streams : Grew old.streams.items new.streams.items
  pub picture : take (length old.picture) new.picture ≡ old.picture

-- a body after these bytes more
pub record Advances (old new : Draft) (xs : List ℕ) : Type 0 where
  pub count : old.plan.to_come ≡ length xs + new.plan.to_come
  pub same : (ys : List ℕ) → length ys ≡ new.plan.to_come → resume old (xs ++ ys) ≡ resume new ys

-- a body after so many of these bytes
pub record Took (old new : Draft) (bytes : List ℕ) (n : ℕ) : Type 0 where
  pub some : 0 < n
  pub within : n ≤ length bytes
  pub goes : Advances old new (take n bytes)

-- The field that comes next is whole: the length of the picture, the length of a name, or a stream's name and length.
abbrev pub IsFullAt : ℕ → List ℕ → Type 0
IsFullAt zero held = length held ≡ 4
IsFullAt (suc left) [] = ⊥
IsFullAt (suc left) (n ∷ rest) = (rest ≡ []) ⊎ (length rest ≡ n + 4)

pub record IsFull (d : Draft) : Type 0 where
  pub phase : d.plan.phase ≡ Fields
  pub missing : d.plan.missing ≡ 0
  pub none : d.picture ≡ []
  pub order : AreInOrder d.streams.items
  pub len : d.plan.len ≤ 36
  pub full : IsFullAt d.plan.left (take d.plan.len d.plan.held)

abbrev pub IsLong : List ℕ → Type 0
IsLong [] = ⊥
IsLong (n ∷ rest) = length rest ≡ n + 4

-- nothing is to come that makes a frame
abbrev pub IsOverAt : Phase → ℕ → Type 0
IsOverAt Fields missing = ⊥
IsOverAt Picture missing = missing ≡ 0
IsOverAt Bad missing = Unit {0}

abbrev pub IsOver : Draft → Type 0
IsOver d = IsOverAt d.plan.phase d.plan.missing

-- a content completes the frame
abbrev pub IsOfContent : Opening → Type 0
IsOfContent (opening.Edit session inc act n) = ⊥
IsOfContent _ = Unit {0}

-- a body of which the field is read
pub record Begins (old new : Draft) : Type 0 where
  pub goes : Advances old new []
  pub planned : IsPlanned new

-- a field that is whole: a stream's name and length
abbrev pub IsStreamField : Option (List ℕ × ℕ) → ℕ → List ℕ → Type 0
IsStreamField (Some f) n rest =
    (follows : List ℕ → Bool) (room : ℕ) (k : List ℕ → List ℕ → Reader) (ys : List ℕ)
    → name (λ m. cond (follows m) (blob room (k m)) bad) (n ∷ (rest ++ ys))
    ≡ cond (follows f.0) (sized room (k f.0) f.1) bad ys
IsStreamField None n rest = (k : List ℕ → Reader) (ys : List ℕ) → name k (n ∷ (rest ++ ys)) ≡ None

abbrev pub IsField : Option (List ℕ × ℕ) → List ℕ → Type 0
IsField f [] = ⊥
IsField f (n ∷ rest) = IsStreamField f n rest

-- the last stream's first bytes, and those before it
abbrev pub cut_last : ℕ → List NamedStream → List NamedStream
cut_last n [] = []
cut_last n (s ∷ []) = record { name = s.name; bytes = take n s.bytes } ∷ []
cut_last n (s ∷ t ∷ ss) = s ∷ cut_last n (t ∷ ss)

abbrev pub last_len : List NamedStream → ℕ
last_len [] = 0
last_len (s ∷ []) = length s.bytes
last_len (s ∷ t ∷ ss) = last_len (t ∷ ss)

-- two bodies that have the same parts
pub record Alike (old new : Draft) : Type 0 where
  pub plan : new.plan ≡ old.plan
  pub opening : new.opening ≡ old.opening
  pub streams : new.streams.items ≡ old.streams.items
  pub picture : new.picture ≡ old.picture

-- how far a body is
pub record IsMark (mark : Mark) (d : Draft) : Type 0 where
  pub plan : mark.plan ≡ d.plan
  pub count : mark.count ≡ length d.streams.items
  pub last : mark.last ≡ last_len d.streams.items
  pub picture : mark.picture ≡ length d.picture
