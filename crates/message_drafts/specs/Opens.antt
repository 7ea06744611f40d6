-- The first fields of a body, and the bytes behind them, whatever comes.
use Rattle.std.specs.Prelude.{◌≡◌, ◌<◌, ◌+◌, ℕ, List, [], ◌++◌, length, take, Option, Some, None}
use Rattle.tree_streams.specs.Limits.{MOST_BYTES}
use Rattle.tree_streams.specs.declared.stored.Stored.{Stored}
use Rattle.tree_streams.specs.declared.streams.NamedStream.{NamedStream}
use Rattle.message_drafts.specs.declared.draft.Phase.{Phase}
use Rattle.message_values.specs.declared.operation.Operation.TheVariants.{Load}
use Rattle.message_model.specs.declared.frame.Frame.{Frame}
use Rattle.message_model.specs.declared.codes.Kind.{Kind}
use Rattle.message_model.specs.declared.codes.OperationCode.TheVariants as code
use Rattle.message_model.specs.Frames.{MOST_EDIT}
use Rattle.message_model.specs.Reading.{Reader, more, operation, pictured, read_body, stored, whole}
use Rattle.message_drafts.specs.declared.draft.Draft.{Draft}
use Rattle.message_drafts.specs.declared.draft.Opening.{Opening}
use Rattle.message_drafts.specs.declared.draft.Opening.TheVariants as opening
use Rattle.message_drafts.specs.Drafts.{call_of, last, read_on}

-- A part of a body and the bytes behind it; none where no frame is read of it.
abbrev pub Takes : {X B : Type 0} → (X → B) → (X → List ℕ) → Option X → ((B → Reader) → Reader) → List ℕ → Type 0
Takes {X} {B} value rest (Some x) reader xs = (k : B → Reader) (ys : List ℕ)
    → reader k (xs ++ ys) ≡ k (value x) (rest x ++ ys)
Takes {X} {B} value rest None reader xs = (k : B → Reader) (ys : List ℕ) → reader k (xs ++ ys) ≡ None

abbrev pub Counts : {X : Type 0} → (X → ℕ) → (X → List ℕ) → Option X → List ℕ → Type 0
Counts count rest (Some x) xs = (k : Stored → Reader) (ys : List ℕ)
    → stored k (xs ++ ys) ≡ more (count x) [] MOST_BYTES (pictured k) (rest x ++ ys)
Counts count rest None xs = (k : Stored → Reader) (ys : List ℕ) → stored k (xs ++ ys) ≡ None

-- how many bytes may stand in the blobs
abbrev pub room_of : Opening → ℕ
room_of (opening.Edit session inc act n) = MOST_EDIT
room_of (opening.Load session inc act n class) = MOST_BYTES
room_of (opening.Content session inc act n) = MOST_BYTES
room_of (opening.Write session inc act s w) = MOST_BYTES

abbrev pub OpensLoad : {X : Type 0} → (X → Opening) → (X → ℕ) → (X → List ℕ) → Option X → ℕ → ℕ → ℕ → ℕ → List ℕ
    → Type 0
OpensLoad o left rest (Some x) session inc act n xs =
    (ys : List ℕ) → operation code.Load (λ p. whole (call_of session inc act n p)) (xs ++ ys)
    ≡ more (left x) [] (room_of (o x)) (last (o x)) (rest x ++ ys)
OpensLoad o left rest None session inc act n xs = (ys : List ℕ)
    → operation code.Load (λ p. whole (call_of session inc act n p)) (xs ++ ys) ≡ None

-- The first fields behind a session, with more than 72 bytes to read; none where they make no frame.
abbrev pub OpensSaid : {X : Type 0} → (X → Opening) → (X → ℕ) → (X → List ℕ) → Option X → Reader → List ℕ → Type 0
OpensSaid o left rest (Some x) said xs = (ys : List ℕ) → said (xs ++ ys)
    ≡ more (left x) [] (room_of (o x)) (last (o x)) (rest x ++ ys)
OpensSaid o left rest None said xs = (ys : List ℕ) → 72 < length (xs ++ ys) → said (xs ++ ys) ≡ None

-- The first fields of a body of more than 76 bytes; none where it makes no frame.
abbrev pub Opens : {X : Type 0} → (X → Opening) → (X → ℕ) → (X → List ℕ) → Option X → Kind → List ℕ → Type 0
Opens o left rest (Some x) kind xs = (ys : List ℕ) → read_body kind (xs ++ ys)
    ≡ more (left x) [] (room_of (o x)) (last (o x)) (rest x ++ ys)
Opens o left rest None kind xs = (ys : List ℕ) → 76 < length (xs ++ ys) → read_body kind (xs ++ ys) ≡ None

-- What a body that comes has.
pub record Form : Type 0 where
  pub phase : Phase
  pub left : ℕ
  pub room : ℕ
  pub missing : ℕ
  pub to_come : ℕ
  pub held : List ℕ
  pub opening : Opening
  pub streams : List NamedStream
  pub picture : List ℕ

abbrev pub form : Draft → Form
form d = record {
  phase = d.plan.phase;
  left = d.plan.left;
  room = d.plan.room;
  missing = d.plan.missing;
  to_come = d.plan.to_come;
  held = take d.plan.len d.plan.held;
  opening = d.opening;
  streams = d.streams.items;
  picture = d.picture;
}

-- what is read of it with the bytes that are to come
unfoldable pub reads : Form → Reader
reads f xs = read_on f.phase f.left f.room f.missing f.held f.opening f.streams f.picture xs

-- A body of this kind and length of which these bytes came.
pub record Comes (kind : Kind) (len : ℕ) (front : List ℕ) (f : Form) : Type 0 where
  pub count : length front + f.to_come ≡ len
  pub same : (ys : List ℕ) → length ys ≡ f.to_come → read_body kind (front ++ ys) ≡ reads f ys

-- a body after these bytes more
pub record Follows (old new : Form) (xs : List ℕ) : Type 0 where
  pub count : old.to_come ≡ length xs + new.to_come
  pub same : (ys : List ℕ) → length ys ≡ new.to_come → reads old (xs ++ ys) ≡ reads new ys
