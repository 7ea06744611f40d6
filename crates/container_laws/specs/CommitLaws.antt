-- What a commit counts, and whom it tells.
use Rattle.std.specs.Prelude.{◌≡◌, ◌≢◌, ◌⊎◌, ◌+◌, ◌==◌, ◌++◌, ℕ, true, is_some, List, [], ◌∷◌, map, Option, Some, None}
use Rattle.std.specs.Prelude.{Ok, if◌then◌else◌}
use Rattle.std.specs.List.{All}
use Rattle.message_values.specs.Found.{nth}
use Rattle.message_values.specs.declared.operation.Operation.TheVariants.{SaveCompleted}
use Rattle.object_state.specs.declared.persist_states.PersistState.TheVariants.{HandsOff}
use Rattle.tree_streams.specs.declared.stored.Stored.{Stored}
use Rattle.container_model.specs.declared.record.Link.{Link}
use Rattle.container_model.specs.declared.record.Object.{Object}
use Rattle.container_model.specs.declared.record.Frame.{Frame}
use Rattle.container_model.specs.declared.record.Phase.TheVariants.{Saving, HandingOff, Committing}
use Rattle.container_model.specs.declared.answer.Action.{Action}
use Rattle.container_model.specs.declared.answer.Action.TheVariants.{Send}
use Rattle.container_model.specs.declared.answer.Done.{Done}
use Rattle.container_model.specs.declared.answer.FrameDocument.{FrameDocument}
use Rattle.container_model.specs.declared.answer.Part.{Part}
use Rattle.container_model.specs.Record.{Record, Took, call}
use Rattle.container_model.specs.HandOffs.{hands_off}
use Rattle.container_model.specs.Saves.{commit_done, image, is_some_name, resolve, session_after, settled_frame}

-- An object gives to a save its work content while it is passive, else the content that it answered in this save.
pub record Gives (o : Object) (content : Stored) : Type 0 where
  pub passive : o.link ≡ None → content ≡ o.work
  pub answered : (l : Link) (c : Stored) → o.link ≡ Some l → l.saved ≡ Some c → content ≡ c

-- an object as a part of a document
pub record IsPart (f : ℕ) (o : Object) (p : Part) : Type 0 where
  pub inside : o.frame ≡ f
  pub number : p.object ≡ o.number
  pub class : p.class ≡ o.class
  pub user_type : p.user_type ≡ o.user_type
  pub area : p.area ≡ o.area
  pub gives : Gives o p.content

-- just the objects of a frame, in their order
pub data AreParts (f : ℕ) : List Object → List Part → Type 0 where
  none : AreParts f [] []
  other : (o : Object) (os : List Object) (ps : List Part) → o.frame ≢ f → AreParts f os ps → AreParts f (o ∷ os) ps
  one : (o : Object) (os : List Object) (p : Part) (ps : List Part) → IsPart f o p → AreParts f os ps
      → AreParts f (o ∷ os) (p ∷ ps)

-- what a frame's objects are while they are passive
abbrev pub stored_part : Object → Part
stored_part o = record { object = o.number; class = o.class; user_type = o.user_type; area = o.area; content = o.work }

abbrev pub stored_parts : ℕ → List Object → List Part
stored_parts f [] = []
stored_parts f (o ∷ os) = if o.frame == f then stored_part o ∷ stored_parts f os else stored_parts f os

-- a commit that is done, or one in doubt that is resolved as kept
abbrev pub IsCommit : Record → ℕ → Took → Type 0
IsCommit r f t = (commit_done r f ≡ Ok t) ⊎ (resolve r f true ≡ Ok t)

-- the entry of a part in the log of what was counted, under the number of its save
abbrev pub counted_part : ℕ → Part → Done
counted_part k p = record { object = p.object; k = k; content = p.content }

-- A commit writes a document of the frame's session, or of the one that its save raises it to. It counts the frame's
-- objects with what each gave, under the number of the frame's save, and nothing else; after it their work contents are
-- what was counted.
abbrev pub CommitCounts : Type 0
CommitCounts = (r : Record) (f : ℕ) (t : Took) → IsCommit r f t
    → (frame : Frame) × (nth r.frames f ≡ Some frame) × (d : FrameDocument) × (image r f ≡ Ok d)
    × (d.session ≡ session_after frame.session frame.raised) × AreParts f r.objects d.parts
    × (t.counted ≡ map (counted_part frame.k) d.parts) × (stored_parts f t.rec.objects ≡ d.parts)

-- the activations of a frame that have no pending call
abbrev pub free_link : Option Link → List Link
free_link None = []
free_link (Some l) = elim l.pending [ None ↦ l ∷ [] | Some op ↦ [] ]

abbrev pub free_links : ℕ → List Object → List Link
free_links f [] = []
free_links f (o ∷ os) = if o.frame == f then free_link o.link ++ free_links f os else free_links f os

-- the call that tells an activation that the frame's save is counted
abbrev pub telling : Frame → Link → Action
telling frame l = Send (call l (l.last + 1) (SaveCompleted frame.k (is_some_name frame.asked)))

-- A commit asks for one call to each activation of the frame that has no pending one, and for nothing else.
abbrev pub CommitTells : Type 0
CommitTells = (r : Record) (f : ℕ) (t : Took) → IsCommit r f t
    → (frame : Frame) × (nth r.frames f ≡ Some frame)
    × (t.answer.actions ≡ map (telling frame) (free_links f r.objects))

-- A save goes on to its commit only when each object of the frame that isn't passive has answered its content; under
-- another name, it asks for storages only then, and goes on to its commit only when each was given away.
abbrev pub HasAnswered : ℕ → Object → Type 0
HasAnswered f o = o.frame ≡ f → (l : Link) → o.link ≡ Some l → (c : Stored) × (l.saved ≡ Some c)

abbrev pub HasGivenAway : ℕ → Object → Type 0
HasGivenAway f o = o.frame ≡ f → (l : Link) → o.link ≡ Some l → l.states.persist.state ≡ HandsOff

abbrev pub SaveWaits : Type 0
SaveWaits = (f : ℕ) (os : List Object) (frame : Frame) → (settled_frame f os frame).phase ≡ Committing
    → frame.phase ≢ Committing
    → ((frame.phase ≡ Saving) × (frame.asked ≡ None) × All (HasAnswered f) os)
    ⊎ ((frame.phase ≡ HandingOff) × All (HasGivenAway f) os)

abbrev pub HandOffWaits : Type 0
HandOffWaits = (f : ℕ) (os : List Object) (frame : Frame) → hands_off f os frame ≡ true → (frame.phase ≡ Saving)
    × (is_some frame.asked ≡ true) × All (HasAnswered f) os
