-- Commands that leave frames to whoever has them; a commit, one that fails, and a save that is dropped.
use Rattle.std.proofs.Common.{◌≡◌, ◌==◌, ℕ, Bool, true, false, List, Some, refl, sym, ◌∙◌, subst, if◌then◌else◌, Option}
use Rattle.message_values.specs.Found.{find, put, nth}
use Rattle.message_values.specs.declared.operation.Operation.TheVariants.{SaveDropped}
use Rattle.container_model.specs.declared.record.Object.{Object}
use Rattle.container_model.specs.declared.record.Frame.{Frame}
use Rattle.container_model.specs.Record.{Record, is_object}
use Rattle.container_model.specs.Saves.{kept, cleared, completion, completed, counted_object, commit_doubted}
use Rattle.container_model.specs.Saves.{commit_made, committed_frame, doubted_frame, dropped_frame, dropped_object}
use Rattle.container_model.specs.Saves.{forgotten_object, save_dropped}
use Rattle.container_model.specs.Commands.{saving, saving_frame, saving_on, save_made}
use Rattle.world_grants.specs.Grants.{NoClaim, NoTools}
use Rattle.world_grants.proofs.States.{same}
use Rattle.world_grants.proofs.Handing.{asked_keeps, handed_on}
use Rattle.world_grants.proofs.Objects.{Keeps, all_kept, kept_further, map_kept, with_found, Stay, kept_stay}
use Rattle.world_grants.proofs.Frames.{AllMove, none_move, one_moves, settled_move}

-- objects stay in their frames, and frames with whoever has them
abbrev pub Leaves : Record → Record → Type 0
Leaves r u = Stay r.objects u.objects × AllMove NoClaim NoTools r.frames u.frames

pub leaves_all : (r u : Record) → u.objects ≡ r.objects → u.frames ≡ r.frames → Leaves r u
leaves_all r u o f = (
  subst (Stay r.objects) (sym o) (kept_stay r.objects r.objects (all_kept r.objects)),
  subst (AllMove NoClaim NoTools r.frames) (sym f) (none_move NoClaim NoTools r.frames),
)

-- one object has another link
pub linked_leaves : (r : Record) (n : ℕ) (x a : Object) → find (is_object n) r.objects ≡ Some x → Keeps x a
    → Stay r.objects (put (is_object a.number) a r.objects)
linked_leaves r n x a e k = kept_stay r.objects _ (with_found n r.objects r.objects x a (all_kept r.objects) e k)

-- a whole frame is asked
pub save_leaves : (r : Record) (f : ℕ) (frame : Frame) (raised : Option ℕ) (name : Option (List ℕ))
    → nth r.frames f ≡ Some frame → Leaves r (save_made r f frame raised name).rec
save_leaves r f frame raised name at =
    let v = saving r f frame raised name in
    let u = (saving_on r f frame raised name).rec in
    let k = handed_on NoClaim NoTools v f in (
      kept_stay r.objects u.objects (kept_further r.objects v.objects u.objects
          (map_kept _ r.objects (λ o. asked_keeps f _ o)) k.objects),
      settled_move NoClaim NoTools u.objects r.frames u.frames
          (k.frames r.frames (one_moves NoClaim NoTools r.frames f frame (saving_frame raised name frame) at
          (same frame.ui.state))),
    )

-- a commit is counted
completed_keeps : (f : ℕ) (frame : Frame) (o : Object) → Keeps o (completed f frame o)
completed_keeps f frame o =
    let a = counted_keeps (o.frame == f) in
    let b = asked_keeps f (completion frame) (counted_object f o) in
    record { number = b.number ∙ a.number; frame = b.frame ∙ a.frame }
  where
    counted_keeps : (b : Bool) → Keeps o (if b then record o { work = kept o; link = cleared o.link } else o)
    counted_keeps true = record { number = refl; frame = refl }
    counted_keeps false = record { number = refl; frame = refl }

pub commit_leaves : (r : Record) (f : ℕ) (frame : Frame) → nth r.frames f ≡ Some frame
    → Leaves r (commit_made r f frame).rec
commit_leaves r f frame at = (
  kept_stay r.objects _ (map_kept _ r.objects (λ o. completed_keeps f frame o)),
  one_moves NoClaim NoTools
      r.frames f frame (committed_frame frame) at (same frame.ui.state),
)

-- a commit that fails, and a save that is dropped
pub doubt_leaves : (r : Record) (f : ℕ) (frame : Frame) → nth r.frames f ≡ Some frame
    → Leaves r (commit_doubted r f frame).rec
doubt_leaves r f frame at = (
  kept_stay r.objects r.objects (all_kept r.objects),
  one_moves NoClaim NoTools r.frames f frame
      (doubted_frame frame) at (same frame.ui.state),
)

dropped_keeps : (f : ℕ) (frame : Frame) (o : Object) → Keeps o (dropped_object f frame o)
dropped_keeps f frame o =
    let a = forgotten_keeps (o.frame == f) in
    let b = asked_keeps f (SaveDropped frame.k) (forgotten_object f o) in
    record { number = b.number ∙ a.number; frame = b.frame ∙ a.frame }
  where
    forgotten_keeps : (b : Bool) → Keeps o (if b then record o { link = cleared o.link } else o)
    forgotten_keeps true = record { number = refl; frame = refl }
    forgotten_keeps false = record { number = refl; frame = refl }

pub drop_leaves : (r : Record) (f : ℕ) (frame : Frame) → nth r.frames f ≡ Some frame
    → Leaves r (save_dropped r f frame).rec
drop_leaves r f frame at = (
  kept_stay r.objects _ (map_kept _ r.objects (λ o. dropped_keeps f frame o)),
  one_moves NoClaim NoTools r.frames f frame (dropped_frame frame) at (same frame.ui.state),
)
