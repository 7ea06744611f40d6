-- A file that is opened leaves a record sound.
use Rattle.std.proofs.Common.{◌≡◌, ◌≤◌, ◌+◌, ℕ, suc, true, List, length, Ok, refl, arith, subst}
use Rattle.ole_model.specs.DocOf.{is_object}
use Rattle.ole_model.specs.declared.object.DocObject.{DocObject}
use Rattle.container_model.specs.Opens.{Given, opened, opened_frame, opened_object}
use Rattle.container_model.specs.Record.{Record, Took}
use Rattle.container_model.specs.Room.{HasNumbers}
use Rattle.container_steady.proofs.Opening.{each_opened, framed, is_opened, one_opened}
use Rattle.container_numbers.proofs.SoundCommands.{frame_sound, object_sound}

-- a record with so many numbers left for objects
record HasLeft (Greatest : ℕ → Type 0) (n : ℕ) (r : Record) : Type 0 where
  sound : HasNumbers Greatest r
  left : r.last_object + n ≤ r.numbers

one_sound : {Greatest : ℕ → Type 0} (f n : ℕ) (r : Record) (d : DocObject) → is_object d ≡ true
    → HasLeft Greatest (suc n) r → HasLeft Greatest n (one_opened r f d)
one_sound f n r d held h =
    let before = h.left in
    record {
      sound = object_sound r (opened_object (r.last_object + 1) f d) h.sound refl (omega (arith, before));
      left = omega (arith, before);
    }

pub opens_keep : {Greatest : ℕ → Type 0} (r : Record) (name : List ℕ) (w k : ℕ) (given : Given) (t : Took)
    → HasNumbers Greatest r → opened r name w k given ≡ Ok t → HasNumbers Greatest t.rec
opens_keep {Greatest} r name w k given t h e =
    let o = is_opened r name w k given t e in
    let start : HasNumbers Greatest (framed r (opened_frame name w k o.d.session)) =
    frame_sound r (opened_frame name w k o.d.session) h o.numbers (omega arith) (λ n. refl) in
    subst (λ (z : Took). HasNumbers Greatest z.rec) o.made
    (each_opened (HasLeft Greatest) (length r.frames + 1) (one_sound (length r.frames + 1)) o.d.objects
    (framed r (opened_frame name w k o.d.session)) o.within (record { sound = start; left = o.objects })).sound
