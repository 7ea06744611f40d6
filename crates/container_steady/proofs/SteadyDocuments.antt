-- What a frame of a steady record has is a document.
use Rattle.std.proofs.Common.{◌≡◌, ◌≤◌, ℕ, suc, ◌+◌, ◌==◌, Bool, true, false, List, [], ◌∷◌, length, Option, Some, None}
use Rattle.std.proofs.Common.{Result, Ok, Err, refl, sym, ap, ◌∙◌, arith, subst, if◌then◌else◌}
use Rattle.std.proofs.lemmas.Bool.{le-leb}
use Rattle.std.specs.Prelude.{◌&&◌, nat_le, nat_lt, cond}
use Rattle.std.specs.List.{AllByRecursion}
use Rattle.message_values.specs.Found.{nth}
use Rattle.cfb_file.specs.Refusals.{writable}
use Rattle.cfb_file.specs.Limits.{MOST_FAT_SECTORS}
use Rattle.cfb_file.specs.Need.{fat_sectors, data_sectors}
use Rattle.cfb_file.specs.declared.fault.WriteFault.{WriteFault}
use Rattle.cfb_file.specs.declared.fault.WriteFault.TheVariants.{TooBig}
use Rattle.tree_streams.specs.Limits.{is_within}
use Rattle.ole_model.specs.CompObjs.{PAST_USER_TYPE}
use Rattle.cfb_entries.specs.Tree.{Tree}
use Rattle.container_model.specs.declared.answer.FrameDocument.{FrameDocument}
use Rattle.container_model.specs.declared.record.Frame.{Frame}
use Rattle.container_model.specs.declared.record.Object.{Object}
use Rattle.container_model.specs.declared.fault.ContainerFault.{ContainerFault}
use Rattle.container_model.specs.declared.fault.ContainerFault.TheVariants.{WrongState, Full}
use Rattle.container_model.specs.Record.{Record, MOST_OBJECTS, count_objects}
use Rattle.container_model.specs.Saves.{are_objects, document_tree, fitting, fitting_in, frame_document, has_image}
use Rattle.container_model.specs.Saves.{held_parts, image_at, is_document, kept, part_of, parts_in}
use Rattle.container_queues.specs.Steady.{DocumentsHold, FullByTheFileAlone, SteadyObject}
use Rattle.container_steady.proofs.SteadyRecords.{if_told, some_and, Held, kept_object_within}

both_hold : (a b : Bool) → a ≡ true → b ≡ true → (a && b) ≡ true
both_hold true b e g = g
both_hold false b e g = cc

-- as many parts as objects
parts_counted : (f : ℕ) (os : List Object) → length (held_parts (parts_in f os)) ≡ count_objects f os
parts_counted f [] = refl
parts_counted f (o ∷ os) =
    elim (o.frame == f) as (λ b. length (held_parts (if b then part_of o ∷ parts_in f os else parts_in f os))
    ≡ (if b then 1 + count_objects f os else count_objects f os)) [
      | true ↦ (let up : suc (count_objects f os) ≡ 1 + count_objects f os = omega arith in
          ap suc (parts_counted f os) ∙ up)
      | false ↦ parts_counted f os
    ]

-- each within its limits
object_held : (r : Record) (o : Object) → SteadyObject r o
    → (is_within (kept o) && nat_lt (length o.user_type) PAST_USER_TYPE) ≡ true
object_held r o h =
    let s = some_and (Held r o.number o.link) (nth r.frames o.frame) h.linked in
    both_hold (is_within (kept o)) (nat_lt (length o.user_type) PAST_USER_TYPE)
    (kept_object_within r o s.0 h.within s.2) h.user_type

parts_held : (r : Record) (f : ℕ) (os : List Object) → AllByRecursion (SteadyObject r) os
    → are_objects (held_parts (parts_in f os)) ≡ true
parts_held r f [] h = refl
parts_held r f (o ∷ os) h =
    elim (o.frame == f) as (λ b. are_objects (held_parts (if b then part_of o ∷ parts_in f os else parts_in f os))
    ≡ true) [
      | true ↦ both_hold (is_within (kept o) && nat_lt (length o.user_type) PAST_USER_TYPE)
          (are_objects (held_parts (parts_in f os))) (object_held r o h.0) (parts_held r f os h.1)
      | false ↦ parts_held r f os h.1
    ]

pub documents-hold : DocumentsHold
documents-hold r f s =
    let few : length (held_parts (parts_in f r.objects)) ≤ MOST_OBJECTS =
    subst (λ (n : ℕ). n ≤ MOST_OBJECTS) (sym (parts_counted f r.objects)) (s.count f) in
    both_hold (nat_le (length (held_parts (parts_in f r.objects))) MOST_OBJECTS)
    (are_objects (held_parts (parts_in f r.objects)))
    (le-leb (length (held_parts (parts_in f r.objects))) MOST_OBJECTS few) (parts_held r f r.objects s.objects)

-- what is refused is the tree alone
too_big : (t : Tree) (fault : WriteFault) → writable t ≡ Err fault → writable t ≡ Err TooBig
too_big t fault e = elim (nat_lt MOST_FAT_SECTORS (fat_sectors (data_sectors t))) as (λ b.
    ◌≡◌ {A = Result (Unit {0}) WriteFault} (cond b (Err TooBig) (Ok tt)) (Err fault)
    → ◌≡◌ {A = Result (Unit {0}) WriteFault} (cond b (Err TooBig) (Ok tt)) (Err TooBig)) [
      | true ↦ (λ g. refl)
      | false ↦ (λ g. cc)
    ] e

full_told : (d : FrameDocument) (told : Result (Unit {0}) WriteFault) → fitting_in d told ≡ Err Full
    → (fault : WriteFault) × (told ≡ Err fault)
full_told d (Ok done) e = cc
full_told d (Err fault) e = (fault, refl)

full_fitting : (d : FrameDocument) (b : Bool) → b ≡ true
    → (if b then fitting_in d (writable (document_tree d)) else Err Full) ≡ Err Full
    → writable (document_tree d) ≡ Err TooBig
full_fitting d true is e = (let w = full_told d (writable (document_tree d)) e in too_big (document_tree d) w.0 w.1)
full_fitting d false is e = cc

full_image : (r : Record) (f : ℕ) (found : Option Frame) → nth r.frames f ≡ found
    → is_document (held_parts (parts_in f r.objects)) ≡ true → image_at r f found ≡ Err Full
    → (frame : Frame) × (nth r.frames f ≡ Some frame)
    × (writable (document_tree (frame_document frame (parts_in f r.objects))) ≡ Err TooBig)
full_image r f None at is e = cc
full_image r f (Some frame) at is e =
    let d : FrameDocument = frame_document frame (parts_in f r.objects) in (
      frame,
      at,
      if_told (λ (z : Result FrameDocument ContainerFault). z ≡ Err Full → writable (document_tree d) ≡ Err TooBig)
          (has_image frame.phase) (fitting d) (Err WrongState)
          (λ t g. full_fitting d (is_document (held_parts (parts_in f r.objects))) is g)
          (λ t g. cc) e,
    )

pub full-by_the_file_alone : FullByTheFileAlone
full-by_the_file_alone r f s e = full_image r f (nth r.frames f) refl (documents-hold r f s) e
