-- A file that is opened: a frame of its name, with the objects of its document.
use Rattle.std.specs.Prelude.{◌+◌, ◌≡◌, ◌++◌, ◌||◌, ℕ, not, List, [], ◌∷◌, length, Option, Some, None, Result, Ok, Err}
use Rattle.std.specs.Prelude.{nat_le, nat_lt, true, ⊤}
use Rattle.std.specs.List.{range_with_len}
use Rattle.cfb_entries.specs.Tree.{Tree}
use Rattle.cfb_file.specs.Denotes.{Denotes}
use Rattle.ole_model.specs.Documents.{Doc}
use Rattle.ole_model.specs.DocOf.{DocOf}
use Rattle.ole_model.specs.declared.object.DocObject.{DocObject}
use Rattle.container_model.specs.declared.record.Frame.{Frame}
use Rattle.container_model.specs.declared.record.Object.{Object}
use Rattle.container_model.specs.declared.fault.ContainerFault.{ContainerFault}
use Rattle.container_model.specs.declared.fault.ContainerFault.TheVariants.{BadFile, Busy, Full, NoSuch, NumbersSpent}
use Rattle.container_model.specs.declared.fault.ContainerFault.TheVariants.{WrongState}
use Rattle.container_model.specs.Record.{MOST_FRAMES, Record, Took, quiet_answer, unless}
use Rattle.container_model.specs.Saves.{is_document}
use Rattle.container_model.specs.Commands.{is_named, is_size, new_frame}

-- What there is under a name: no file, one that holds no document, or a document.
pub data Given : Type 0 where
  Missing : Given
  Broken : Given
  Holding : Doc → Given

-- A file is read so: it denotes the tree of the document that is given, or no tree that holds one. What bytes denote is
-- a relation, and so is this; there is at most one document that a file can give.
abbrev pub IsReadAs : Option (List ℕ) → Given → Type 0
IsReadAs None Given.Missing = ⊤
IsReadAs (Some bytes) Given.Broken = (t : Tree) (d : Doc) → Denotes bytes t → DocOf t d → ⊥
IsReadAs (Some bytes) (Given.Holding d) = ∥ ((t : Tree) × Denotes bytes t × DocOf t d) ∥₁
IsReadAs file given = ⊥

-- the objects of a document in a frame, in their order: passive, each with the next number
abbrev pub opened_object : ℕ → ℕ → DocObject → Object
opened_object number f d = record {
  number = number;
  frame = f;
  class = d.class;
  user_type = d.user_type;
  area = d.area;
  work = d.stored;
  link = None;
}

abbrev pub opened_objects : ℕ → ℕ → List DocObject → List Object
opened_objects last f [] = []
opened_objects last f (d ∷ ds) = opened_object (last + 1) f d ∷ opened_objects (last + 1) f ds

-- the frame holds the document's session
abbrev pub opened_frame : List ℕ → ℕ → ℕ → ℕ → Frame
opened_frame name w h session = record (new_frame name w h) { stored = true; session = session }

abbrev pub opened_made : Record → List ℕ → ℕ → ℕ → Doc → Took
opened_made r name w h d = record {
  rec = record r {
    frames = r.frames ++ opened_frame name w h d.session ∷ [];
    objects = r.objects ++ opened_objects r.last_object (length r.frames + 1) d.objects;
    last_object = r.last_object + length d.objects;
  };
  answer = record quiet_answer {
    frame = Some (length r.frames + 1);
    objects = range_with_len (r.last_object + 1) (length d.objects);
  };
  counted = [];
}

-- (what a tree holds is always a document within its limits)
abbrev pub opened_document : Record → List ℕ → ℕ → ℕ → Doc → Result Took ContainerFault
opened_document r name w h d =
    unless (not (is_document d.objects)) BadFile
    (unless (nat_le MOST_FRAMES (length r.frames)) Full
    (unless (nat_le r.numbers (length r.frames) || nat_lt r.numbers (r.last_object + length d.objects)) NumbersSpent
    (Ok (opened_made r name w h d))))

abbrev pub opened_given : Record → List ℕ → ℕ → ℕ → Given → Result Took ContainerFault
opened_given r name w h Given.Missing = Err NoSuch
opened_given r name w h Given.Broken = Err BadFile
opened_given r name w h (Given.Holding d) = opened_document r name w h d

-- a name that no frame bears or asked for, and a size, are looked at before the file is
abbrev pub opening : {A : Type 0} → Record → List ℕ → ℕ → ℕ → Result A ContainerFault → Result A ContainerFault
opening r name w h next = unless (is_named name r.frames) Busy (unless (not (is_size w h)) WrongState next)

-- The container's step on a file that is opened.
abbrev pub opened : Record → List ℕ → ℕ → ℕ → Given → Result Took ContainerFault
opened r name w h given = opening r name w h (opened_given r name w h given)
