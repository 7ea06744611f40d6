-- When a file isn't opened.
use Rattle.std.specs.Prelude.{◌≡◌, ◌+◌, ◌||◌, ℕ, true, List, length, Option, is_some, Result, Ok, Err, nat_le, nat_lt}
use Rattle.container_model.specs.declared.fault.ContainerFault.{ContainerFault}
use Rattle.container_model.specs.declared.fault.ContainerFault.TheVariants.{Full, NoMemory, NumbersSpent}
use Rattle.container_model.specs.Record.{Record, MOST_FRAMES, Refuses, unless}
use Rattle.container_model.specs.Opens.{Given, IsReadAs, opened, opening}

-- what is looked at before the file is: its name, and the size
abbrev pub looked_at : Record → List ℕ → ℕ → ℕ → Result (Unit {0}) ContainerFault
looked_at r name w h = opening r name w h (Ok tt)

-- whether there are a frame and numbers left for so many objects
abbrev pub room : Record → ℕ → Result (Unit {0}) ContainerFault
room r count =
    unless (nat_le MOST_FRAMES (length r.frames)) Full
    (unless (nat_le r.numbers (length r.frames) || nat_lt r.numbers (r.last_object + count)) NumbersSpent
    (Ok tt))

-- A file is refused for its name or the size, before it is read, or for what it gives. Want of memory is told where it
-- would be opened, or where memory was refused as it was read.
pub data MayRefuse (r : Record) (name : List ℕ) (w h : ℕ) (file : Option (List ℕ)) (fault : ContainerFault) : Type
    0 where
  unread : looked_at r name w h ≡ Err fault → MayRefuse r name w h file fault
  as_given : (given : Given) → IsReadAs file given → Refuses (opened r name w h given) fault
      → MayRefuse r name w h file fault
  reading : fault ≡ NoMemory → looked_at r name w h ≡ Ok tt → is_some file ≡ true → MayRefuse r name w h file fault
