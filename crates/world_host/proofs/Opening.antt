-- A file that is opened, or isn't: what it gives, and that no server ends or starts by it.
use Rattle.std.proofs.Common.{◌≡◌, ◌≢◌, ◌+◌, ◌||◌, ℕ, Bool, true, false, not, List, [], length, Option, Result, Ok, Err}
use Rattle.std.proofs.Common.{refl, nat_le, nat_lt}
use Rattle.container_model.specs.declared.fault.ContainerFault.{ContainerFault}
use Rattle.container_model.specs.declared.fault.ContainerFault.TheVariants.{NoSuch, Busy, NotRunning, InDoubt}
use Rattle.container_model.specs.declared.fault.ContainerFault.TheVariants.{WrongLink, Stale, Full, NumbersSpent}
use Rattle.container_model.specs.declared.fault.ContainerFault.TheVariants.{WrongState, BadFile, BadAnswer}
use Rattle.container_model.specs.declared.fault.ContainerFault.TheVariants.{UnknownClass, NoMemory}
use Rattle.container_model.specs.Commands.{is_named, is_size}
use Rattle.container_model.specs.Opens.{Given, IsReadAs, opened, opened_given, opened_made}
use Rattle.container_model.specs.Record.{MOST_FRAMES, Record, Refuses, Took, unless}
use Rattle.container_model.specs.Saves.{is_document}
use Rattle.container_core.specs.Opening.{MayRefuse, as_given, reading, unread}
use Rattle.world_host.specs.Servers.{ends_in}

none_document : (a b c : Bool) (t : Took) → ends_in (Ok t) ≡ []
    → ends_in (unless a BadFile (unless b Full (unless c NumbersSpent (Ok t)))) ≡ []
none_document true b c t e = refl
none_document false true c t e = refl
none_document false false true t e = refl
none_document false false false t e = e

none_given : (r : Record) (name : List ℕ) (w h : ℕ) (given : Given) → ends_in (opened_given r name w h given) ≡ []
none_given r name w h Given.Missing = refl
none_given r name w h Given.Broken = refl
none_given r name w h (Given.Holding d) =
    none_document (not (is_document d.objects)) (nat_le MOST_FRAMES (length r.frames))
    (nat_le r.numbers (length r.frames) || nat_lt r.numbers (r.last_object + length d.objects))
    (opened_made r name w h d) refl

none_looked : (a b : Bool) (next : Result Took ContainerFault) → ends_in next ≡ []
    → ends_in (unless a Busy (unless b WrongState next)) ≡ []
none_looked true b next e = refl
none_looked false true next e = refl
none_looked false false next e = e

pub opens_end_none : (r : Record) (name : List ℕ) (w h : ℕ) (given : Given) → ends_in (opened r name w h given) ≡ []
opens_end_none r name w h given = none_looked (is_named name r.frames) (not (is_size w h))
    (opened_given r name w h given) (none_given r name w h given)

-- a refusal but for want of memory is the step's
told_so : (told : Result Took ContainerFault) (fault : ContainerFault) → fault ≢ NoMemory → Refuses told fault
    → told ≡ Err fault
told_so told NoMemory other h = absurd (other refl)
told_so told NoSuch other h = h
told_so told Busy other h = h
told_so told NotRunning other h = h
told_so told InDoubt other h = h
told_so told WrongLink other h = h
told_so told Stale other h = h
told_so told Full other h = h
told_so told NumbersSpent other h = h
told_so told WrongState other h = h
told_so told BadFile other h = h
told_so told BadAnswer other h = h
told_so told UnknownClass other h = h

-- what the file gives, where it is looked at, and that it is refused so
pub record IsUnopened (r : Record) (name : List ℕ) (w h : ℕ) (file : Option (List ℕ)) (fault : ContainerFault) :
    Type 0 where
  pub given : Given
  pub read : is_named name r.frames ≡ false → is_size w h ≡ true → IsReadAs file given
  pub told : opened r name w h given ≡ Err fault

module _ (name : List ℕ) (w h : ℕ) (file : Option (List ℕ)) (fault : ContainerFault)
    (next : Result Took ContainerFault) where
  barred : (a b : Bool) → ◌≡◌ {A = Result (Unit {0}) ContainerFault}
      (unless a Busy (unless (not b) WrongState (Ok tt))) (Err fault)
      → (a ≡ false → b ≡ true → IsReadAs file Given.Missing)
      × (unless a Busy (unless (not b) WrongState next) ≡ Err fault)
  barred true b e = ((λ p q. cc), (let is : Busy ≡ fault = cc in cc))
  barred false true e = cc
  barred false false e = ((λ p q. cc), (let is : WrongState ≡ fault = cc in cc))

pub unopened : (r : Record) (name : List ℕ) (w h : ℕ) (file : Option (List ℕ)) (fault : ContainerFault)
    → fault ≢ NoMemory → MayRefuse r name w h file fault → IsUnopened r name w h file fault
unopened r name w h file fault other (unread e) =
    (let b = barred name w h file fault (opened_given r name w h Given.Missing) (is_named name r.frames)
    (is_size w h) e in record { given = Given.Missing; read = b.0; told = b.1 })
unopened r name w h file fault other (as_given given is e) =
    record { given = given; read = λ p q. is; told = told_so _ fault other e }
unopened r name w h file fault other (reading is e there) = absurd (other is)
