-- A file that is opened, given to the container.
use Rattle.std.proofs.Common.{◌≡◌, ◌≤◌, ◌+◌, ◌⊎◌, inl, inr, ℕ, Bool, true, false, not, List, ◌∷◌, length, Option, Some}
use Rattle.std.proofs.Common.{Result, Ok, Err, IfOk, IfErr, OnErr, refl, sym, ap, ◌∙◌, subst, arith}
use Rattle.std.proofs.lemmas.List.FromFn.{length-range_with_len}
use Rattle.std.specs.List.{range_with_len}
use Rattle.ole_model.specs.Documents.{Doc}
use Rattle.container_core.specs.Opening.{MayRefuse, as_given, reading, unread}
use Rattle.container_laws.specs.OpenLaws.{FilesGiveOne}
use Rattle.container_model.specs.Commands.{is_named, is_size}
use Rattle.container_model.specs.Opens.{Given as Read, IsReadAs, opened}
use Rattle.container_model.specs.Record.{Record, Took, Refuses, counts_none, unless}
use Rattle.container_model.specs.declared.answer.Answer.{Answer}
use Rattle.container_model.specs.declared.fault.ContainerFault.{ContainerFault}
use Rattle.container_model.specs.declared.fault.ContainerFault.TheVariants as fault
use Rattle.container_steady.proofs.Opening.{is_opened}
use Rattle.script_model.specs.declared.step.Step.{Step}
use Rattle.script_model.specs.declared.step.Step.TheVariants as step
use Rattle.script_model.specs.Containers.{record_of}
use Rattle.script_model.specs.Events.{Event, Stepped}
use Rattle.script_model.specs.Origins.{GivesNext}
use Rattle.script_model.specs.Saved.{IsOpened, IsReadFrom}
use Rattle.store_model.specs.declared.disk.Disk.{Ghosts as Disks}
use Rattle.script_container.proofs.Given.{IsBacked, IsBy, as_noted, lost_step, one_step, refused_given, taken_step}
use Rattle.script_container.specs.Told.{IsTold, noted_of}

-- what the container makes of a document
abbrev pub makes : List ℕ → ℕ → ℕ → Doc → Record → Result Took ContainerFault
makes name w h d r = opened r name w h (Read.Holding d)

-- how many objects a file gives
pub few_objects : (r : Record) (name : List ℕ) (w h : ℕ) (given : Read) (now : Record) (a : Answer)
    → opened r name w h given ≡ Ok (counts_none now a) → length a.objects ≤ 64
few_objects r name w h given now a taken =
    let x = is_opened r name w h given (counts_none now a) taken in
    let os : a.objects ≡ range_with_len (r.last_object + 1) (length x.d.objects) =
    sym (ap (λ (t : Took). t.answer.objects) x.made) in
    omega (arith, ap length os, length-range_with_len (r.last_object + 1) (length x.d.objects), x.most)

abbrev passed : Result (Unit {0}) ContainerFault
passed = Ok tt

-- What is refused before a file is looked at is refused whatever it gives.
sized_refused : {A : Type 0} (b : Bool) (next : Result A ContainerFault) (e : ContainerFault)
    → unless b fault.WrongState passed ≡ Err e → unless b fault.WrongState next ≡ Err e
sized_refused true next e is = cc
sized_refused false next e is = absurd (cc)

named_refused : {A : Type 0} (a b : Bool) (next : Result A ContainerFault) (e : ContainerFault)
    → unless a fault.Busy (unless b fault.WrongState passed) ≡ Err e
    → unless a fault.Busy (unless b fault.WrongState next) ≡ Err e
named_refused true b next e is = cc
named_refused false b next e is = sized_refused b next e is

-- a refusal is told, or memory was refused
told_or_memory : (x : Result Took ContainerFault) (e : ContainerFault) → x ≡ Err e → (e ≡ fault.NoMemory) ⊎ Refuses x e
told_or_memory x fault.NoSuch is = inr is
told_or_memory x fault.Busy is = inr is
told_or_memory x fault.NotRunning is = inr is
told_or_memory x fault.InDoubt is = inr is
told_or_memory x fault.WrongLink is = inr is
told_or_memory x fault.Stale is = inr is
told_or_memory x fault.Full is = inr is
told_or_memory x fault.NumbersSpent is = inr is
told_or_memory x fault.WrongState is = inr is
told_or_memory x fault.BadFile is = inr is
told_or_memory x fault.BadAnswer is = inr is
told_or_memory x fault.UnknownClass is = inr is
told_or_memory x fault.NoMemory is = inl refl

pub refuses : (one : FilesGiveOne) (r : Record) (name : List ℕ) (w h : ℕ) (d : Doc) (file : Option (List ℕ))
    (e : ContainerFault)
    → IsReadAs file (Read.Holding d) → MayRefuse r name w h file e → (e ≡ fault.NoMemory)
    ⊎ Refuses (makes name w h d r) e
refuses one r name w h d file e gives (unread is) = told_or_memory (makes name w h d r) e
    (named_refused (is_named name r.frames) (not (is_size w h)) _ e is)
refuses one r name w h d file e gives (as_given given reads refused) =
    inr (subst (λ (x : Read). Refuses (opened r name w h x) e) (one file given (Read.Holding d) reads gives)
    refused)
refuses one r name w h d file e gives (reading is looked some) = inl is

module _ {D : Type 0} {disks : Disks D} where
  either_refused : (st : Step) (f : Record → Result Took ContainerFault) (es : List (Event D)) (r : Record)
      (e : ContainerFault) → IsBy st f → IsBacked disks st es → GivesNext st es → (e ≡ fault.NoMemory)
      ⊎ Refuses (f r) e → IsTold disks es r → IsTold disks (noted_of {A = Answer} (Err e) (Stepped st ∷ es)) r
  either_refused st f es r e by counts next (inr refused) t = refused_given st f es r e by counts next refused
      (as_noted es r t)
  either_refused st f es r e by counts next (inl is) t =
      subst (λ x. IsTold disks (noted_of {A = Answer} (Err x) (Stepped st ∷ es)) r) (sym is)
      (lost_step st f es r by counts next (as_noted es r t))

  file_given : (one : FilesGiveOne) (name : List ℕ) (w h : ℕ) (d : Doc) (file : Option (List ℕ))
      (told : Result Answer ContainerFault) (es : List (Event D)) (r now : Record)
      → (disks.follows_model → IsOpened disks es name d) → IsReadAs file (Read.Holding d)
      → IfOk told (λ a. (given : Read) × IsReadAs file given × (opened r name w h given ≡ Ok (counts_none now a)))
      → IfErr told (MayRefuse r name w h file) → OnErr told (now ≡ r)
      → IsTold disks es r → IsTold disks (noted_of told (Stepped (step.Open name w h d.session d.objects) ∷ es)) now
  file_given one name w h d file (Ok a) es r now read gives ok err kept t =
      let f = makes name w h d in
      let took : f r ≡ Ok (counts_none now a) = subst (λ (x : Read). opened r name w h x ≡ Ok (counts_none now a))
      (one file ok.0 (Read.Holding d) ok.1 gives) ok.2 in
      one_step (step.Open name w h d.session d.objects) f es r now (λ g. refl) (tt, read) tt
      (λ is. taken_step f (record_of es) r (counts_none now a) is took) (as_noted es r t)
  file_given one name w h d file (Err e) es r now read gives ok err kept t =
      subst (λ (n : Record). IsTold disks
      (noted_of {A = Answer} (Err e) (Stepped (step.Open name w h d.session d.objects) ∷ es)) n) (sym kept)
      (either_refused (step.Open name w h d.session d.objects) (makes name w h d) es r e (λ g. refl) (tt, read) tt
      (refuses one r name w h d file e gives err) t)

  -- A file that is opened leaves the container as the history tells.
  pub file_told : (one : FilesGiveOne) (name : List ℕ) (w h : ℕ) (d : Doc) (file : Option (List ℕ))
      (told : Result Answer ContainerFault) (es mid after : List (Event D)) (r now : Record)
      → (disks.follows_model → IsOpened disks es name d) → IsReadAs file (Read.Holding d)
      → mid ≡ Stepped (step.Open name w h d.session d.objects) ∷ es → after ≡ noted_of told mid
      → IfOk told (λ a. (given : Read) × IsReadAs file given × (opened r name w h given ≡ Ok (counts_none now a)))
      → IfErr told (MayRefuse r name w h file) → OnErr told (now ≡ r)
      → IsTold disks es r → IsTold disks after now
  file_told one name w h d file told es mid after r now read gives is note ok err kept t =
      subst (λ (n : List (Event D)). IsTold disks n now) (sym (note ∙ ap (noted_of told) is))
      (file_given one name w h d file told es r now read gives ok err kept t)

-- a file that was read, and holds these objects
pub opened_by : {D : Type 0} (disks : Disks D) (es : List (Event D)) (name bytes : List ℕ) (d : Doc)
    → IsReadFrom disks es name bytes → IsReadAs (Some bytes) (Read.Holding d) → IsOpened disks es name d
opened_by disks es name bytes d read gives = record { bytes = bytes; read = read; holds = gives }

-- few objects, of what a call answered
pub few_given : (r : Record) (name : List ℕ) (w h : ℕ) (file : Option (List ℕ)) (now : Record)
    (told : Result Answer ContainerFault)
    → IfOk told (λ a. (given : Read) × IsReadAs file given × (opened r name w h given ≡ Ok (counts_none now a)))
    → IfOk told (λ a. length a.objects ≤ 64)
few_given r name w h file now (Ok a) ok = few_objects r name w h ok.0 now a ok.2
few_given r name w h file now (Err e) ok = tt

-- what is given back is what was given
pub one_name : (given : Option (List ℕ)) (name other : List ℕ) → given ≡ Some name → given ≡ Some other → other ≡ name
one_name given name other is so = cc
