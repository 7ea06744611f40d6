-- What is printed of a command, at its beginning and at its end.
use Rattle.std.proofs.Common.{◌≡◌, ◌≢◌, ◌≤◌, ◌==◌, ◌++◌, ℕ, zero, suc, Bool, true, false, List, [], ◌∷◌, if◌then◌else◌}
use Rattle.std.proofs.Common.{Option, Some, None, Result, Ok, Err, IfOk, OnOk, refl, sym, ap, ◌∙◌, subst, append-nil}
use Rattle.std.proofs.Common.{arith}
use Rattle.std.specs.Io.KnownBytes.{Appends}
use Rattle.std.proofs.lemmas.Bool.{eqb-true, eq-eqb}
use Rattle.container_model.specs.Commands.{on_command}
use Rattle.container_model.specs.Record.{Record, Refuses, counts_none}
use Rattle.container_model.specs.declared.answer.Answer.{Answer}
use Rattle.container_model.specs.declared.command.Command.{Command}
use Rattle.container_model.specs.declared.command.Command.TheVariants as asks
use Rattle.container_model.specs.declared.fault.ContainerFault.{ContainerFault}
use Rattle.container_model.specs.declared.fault.ContainerFault.TheVariants as fault
use Rattle.container_core.specs.Screen.{shown}
use Rattle.store_model.specs.declared.disk.Disk.{Ghosts as Disks}
use Rattle.script_container.proofs.Answered.{refused_with}
use Rattle.script_container.specs.declared.fault.ScriptFault.{ScriptFault}
use Rattle.script_model.specs.Answers.{further, made_by, told_by, told_line}
use Rattle.script_model.specs.Bounds.{Pace, linking, pace}
use Rattle.script_model.specs.Containers.{record_of}
use Rattle.script_model.specs.Courses.{Course, Opening, but_starts, course, is_start, is_unraised, told_of}
use Rattle.script_model.specs.Events.{Event, Stepped, running}
use Rattle.script_model.specs.Notices.{Tells, notices}
use Rattle.script_model.specs.declared.answer.Told.{Told}
use Rattle.script_model.specs.declared.answer.Told.TheVariants as told
use Rattle.script_model.specs.declared.command.ScriptCommand.{ScriptCommand}
use Rattle.script_model.specs.declared.command.ScriptCommand.TheVariants as script
use Rattle.script_model.specs.declared.step.Step.TheVariants as step
use Rattle.script_opens.proofs.Results.{ok_then}
use Rattle.script_commands.proofs.Held.{both_later}
use Rattle.script_commands.specs.Lines.{HasLine, IfBegun, IsBeginning, IsBegunWith, IsCut, IsFirst, IsFirstOf, IsShown}
use Rattle.script_commands.specs.Lines.{told_of_server}

-- ---- what the container is given

-- what is told of a command's answer
pub answer_told : (r now : Record) (c : Command) (a : Answer) (t : Told) → on_command r c ≡ Ok (counts_none now a)
    → t ≡ made_by a → t ≡ told_by (on_command r c)
answer_told r now c a t taken made = made ∙ sym (ap told_by taken)

pub refusal_told : (r : Record) (c : Command) (e : ContainerFault) → Refuses (on_command r c) e → e ≢ fault.NoMemory
    → told.Fault e ≡ told_by (on_command r c)
refusal_told r c e refuses some = sym (ap told_by (refused_with (on_command r c) e some refuses))

-- a start that meets no session
pub other_start : (r : Record) (c : Command) → (c ≡ asks.Start → ⊥) → is_unraised r c ≡ false
other_start r (asks.New name w h) other = refl
other_start r (asks.Insert f kind area) other = refl
other_start r asks.Session other = refl
other_start r asks.Start other = absurd (other refl)
other_start r (asks.Run o inc) other = refl
other_start r (asks.Edit o bytes) other = refl
other_start r (asks.Save f) other = refl
other_start r (asks.SaveAs f name) other = refl
other_start r (asks.Delete o) other = refl
other_start r (asks.Kill inc) other = refl
other_start r (asks.Close o option) other = refl
other_start r (asks.Verb o number) other = refl

module _ {D : Type 0} (es after : List (Event D)) (r : Record) (c : Command) (recorded : record_of es ≡ r)
    (given : but_starts (course after) ≡ but_starts (course (Stepped (step.Command c) ∷ es))) where
  commanded_now : (course after).commanded ≡ told_of r c (course es).commanded
  commanded_now = ap (λ (k : Course D). k.commanded) given ∙ ap (λ (q : Record). told_of q c (course es).commanded)
      recorded

  -- it tells of itself
  pub commanded_so : (t : Told) → is_unraised r c ≡ false → t ≡ told_by (on_command r c)
      → (course after).commanded ≡ Some t
  commanded_so t raised is =
      commanded_now ∙ ap (λ (y : Bool). if y then (course es).commanded else Some (told_by (on_command r c))) raised
      ∙ ap (λ (x : Told). Some x) (sym is)

  pub first_given : (res : Result Told ScriptFault) → is_unraised r c ≡ false
      → IfOk res (λ t. t ≡ told_by (on_command r c)) → OnOk res ((course after).unstarted ≡ [])
      → IfOk res (λ t. ((course after).commanded ≡ Some t) × ((course after).unstarted ≡ []))
  first_given (Ok t) raised is idle = (commanded_so t raised is, idle)
  first_given (Err e) raised is idle = tt

  -- or of the one before
  pub commanded_before : (t : Told) → is_unraised r c ≡ true → (course es).commanded ≡ Some t
      → (course after).commanded ≡ Some t
  commanded_before t unraised is = commanded_now ∙ ap (λ (y : Bool). if y then (course es).commanded
      else Some (told_by (on_command r c))) unraised ∙ is

  pub begun_so : (course after).begun ≡ (course es).begun
  begun_so = ap (λ (k : Course D). k.begun) given

unequal : (b : Bool) (n m : ℕ) → (n == m) ≡ b → (n ≡ m → ⊥) → b ≡ false
unequal true n m is apart = absurd (apart (eqb-true n m is))
unequal false n m is apart = refl

pub raised_so : (r : Record) → (r.session ≡ 0 → ⊥) → is_unraised r asks.Start ≡ false
raised_so r some = unequal (r.session == 0) r.session 0 refl some

pub none_raised : (r : Record) (c : Command) → is_unraised r c ≡ true → r.session ≡ 0
none_raised r c is = eqb-true r.session 0 (both_later (is_start c) (r.session == 0) is)

pub unraised_so : (r : Record) → r.session ≡ 0 → is_unraised r asks.Start ≡ true
unraised_so r none = eq-eqb r.session 0 none

-- ---- the beginning of a command

module _ {D : Type 0} (es : List (Event D)) (b : IsBeginning es) where
  pub begins_so : (course es).begun ≡ Some (b.place, b.before)
  begins_so = ap (λ (h : List (Event D)). (course h).begun) b.last

  pub begins_idle : (course es).unstarted ≡ []
  begins_idle = ap (λ (h : List (Event D)). (course h).unstarted) b.last

  pub begins_unasked : (course es).opening ≡ Opening.Unasked
  begins_unasked = ap (λ (h : List (Event D)). (course h).opening) b.last

  pub begins_quiet : (noticed : Option Told) → noticed ≡ None → Tells (notices es) noticed
  begins_quiet noticed none = subst (λ (t : Option Told). Tells (notices es) t) (sym none)
      (subst (λ (h : List (Event D)). Tells (notices h) None) (sym b.last) tt)

  -- the record where it began
  pub record_begun : (r : Record) → record_of es ≡ r → r ≡ record_of b.before
  record_begun r recorded = sym recorded ∙ ap (λ (h : List (Event D)). record_of h) b.last

  pub ran_begun : (s : ℕ) → running s es ≡ running s b.before
  ran_begun s = ap (λ (h : List (Event D)). running s h) b.last

module _ {D : Type 0} (disks : Disks D) (es after : List (Event D)) (b : IsBeginning es)
    (standing : (course after).begun ≡ (course es).begun) where
  first_in : (c : ScriptCommand) (lines : List ℕ) (t : Told)
      → IsFirstOf disks c b.before (course after) (λ s. (pace s after).links) lines t
      → IsFirst disks c (course after) (λ s. (pace s after).links) lines t
  first_in c lines t has =
      subst (λ (x : Option (ℕ × List (Event D))). IfBegun x
      (λ before. IsFirstOf disks c before (course after) (λ s. (pace s after).links) lines t))
      (sym (standing ∙ begins_so es b)) has

  -- a command of which no lines come first
  pub begun_with : (it c : ScriptCommand) (old new : List ℕ) (t : Told) → it ≡ c → new ≡ old
      → IsFirstOf disks c b.before (course after) (λ s. (pace s after).links) [] t
      → IsBegunWith disks it after old new t
  begun_with it c old new t is same has = record {
    lines = [];
    added = same ∙ sym (append-nil old);
    told = subst (λ (x : ScriptCommand). IsFirst disks x (course after) (λ s. (pace s after).links) [] t) (sym is)
        (first_in c [] t has);
  }

  pub begun_by : (r : Result Told ScriptFault) (it c : ScriptCommand) (old new : List ℕ) (P : Told → Type 0)
      → it ≡ c → new ≡ old
      → ((t : Told) → P t → IsFirstOf disks c b.before (course after) (λ s. (pace s after).links) [] t) → IfOk r P
      → IfOk r (λ t. IsBegunWith disks it after old new t)
  begun_by r it c old new P is same leads has = ok_then r P (λ t. IsBegunWith disks it after old new t)
      (λ t p. begun_with it c old new t is same (leads t p)) has

  -- what a frame shows
  pub begun_screen : (r : Result Told ScriptFault) (it : ScriptCommand) (f : ℕ) (q : Record) (old new : List ℕ)
      → it ≡ script.Screen f → q ≡ record_of b.before
      → IfOk r (λ t. (lines : List ℕ) × (new ≡ old ++ lines) × IsShown (shown q f) lines t)
      → IfOk r (λ t. IsBegunWith disks it after old new t)
  begun_screen r it f q old new is same has =
      ok_then r (λ t. (lines : List ℕ) × (new ≡ old ++ lines) × IsShown (shown q f) lines t)
      (λ t. IsBegunWith disks it after old new t)
      (λ t p. record {
        lines = p.0;
        added = p.1;
        told = subst (λ (x : ScriptCommand). IsFirst disks x (course after) (λ s. (pace s after).links) p.0 t)
            (sym is) (first_in (script.Screen f) p.0 t
            (subst (λ (x : Record). IsShown (shown x f) p.0 t) same p.2));
      })
      has

pub show_so : (x : Result (List ℕ) ContainerFault) (lines : List ℕ) → x ≡ Ok lines → IsShown x lines told.Done
show_so x lines is = subst (λ (y : Result (List ℕ) ContainerFault). IsShown y lines told.Done) (sym is) (refl, refl)

refuses_shown : (x : Result (List ℕ) ContainerFault) (e : ContainerFault) → e ≢ fault.NoMemory → Refuses x e → x ≡ Err e
refuses_shown x fault.NoSuch some refuses = refuses
refuses_shown x fault.Busy some refuses = refuses
refuses_shown x fault.NotRunning some refuses = refuses
refuses_shown x fault.InDoubt some refuses = refuses
refuses_shown x fault.WrongLink some refuses = refuses
refuses_shown x fault.Stale some refuses = refuses
refuses_shown x fault.Full some refuses = refuses
refuses_shown x fault.NumbersSpent some refuses = refuses
refuses_shown x fault.WrongState some refuses = refuses
refuses_shown x fault.BadFile some refuses = refuses
refuses_shown x fault.BadAnswer some refuses = refuses
refuses_shown x fault.UnknownClass some refuses = refuses
refuses_shown x fault.NoMemory some refuses = absurd (some refl)

pub show_not : (x : Result (List ℕ) ContainerFault) (e : ContainerFault) (old : List ℕ) → Refuses x e
    → e ≢ fault.NoMemory → (lines : List ℕ) × (old ≡ old ++ lines) × IsShown x lines (told.Fault e)
show_not x e old refuses some = (
  [],
  sym (append-nil old),
  subst (λ (y : Result (List ℕ) ContainerFault). IsShown y [] (told.Fault e))
      (sym (refuses_shown x e some refuses)) (refl, refl),
)

-- ---- links

pub told_none : (n : ℕ) → n ≡ 0 → told.Fault fault.NoSuch ≡ told_of_server n
told_none n none = ap told_of_server (sym none)

pub told_some : (n : ℕ) → 1 ≤ n → told.Done ≡ told_of_server n
told_some zero some = absurd (omega (arith, some))
told_some (suc n) some = refl

pub cut_none : (n links : ℕ) → n ≡ 0 → IsCut n links
cut_none n links none = subst (λ (k : ℕ). IsCut k links) (sym none) tt

pub cut_some : (n links : ℕ) → 1 ≤ links → IsCut n links
cut_some zero links some = tt
cut_some (suc n) links some = some

-- a link that was made anew was made anew at least once
pub one_link : (p now : Pace) (b : Bool) → now ≡ linking b p → 1 ≤ now.links
one_link p now b is = subst (λ (q : Pace). 1 ≤ q.links) (sym is) (omega arith)

cut_more : (n links more : ℕ) → links ≤ more → IsCut n links → IsCut n more
cut_more zero links more less cut = tt
cut_more (suc n) links more less cut = omega (arith, less, cut)

-- ---- behind turns

module _ {D : Type 0} (disks : Disks D) where
  first_later : (c : ScriptCommand) (before : List (Event D)) (k : Course D) (links more : ℕ → ℕ) (lines : List ℕ)
      (t : Told) → ((s : ℕ) → links s ≤ more s) → IsFirstOf disks c before k links lines t
      → IsFirstOf disks c before k more lines t
  first_later (script.Container c) before k links more lines t less has = has
  first_later (script.Open name w h) before k links more lines t less has = has
  first_later (script.Screen f) before k links more lines t less has = has
  first_later (script.Cut inc) before k links more lines t less has =
      (has.0, has.1, cut_more (running inc before) (links inc) (more inc) (less inc) has.2)
  first_later (script.Hold inc) before k links more lines t less has = has
  first_later (script.Release inc) before k links more lines t less has = has

  if_begun : (x : Option (ℕ × List (Event D))) (P Q : List (Event D) → Type 0)
      → ((before : List (Event D)) → P before → Q before) → IfBegun x P → IfBegun x Q
  if_begun None P Q leads has = has
  if_begun (Some b) P Q leads has = leads b.1 has

  -- what is told first stays so
  pub first_on : (c : ScriptCommand) (es after : List (Event D)) (lines : List ℕ) (t : Told)
      → course after ≡ course es → ((s : ℕ) → (pace s es).links ≤ (pace s after).links)
      → IsFirst disks c (course es) (λ s. (pace s es).links) lines t
      → IsFirst disks c (course after) (λ s. (pace s after).links) lines t
  first_on c es after lines t same less has =
      subst (λ (k : Course D). IsFirst disks c k (λ s. (pace s after).links) lines t) (sym same)
      (if_begun (course es).begun (λ before. IsFirstOf disks c before (course es) (λ s. (pace s es).links) lines t)
      (λ before. IsFirstOf disks c before (course es) (λ s. (pace s after).links) lines t)
      (λ before. first_later c before (course es) (λ s. (pace s es).links) (λ s. (pace s after).links) lines t less)
      has)

  -- the line of a command that ended
  pub line_of : (c : ScriptCommand) (es after : List (Event D)) (none mid text : List ℕ) (t : Told)
      (noticed : Option Told) (old new : Option (List ℕ)) → none ≡ [] → course after ≡ course es
      → ((s : ℕ) → (pace s es).links ≤ (pace s after).links)
      → IsBegunWith disks c es none mid t → Tells (notices after) noticed
      → text ≡ mid ++ told_line (further t noticed) → Appends old new text → HasLine disks c after old new
  line_of c es after none mid text t noticed old new empty same less begun seen spelled written = record {
    line = text;
    written = written;
    printed = record {
      lines = begun.lines;
      first = t;
      noticed = noticed;
      told = first_on c es after begun.lines t same less begun.told;
      seen = seen;
      spelled = spelled ∙ ap (λ (x : List ℕ). x ++ told_line (further t noticed))
          (begun.added ∙ ap (λ (x : List ℕ). x ++ begun.lines) empty);
    };
  }
