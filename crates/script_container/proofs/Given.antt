-- What is given to the container leaves the record that the history tells.
use Rattle.std.proofs.Common.{◌≡◌, ◌≢◌, ◌≤◌, ◌-◌, ◌==◌, ℕ, Bool, true, false, List, ◌∷◌, if◌then◌else◌, Result, Ok, Err}
use Rattle.std.proofs.Common.{IfOk, IfErr, OnErr, refl, sym, ap, ◌∙◌, subst, arith}
use Rattle.container_model.specs.Record.{Record, Took, Refuses}
use Rattle.container_model.specs.declared.answer.Answer.{Answer}
use Rattle.container_model.specs.declared.fault.ContainerFault.{ContainerFault}
use Rattle.container_model.specs.declared.fault.ContainerFault.TheVariants as fault
use Rattle.script_model.specs.declared.step.Step.{Step}
use Rattle.script_model.specs.declared.step.Step.TheVariants as step
use Rattle.script_model.specs.Containers.{AreStarted, Given, given, given_by, gives, moved, record_of}
use Rattle.script_model.specs.Events.{Ended, Event, Stepped, running}
use Rattle.script_model.specs.Origins.{AreHeard, GivesNext, IsJustEnded}
use Rattle.script_model.specs.Bounds.{AreBounded}
use Rattle.script_model.specs.Saved.{AreOpened, AreSaved, CountsSaved, OpensRead}
use Rattle.script_model.specs.Turns.{AreTurns}
use Rattle.store_model.specs.declared.disk.Disk.{Ghosts as Disks}
use Rattle.script_container.specs.Told.{IsEnded, IsTold, noted_of}

pub taken_step : (f : Record → Result Took ContainerFault) (now r : Record) (t : Took) → now ≡ r → f r ≡ Ok t
    → moved now (f now) ≡ t.rec
taken_step f now r t is took = ap (λ n. moved n (f n)) is ∙ ap (moved r) took

refused_step : (f : Record → Result Took ContainerFault) (now r : Record) (e : ContainerFault) → now ≡ r
    → f r ≡ Err e → moved now (f now) ≡ r
refused_step f now r e is refused = ap (λ n. moved n (f n)) is ∙ ap (moved r) refused

-- what the calls before a step are to be, of saves and of opened files
abbrev pub IsBacked : {D : Type 0} (disks : Disks D) → Step → List (Event D) → Type 0
IsBacked disks st es = CountsSaved disks st es × (disks.follows_model → OpensRead disks st es)

-- a step of the container that f is
abbrev pub IsBy : Step → (Record → Result Took ContainerFault) → Type 0
IsBy st f = (g : Given) → given g st ≡ gives g (f g.now)

-- What a history says of the container, where the last call may have ended a server of whose end the container isn't
-- told yet.
pub record IsNoted {D : Type 0} (disks : Disks D) (es : List (Event D)) (r : Record) : Type 0 where
  pub recorded : record_of es ≡ r
  pub sent : AreTurns es
  pub bounded : AreBounded es
  pub heard : AreHeard es
  pub single : (s : ℕ) → running s es ≤ 1
  pub saved : AreSaved disks es
  pub opened : disks.follows_model → AreOpened disks es
  pub started : AreStarted es

less_single : (b : Bool) (n : ℕ) → n ≤ 1 → (if b then n - 1 else n) ≤ 1
less_single true n few = omega (arith, few)
less_single false n few = few

-- nothing is noted of what isn't refused for want of memory
told_none : {D : Type 0} (told : Result Answer ContainerFault) (es : List (Event D))
    → IfErr told (λ e. e ≢ fault.NoMemory) → noted_of told es ≡ es
told_none (Ok a) es some = refl
told_none (Err fault.NoSuch) es some = refl
told_none (Err fault.Busy) es some = refl
told_none (Err fault.NotRunning) es some = refl
told_none (Err fault.InDoubt) es some = refl
told_none (Err fault.WrongLink) es some = refl
told_none (Err fault.Stale) es some = refl
told_none (Err fault.Full) es some = refl
told_none (Err fault.NumbersSpent) es some = refl
told_none (Err fault.WrongState) es some = refl
told_none (Err fault.BadFile) es some = refl
told_none (Err fault.BadAnswer) es some = refl
told_none (Err fault.UnknownClass) es some = refl
told_none (Err fault.NoMemory) es some = absurd (some refl)

module _ {D : Type 0} {disks : Disks D} where
  pub as_noted : (es : List (Event D)) (r : Record) → IsTold disks es r → IsNoted disks es r
  as_noted es r t = record {
    recorded = t.recorded;
    sent = t.sent;
    bounded = t.bounded;
    heard = t.heard;
    single = t.single;
    saved = t.saved;
    opened = t.opened;
    started = t.started;
  }

  -- a server is ended
  ended_noted : (inc : ℕ) (es : List (Event D)) (r : Record) → IsTold disks es r → IsNoted disks (Ended inc ∷ es) r
  ended_noted inc es r t = record {
    recorded = t.recorded;
    sent = t.sent;
    bounded = t.bounded;
    heard = t.heard;
    single = λ s. less_single (inc == s) (running s es) (t.single s);
    saved = t.saved;
    opened = t.opened;
    started = t.started;
  }

  pub ended_so : (inc : ℕ) (es : List (Event D)) (r : Record) → IsEnded disks inc es r → IsNoted disks es r
  ended_so inc es r e = subst (λ (h : List (Event D)). IsNoted disks h r) (sym e.1) (ended_noted inc e.0 r e.2)

  pub just_ended : (inc : ℕ) (es : List (Event D)) (r : Record) → IsEnded disks inc es r → IsJustEnded inc es
  just_ended inc es r e = (e.0, e.1)

  pub one_step : (st : Step) (f : Record → Result Took ContainerFault) (es : List (Event D)) (r now : Record)
      → IsBy st f → IsBacked disks st es → GivesNext st es
      → (record_of es ≡ r → moved (record_of es) (f (record_of es)) ≡ now) → IsNoted disks es r
      → IsTold disks (Stepped st ∷ es) now
  one_step st f es r now by counts next is t =
      record {
        recorded = ap (λ g. g.now) (by (given_by es)) ∙ is t.recorded;
        sent = t.sent;
        bounded = t.bounded;
        heard = (next, t.heard);
        single = t.single;
        saved = (counts.0, t.saved);
        opened = λ m. (counts.1 m, t.opened m);
        started = t.started;
        reaped = refl;
      }

  -- a step that was undone for want of memory
  pub lost_step : (st : Step) (f : Record → Result Took ContainerFault) (es : List (Event D)) (r : Record)
      → IsBy st f → IsBacked disks st es → GivesNext st es → IsNoted disks es r
      → IsTold disks (Stepped step.NoMemory ∷ Stepped st ∷ es) r
  lost_step st f es r by counts next t = record {
    recorded = ap (λ g. g.before) (by (given_by es)) ∙ t.recorded;
    sent = t.sent;
    bounded = t.bounded;
    heard = (tt, (next, t.heard));
    single = t.single;
    saved = (tt, (counts.0, t.saved));
    opened = λ m. (tt, (counts.1 m, t.opened m));
    started = t.started;
    reaped = refl;
  }

  by_fault : (st : Step) (f : Record → Result Took ContainerFault) (es : List (Event D)) (r : Record)
      (e : ContainerFault) → IsBy st f → IsBacked disks st es → GivesNext st es → f r ≡ Err e → IsNoted disks es r
      → IsTold disks (Stepped st ∷ es) r
  by_fault st f es r e by counts next refused = one_step st f es r r by counts next
      (λ is. refused_step f (record_of es) r e is refused)

  pub refused_given : (st : Step) (f : Record → Result Took ContainerFault) (es : List (Event D)) (r : Record)
      (e : ContainerFault) → IsBy st f → IsBacked disks st es → GivesNext st es → Refuses (f r) e
      → IsNoted disks es r → IsTold disks (noted_of {A = Answer} (Err e) (Stepped st ∷ es)) r
  refused_given st f es r fault.NoSuch by counts next refuses = by_fault st f es r fault.NoSuch by counts next refuses
  refused_given st f es r fault.Busy by counts next refuses = by_fault st f es r fault.Busy by counts next refuses
  refused_given st f es r fault.NotRunning by counts next refuses =
      by_fault st f es r fault.NotRunning by counts next refuses
  refused_given st f es r fault.InDoubt by counts next refuses = by_fault st f es r fault.InDoubt by counts next refuses
  refused_given st f es r fault.WrongLink by counts next refuses =
      by_fault st f es r fault.WrongLink by counts next refuses
  refused_given st f es r fault.Stale by counts next refuses = by_fault st f es r fault.Stale by counts next refuses
  refused_given st f es r fault.Full by counts next refuses = by_fault st f es r fault.Full by counts next refuses
  refused_given st f es r fault.NumbersSpent by counts next refuses =
      by_fault st f es r fault.NumbersSpent by counts next refuses
  refused_given st f es r fault.WrongState by counts next refuses =
      by_fault st f es r fault.WrongState by counts next refuses
  refused_given st f es r fault.BadFile by counts next refuses = by_fault st f es r fault.BadFile by counts next refuses
  refused_given st f es r fault.BadAnswer by counts next refuses =
      by_fault st f es r fault.BadAnswer by counts next refuses
  refused_given st f es r fault.UnknownClass by counts next refuses =
      by_fault st f es r fault.UnknownClass by counts next refuses
  refused_given st f es r fault.NoMemory by counts next refuses = lost_step st f es r by counts next

  told_given : (st : Step) (f : Record → Result Took ContainerFault) (took : Answer → Took)
      (told : Result Answer ContainerFault) (es : List (Event D)) (r now : Record)
      → IsBy st f → IsBacked disks st es → GivesNext st es → ((a : Answer) → (took a).rec ≡ now)
      → IfOk told (λ a. f r ≡ Ok (took a)) → IfErr told (Refuses (f r)) → OnErr told (now ≡ r)
      → IsNoted disks es r → IsTold disks (noted_of told (Stepped st ∷ es)) now
  told_given st f took (Ok a) es r now by counts next rec ok err kept =
      one_step st f es r now by counts next (λ is. taken_step f (record_of es) r (took a) is ok ∙ rec a)
  told_given st f took (Err e) es r now by counts next rec ok err kept =
      let P : Record → Type 0 = λ n. IsNoted disks es r
      → IsTold disks (noted_of {A = Answer} (Err e) (Stepped st ∷ es)) n in
      subst P (sym kept) (refused_given st f es r e by counts next err)

  -- What the container is given, and what is noted, leave it as the history tells.
  pub step_noted : (st : Step) (f : Record → Result Took ContainerFault) (took : Answer → Took)
      (told : Result Answer ContainerFault) (es mid after : List (Event D)) (r now : Record)
      → IsBy st f → IsBacked disks st es → GivesNext st es → ((a : Answer) → (took a).rec ≡ now)
      → mid ≡ Stepped st ∷ es → after ≡ noted_of told mid
      → IfOk told (λ a. f r ≡ Ok (took a)) → IfErr told (Refuses (f r)) → OnErr told (now ≡ r)
      → IsNoted disks es r → IsTold disks after now
  step_noted st f took told es mid after r now by counts next rec is note ok err kept =
      let P : List (Event D) → Type 0 = λ h. IsNoted disks es r → IsTold disks h now in
      subst P (sym (note ∙ ap (noted_of told) is)) (told_given st f took told es r now by counts next rec ok err kept)

  pub step_told : (st : Step) (f : Record → Result Took ContainerFault) (took : Answer → Took)
      (told : Result Answer ContainerFault) (es mid after : List (Event D)) (r now : Record)
      → IsBy st f → IsBacked disks st es → GivesNext st es → ((a : Answer) → (took a).rec ≡ now)
      → mid ≡ Stepped st ∷ es → after ≡ noted_of told mid
      → IfOk told (λ a. f r ≡ Ok (took a)) → IfErr told (Refuses (f r)) → OnErr told (now ≡ r)
      → IsTold disks es r → IsTold disks after now
  step_told st f took told es mid after r now by counts next rec is note ok err kept t =
      step_noted st f took told es mid after r now by counts next rec is note ok err kept (as_noted es r t)

  -- The same of what takes no memory.
  pub step_alone : (st : Step) (f : Record → Result Took ContainerFault) (took : Answer → Took)
      (told : Result Answer ContainerFault) (es after : List (Event D)) (r now : Record)
      → IsBy st f → IsBacked disks st es → GivesNext st es → ((a : Answer) → (took a).rec ≡ now)
      → after ≡ Stepped st ∷ es → IfErr told (λ e. e ≢ fault.NoMemory)
      → IfOk told (λ a. f r ≡ Ok (took a)) → IfErr told (Refuses (f r)) → OnErr told (now ≡ r)
      → IsTold disks es r → IsTold disks after now
  step_alone st f took told es after r now by counts next rec is some ok err kept t =
      step_told st f took told es after after r now by counts next rec is (sym (told_none told after some)) ok err
      kept t
