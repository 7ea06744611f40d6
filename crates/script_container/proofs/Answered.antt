-- What the container answers, and which servers its answers ask to start.
use Rattle.std.proofs.Common.{◌≡◌, ◌≢◌, ◌⊎◌, ⊎_elim, inl, inr, ℕ, List, [], ◌∷◌, Option, Some, Result, Ok, Err, IfOk}
use Rattle.std.proofs.Common.{IfErr, refl, sym, ap, ◌∙◌, subst}
use Rattle.std.specs.List.{AllByRecursion}
use Rattle.container_core.specs.Opening.{MayRefuse}
use Rattle.container_laws.specs.OpenLaws.{FilesGiveOne}
use Rattle.container_model.specs.Commands.{on_command}
use Rattle.container_model.specs.Inputs.{Input}
use Rattle.container_model.specs.Opens.{Given as Read, IsReadAs, opened}
use Rattle.container_model.specs.Record.{Record, Took, Refuses, counts_none}
use Rattle.container_model.specs.declared.answer.Action.{Action}
use Rattle.container_model.specs.declared.answer.Action.TheVariants.{Send, Start, End, Commit}
use Rattle.container_model.specs.declared.answer.Answer.{Answer}
use Rattle.container_model.specs.declared.command.Command.{Command}
use Rattle.container_model.specs.declared.fault.ContainerFault.{ContainerFault}
use Rattle.container_model.specs.declared.fault.ContainerFault.TheVariants as fault
use Rattle.container_numbers.specs.Sessions.{InSession, SendsIn, SessionsStay}
use Rattle.ole_model.specs.Documents.{Doc}
use Rattle.script_model.specs.Answers.{opened_by, told_opened}
use Rattle.script_model.specs.Courses.{starts_in}
use Rattle.script_model.specs.declared.answer.Told.TheVariants as told
use Rattle.script_container.proofs.Opened.{makes, refuses}

-- a call that is passed on
pub ok_as : {A E : Type 0} (r x : Result A E) (P : A → Type 0) → r ≡ x → IfOk x P → IfOk r P
ok_as r x P is has = subst (λ y. IfOk y P) (sym is) has

pub err_as : {A E : Type 0} (r x : Result A E) (P : E → Type 0) → r ≡ x → IfErr x P → IfErr r P
err_as r x P is has = subst (λ y. IfErr y P) (sym is) has

-- what is told is what is refused, but for want of memory
pub refused_with : {A : Type 0} (x : Result A ContainerFault) (e : ContainerFault) → (e ≢ fault.NoMemory)
    → Refuses x e → x ≡ Err e
refused_with x fault.NoSuch some refuses = refuses
refused_with x fault.Busy some refuses = refuses
refused_with x fault.NotRunning some refuses = refuses
refused_with x fault.InDoubt some refuses = refuses
refused_with x fault.WrongLink some refuses = refuses
refused_with x fault.Stale some refuses = refuses
refused_with x fault.Full some refuses = refuses
refused_with x fault.NumbersSpent some refuses = refuses
refused_with x fault.WrongState some refuses = refuses
refused_with x fault.BadFile some refuses = refuses
refused_with x fault.BadAnswer some refuses = refuses
refused_with x fault.UnknownClass some refuses = refuses
refused_with x fault.NoMemory some refuses = absurd (some refl)

-- ---- commands

pub one_command : (given : Option Command) (c other : Command) → given ≡ Some c → given ≡ Some other → other ≡ c
one_command given c other is so = cc

module _ (c given : Command) (same : given ≡ c) (r now : Record) where
  pub command_taken : (told x : Result Answer ContainerFault) → told ≡ x
      → IfOk x (λ a. on_command r given ≡ Ok (counts_none now a))
      → IfOk told (λ a. on_command r c ≡ Ok (counts_none now a))
  command_taken told x is taken = ok_as told x (λ a. on_command r c ≡ Ok (counts_none now a)) is
      (subst (λ (d : Command). IfOk x (λ a. on_command r d ≡ Ok (counts_none now a))) same taken)

  pub command_refused : (told x : Result Answer ContainerFault) → told ≡ x → IfErr x (Refuses (on_command r given))
      → IfErr told (Refuses (on_command r c))
  command_refused told x is refused = err_as told x (Refuses (on_command r c)) is
      (subst (λ (d : Command). IfErr x (Refuses (on_command r d))) same refused)

-- without a session no server is to be started
none_with : (s : ℕ) (a : Action) (actions : List Action) → s ≡ 0 → SendsIn s a → starts_in actions ≡ []
    → starts_in (a ∷ actions) ≡ []
none_with s (Send m) actions zero sends none = none
none_with s (Start inc) actions zero sends none = absurd (sends zero)
none_with s (End inc) actions zero sends none = none
none_with s (Commit f) actions zero sends none = none

none_started : (s : ℕ) (actions : List Action) → s ≡ 0 → AllByRecursion (SendsIn s) actions → starts_in actions ≡ []
none_started s [] zero all = refl
none_started s (a ∷ actions) zero all = none_with s a actions zero all.0 (none_started s actions zero all.1)

none_asked : (law : SessionsStay) (r now : Record) (c : Command) (a : Answer) → InSession r
    → on_command r c ≡ Ok (counts_none now a) → r.session ≡ 0 → starts_in a.actions ≡ []
none_asked law r now c a in_session taken zero = none_started r.session a.actions zero
    (law r (Input.Ordered c) (counts_none now a) in_session taken).sends

pub starts_none : (law : SessionsStay) (r now : Record) (c : Command) (told x : Result Answer ContainerFault)
    → InSession r → told ≡ x → IfOk x (λ a. on_command r c ≡ Ok (counts_none now a))
    → IfOk told (λ a. r.session ≡ 0 → starts_in a.actions ≡ [])
starts_none law r now c told (Ok a) in_session is taken =
    ok_as told (Ok a) (λ b. r.session ≡ 0 → starts_in b.actions ≡ []) is (none_asked law r now c a in_session taken)
starts_none law r now c told (Err e) in_session is taken =
    ok_as told (Err e) (λ b. r.session ≡ 0 → starts_in b.actions ≡ []) is tt

-- ---- files

module _ (one : FilesGiveOne) (r : Record) (name : List ℕ) (w h : ℕ) (d : Doc) (file : Option (List ℕ))
    (gives : IsReadAs file (Read.Holding d)) where
  made_of : (now : Record) (x : Result Answer ContainerFault)
      → IfOk x (λ a. (given : Read) × IsReadAs file given × (opened r name w h given ≡ Ok (counts_none now a)))
      → IfOk x (λ a. told_opened (opened r name w h (Read.Holding d)) ≡ opened_by a)
  made_of now (Ok a) ok = ap told_opened (subst (λ (g : Read). opened r name w h g ≡ Ok (counts_none now a))
      (one file ok.0 (Read.Holding d) ok.1 gives) ok.2)
  made_of now (Err e) ok = tt

  -- what is told of a file that the container was given
  pub file_made : (now : Record) (told x : Result Answer ContainerFault) → told ≡ x
      → IfOk x (λ a. (given : Read) × IsReadAs file given × (opened r name w h given ≡ Ok (counts_none now a)))
      → IfOk told (λ a. told_opened (opened r name w h (Read.Holding d)) ≡ opened_by a)
  file_made now told x is ok = ok_as told x (λ a. told_opened (opened r name w h (Read.Holding d)) ≡ opened_by a) is
      (made_of now x ok)

  refused_of : (x : Result Answer ContainerFault) → IfErr x (MayRefuse r name w h file)
      → IfErr x (λ e. e ≢ fault.NoMemory → told_opened (opened r name w h (Read.Holding d)) ≡ told.Fault e)
  refused_of (Ok a) err = tt
  refused_of (Err e) err = λ some. ⊎_elim (λ is. absurd (some is))
      (λ refused. ap told_opened (refused_with (makes name w h d r) e some refused))
      (refuses one r name w h d file e gives err)

  pub file_refused : (given x : Result Answer ContainerFault) → given ≡ x → IfErr x (MayRefuse r name w h file)
      → IfErr given (λ e. e ≢ fault.NoMemory → told_opened (opened r name w h (Read.Holding d)) ≡ told.Fault e)
  file_refused given x is err = err_as given x (λ e. e ≢ fault.NoMemory
      → told_opened (opened r name w h (Read.Holding d)) ≡ told.Fault e) is (refused_of x err)
