-- What a script's container is given for a command, where a start without a session comes behind a Session.
use Rattle.std.proofs.Common.{◌≡◌, ◌≢◌, ◌∙◌, inl, inr, List, ◌∷◌, Result, OnOk, refl, sym, ap, subst}
use Rattle.container_model.specs.Record.{Record}
use Rattle.container_model.specs.declared.command.Command.{Command}
use Rattle.container_model.specs.declared.command.Command.TheVariants as command
use Rattle.script_model.specs.declared.command.ScriptCommand.{ScriptCommand}
use Rattle.script_model.specs.declared.command.ScriptCommand.TheVariants as script
use Rattle.script_model.specs.declared.step.Step.{Step}
use Rattle.script_model.specs.declared.step.Step.TheVariants as step
use Rattle.script_model.specs.Orders.{IsBegun, IsReadied, behind_command, behind_given, ordered_by}

-- ---- what may be given

pub readied_other : (c : Command) (r : Record) (steps : List Step) → (c ≡ command.Start → ⊥) → IsReadied c r steps
readied_other (command.New name w h) r steps other = tt
readied_other (command.Insert f kind area) r steps other = tt
readied_other command.Session r steps other = tt
readied_other command.Start r steps other = absurd (other refl)
readied_other (command.Run o inc) r steps other = tt
readied_other (command.Edit o bytes) r steps other = tt
readied_other (command.Save f) r steps other = tt
readied_other (command.SaveAs f name) r steps other = tt
readied_other (command.Delete o) r steps other = tt
readied_other (command.Kill inc) r steps other = tt
readied_other (command.Close o option) r steps other = tt
readied_other (command.Verb o number) r steps other = tt

pub readied_in : (c : Command) (r : Record) (steps : List Step) → c ≡ command.Start → (r.session ≢ 0)
    → IsReadied c r steps
readied_in c r steps is has = subst (λ (x : Command). IsReadied x r steps) (sym is) (inl has)

pub readied_at : (c : Command) (r q : Record) (steps : List Step) → q ≡ r → IsReadied c r steps → IsReadied c q steps
readied_at c r q steps same readied = subst (λ (x : Record). IsReadied c x steps) (sym same) readied

-- ---- what was given

module _ (mid after os : List Step) (raised : mid ≡ step.Command command.Session ∷ os) where
  -- a Session alone
  pub raising_begun : IsBegun (script.Container command.Start) (ordered_by os) (ordered_by mid)
  raising_begun = inr (refl, ap ordered_by raised)

  -- and a start behind it
  pub started_behind : after ≡ step.Command command.Start ∷ mid
      → ordered_by after ≡ behind_given command.Start (ordered_by os)
  started_behind started = ap ordered_by (started ∙ ap (λ (x : List Step). step.Command command.Start ∷ x) raised)

  pub start_begun : after ≡ step.Command command.Start ∷ mid
      → IsBegun (script.Container command.Start) (ordered_by os) (ordered_by after)
  start_begun started = inl (started_behind started)

module _ (c : Command) (after os : List Step) where
  pub given_alone : after ≡ step.Command c ∷ os → ordered_by after ≡ behind_given c (ordered_by os)
  given_alone given = ap ordered_by given

  pub alone_begun : after ≡ step.Command c ∷ os → IsBegun (script.Container c) (ordered_by os) (ordered_by after)
  alone_begun given = inl (given_alone given)

-- the command is a start
pub is_given : {T E : Type 0} (r : Result T E) (c : Command) (before after : List Step) → c ≡ command.Start
    → OnOk r (after ≡ behind_given command.Start before) → OnOk r (after ≡ behind_given c before)
is_given r c before after is given = subst (λ (x : Command). OnOk r (after ≡ behind_given x before)) (sym is) given

pub is_begun : (c : Command) (before after : List Step) → c ≡ command.Start
    → IsBegun (script.Container command.Start) before after → IsBegun (script.Container c) before after
is_begun c before after is begun = subst (λ (x : Command). IsBegun (script.Container x) before after) (sym is) begun

-- ---- commands of a script

module _ (it c : ScriptCommand) (before after : List Step) (is : it ≡ c) where
  pub as_ordered : {T E : Type 0} (r : Result T E) → OnOk r (after ≡ behind_command c before)
      → OnOk r (after ≡ behind_command it before)
  as_ordered r given = subst (λ (x : ScriptCommand). OnOk r (after ≡ behind_command x before)) (sym is) given

  pub as_begun : IsBegun c before after → IsBegun it before after
  as_begun begun = subst (λ (x : ScriptCommand). IsBegun x before after) (sym is) begun

-- one that the container isn't given
module _ (it : ScriptCommand) (os after : List Step) (none : behind_command it (ordered_by os) ≡ ordered_by os)
    (same : after ≡ os) where
  pub none_ordered : ordered_by after ≡ behind_command it (ordered_by os)
  none_ordered = ap ordered_by same ∙ sym none

  pub none_begun : IsBegun it (ordered_by os) (ordered_by after)
  none_begun = inl none_ordered

-- behind turns, by which the container is given nothing that its user asks for
pub begun_on : (it : ScriptCommand) (before : List Step) (mid after : List Step) → after ≡ mid
    → IsBegun it before (ordered_by mid) → IsBegun it before (ordered_by after)
begun_on it before mid after same begun = subst (λ (x : List Step). IsBegun it before (ordered_by x)) (sym same) begun
