-- What is given to the container while servers are held, one command more.
use Rattle.std.proofs.Common.{◌≡◌, ◌+◌, ◌∙◌, ℕ, Bool, true, false, List, [], ◌∷◌, if◌then◌else◌, Option, Some, None, Ok}
use Rattle.std.proofs.Common.{refl, sym, ap, subst, arith}
use Rattle.std.specs.Prelude.{◌&&◌, IfSome}
use Rattle.script_container.specs.Handed.{handed}
use Rattle.script_model.specs.declared.command.ScriptCommand.{ScriptCommand}
use Rattle.script_model.specs.declared.step.Step.{Step}
use Rattle.script_model.specs.declared.step.Step.TheVariants as step
use Rattle.script_model.specs.Courses.{course}
use Rattle.script_model.specs.Errors.{before_ends, behind_hold}
use Rattle.script_model.specs.Events.{Event, Started, Connected, Sent, Heard, Ended, Opened, Found, Shut, Stepped}
use Rattle.script_model.specs.Saved.{OfEachStep}
use Rattle.script_links.specs.declared.links.Link.{Link}
use Rattle.script_texts.specs.Commands.{commands_read}
use Rattle.script_run.proofs.Carried.{SoFar, stands_at}
use Rattle.script_commands.proofs.Coursed.{shut_begun}
use Rattle.script_run.proofs.Holding.{by_begun, held_at, held_now}
use Rattle.script_run.specs.HeldBack.{AreHeldBack, AreHeldBackOf, GivesFree}
use Rattle.script_run.specs.Holding.{behind_place, held_in, runs}

-- ---- one command

none_counted : (b : Bool) (n : ℕ) → (if b then n + 1 else n) ≡ 0 → (b ≡ false) × (n ≡ 0)
none_counted true n none = absurd (omega (arith, none))
none_counted false n none = (refl, none)

-- the history before a command that began
abbrev behind_begun : {D : Type 0} → List (Event D) → Option (ℕ × List (Event D)) → List (Event D)
behind_begun none None = none
behind_begun none (Some b) = b.1

same_before : {D : Type 0} (n place : ℕ) (es before : List (Event D))
    → ◌≡◌ {A = Option (ℕ × List (Event D))} (Some (n, es)) (Some (place, before)) → before ≡ es
same_before n place es before is = sym (ap (behind_begun es) is)

module _ {D : Type 0} (commands : List ScriptCommand) (place : ℕ) (before : List (Event D))
    (back : AreHeldBack commands before) where
  -- whether a server is held since the command of this place began there
  abbrev held_since : ℕ → Bool
  held_since s = held_at commands s (Some (place, before))

  by_step : (st : Step) (es : List (Event D)) → (course (Stepped st ∷ es)).begun ≡ Some (place, before)
      → handed held_since (Stepped st ∷ es) ≡ 0
      → ((course es).begun ≡ Some (place, before) → handed held_since es ≡ 0 → AreHeldBack commands es)
      → AreHeldBack commands (Stepped st ∷ es)
  by_step (step.Begins n) es begun none rest =
      (tt, subst (λ (h : List (Event D)). AreHeldBack commands h) (same_before n place es before begun) back)
  by_step (step.Command c) es begun none rest = (tt, rest begun none)
  by_step (step.Message inc m) es begun none rest =
      let parts = none_counted (held_since inc) (handed held_since es) none in
      (by_begun commands inc es ∙ ap (held_at commands inc) begun ∙ parts.0, rest begun parts.1)
  by_step (step.Reap inc) es begun none rest = (tt, rest begun none)
  by_step (step.Committed f) es begun none rest = (tt, rest begun none)
  by_step (step.Failed f) es begun none rest = (tt, rest begun none)
  by_step (step.Resolved f is_kept) es begun none rest = (tt, rest begun none)
  by_step (step.Open name w h session objects) es begun none rest = (tt, rest begun none)
  by_step step.NoMemory es begun none rest = (tt, rest begun none)

  -- since then no message came of a server that is held
  back_since : (es : List (Event D)) → (course es).begun ≡ Some (place, before) → handed held_since es ≡ 0
      → AreHeldBack commands es
  back_since [] begun none = absurd (cc)
  back_since (Stepped st ∷ es) begun none = by_step st es begun none (back_since es)
  back_since (Started session inc ok ∷ es) begun none = back_since es begun none
  back_since (Ended inc ∷ es) begun none = back_since es begun none
  back_since (Connected inc ok ∷ es) begun none = back_since es begun none
  back_since (Sent inc bytes ok ∷ es) begun none = back_since es begun none
  back_since (Heard inc bytes ok ∷ es) begun none = back_since es begun none
  back_since (Opened name disk ∷ es) begun none = back_since es begun none
  back_since (Found name disk ∷ es) begun none = back_since es begun none
  back_since (Shut name disk ∷ es) begun none = back_since es (sym (shut_begun disk es (course es)) ∙ begun) none

-- ---- one command more

pub back_more : {D : Type 0} (es mid after : List (Event D)) (ls : List Link)
    (commands rest more : List ScriptCommand) (c : ScriptCommand) (count place : ℕ)
    → SoFar es ls commands rest count → rest ≡ c ∷ more → place ≡ count
    → mid ≡ Stepped (step.Begins place) ∷ es → (course after).begun ≡ (course mid).begun
    → handed (λ s. behind_hold c s (held_now commands es s)) after ≡ 0 → AreHeldBack commands es
    → AreHeldBack commands after
back_more es mid after ls commands rest more c count place s is at begins standing none back =
    back_since commands place es back after (standing ∙ ap (λ (h : List (Event _)). (course h).begun) begins)
    (subst (λ (o : Option ScriptCommand). handed (λ n. behind_place o n (runs n es && held_in commands es n)) after
    ≡ 0) (sym (stands_at es ls commands rest more c count place s is at)) none)

-- ---- the ends of servers

module _ {D : Type 0} (P : Step → List (Event D) → Type 0) where
  each_before : (es : List (Event D)) → OfEachStep P es → OfEachStep P (before_ends es)
  each_before [] all = all
  each_before (Ended inc ∷ es) all = each_before es all
  each_before (Started session inc ok ∷ es) all = all
  each_before (Connected inc ok ∷ es) all = all
  each_before (Sent inc bytes ok ∷ es) all = all
  each_before (Heard inc bytes ok ∷ es) all = all
  each_before (Opened name disk ∷ es) all = all
  each_before (Found name disk ∷ es) all = all
  each_before (Shut name disk ∷ es) all = all
  each_before (Stepped st ∷ es) all = all

  each_behind : (es : List (Event D)) → OfEachStep P (before_ends es) → OfEachStep P es
  each_behind [] all = all
  each_behind (Ended inc ∷ es) all = each_behind es all
  each_behind (Started session inc ok ∷ es) all = all
  each_behind (Connected inc ok ∷ es) all = all
  each_behind (Sent inc bytes ok ∷ es) all = all
  each_behind (Heard inc bytes ok ∷ es) all = all
  each_behind (Opened name disk ∷ es) all = all
  each_behind (Found name disk ∷ es) all = all
  each_behind (Shut name disk ∷ es) all = all
  each_behind (Stepped st ∷ es) all = all

module _ {D : Type 0} where
  ended_of : (text : List ℕ) (commands other : List ScriptCommand) (es after : List (Event D))
      → commands_read text ≡ Ok commands → commands_read text ≡ Ok other → before_ends after ≡ before_ends es
      → AreHeldBack commands es → AreHeldBack other after
  ended_of text commands other es after read again same back =
      let is : commands ≡ other = cc in
      subst (λ (cs : List ScriptCommand). AreHeldBack cs after) is
      (each_behind (GivesFree commands) after (subst (λ (h : List (Event D)). OfEachStep (GivesFree commands) h)
      (sym same) (each_before (GivesFree commands) es back)))

  -- the servers that still run are ended then
  pub back_ended : (input : Option (List ℕ)) (commands : List ScriptCommand) (es after : List (Event D))
      → IfSome input (λ text. commands_read text ≡ Ok commands) → before_ends after ≡ before_ends es
      → AreHeldBack commands es → IfSome input (λ text. AreHeldBackOf after text)
  back_ended None commands es after read same back = tt
  back_ended (Some text) commands es after read same back = λ other again. ended_of text commands other es after
      read again same back

  -- nothing was given
  pub back_none : (input : Option (List ℕ)) (es : List (Event D)) → es ≡ []
      → IfSome input (λ text. AreHeldBackOf es text)
  back_none None es none = tt
  back_none (Some text) es none = λ commands read. subst (λ (h : List (Event D)). AreHeldBack commands h) (sym none) tt
