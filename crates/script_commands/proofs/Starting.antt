-- Servers that are to be started: those that were asked for and don't run.
use Rattle.std.proofs.Common.{◌≡◌, ◌≤◌, ◌<◌, ◌+◌, ◌-◌, ◌==◌, ◌++◌, ⊎_elim, inl, inr, ℕ, zero, suc, Bool, true, false}
use Rattle.std.proofs.Common.{List, [], ◌∷◌, length, drop, if◌then◌else◌, Some, None, Result, Ok, Err, OnOk, refl, sym}
use Rattle.std.proofs.Common.{ap, ◌∙◌, subst, arith, slice_index_or}
use Rattle.std.specs.Prelude.{◌&&◌}
use Rattle.std.proofs.lemmas.Bool.{eqb-true, eq-eqb}
use Rattle.std.specs.List.{AllByRecursion}
use Rattle.container_model.specs.Commands.{on_command}
use Rattle.container_model.specs.Record.{Record, Took}
use Rattle.container_model.specs.declared.answer.Action.{Action}
use Rattle.container_model.specs.declared.command.Command.{Command}
use Rattle.container_model.specs.declared.fault.ContainerFault.{ContainerFault}
use Rattle.script_model.specs.declared.step.Step.{Step}
use Rattle.script_model.specs.declared.step.Step.TheVariants as step
use Rattle.script_model.specs.Containers.{record_of}
use Rattle.script_model.specs.Courses.{Course, behind_shut, course, not_running, starts_in, starts_of, with_start}
use Rattle.script_model.specs.Courses.{without}
use Rattle.script_model.specs.Events.{Event, Started, Connected, Sent, Heard, Ended, Opened, Found, Shut, Stepped}
use Rattle.script_model.specs.Events.{running}
use Rattle.script_links.specs.Links.{AreLinked, links_of}
use Rattle.script_links.specs.declared.links.Link.{Link}
use Rattle.script_commands.specs.Starts.{AreIn, IsIn}

-- ---- servers that don't run

-- None of these servers runs.
abbrev AreIdle : {D : Type 0} → List (Event D) → List ℕ → Type 0
AreIdle es ss = AllByRecursion (λ s. running s es ≡ 0) ss

both_of : (P : ℕ → Type 0) (xs ys : List ℕ) → AllByRecursion P xs → AllByRecursion P ys → AllByRecursion P (xs ++ ys)
both_of P [] ys one other = other
both_of P (x ∷ xs) ys one other = (one.0, both_of P xs ys one.1 other)

-- a start that was tried: whoever isn't started by it still doesn't run
started_one : (a b : Bool) (n : ℕ) → b ≡ false → n ≡ 0 → (if a && b then n + 1 else n) ≡ 0
started_one true true n other none = absurd (cc)
started_one true false n other none = none
started_one false b n other none = none

ended_one : (b : Bool) (n : ℕ) → n ≡ 0 → (if b then n - 1 else n) ≡ 0
ended_one true n none = omega (arith, none)
ended_one false n none = none

module _ {D : Type 0} where
  -- those that were asked for and don't run
  one_idle : (es : List (Event D)) (inc : ℕ) (incs : List ℕ) (b : Bool) → (running inc es == 0) ≡ b
      → AreIdle es incs → AreIdle es (if b then inc ∷ incs else incs)
  one_idle es inc incs true is idle = (eqb-true (running inc es) 0 is, idle)
  one_idle es inc incs false is idle = idle

  asked_idle : (es : List (Event D)) (incs : List ℕ) → AreIdle es (not_running es incs)
  asked_idle es [] = tt
  asked_idle es (inc ∷ incs) = one_idle es inc (not_running es incs) (running inc es == 0) refl (asked_idle es incs)

  started_pick : (session inc : ℕ) (ok : Bool) (es : List (Event D)) (s : ℕ) (ss : List ℕ) (b : Bool)
      → (inc == s) ≡ b → running s es ≡ 0 → AreIdle (Started session inc ok ∷ es) (without inc ss)
      → AreIdle (Started session inc ok ∷ es) (if b then without inc ss else s ∷ without inc ss)
  started_pick session inc ok es s ss true is none rest = rest
  started_pick session inc ok es s ss false is none rest = (started_one ok (inc == s) (running s es) is none, rest)

  started_idle : (session inc : ℕ) (ok : Bool) (es : List (Event D)) (ss : List ℕ) → AreIdle es ss
      → AreIdle (Started session inc ok ∷ es) (without inc ss)
  started_idle session inc ok es [] idle = tt
  started_idle session inc ok es (s ∷ ss) idle = started_pick session inc ok es s ss (inc == s) refl idle.0
      (started_idle session inc ok es ss idle.1)

  ended_idle : (inc : ℕ) (es : List (Event D)) (ss : List ℕ) → AreIdle es ss → AreIdle (Ended inc ∷ es) ss
  ended_idle inc es [] idle = tt
  ended_idle inc es (s ∷ ss) idle = (ended_one (inc == s) (running s es) idle.0, ended_idle inc es ss idle.1)

  -- a disk that is given back starts nothing
  shut_unstarted : (disk : D) (es : List (Event D)) (k : Course D) → k.unstarted ≡ (behind_shut disk es k).unstarted
  shut_unstarted disk [] k = refl
  shut_unstarted disk (Found name (Some found) ∷ es) k = refl
  shut_unstarted disk (Found name None ∷ es) k = refl
  shut_unstarted disk (Stepped st ∷ es) k = refl
  shut_unstarted disk (Started session inc ok ∷ es) k = refl
  shut_unstarted disk (Connected inc ok ∷ es) k = refl
  shut_unstarted disk (Sent inc bytes ok ∷ es) k = refl
  shut_unstarted disk (Heard inc bytes ok ∷ es) k = refl
  shut_unstarted disk (Ended inc ∷ es) k = refl
  shut_unstarted disk (Opened name given ∷ es) k = refl
  shut_unstarted disk (Shut name other ∷ es) k = refl

  step_idle : (st : Step) (es : List (Event D)) → AreIdle es (course es).unstarted
      → AreIdle es (course (Stepped st ∷ es)).unstarted
  step_idle (step.Begins n) es idle = tt
  step_idle (step.Command c) es idle =
      both_of (λ s. running s es ≡ 0) (not_running es (starts_of (on_command (record_of es) c)))
      (course es).unstarted (asked_idle es (starts_of (on_command (record_of es) c))) idle
  step_idle (step.Message inc m) es idle = idle
  step_idle (step.Reap inc) es idle = idle
  step_idle (step.Committed f) es idle = idle
  step_idle (step.Failed f) es idle = idle
  step_idle (step.Resolved f is_kept) es idle = idle
  step_idle (step.Open name w h session objects) es idle = idle
  step_idle step.NoMemory es idle = idle

  stepped_idle : (st : Step) (es : List (Event D)) (ss : List ℕ) → AreIdle es ss → AreIdle (Stepped st ∷ es) ss
  stepped_idle st es [] idle = tt
  stepped_idle st es (s ∷ ss) idle = (idle.0, stepped_idle st es ss idle.1)

  as_idle : (es after : List (Event D)) (ss : List ℕ) → ((s : ℕ) → running s after ≡ running s es) → AreIdle es ss
      → AreIdle after ss
  as_idle es after [] same idle = tt
  as_idle es after (s ∷ ss) same idle = (same s ∙ idle.0, as_idle es after ss same idle.1)

  -- What is still to be started doesn't run.
  unstarted_idle : (es : List (Event D)) → AreIdle es (course es).unstarted
  unstarted_idle [] = tt
  unstarted_idle (Stepped st ∷ es) = stepped_idle st es (course (Stepped st ∷ es)).unstarted
      (step_idle st es (unstarted_idle es))
  unstarted_idle (Started session inc ok ∷ es) = started_idle session inc ok es (course es).unstarted
      (unstarted_idle es)
  unstarted_idle (Connected inc ok ∷ es) = as_idle es (Connected inc ok ∷ es) (course es).unstarted (λ s. refl)
      (unstarted_idle es)
  unstarted_idle (Sent inc bytes ok ∷ es) = as_idle es (Sent inc bytes ok ∷ es) (course es).unstarted (λ s. refl)
      (unstarted_idle es)
  unstarted_idle (Heard inc bytes ok ∷ es) = as_idle es (Heard inc bytes ok ∷ es) (course es).unstarted (λ s. refl)
      (unstarted_idle es)
  unstarted_idle (Ended inc ∷ es) = ended_idle inc es (course es).unstarted (unstarted_idle es)
  unstarted_idle (Opened name disk ∷ es) = as_idle es (Opened name disk ∷ es) (course es).unstarted (λ s. refl)
      (unstarted_idle es)
  unstarted_idle (Found name disk ∷ es) = as_idle es (Found name disk ∷ es) (course es).unstarted (λ s. refl)
      (unstarted_idle es)
  unstarted_idle (Shut name disk ∷ es) =
      as_idle es (Shut name disk ∷ es) (course (Shut name disk ∷ es)).unstarted (λ s. refl)
      (subst (λ (ss : List ℕ). AreIdle es ss) (shut_unstarted disk es (course es)) (unstarted_idle es))

  -- ---- one that has a link

  runs_not : (b : Bool) (inc s : ℕ) (es : List (Event D)) (ss : List ℕ) → (inc == s) ≡ b → 1 ≤ running inc es
      → running s es ≡ 0 → without inc ss ≡ ss → (if b then without inc ss else s ∷ without inc ss) ≡ s ∷ ss
  runs_not true inc s es ss is runs none same =
      absurd (let zero : running inc es ≡ 0 = ap (λ (n : ℕ). running n es) (eqb-true inc s is) ∙ none in
      omega (arith, runs, zero))
  runs_not false inc s es ss is runs none same = ap (λ (x : List ℕ). s ∷ x) same

  none_without : (inc : ℕ) (es : List (Event D)) (ss : List ℕ) → 1 ≤ running inc es → AreIdle es ss
      → without inc ss ≡ ss
  none_without inc es [] runs idle = refl
  none_without inc es (s ∷ ss) runs idle = runs_not (inc == s) inc s es ss refl runs idle.0
      (none_without inc es ss runs idle.1)

  -- a server that runs isn't to be started
  pub runs_already : (inc : ℕ) (es : List (Event D)) → 1 ≤ running inc es
      → (course es).unstarted ≡ without inc (course es).unstarted
  runs_already inc es runs = sym (none_without inc es (course es).unstarted runs (unstarted_idle es))

  pub tried_so : (session inc : ℕ) (ok : Bool) (es after : List (Event D)) → after ≡ Started session inc ok ∷ es
      → (course after).unstarted ≡ without inc (course es).unstarted
  tried_so session inc ok es after is = ap (λ (h : List (Event D)). (course h).unstarted) is

-- ---- those that an answer asks for

in_later : (s t : ℕ) (ts ss : List ℕ) → AreIn ss ts → AreIn ss (t ∷ ts)
in_later s t ts [] all = tt
in_later s t ts (x ∷ ss) all = (inr all.0, in_later s t ts ss all.1)

in_same : {D : Type 0} (es : List (Event D)) (inc : ℕ) (incs : List ℕ) (b : Bool) → AreIn (not_running es incs) incs
    → AreIn (if b then inc ∷ not_running es incs else not_running es incs) (inc ∷ incs)
in_same es inc incs true all = (inl refl, in_later inc inc incs (not_running es incs) all)
in_same es inc incs false all = in_later inc inc incs (not_running es incs) all

are_asked : {D : Type 0} (es : List (Event D)) (incs : List ℕ) → AreIn (not_running es incs) incs
are_asked es [] = tt
are_asked es (inc ∷ incs) = in_same es inc incs (running inc es == 0) (are_asked es incs)

with_none : (xs : List ℕ) → xs ++ [] ≡ xs
with_none [] = refl
with_none (x ∷ xs) = ap (λ (ys : List ℕ). x ∷ ys) (with_none xs)

-- what a command's answer asks for is to be started, where nothing was before
module _ {D : Type 0} (es mid : List (Event D)) (r : Record) (c : Command) (x : Result Took ContainerFault)
    (recorded : record_of es ≡ r) (told : on_command r c ≡ x)
    (given : course mid ≡ course (Stepped (step.Command c) ∷ es)) (idle : (course es).unstarted ≡ []) where
  unstarted_now : (course mid).unstarted ≡ not_running es (starts_of x)
  unstarted_now =
      ap (λ (k : Course D). k.unstarted) given
      ∙ ap (λ (q : Record). not_running es (starts_of (on_command q c)) ++ (course es).unstarted) recorded
      ∙ ap (λ (t : Result Took ContainerFault). not_running es (starts_of t) ++ (course es).unstarted) told
      ∙ ap (λ (ss : List ℕ). not_running es (starts_of x) ++ ss) idle ∙ with_none (not_running es (starts_of x))

  pub asked_for : AreIn (course mid).unstarted (starts_of x)
  asked_for = subst (λ (ss : List ℕ). AreIn ss (starts_of x)) (sym unstarted_now) (are_asked es (starts_of x))

  pub none_for : starts_of x ≡ [] → (course mid).unstarted ≡ []
  none_for none = unstarted_now ∙ ap (not_running es) none

-- ---- starting them

-- not among them any more, once it was tried
without_pick : (inc s : ℕ) (ss incs : List ℕ) (b : Bool) → (inc == s) ≡ b → IsIn s (inc ∷ incs)
    → AreIn (without inc ss) incs → AreIn (if b then without inc ss else s ∷ without inc ss) incs
without_pick inc s ss incs true is here rest = rest
without_pick inc s ss incs false is here rest =
    (⊎_elim (λ same. absurd (let this : (inc == s) ≡ true = eq-eqb inc s same in cc)) (λ later. later) here, rest)

without_in : (inc : ℕ) (ss incs : List ℕ) → AreIn ss (inc ∷ incs) → AreIn (without inc ss) incs
without_in inc [] incs all = tt
without_in inc (s ∷ ss) incs all = without_pick inc s ss incs (inc == s) refl all.0 (without_in inc ss incs all.1)

pub one_tried : {T E : Type 0} (r : Result T E) (inc : ℕ) (before after incs : List ℕ)
    → OnOk r (after ≡ without inc before) → AreIn before (inc ∷ incs) → OnOk r (AreIn after incs)
one_tried (Ok x) inc before after incs tried all = subst (λ (ss : List ℕ). AreIn ss incs) (sym tried)
    (without_in inc before incs all)
one_tried (Err e) inc before after incs tried all = tt

-- from a place on
pub starts_from : (actions : List Action) (place : ℕ) (d : Action) → place < length actions
    → starts_in (drop place actions) ≡ with_start (slice_index_or actions place d)
    (starts_in (drop (place + 1) actions))
starts_from [] place d within = absurd (omega (arith, within))
starts_from (a ∷ actions) zero d within = refl
starts_from (a ∷ actions) (suc place) d within = let next : suc place + 1 ≡ suc (place + 1) = omega arith in
    rw next (starts_from actions place d (omega (arith, within)))

pub starts_at : (actions : List Action) (place : ℕ) (a : Action) → place < length actions
    → a ≡ slice_index_or actions place a → starts_in (drop place actions)
    ≡ with_start a (starts_in (drop (place + 1) actions))
starts_at actions place a within is = starts_from actions place a within
    ∙ ap (λ (x : Action). with_start x (starts_in (drop (place + 1) actions))) (sym is)

pub nothing_from : (actions : List Action) (place : ℕ) → length actions ≤ place → starts_in (drop place actions) ≡ []
nothing_from [] zero past = refl
nothing_from [] (suc place) past = refl
nothing_from (a ∷ actions) zero past = absurd (omega (arith, past))
nothing_from (a ∷ actions) (suc place) past = nothing_from actions place (omega (arith, past))

none_in : (ss : List ℕ) → AreIn ss [] → ss ≡ []
none_in [] all = refl
none_in (s ∷ ss) all = absurd all.0

pub all_tried : (ss : List ℕ) (actions : List Action) (place : ℕ) → length actions ≤ place
    → AreIn ss (starts_in (drop place actions)) → ss ≡ []
all_tried ss actions place past all =
    none_in ss (subst (λ (ts : List ℕ). AreIn ss ts) (nothing_from actions place past) all)

-- a link's server runs
pub linked_runs : {D : Type 0} (inc : ℕ) (es : List (Event D)) (ls : List Link) → AreLinked es ls
    → 1 ≤ links_of inc ls → 1 ≤ running inc es
linked_runs inc es ls linked some = subst (λ (n : ℕ). 1 ≤ n) (sym (linked inc)) some
