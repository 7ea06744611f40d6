-- Which servers a script holds, one command more.
use Rattle.std.proofs.Common.{◌≡◌, ◌≤◌, ◌==◌, ◌++◌, ◌∙◌, ℕ, zero, suc, Bool, true, false, List, [], ◌∷◌, if◌then◌else◌}
use Rattle.std.proofs.Common.{Option, Some, None, Result, Ok, Err, OnOk, refl, sym, ap, subst, arith}
use Rattle.std.specs.Prelude.{◌&&◌, IfSome, slice_get}
use Rattle.container_model.specs.Record.{Record}
use Rattle.store_model.specs.declared.disk.Disk.{Ghosts as Disks}
use Rattle.script_container.specs.Told.{IsTold}
use Rattle.script_links.specs.Links.{AreHeld, AreLinked, HoldFor, is_any_held}
use Rattle.script_links.specs.declared.links.Link.{Link}
use Rattle.script_model.specs.declared.command.ScriptCommand.{ScriptCommand}
use Rattle.script_model.specs.declared.command.ScriptCommand.TheVariants as script
use Rattle.script_model.specs.declared.step.Step.{Step}
use Rattle.script_model.specs.declared.step.Step.TheVariants as step
use Rattle.script_model.specs.Courses.{course}
use Rattle.script_model.specs.Errors.{before_ends, behind_hold, is_held}
use Rattle.script_model.specs.Events.{Event, Started, Connected, Sent, Heard, Ended, Opened, Found, Shut, Stepped}
use Rattle.script_model.specs.Events.{running}
use Rattle.script_texts.specs.Commands.{commands_read}
use Rattle.script_commands.proofs.Coursed.{shut_begun}
use Rattle.script_commands.proofs.Held.{hold_same, none_held}
use Rattle.script_run.specs.Holding.{AreReleased, AreReleasedOf, behind_place, held_in, is_some_of, runs}

-- ---- both are so

with_true : (b c : Bool) → b ≡ true → c ≡ (b && c)
with_true true c is = refl
with_true false c is = absurd (cc)

some_is : (n : ℕ) → 1 ≤ n → is_some_of n ≡ true
some_is zero some = absurd (omega (arith, some))
some_is (suc n) some = refl

-- ---- commands

if_later : (b c d to : Bool) → (c ≡ true → d ≡ true) → (if b then to else c) ≡ true → (if b then to else d) ≡ true
if_later true c d to leads is = is
if_later false c d to leads is = leads is

pub hold_later : (c : ScriptCommand) (s : ℕ) (a b : Bool) → (a ≡ true → b ≡ true) → behind_hold c s a ≡ true
    → behind_hold c s b ≡ true
hold_later (script.Hold inc) s a b leads is = if_later (inc == s) a b true leads is
hold_later (script.Release inc) s a b leads is = if_later (inc == s) a b false leads is
hold_later (script.Container c) s a b leads is = leads is
hold_later (script.Open name w h) s a b leads is = leads is
hold_later (script.Cut inc) s a b leads is = leads is
hold_later (script.Screen f) s a b leads is = leads is

-- what is held behind one command more
pub held_more : (s : ℕ) (cs : List ScriptCommand) (c : ScriptCommand) (held : Bool)
    → is_held s (cs ++ c ∷ []) held ≡ behind_hold c s (is_held s cs held)
held_more s [] c held = refl
held_more s (x ∷ xs) c held = held_more s xs c (behind_hold x s held)

-- ---- histories

module _ {D : Type 0} (commands : List ScriptCommand) (s : ℕ) where
  -- what is held since the command began that began there
  abbrev pub held_at : Option (ℕ × List (Event D)) → Bool
  held_at None = false
  held_at (Some b) = behind_place (slice_get commands b.0) s (runs s b.1 && held_in commands b.1 s)

  by_step : (st : Step) (es : List (Event D)) → held_in commands es s ≡ held_at (course es).begun
      → held_in commands (Stepped st ∷ es) s ≡ held_at (course (Stepped st ∷ es)).begun
  by_step (step.Begins place) es before = refl
  by_step (step.Command c) es before = before
  by_step (step.Message inc m) es before = before
  by_step (step.Reap inc) es before = before
  by_step (step.Committed f) es before = before
  by_step (step.Failed f) es before = before
  by_step (step.Resolved f is_kept) es before = before
  by_step (step.Open name w h session objects) es before = before
  by_step step.NoMemory es before = before

  pub by_begun : (es : List (Event D)) → held_in commands es s ≡ held_at (course es).begun
  by_begun [] = refl
  by_begun (Stepped st ∷ es) = by_step st es (by_begun es)
  by_begun (Started session inc ok ∷ es) = by_begun es
  by_begun (Ended inc ∷ es) = by_begun es
  by_begun (Connected inc ok ∷ es) = by_begun es
  by_begun (Sent inc bytes ok ∷ es) = by_begun es
  by_begun (Heard inc bytes ok ∷ es) = by_begun es
  by_begun (Opened name disk ∷ es) = by_begun es
  by_begun (Found name disk ∷ es) = by_begun es
  by_begun (Shut name disk ∷ es) = by_begun es ∙ ap held_at (sym (shut_begun disk es (course es)))

  -- the ends of servers change nothing
  pub held_before : (es : List (Event D)) → held_in commands (before_ends es) s ≡ held_in commands es s
  held_before [] = refl
  held_before (Ended inc ∷ es) = held_before es
  held_before (Started session inc ok ∷ es) = refl
  held_before (Connected inc ok ∷ es) = refl
  held_before (Sent inc bytes ok ∷ es) = refl
  held_before (Heard inc bytes ok ∷ es) = refl
  held_before (Opened name disk ∷ es) = refl
  held_before (Found name disk ∷ es) = refl
  held_before (Shut name disk ∷ es) = refl
  held_before (Stepped st ∷ es) = refl

  -- what is held stays while a command is carried out
  pub held_on : (c : ScriptCommand) (place : ℕ) (es mid after : List (Event D)) → slice_get commands place ≡ Some c
      → mid ≡ Stepped (step.Begins place) ∷ es → (course after).begun ≡ (course mid).begun
      → behind_hold c s (runs s es && held_in commands es s) ≡ held_in commands after s
  held_on c place es mid after stands begins standing =
      ap (λ (o : Option ScriptCommand). behind_place o s (runs s es && held_in commands es s)) (sym stands)
      ∙ sym (by_begun after ∙ ap held_at (standing ∙ ap (λ (h : List (Event D)). (course h).begun) begins))

-- ---- one command more

module _ {D : Type 0} (commands : List ScriptCommand) where
  -- whether a server runs and is held
  abbrev pub held_now : List (Event D) → ℕ → Bool
  held_now es s = runs s es && held_in commands es s

  pub holds_more : (c : ScriptCommand) (place : ℕ) (es mid after : List (Event D)) (new : List Link)
      → slice_get commands place ≡ Some c → mid ≡ Stepped (step.Begins place) ∷ es
      → (course after).begun ≡ (course mid).begun → AreLinked after new
      → HoldFor (λ s. behind_hold c s (held_now es s)) new → AreHeld (held_now after) new
  holds_more c place es mid after new stands begins standing linked hold = record {
    each = hold_same (λ s. behind_hold c s (held_now es s)) (held_now after) new
        (λ s some. held_on commands s c place es mid after stands begins standing
        ∙ with_true (runs s after) (held_in commands after s)
        (some_is (running s after) (subst (λ (n : ℕ). 1 ≤ n) (sym (linked s)) some)))
        hold;
    none = λ s without. ap (λ (n : ℕ). is_some_of n && held_in commands after s) (linked s ∙ without);
  }

  -- a server that runs and isn't held
  pub released_by : (es : List (Event D)) (ls : List Link) → AreLinked es ls → AreHeld (held_now es) ls
      → is_any_held ls ≡ false → AreReleased es commands
  released_by es ls linked held free = λ s some.
      with_true (runs s es) (held_in commands es s) (some_is (running s es) some)
      ∙ none_held (held_now es) ls s free held.each (subst (λ (n : ℕ). 1 ≤ n) (linked s) some)

-- the servers that still run are ended then
pub released_still : {A E D : Type 0} {disks : Disks D} (result : Result A E) (input : Option (List ℕ))
    (commands : List ScriptCommand) (es after : List (Event D)) (r : Record)
    → IfSome input (λ text. commands_read text ≡ Ok commands) → IsTold disks es r
    → before_ends after ≡ before_ends es
    → OnOk result (AreReleased es commands)
    → OnOk result (IfSome input (λ text. AreReleasedOf (before_ends after) text))
released_still (Err e) input commands es after r read told same released = tt
released_still (Ok x) None commands es after r read told same released = tt
released_still (Ok x) (Some text) commands es after r read told same released =
    (commands, read, subst (λ (h : List (Event _)). AreReleased h commands) (sym (same ∙ told.reaped)) released)
