-- What is written of the commands that ended, one more at a time.
use Rattle.std.proofs.Common.{◌≡◌, ◌≢◌, ◌+◌, ◌++◌, inl, inr, ℕ, zero, suc, List, [], ◌∷◌, length, Option, Some, None}
use Rattle.std.proofs.Common.{Result, Ok, Err, IfErr, OnOk, refl, sym, ap, ◌∙◌, subst, append_assoc, append-nil, arith}
use Rattle.std.specs.Prelude.{IfSome, slice_get}
use Rattle.std.specs.Io.KnownBytes.{Appends}
use Rattle.std.specs.Result.{IsErrAnd}
use Rattle.container_model.specs.Record.{Record}
use Rattle.store_model.specs.declared.disk.Disk.{Ghosts as Disks}
use Rattle.script_container.specs.Told.{IsTold}
use Rattle.script_container.specs.declared.fault.ScriptFault.{ScriptFault}
use Rattle.script_container.specs.declared.fault.ScriptFault.TheVariants as fault
use Rattle.script_links.specs.declared.links.Link.{Link}
use Rattle.script_model.specs.declared.command.ScriptCommand.{ScriptCommand}
use Rattle.script_model.specs.declared.step.Step.{Step}
use Rattle.script_model.specs.declared.step.Step.TheVariants as step
use Rattle.script_model.specs.Courses.{course}
use Rattle.script_model.specs.Errors.{before_ends}
use Rattle.script_model.specs.Events.{Event, Started, Connected, Sent, Heard, Ended, Opened, Found, Shut, Stepped}
use Rattle.script_texts.specs.Commands.{commands_read}
use Rattle.script_run.proofs.Carried.{SoFar, at_place}
use Rattle.script_commands.proofs.Coursed.{shut_begun}
use Rattle.script_run.specs.Faulted.{RefusesScript, ShowsOf}
use Rattle.script_commands.specs.Lines.{HasLine}
use Rattle.script_run.specs.Printed.{HasAll, HasEarlier, HasLines, HasSome, HasSomeOf, Printed, PrintedBefore}

-- an error that commands end with: their text was read
abbrev pub IsOfCommands : ScriptFault → Type 0
IsOfCommands (fault.Input why) = ⊥
IsOfCommands (fault.Line n why) = ⊥
IsOfCommands (fault.Link inc) = Unit {0}
IsOfCommands fault.Stalled = Unit {0}
IsOfCommands (fault.File name why) = Unit {0}
IsOfCommands fault.NoMemory = Unit {0}
IsOfCommands fault.Unwritable = Unit {0}

pub of_commands : {D A : Type 0} (disks : Disks D) (r : Result A ScriptFault) (commands : List ScriptCommand)
    (es : List (Event D)) → IfErr r (λ e. ShowsOf disks commands es e) → IfErr r (λ e. IsOfCommands e)
of_commands disks (Ok x) commands es shows = tt
of_commands disks (Err (fault.Input why)) commands es shows = shows
of_commands disks (Err (fault.Line n why)) commands es shows = shows
of_commands disks (Err (fault.Link inc)) commands es shows = tt
of_commands disks (Err fault.Stalled) commands es shows = tt
of_commands disks (Err (fault.File name why)) commands es shows = tt
of_commands disks (Err fault.NoMemory) commands es shows = tt
of_commands disks (Err fault.Unwritable) commands es shows = tt

-- ---- writers

appends_none : (u : Option (List ℕ)) → Appends u u []
appends_none None = tt
appends_none (Some xs) = sym (append-nil xs)

appends_then : (u v w : Option (List ℕ)) (a b : List ℕ) → Appends u v a → Appends v w b → Appends u w (a ++ b)
appends_then None v w a b x y = tt
appends_then (Some xs) None w a b x y = absurd x
appends_then (Some xs) (Some ys) None a b x y = y
appends_then (Some xs) (Some ys) (Some zs) a b x y = y ∙ ap (λ (t : List ℕ). t ++ b) x ∙ append_assoc xs a b

-- ---- where commands began

module _ {D : Type 0} (disks : Disks D) (commands : List ScriptCommand) (text : List ℕ) where
  -- what was printed before the command that began there
  abbrev PrintedAt : Option (ℕ × List (Event D)) → Type 0
  PrintedAt None = text ≡ []
  PrintedAt (Some b) = Printed disks commands b.0 b.1 text

  printed_now : (place : ℕ) (es : List (Event D)) → Printed disks commands place es text
      → PrintedBefore disks commands (Stepped (step.Begins place) ∷ es) text
  printed_now zero es has = has
  printed_now (suc place) es has = has

  printed_there : (place : ℕ) (es : List (Event D))
      → PrintedBefore disks commands (Stepped (step.Begins place) ∷ es) text → Printed disks commands place es text
  printed_there zero es has = has
  printed_there (suc place) es has = has

  as_step : (st : Step) (es : List (Event D)) → (PrintedBefore disks commands es text → PrintedAt (course es).begun)
      → PrintedBefore disks commands (Stepped st ∷ es) text → PrintedAt (course (Stepped st ∷ es)).begun
  as_step (step.Begins place) es before has = printed_there place es has
  as_step (step.Command c) es before has = before has
  as_step (step.Message inc m) es before has = before has
  as_step (step.Reap inc) es before has = before has
  as_step (step.Committed f) es before has = before has
  as_step (step.Failed f) es before has = before has
  as_step (step.Resolved f is_kept) es before has = before has
  as_step (step.Open name w h session objects) es before has = before has
  as_step step.NoMemory es before has = before has

  as_begun : (es : List (Event D)) → PrintedBefore disks commands es text → PrintedAt (course es).begun
  as_begun [] has = has
  as_begun (Stepped st ∷ es) has = as_step st es (λ x. as_begun es x) has
  as_begun (Started session inc ok ∷ es) has = as_begun es has
  as_begun (Connected inc ok ∷ es) has = as_begun es has
  as_begun (Sent inc bytes ok ∷ es) has = as_begun es has
  as_begun (Heard inc bytes ok ∷ es) has = as_begun es has
  as_begun (Ended inc ∷ es) has = as_begun es has
  as_begun (Opened name disk ∷ es) has = as_begun es has
  as_begun (Found name disk ∷ es) has = as_begun es has
  as_begun (Shut name disk ∷ es) has = subst PrintedAt (sym (shut_begun disk es (course es))) (as_begun es has)

  of_step : (st : Step) (es : List (Event D)) → (PrintedAt (course es).begun → PrintedBefore disks commands es text)
      → PrintedAt (course (Stepped st ∷ es)).begun → PrintedBefore disks commands (Stepped st ∷ es) text
  of_step (step.Begins place) es before has = printed_now place es has
  of_step (step.Command c) es before has = before has
  of_step (step.Message inc m) es before has = before has
  of_step (step.Reap inc) es before has = before has
  of_step (step.Committed f) es before has = before has
  of_step (step.Failed f) es before has = before has
  of_step (step.Resolved f is_kept) es before has = before has
  of_step (step.Open name w h session objects) es before has = before has
  of_step step.NoMemory es before has = before has

  of_begun : (es : List (Event D)) → PrintedAt (course es).begun → PrintedBefore disks commands es text
  of_begun [] has = has
  of_begun (Stepped st ∷ es) has = of_step st es (λ x. of_begun es x) has
  of_begun (Started session inc ok ∷ es) has = of_begun es has
  of_begun (Connected inc ok ∷ es) has = of_begun es has
  of_begun (Sent inc bytes ok ∷ es) has = of_begun es has
  of_begun (Heard inc bytes ok ∷ es) has = of_begun es has
  of_begun (Ended inc ∷ es) has = of_begun es has
  of_begun (Opened name disk ∷ es) has = of_begun es has
  of_begun (Found name disk ∷ es) has = of_begun es has
  of_begun (Shut name disk ∷ es) has = of_begun es (subst PrintedAt (shut_begun disk es (course es)) has)

  -- what was printed before a command stays while it is carried out
  earlier_on : (place : ℕ) (es mid after : List (Event D)) → mid ≡ Stepped (step.Begins place) ∷ es
      → (course after).begun ≡ (course mid).begun → Printed disks commands place es text
      → PrintedBefore disks commands after text
  earlier_on place es mid after begins standing has =
      of_begun after (subst PrintedAt (sym (standing ∙ ap (λ (h : List (Event D)). (course h).begun) begins)) has)

-- ---- one command more

module _ {D : Type 0} (disks : Disks D) where
  pub lines_first : (commands : List ScriptCommand) (count : ℕ) (es : List (Event D)) (w : Option (List ℕ))
      → count ≡ 0 → HasLines disks commands count es w w
  lines_first commands count es w none = record {
    lines = [];
    written = appends_none w;
    printed = subst (λ (n : ℕ). Printed disks commands n es []) (sym none) refl;
  }

  module _ (es mid after : List (Event D)) (ls : List Link) (commands rest more : List ScriptCommand)
      (c : ScriptCommand) (count place next : ℕ) (first now new : Option (List ℕ))
      (s : SoFar es ls commands rest count) (is : rest ≡ c ∷ more) (at : place ≡ count)
      (begins : mid ≡ Stepped (step.Begins place) ∷ es) (standing : (course after).begun ≡ (course mid).begun)
      (so_far : HasLines disks commands count es first now) where
    earlier : PrintedBefore disks commands after so_far.lines
    earlier = earlier_on disks commands so_far.lines place es mid after begins standing
        (subst (λ (n : ℕ). Printed disks commands n es so_far.lines) (sym at) so_far.printed)

    stands_there : slice_get commands count ≡ Some c
    stands_there =
        ap (λ (cs : List ScriptCommand). slice_get cs count)
        (sym s.are ∙ ap (λ (x : List ScriptCommand). s.front ++ x) is) ∙ at_place s.front c more count s.many

    -- the line of one command more was written
    pub lines_more : next ≡ count + 1 → HasLine disks c after now new → HasLines disks commands next after first new
    lines_more counts has =
        let one : suc count ≡ next = omega (arith, counts) in record {
          lines = so_far.lines ++ has.line;
          written = appends_then first now new so_far.lines has.line so_far.written has.written;
          printed = subst (λ (n : ℕ). Printed disks commands n after (so_far.lines ++ has.line)) one
              (record {
                command = c;
                stands = stands_there;
                before = so_far.lines;
                line = has.line;
                earlier = earlier;
                last = has.printed;
                joined = refl;
              });
        }

    earlier_has : new ≡ now → HasEarlier disks commands after first new
    earlier_has same = record {
      lines = so_far.lines;
      written = subst (λ (w : Option (List ℕ)). Appends first w so_far.lines) (sym same) so_far.written;
      printed = earlier;
    }

    some_has : (e : ScriptFault) → (e ≢ fault.Unwritable → new ≡ now) → HasSome disks commands after first new e
    some_has (fault.Input why) unwritten = tt
    some_has (fault.Line n why) unwritten = tt
    some_has (fault.Link inc) unwritten = earlier_has (unwritten (λ is. absurd (cc)))
    some_has fault.Stalled unwritten = inl (earlier_has (unwritten (λ is. absurd (cc))))
    some_has (fault.File name why) unwritten = earlier_has (unwritten (λ is. absurd (cc)))
    some_has fault.NoMemory unwritten = earlier_has (unwritten (λ is. absurd (cc)))
    some_has fault.Unwritable unwritten = tt

    -- the script ended in this command
    pub lines_left : {A : Type 0} (r : Result A ScriptFault) (e : ScriptFault) → IsErrAnd r (λ x. x ≡ e)
        → (e ≢ fault.Unwritable → new ≡ now) → IfErr r (HasSome disks commands after first new)
    lines_left (Ok x) e again unwritten = tt
    lines_left (Err x) e again unwritten = subst (λ (f : ScriptFault). HasSome disks commands after first new f)
        (sym again) (some_has e unwritten)

  all_many : (ls : List Link) (es : List (Event D)) (commands rest : List ScriptCommand) (count : ℕ) → rest ≡ []
      → (s : SoFar es ls commands rest count) → count ≡ length commands
  all_many ls es commands rest count none s = s.many
      ∙ ap length (sym (append-nil s.front) ∙ ap (λ (x : List ScriptCommand). s.front ++ x) (sym none) ∙ s.are)

  -- all were carried out
  pub lines_all : (ls : List Link) (es : List (Event D)) (commands rest : List ScriptCommand) (count : ℕ)
      (first now : Option (List ℕ)) → rest ≡ [] → SoFar es ls commands rest count
      → HasLines disks commands count es first now → HasLines disks commands (length commands) es first now
  lines_all ls es commands rest count first now none s has =
      subst (λ (n : ℕ). HasLines disks commands n es first now) (all_many ls es commands rest count none s) has

  pub lines_held : (commands : List ScriptCommand) (es : List (Event D)) (first now : Option (List ℕ))
      → HasLines disks commands (length commands) es first now → HasSome disks commands es first now fault.Stalled
  lines_held commands es first now has = inr has

  -- ---- scripts

  pub all_ended : {A : Type 0} (r : Result A ScriptFault) (input : Option (List ℕ)) (commands : List ScriptCommand)
      (es after : List (Event D)) (rec : Record) (first now : Option (List ℕ))
      → IfSome input (λ text. commands_read text ≡ Ok commands) → IsTold disks es rec
      → before_ends after ≡ before_ends es
      → OnOk r (HasLines disks commands (length commands) es first now)
      → OnOk r (IfSome input (λ text. HasAll disks (before_ends after) text first now))
  all_ended (Err e) input commands es after rec first now read told same has = tt
  all_ended (Ok x) None commands es after rec first now read told same has = tt
  all_ended (Ok x) (Some text) commands es after rec first now read told same has =
      record {
        commands = commands;
        read = read;
        printed =
            subst (λ (h : List (Event D)). HasLines disks commands (length commands) h first now)
            (sym (same ∙ told.reaped)) has;
      }

  some_of : (text : List ℕ) (commands : List ScriptCommand) (es : List (Event D)) (first now : Option (List ℕ))
      (e : ScriptFault) → commands_read text ≡ Ok commands → IsOfCommands e → HasSome disks commands es first now e
      → HasSomeOf disks es text first now e
  some_of text commands es first now (fault.Input why) read not has = absurd not
  some_of text commands es first now (fault.Line n why) read not has = absurd not
  some_of text commands es first now (fault.Link inc) read not has = (commands, read, has)
  some_of text commands es first now fault.Stalled read not has = (commands, read, has)
  some_of text commands es first now (fault.File name why) read not has = (commands, read, has)
  some_of text commands es first now fault.NoMemory read not has = (commands, read, has)
  some_of text commands es first now fault.Unwritable read not has = tt

  pub some_ended : {A : Type 0} (r : Result A ScriptFault) (input : Option (List ℕ)) (commands : List ScriptCommand)
      (es after : List (Event D)) (rec : Record) (first now : Option (List ℕ))
      → IfSome input (λ text. commands_read text ≡ Ok commands) → IsTold disks es rec
      → before_ends after ≡ before_ends es
      → IfErr r (λ e. IsOfCommands e) → IfErr r (HasSome disks commands es first now)
      → IfErr r (λ e. IfSome input (λ text. HasSomeOf disks (before_ends after) text first now e))
  some_ended (Ok x) input commands es after rec first now read told same not has = tt
  some_ended (Err e) None commands es after rec first now read told same not has = tt
  some_ended (Err e) (Some text) commands es after rec first now read told same not has =
      some_of text commands (before_ends after) first now e read not
      (subst (λ (h : List (Event D)). HasSome disks commands h first now e) (sym (same ∙ told.reaped)) has)

  unread_some : (es : List (Event D)) (text : List ℕ) (first : Option (List ℕ)) (input : Option (List ℕ))
      (e : ScriptFault) → RefusesScript input e → HasSomeOf disks es text first first e
  unread_some es text first input (fault.Input why) refused = refl
  unread_some es text first input (fault.Line n why) refused = refl
  unread_some es text first input (fault.Link inc) refused = absurd refused
  unread_some es text first input fault.Stalled refused = absurd refused
  unread_some es text first input (fault.File name why) refused = absurd refused
  unread_some es text first input fault.NoMemory refused = absurd refused
  unread_some es text first input fault.Unwritable refused = absurd refused

  -- of a script that isn't read nothing is written
  pub unread_none : (es : List (Event D)) (input : Option (List ℕ)) (first : Option (List ℕ)) (e : ScriptFault)
      → RefusesScript input e → IfSome input (λ text. HasSomeOf disks es text first first e)
  unread_none es None first e refused = tt
  unread_none es (Some text) first e refused = unread_some es text first (Some text) e refused

  -- no command began, as there was no memory for it
  pub none_written : (es : List (Event D)) (input : Option (List ℕ)) (commands : List ScriptCommand)
      (w : Option (List ℕ)) → IfSome input (λ text. commands_read text ≡ Ok commands) → es ≡ []
      → IfSome input (λ text. HasSomeOf disks (before_ends es) text w w fault.NoMemory)
  none_written es None commands w read none = tt
  none_written es (Some text) commands w read none = (
    commands,
    read,
    record {
      lines = [];
      written = appends_none w;
      printed = subst (λ (h : List (Event D)). PrintedBefore disks commands (before_ends h) []) (sym none) refl;
    },
  )
