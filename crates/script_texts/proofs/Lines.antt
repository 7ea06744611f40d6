-- A line that takes memory spells a command.
use Rattle.std.proofs.Common.{◌≡◌, ℕ, List, [], ◌∷◌, Bool, true, false, Option, Some, None, IsTrue, IsSome, cond, codes}
use Rattle.std.proofs.Common.{option_map, refl, sym, ap, ◌∙◌, subst}
use Rattle.std.specs.Prelude.{◌||◌, is_some}
use Rattle.std.specs.Str.{bytes_eq}
use Rattle.std.proofs.lemmas.Slice.Eq.{bytes_eq-Decides}
use Rattle.text_words.specs.Words.{words}
use Rattle.text_worlds.specs.Events.{Sized, event_in, event_of, forge_in, is_forge, may_want, open_in, open_of}
use Rattle.text_worlds.specs.Events.{open_read, or_else as either, sized_read, takes_memory}
use Rattle.script_model.specs.declared.command.ScriptCommand.{ScriptCommand}
use Rattle.script_texts.specs.Commands.{command_in, is_open, or_else}
use Rattle.world_model.specs.declared.event.Event.{Event}
use Rattle.world_model.specs.declared.event.Event.TheVariants as event

of_event : (e : Option Event) → IsTrue (takes_memory e) → IsSome (command_in e)
of_event None t = absurd (cc)
of_event (Some (event.Command c)) t = refl
of_event (Some (event.Deliver p)) t = absurd (cc)
of_event (Some (event.Forge inc message)) t = absurd (cc)
of_event (Some (event.Crash s inc)) t = absurd (cc)
of_event (Some (event.Reap inc)) t = absurd (cc)
of_event (Some (event.Done f)) t = absurd (cc)
of_event (Some (event.Fail f)) t = absurd (cc)
of_event (Some (event.Resolve f is_kept)) t = absurd (cc)
of_event (Some (event.Open name w h)) t = absurd (cc)
of_event (Some (event.Scribble s inc act)) t = absurd (cc)
of_event (Some (event.Ask s inc act)) t = absurd (cc)

spells_any : (first : Option ScriptCommand) (e : Option Event) → IsTrue (takes_memory e)
    → IsSome (or_else first (command_in e))
spells_any (Some c) e t = refl
spells_any None e t = of_event e t

pub spells_one : (first second : Option ScriptCommand) (e : Option Event) → IsTrue (takes_memory e)
    → IsSome (or_else first (or_else second (command_in e)))
spells_one (Some c) second e t = refl
spells_one None second e t = spells_any second e t

pub spells_file : (first second : Option ScriptCommand) (e : Option Event) → IsSome second
    → IsSome (or_else first (or_else second (command_in e)))
spells_file (Some c) second e t = refl
spells_file None (Some c) e t = refl
spells_file None None e t = absurd (cc)

-- Lines of another first word open nothing.
unopened : (ws : List (List ℕ)) → is_open ws ≡ false → open_in ws ≡ None
unopened [] other = refl
unopened (name ∷ others) other = ap (λ b. cond b (open_read others) None) other

pub no_file : (ws : List (List ℕ)) → is_open ws ≡ false → command_in (open_in ws) ≡ None
no_file ws other = ap command_in (unopened ws other)

-- A line of `open` spells a file that is opened, or nothing.
either_none : (e : Option Event) → either e None ≡ e
either_none (Some e) = refl
either_none None = refl

same_word : (name : List ℕ) → bytes_eq name (codes "open") ≡ true → name ≡ codes "open"
same_word name is = (bytes_eq-Decides name (codes "open")).0 is

alone : (ws : List (List ℕ)) → is_open ws ≡ true → either (open_in ws) (either (forge_in ws) (event_in ws)) ≡ open_in ws
alone [] is = absurd (cc)
alone (name ∷ others) is =
    subst (λ n. either (open_in (n ∷ others)) (either (forge_in (n ∷ others)) (event_in (n ∷ others)))
    ≡ open_in (n ∷ others)) (sym (same_word name is)) (either_none (open_read others))

unforged : (ws : List (List ℕ)) → is_open ws ≡ true → is_forge ws ≡ false
unforged [] is = absurd (cc)
unforged (name ∷ others) is = subst (λ n. is_forge (n ∷ others) ≡ false) (sym (same_word name is)) refl

pub file_read : (line : List ℕ) (e : Option Event) → is_open (words line) ≡ true → e ≡ event_of line
    → command_in e ≡ command_in (open_in (words line))
file_read line e is read = ap command_in (read ∙ alone (words line) is)

opens : (s : Option Sized) → IsSome (option_map open_of s) → IsSome (command_in (option_map open_of s))
opens None some = absurd (cc)
opens (Some s) some = refl

named : (b : Bool) (s : Option Sized) → IsSome (cond b (option_map open_of s) None)
    → IsSome (command_in (cond b (option_map open_of s) None))
named true s some = opens s some
named false s some = absurd (cc)

file_in : (ws : List (List ℕ)) → IsSome (open_in ws) → IsSome (command_in (open_in ws))
file_in [] some = absurd (cc)
file_in (name ∷ others) some = named (bytes_eq name (codes "open")) (sized_read others) some

some_or : (e : Option Event) (b : Bool) → b ≡ false → IsTrue (is_some e || b) → IsSome e
some_or (Some e) b other want = refl
some_or None true other want = absurd (cc)
some_or None false other want = absurd (cc)

pub file_spelled : (line : List ℕ) → is_open (words line) ≡ true → IsTrue (may_want line)
    → IsSome (command_in (open_in (words line)))
file_spelled line is want = file_in (words line)
    (subst IsSome (alone (words line) is)
    (some_or (event_of line) (is_forge (words line)) (unforged (words line) is) want))

pub ruleset files = (no_file, file_read, file_spelled)

pub ruleset spellings = (spells_one, spells_file)
