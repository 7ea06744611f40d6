-- The lines of a description, one after another.
use Rattle.std.proofs.Common.{◌≡◌, ◌++◌, ◌⊎◌, ℕ, List, [], ◌∷◌, Option, Some, None, Result, Ok, Err, cond, refl, sym}
use Rattle.std.proofs.Common.{ap, ◌∙◌, subst, inl, inr, rules}
use Rattle.std.specs.Option.{option_map}
use Rattle.std.specs.Prelude.{IsOk, IsSome, is_some}
use Rattle.tree_storage.specs.Kept.{Kept}
use Rattle.text_words.specs.Words.{lines}
use Rattle.text_io.specs.Lines.{RefusesText, asking, put_first}
use Rattle.text_io.specs.declared.lines.SyntaxFault.{SyntaxFault}
use Rattle.text_io.specs.declared.lines.SyntaxFault.TheVariants as syntax_fault
use Rattle.text_io.proofs.Asking.{all-asked, asked, asked-so-far, asked-turn, bad-at, lacking_at, one-more}
use Rattle.text_io.proofs.LineByLine.{behind}
use Rattle.tree_descriptions.specs.Commands.{commands_read, line_read, numbered_read}
use Rattle.tree_descriptions.specs.Description.{Refuses, RefusesDescription, MayLackRoom, carried, carried_out, at_line}
use Rattle.tree_descriptions.specs.Description.{described, nothing, of_syntax, then_by}
use Rattle.tree_descriptions.specs.Faults.{of_syntax_fault}
use Rattle.tree_descriptions.specs.Refusal.{refusal}
use Rattle.tree_descriptions.specs.declared.command.Command.{Command}
use Rattle.tree_descriptions.specs.declared.fault.LineFault.{LineFault}
use Rattle.tree_descriptions.specs.declared.fault.LineFault.TheVariants.{Bad, Name, Tree, NoMemory}

-- when commands may be refused
abbrev RefusesCommands : List (ℕ × Command) → ℕ × LineFault → Type 0
RefusesCommands commands (n, NoMemory) = MayLackRoom commands n
RefusesCommands commands fault = carried commands nothing ≡ Err fault

-- commands behind others
carried-append : (before others : List (ℕ × Command)) (k : Kept) → carried (before ++ others) k
    ≡ then_by (carried before k) (carried others)
carried-append [] others k = refl
carried-append ((n, command) ∷ before) others k =
    elim (at_line n (carried_out command k)) as (λ r. then_by r (carried (before ++ others))
    ≡ then_by (then_by r (carried before)) (carried others))
    [ Ok next ↦ carried-append before others next | Err fault ↦ refl ]

-- one more command
carried-turn : (before : List (ℕ × Command)) (n : ℕ) (command : Command) (k next : Kept)
    → carried before nothing ≡ Ok k → carried_out command k ≡ Ok next
    → carried (before ++ (n, command) ∷ []) nothing ≡ Ok next
carried-turn before n command k next so is =
    carried-append before ((n, command) ∷ []) nothing
    ∙ ap (λ r. then_by r (carried ((n, command) ∷ []))) so
    ∙ ap (λ r. then_by (at_line n r) (carried [])) is

-- the first command that is refused
refused-at : (before behind : List (ℕ × Command)) (n : ℕ) (command : Command) (k : Kept) (fault : LineFault)
    → carried before nothing ≡ Ok k → carried_out command k ≡ Err fault
    → carried (before ++ (n, command) ∷ behind) nothing ≡ Err (n, fault)
refused-at before behind n command k fault so is =
    carried-append before ((n, command) ∷ behind) nothing
    ∙ ap (λ r. then_by r (carried ((n, command) ∷ behind))) so
    ∙ ap (λ r. then_by (at_line n r) (carried behind)) is

no-ok : (fault : LineFault) → IsOk {T = Kept} (Err fault) → ⊥
no-ok fault h = search rules

ok-at : (n : ℕ) (r : Result Kept LineFault) → IsOk r → IsOk (then_by (at_line n r) (carried []))
ok-at n (Ok k) is = is
ok-at n (Err fault) is = absurd (no-ok fault is)

lacking-at : (before behind : List (ℕ × Command)) (n : ℕ) (command : Command) (k : Kept)
    → carried before nothing ≡ Ok k → IsOk (carried_out command k)
    → MayLackRoom (before ++ (n, command) ∷ behind) n
lacking-at before behind n command k so is =
    let P : Result Kept (ℕ × LineFault) → Type 0 = IsOk in
    let upto : carried (before ++ (n, command) ∷ []) nothing ≡ then_by (at_line n (carried_out command k))
    (carried []) = carried-append before ((n, command) ∷ []) nothing
    ∙ ap (λ r. then_by r (carried ((n, command) ∷ []))) so in
    record {
      before = before;
      command = command;
      behind = behind;
      all = refl;
      carried_out = subst P (sym upto) (ok-at n (carried_out command k) is);
    }

stopped-at : (before behind : List (ℕ × Command)) (n : ℕ) (command : Command) (k : Kept) (fault : LineFault)
    → carried before nothing ≡ Ok k → Refuses (carried_out command k) fault
    → RefusesCommands (before ++ (n, command) ∷ behind) (n, fault)
stopped-at before behind n command k Bad so told = refused-at before behind n command k Bad so told
stopped-at before behind n command k (Name fault) so told = refused-at before behind n command k (Name fault) so told
stopped-at before behind n command k (Tree fault) so told = refused-at before behind n command k (Tree fault) so told
stopped-at before behind n command k NoMemory so told = lacking-at before behind n command k so told

ran : (text : List ℕ) (commands : List (ℕ × Command)) → commands_read text ≡ Ok commands
    → described text ≡ carried commands nothing
ran text commands read = ap (λ r. then_by (of_syntax r) (λ cs. carried cs nothing)) read

ran-through : (text : List ℕ) (commands : List (ℕ × Command)) (k : Kept) → commands_read text ≡ Ok commands
    → carried commands nothing ≡ Ok k → described text ≡ Ok k
ran-through text commands k read so = ran text commands read ∙ so

-- a description whose commands are refused
refused-commands : (text : List ℕ) (commands : List (ℕ × Command)) (n : ℕ) (fault : LineFault)
    → commands_read text ≡ Ok commands
    → RefusesCommands commands (n, fault) → RefusesDescription text (n, fault)
refused-commands text commands n Bad read told = ran text commands read ∙ told
refused-commands text commands n (Name fault) read told = ran text commands read ∙ told
refused-commands text commands n (Tree fault) read told = ran text commands read ∙ told
refused-commands text commands n NoMemory read told = inr (commands, read, told)

-- one whose lines are
refused-lines : (text : List ℕ) (n : ℕ) (fault : SyntaxFault) → RefusesText numbered_read text (n, fault)
    → RefusesDescription text (n, of_syntax_fault fault)
refused-lines text n syntax_fault.Bad told = ap (λ r. then_by (of_syntax r) (λ cs. carried cs nothing)) told
refused-lines text n syntax_fault.NoMemory told = inl told

-- ---- line by line
no-command : IsSome {T = Command} None → ⊥
no-command h = search rules

-- the lines behind one whose command can't be carried out: all are within the grammar, or one of them is the first that
-- isn't
abbrev Rest : List (ℕ × List ℕ) → ℕ × LineFault → Type 0
Rest left told = ((others : List (ℕ × Command)) × (asked numbered_read left ≡ Ok others) × (refusal left told ≡ told))
    ⊎ ((m : ℕ) × (asked numbered_read left ≡ Err (m, syntax_fault.Bad)) × (refusal left told ≡ (m, Bad)))

rest-behind : (n : ℕ) (line : List ℕ) (left : List (ℕ × List ℕ)) (told : ℕ × LineFault) (read : Option Command)
    → line_read line ≡ read → Rest left told → Rest ((n, line) ∷ left) told
rest-behind n line left told None is others = inr (
  n,
  ap (λ r. put_first n (option_map (λ command. (n, command)) r) (asked numbered_read left)) is,
  ap (λ r. cond (is_some r) (refusal left told) (n, Bad)) is,
)
rest-behind n line left told (Some command) is (inl (others, all, same)) = inl (
  (n, command) ∷ others,
  ap (λ r. put_first n (option_map (λ command. (n, command)) r) (asked numbered_read left)) is
      ∙ ap (put_first n (Some (n, command))) all,
  ap (λ r. cond (is_some r) (refusal left told) (n, Bad)) is ∙ same,
)
rest-behind n line left told (Some command) is (inr (m, first, other)) = inr (
  m,
  ap (λ r. put_first n (option_map (λ command. (n, command)) r) (asked numbered_read left)) is
      ∙ ap (put_first n (Some (n, command))) first,
  ap (λ r. cond (is_some r) (refusal left told) (n, Bad)) is ∙ other,
)

rest-of : (left : List (ℕ × List ℕ)) (told : ℕ × LineFault) → Rest left told
rest-of [] told = inl ([], refl, refl)
rest-of ((n, line) ∷ left) told = rest-behind n line left told (line_read line) refl (rest-of left told)

-- some lines of a description were carried out, and others are left
pub record IsUnderway (text : List ℕ) (left : List (ℕ × List ℕ)) (Built : Kept → Type 0) : Type 0 where
  pub gone : List (ℕ × List ℕ)
  pub commands : List (ℕ × Command)
  pub k : Kept
  pub parts : asking 1 (lines text) ≡ gone ++ left
  pub read : asked numbered_read gone ≡ Ok commands
  pub so_far : carried commands nothing ≡ Ok k
  pub built : Built k

pub begins : (text : List ℕ) (left : List (ℕ × List ℕ)) (Built : Kept → Type 0) → left ≡ asking 1 (lines text)
    → Built nothing → IsUnderway text left Built
begins text left Built all built = record {
  gone = [];
  commands = [];
  k = nothing;
  parts = sym all;
  read = refl;
  so_far = refl;
  built = built;
}

module _ (text : List ℕ) (left : List (ℕ × List ℕ)) (Built : Kept → Type 0) (u : IsUnderway text left Built) where
  -- what was built is built otherwise
  pub rebuilt : (Other : Kept → Type 0) → ((k : Kept) → Built k → Other k) → IsUnderway text left Other
  rebuilt Other other = record {
    gone = u.gone;
    commands = u.commands;
    k = u.k;
    parts = u.parts;
    read = u.read;
    so_far = u.so_far;
    built = other u.k u.built;
  }

  -- all lines were carried out
  pub ends : left ≡ [] → described text ≡ Ok u.k
  ends none = ran-through text u.commands u.k
      (all-asked numbered_read text u.gone left u.commands u.parts u.read none) u.so_far

  module _ (n : ℕ) (line : List ℕ) (rest : List (ℕ × List ℕ)) (taken : left ≡ (n, line) ∷ rest) where
    parts-here : asking 1 (lines text) ≡ u.gone ++ (n, line) ∷ rest
    parts-here = u.parts ∙ ap (λ l. u.gone ++ l) taken

    -- one more was
    pub goes_on : (command : Command) (Next : Kept → Type 0) → Some command ≡ line_read line → (k : Kept)
        × (carried_out command u.k ≡ Ok k) × Next k → IsUnderway text rest Next
    goes_on command Next is (k, carries, built) = record {
      gone = u.gone ++ (n, line) ∷ [];
      commands = u.commands ++ (n, command) ∷ [];
      k = k;
      parts = one-more (asking 1 (lines text)) u.gone left (n, line) rest u.parts taken;
      read = asked-turn numbered_read u.gone n line u.commands (n, command) u.read (ap (option_map (λ c. (n, c))) is);
      so_far = carried-turn u.commands n command u.k k u.so_far carries;
      built = built;
    }

    -- one is outside the grammar
    pub outside : None ≡ line_read line → described text ≡ Err (n, Bad)
    outside is = refused-lines text n syntax_fault.Bad
        (bad-at numbered_read text u.gone n line rest u.commands parts-here u.read
        (ap (option_map (λ c. (n, c))) is))

    within : (read : Option Command) → IsSome read → IsSome {T = ℕ × Command} (option_map (λ c. (n, c)) read)
    within (Some command) is = refl
    within None is = absurd (no-command is)

    -- memory ran out while one was read
    pub lacking : IsSome (line_read line) → RefusesDescription text (n, NoMemory)
    lacking is = inl (lacking_at numbered_read text u.gone n line rest u.commands parts-here u.read
        (within (line_read line) is))

    refused-by : (command : Command) (fault : LineFault) → Some command ≡ line_read line
        → Refuses (carried_out command u.k) fault → Rest rest (n, fault)
        → RefusesDescription text (refusal rest (n, fault))
    refused-by command fault is told (inl (others, all, same)) =
        subst (RefusesDescription text) (sym same)
        (refused-commands text (u.commands ++ (n, command) ∷ others) n fault (
        asked-so-far numbered_read text u.gone ((n, line) ∷ rest) u.commands parts-here u.read
        ∙ ap (λ r. behind (Ok u.commands) (put_first n (option_map (λ c. (n, c)) r) (asked numbered_read rest)))
        (sym is)
        ∙ ap (λ r. behind (Ok u.commands) (put_first n (Some (n, command)) r)) all)
        (stopped-at u.commands others n command u.k fault u.so_far told))
    refused-by command fault is told (inr (m, first, other)) =
        subst (RefusesDescription text) (sym other) (refused-lines text m syntax_fault.Bad (
        asked-so-far numbered_read text u.gone ((n, line) ∷ rest) u.commands parts-here u.read
        ∙ ap (λ r. behind (Ok u.commands) (put_first n (option_map (λ c. (n, c)) r) (asked numbered_read rest)))
        (sym is)
        ∙ ap (λ r. behind (Ok u.commands) (put_first n (Some (n, command)) r)) first))

    -- one can't be carried out
    pub refused_at : (command : Command) (fault : LineFault) → Some command ≡ line_read line
        → Refuses (carried_out command u.k) fault → RefusesDescription text (refusal rest (n, fault))
    refused_at command fault is told = refused-by command fault is told (rest-of rest (n, fault))
