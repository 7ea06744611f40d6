-- Descriptions that are read line by line.
use Rattle.std.proofs.Common.{◌≡◌, ◌≤◌, ◌<◌, ◌-◌, ◌+◌, ◌∷◌, ℕ, List, [], Option, Some, None, Ok, IfSome, length, sym}
use Rattle.std.proofs.Common.{ap, subst, ◌∙◌, arith, refl, true, true≢false}
use Rattle.std.specs.Prelude.{IsSome, is_some}
use Rattle.tree_storage.specs.Kept.{Kept}
use Rattle.text_words.specs.Words.{lines}
use Rattle.text_io.specs.Input.{MayRefuseInput, most}
use Rattle.text_io.specs.Lines.{asking}
use Rattle.text_io.specs.Reading.{IsNext, LeavesNext, MayRefuseBytes, left_asking}
use Rattle.text_io.specs.declared.input.InputFault.{InputFault}
use Rattle.text_io.specs.declared.input.InputFault.TheVariants as input
use Rattle.text_io.specs.declared.reading.Passed.{Passed}
use Rattle.tree_descriptions.specs.Building.{IsDescribed}
use Rattle.tree_descriptions.specs.Commands.{line_read}
use Rattle.tree_descriptions.specs.Description.{Refuses, RefusesDescription, carried_out, nothing}
use Rattle.tree_descriptions.specs.Refusal.{refusal}
use Rattle.tree_descriptions.specs.Texts.{Describes, IsTold, MayRefuseText}
use Rattle.tree_descriptions.specs.declared.building.Described.{Described}
use Rattle.tree_descriptions.specs.declared.command.Command.{Command}
use Rattle.tree_descriptions.specs.declared.fault.LineFault.{LineFault}
use Rattle.tree_descriptions.specs.declared.fault.LineFault.TheVariants.{Bad, NoMemory}
use Rattle.tree_descriptions.specs.declared.fault.TextFault.{TextFault}
use Rattle.tree_descriptions.specs.declared.fault.TextFault.TheVariants.{Input, Line}
use Rattle.tree_descriptions.proofs.Described.{IsUnderway, begins, ends, goes_on, lacking, outside, rebuilt, refused_at}

-- how many bytes are to come at most, where a line was read
abbrev pub to_come : Option ℕ → ℕ → ℕ
to_come None bytes = 0
to_come (Some n) bytes = most - bytes + 1

pub fewer : (now next : Option ℕ) (n bytes more : ℕ) → now ≡ Some n → more ≤ most → IfSome next (λ m. bytes < more)
    → to_come next more < to_come now bytes
fewer now next n bytes more is few grows = subst (λ o. to_come next more < to_come o bytes) (sym is) (at next grows)
  where
    at : (next : Option ℕ) → IfSome next (λ m. bytes < more) → to_come next more < most - bytes + 1
    at None grows = omega arith
    at (Some m) grows = omega (arith, few, grows)

no-number : is_some {T = ℕ} None ≡ true → ⊥
no-number h = true≢false (sym h)

pub some-there : (next : Option ℕ) → is_some next ≡ true → (n : ℕ) × (next ≡ Some n)
some-there None is = absurd (no-number is)
some-there (Some n) is = (n, refl)

-- the rest of a text was read on in
pub record IsBehind (old now : Passed) (text : List ℕ) (known : Option (List ℕ)) : Type 0 where
  pub rest : List ℕ
  pub left : known ≡ Some rest
  pub counted : now.bytes + length rest ≡ old.bytes + length text

-- all lines of it so far are within the grammar
pub record IsBehindCommands (told : ℕ × LineFault) (old now : Passed) (text : List ℕ) (known : Option (List ℕ)) :
    Type 0 where
  pub rest : List ℕ
  pub left : known ≡ Some rest
  pub counted : now.bytes + length rest ≡ old.bytes + length text
  pub same : refusal (left_asking old text) told ≡ refusal (left_asking now rest) told

-- the line that was read is the first of those that come, or none comes
abbrev pub Comes : Option ℕ → List ℕ → Passed → List ℕ → List (ℕ × List ℕ) → Type 0
Comes None line passed rest coming = (coming ≡ []) × (rest ≡ [])
Comes (Some n) line passed rest coming = coming ≡ (n, line) ∷ left_asking passed rest

-- a text was carried out up to the line that was read last
pub record IsReading (text : List ℕ) (next : Option ℕ) (line : List ℕ) (passed : Passed) (known : Option (List ℕ))
    (Built : Kept → Type 0) : Type 0 where
  pub rest : List ℕ
  pub left : known ≡ Some rest
  pub counted : passed.bytes + length rest ≡ length text
  pub coming : List (ℕ × List ℕ)
  pub underway : IsUnderway text coming Built
  pub comes : Comes next line passed rest coming

comes-of : (next : Option ℕ) (old new : Passed) (line text rest : List ℕ) → IsNext next old new line text rest
    → Comes next line new rest (left_asking old text)
comes-of None old new line text rest told = told
comes-of (Some n) old new line text rest told = told

some-is : (known : Option (List ℕ)) (P : List ℕ → Type 0) (rest : List ℕ) → known ≡ Some rest → IfSome known P → P rest
some-is known P rest is h = subst (λ k. IfSome k P) is h

pub begins-reading : (known left : Option (List ℕ)) (next : Option ℕ) (old new : Passed) (line : List ℕ)
    (Built : Kept → Type 0) → old.lines ≡ 0 → old.bytes ≡ 0 → Built nothing
    → IfSome known (λ text. LeavesNext next old new line text left)
    → IfSome known (λ text. IsReading text next line new left Built)
begins-reading None left next old new line Built first none built read = tt
begins-reading (Some text) left next old new line Built first none built read = record {
  rest = read.rest;
  left = read.left;
  counted = omega (arith, read.counted, none);
  coming = left_asking old text;
  underway = begins text (left_asking old text) Built (ap (λ n. asking (n + 1) (lines text)) first) built;
  comes = comes-of next old new line text read.rest read.told;
}

input-fault : (text : List ℕ) (n : ℕ) (fault : InputFault) → n ≡ length text → MayRefuseBytes n fault
    → MayRefuseInput text fault
input-fault text n input.Unreadable is told = tt
input-fault text n input.TooBig is told = omega (arith, is, told)
input-fault text n input.NoMemory is told = tt

told-of : (text : List ℕ) (passed : Passed) (rest : List ℕ) (told : ℕ × LineFault) (result : TextFault)
    → passed.bytes + length rest ≡ length text → RefusesDescription text told
    → IsTold passed rest told result → MayRefuseText text result
told-of text passed rest told (Input fault) counted refused is =
    input-fault text (passed.bytes + length rest) fault counted is
told-of text passed rest told (Line n fault) counted refused is =
    (omega (arith, counted, is.0), subst (RefusesDescription text) (sym is.1) refused)

module _ (known left : Option (List ℕ)) (next : Option ℕ) (line : List ℕ) (passed : Passed) (Built : Kept → Type 0)
    (reading : IfSome known (λ text. IsReading text next line passed left Built)) where
  -- what was built is built otherwise
  pub rebuilt-reading : (Other : Kept → Type 0) → ((k : Kept) → Built k → Other k)
      → IfSome known (λ text. IsReading text next line passed left Other)
  rebuilt-reading Other other = on known reading
    where
      on : (known : Option (List ℕ)) → IfSome known (λ text. IsReading text next line passed left Built)
          → IfSome known (λ text. IsReading text next line passed left Other)
      on None r = tt
      on (Some text) r = record {
        rest = r.rest;
        left = r.left;
        counted = r.counted;
        coming = r.coming;
        underway = rebuilt text r.coming Built r.underway Other other;
        comes = r.comes;
      }

  -- the text isn't read to its end
  pub unread : (fault : InputFault) → IfSome left (λ rest. MayRefuseBytes (passed.bytes + length rest) fault)
      → IfSome known (λ text. MayRefuseText text (Input fault))
  unread fault told = on known reading
    where
      on : (known : Option (List ℕ)) → IfSome known (λ text. IsReading text next line passed left Built)
          → IfSome known (λ text. MayRefuseText text (Input fault))
      on None r = tt
      on (Some text) r =
          input-fault text (passed.bytes + length r.rest) fault r.counted
          (some-is left (λ rest. MayRefuseBytes (passed.bytes + length rest) fault) r.rest r.left told)

  -- all of it was carried out
  pub ends-reading : (d : Described) → next ≡ None → passed.bytes ≤ most → ((k : Kept) → Built k → IsDescribed k d)
      → IfSome known (λ text. Describes text d)
  ends-reading d none few finish = on known reading
    where
      on : (known : Option (List ℕ)) → IfSome known (λ text. IsReading text next line passed left Built)
          → IfSome known (λ text. Describes text d)
      on None r = tt
      on (Some text) r =
          let gone : (r.coming ≡ []) × (r.rest ≡ []) = subst (λ o. Comes o line passed r.rest r.coming) none
          r.comes in (
            omega (arith, few, r.counted, ap length gone.1),
            (r.underway.k, ends text r.coming Built r.underway gone.0, finish r.underway.k r.underway.built),
          )

  module _ (n : ℕ) (is : next ≡ Some n) where
    -- one more line was
    pub reads-on : (command : Command) (Next : Kept → Type 0) (next' : Option ℕ) (line' : List ℕ) (passed' : Passed)
        (behind : Option (List ℕ)) → Some command ≡ line_read line
        → ((k : Kept) → Built k → (k' : Kept) × (carried_out command k ≡ Ok k') × Next k')
        → IfSome left (λ rest. LeavesNext next' passed passed' line' rest behind)
        → IfSome known (λ text. IsReading text next' line' passed' behind Next)
    reads-on command Next next' line' passed' behind read carries leaves = on known reading
      where
        on : (known : Option (List ℕ)) → IfSome known (λ text. IsReading text next line passed left Built)
            → IfSome known (λ text. IsReading text next' line' passed' behind Next)
        on None r = tt
        on (Some text) r =
            let taken : r.coming ≡ (n, line) ∷ left_asking passed r.rest =
            subst (λ o. Comes o line passed r.rest r.coming) is r.comes in
            let more = some-is left (λ rest. LeavesNext next' passed passed' line' rest behind) r.rest r.left leaves in
            record {
              rest = more.rest;
              left = more.left;
              counted = more.counted ∙ r.counted;
              coming = left_asking passed r.rest;
              underway = goes_on text r.coming Built r.underway n line (left_asking passed r.rest) taken command
                  Next read (carries r.underway.k r.underway.built);
              comes = comes-of next' passed passed' line' r.rest more.rest more.told;
            }

    -- it is outside the grammar
    pub outside-told : (result : TextFault) → None ≡ line_read line
        → IfSome left (λ rest. IsTold passed rest (n, Bad) result)
        → IfSome known (λ text. MayRefuseText text result)
    outside-told result read told = on known reading
      where
        on : (known : Option (List ℕ)) → IfSome known (λ text. IsReading text next line passed left Built)
            → IfSome known (λ text. MayRefuseText text result)
        on None r = tt
        on (Some text) r =
            let taken : r.coming ≡ (n, line) ∷ left_asking passed r.rest =
            subst (λ o. Comes o line passed r.rest r.coming) is r.comes in
            told-of text passed r.rest (n, Bad) result r.counted
            (outside text r.coming Built r.underway n line (left_asking passed r.rest) taken read)
            (some-is left (λ rest. IsTold passed rest (n, Bad) result) r.rest r.left told)

    -- memory ran out while it was read
    pub lacking-told : (result : TextFault) → IsSome (line_read line)
        → IfSome left (λ rest. IsTold passed rest (n, NoMemory) result)
        → IfSome known (λ text. MayRefuseText text result)
    lacking-told result read told = on known reading
      where
        on : (known : Option (List ℕ)) → IfSome known (λ text. IsReading text next line passed left Built)
            → IfSome known (λ text. MayRefuseText text result)
        on None r = tt
        on (Some text) r =
            let taken : r.coming ≡ (n, line) ∷ left_asking passed r.rest =
            subst (λ o. Comes o line passed r.rest r.coming) is r.comes in
            told-of text passed r.rest (n, NoMemory) result r.counted
            (lacking text r.coming Built r.underway n line (left_asking passed r.rest) taken read)
            (some-is left (λ rest. IsTold passed rest (n, NoMemory) result) r.rest r.left told)

    -- it can't be carried out
    pub refused-told : (command : Command) (fault : LineFault) (result : TextFault) → Some command ≡ line_read line
        → ((k : Kept) → Built k → Refuses (carried_out command k) fault)
        → IfSome left (λ rest. IsTold passed rest (refusal (left_asking passed rest) (n, fault)) result)
        → IfSome known (λ text. MayRefuseText text result)
    refused-told command fault result read refuses told = on known reading
      where
        on : (known : Option (List ℕ)) → IfSome known (λ text. IsReading text next line passed left Built)
            → IfSome known (λ text. MayRefuseText text result)
        on None r = tt
        on (Some text) r =
            let taken : r.coming ≡ (n, line) ∷ left_asking passed r.rest =
            subst (λ o. Comes o line passed r.rest r.coming) is r.comes in
            told-of text passed r.rest (refusal (left_asking passed r.rest) (n, fault)) result r.counted
            (refused_at text r.coming Built r.underway n line (left_asking passed r.rest) taken command fault read
            (refuses r.underway.k r.underway.built))
            (some-is left (λ rest. IsTold passed rest (refusal (left_asking passed rest) (n, fault)) result) r.rest
            r.left told)
