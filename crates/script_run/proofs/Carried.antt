-- The commands of a script that were carried out, one more at a time.
use Rattle.std.proofs.Common.{◌≡◌, ◌≤◌, ◌+◌, ◌++◌, ◌∙◌, ⊎_elim, inl, inr, ℕ, zero, suc, Bool, true, false, List, []}
use Rattle.std.proofs.Common.{◌∷◌, Some, length, refl, sym, ap, subst, append_assoc, append-nil, arith}
use Rattle.std.specs.Prelude.{slice_get}
use Rattle.script_links.specs.Links.{AreHeld, AreLinked, HoldFor, links_of}
use Rattle.script_links.specs.declared.links.Link.{Link}
use Rattle.script_model.specs.declared.command.ScriptCommand.{ScriptCommand}
use Rattle.script_model.specs.declared.step.Step.{Step}
use Rattle.script_model.specs.declared.step.Step.TheVariants as step
use Rattle.script_model.specs.Courses.{course}
use Rattle.script_model.specs.Errors.{behind_hold, is_held}
use Rattle.script_model.specs.Events.{Event, Stepped}
use Rattle.script_model.specs.Orders.{HaveBegun, IsBegun, behind_command, behind_commands, orders}
use Rattle.script_run.specs.Holding.{IsStillHeld, held_in, runs}
use Rattle.script_commands.proofs.Held.{both_later}
use Rattle.script_run.proofs.Holding.{held_more, held_now, held_on, hold_later, holds_more}

-- Commands begin with those that were carried out, so many of them, and the rest is still to come. The links that hold
-- what comes are those of the servers that run and are held.
pub record SoFar {D : Type 0} (es : List (Event D)) (ls : List Link) (commands rest : List ScriptCommand)
    (count : ℕ) : Type 0 where
  pub front : List ScriptCommand
  pub many : count ≡ length front
  pub are : front ++ rest ≡ commands
  pub ordered : orders es ≡ behind_commands 0 front []
  pub holds : AreHeld (held_now commands es) ls
  pub within : (s : ℕ) → held_in commands es s ≡ true → is_held s front false ≡ true

pub at_place : (front : List ScriptCommand) (c : ScriptCommand) (more : List ScriptCommand) (n : ℕ)
    → n ≡ length front → slice_get (front ++ c ∷ more) n ≡ Some c
at_place [] c more zero is = refl
at_place [] c more (suc n) is = absurd (omega (arith, is))
at_place (x ∷ front) c more zero is = absurd (omega (arith, is))
at_place (x ∷ front) c more (suc n) is = at_place front c more n (omega (arith, is))

one_more : (k n : ℕ) (cs : List ScriptCommand) (c : ScriptCommand) (os : List Step) → n ≡ k + length cs
    → behind_commands k (cs ++ c ∷ []) os ≡ behind_command c (step.Begins n ∷ behind_commands k cs os)
one_more k n [] c os is = let same : n ≡ k = omega (arith, is) in
    ap (λ x. behind_command c (step.Begins x ∷ os)) (sym same)
one_more k n (x ∷ xs) c os is = one_more (k + 1) n xs c (behind_command x (step.Begins k ∷ os)) (omega (arith, is))

module _ {D : Type 0} where
  -- the command that comes next
  pub stands_at : (es : List (Event D)) (ls : List Link) (commands rest more : List ScriptCommand)
      (c : ScriptCommand) (count place : ℕ) → SoFar es ls commands rest count → rest ≡ c ∷ more → place ≡ count
      → slice_get commands place ≡ Some c
  stands_at es ls commands rest more c count place s is at =
      ap (λ (n : ℕ). slice_get commands n) at ∙ ap (λ (cs : List ScriptCommand). slice_get cs count)
      (sym s.are ∙ ap (λ (x : List ScriptCommand). s.front ++ x) is) ∙ at_place s.front c more count s.many

  pub so_far_first : (es : List (Event D)) (ls : List Link) (commands : List ScriptCommand)
      (rest : List ScriptCommand) (count : ℕ) → count ≡ 0 → rest ≡ commands → es ≡ [] → AreHeld (λ s. false) ls
      → SoFar es ls commands rest count
  so_far_first es ls commands rest count none are began free = record {
    front = [];
    many = none;
    are = are;
    ordered = ap orders began;
    holds = subst (λ (h : List (Event D)). AreHeld (held_now commands h) ls) (sym began) free;
    within = subst (λ (h : List (Event D)). (s : ℕ) → held_in commands h s ≡ true → false ≡ true) (sym began)
        (λ s is. is);
  }

  pub so_far_more : (es mid after : List (Event D)) (ls new : List Link) (commands rest more : List ScriptCommand)
      (c : ScriptCommand) (count place next : ℕ) → SoFar es ls commands rest count → place ≡ count
      → next ≡ count + 1 → rest ≡ c ∷ more
      → mid ≡ Stepped (step.Begins place) ∷ es → orders mid ≡ step.Begins place ∷ orders es
      → orders after ≡ behind_command c (orders mid) → (course after).begun ≡ (course mid).begun
      → AreLinked after new
      → ((f : ℕ → Bool) → AreHeld f ls → HoldFor (λ s. behind_hold c s (f s)) new) → SoFar after new commands more next
  so_far_more es mid after ls new commands rest more c count place next s at counts is noted begins carried standing
      linked holding =
      let stands : slice_get commands place ≡ Some c = stands_at es ls commands rest more c count place s is at in
      record {
        front = s.front ++ c ∷ [];
        many = omega (arith, s.many, counts, ap length (λ t. s.front ++ c ∷ []), lengths s.front);
        are = append_assoc s.front (c ∷ []) more ∙ ap (λ x. s.front ++ x) (sym is) ∙ s.are;
        ordered = carried ∙ ap (behind_command c) (begins ∙ ap (λ x. step.Begins place ∷ x) s.ordered)
            ∙ sym (one_more 0 place s.front c [] (omega (arith, at, s.many)));
        holds = holds_more commands c place es mid after new stands noted standing linked
            (holding (held_now commands es) s.holds);
        within = λ n now. held_more n s.front c false
            ∙ hold_later c n (held_now commands es n) (is_held n s.front false)
            (λ was. s.within n (both_later (runs n es) (held_in commands es n) was))
            (held_on commands n c place es mid after stands noted standing ∙ now);
      }
    where
      lengths : (xs : List ScriptCommand) → length (xs ++ c ∷ []) ≡ length xs + 1
      lengths [] = refl
      lengths (x ∷ xs) = omega (arith, lengths xs)

  pub so_far_begun : (es : List (Event D)) (ls : List Link) (commands rest : List ScriptCommand) (count : ℕ)
      → SoFar es ls commands rest count → HaveBegun es commands
  so_far_begun es ls commands rest count s = record {
    front = s.front;
    rest = rest;
    are = sym s.are;
    ordered = inl s.ordered;
  }

  -- the command that the script ended in has begun
  pub last_begun : (es mid after : List (Event D)) (ls : List Link) (commands rest more : List ScriptCommand)
      (c : ScriptCommand) (count place : ℕ) → SoFar es ls commands rest count → place ≡ count → rest ≡ c ∷ more
      → orders mid ≡ step.Begins place ∷ orders es → IsBegun c (orders mid) (orders after) → HaveBegun after commands
  last_begun es mid after ls commands rest more c count place s at is begins begun =
      let behind : orders mid ≡ step.Begins place ∷ behind_commands 0 s.front [] = begins
      ∙ ap (λ x. step.Begins place ∷ x) s.ordered in record {
        front = s.front ++ c ∷ [];
        rest = more;
        are = sym (append_assoc s.front (c ∷ []) more ∙ ap (λ x. s.front ++ x) (sym is) ∙ s.are);
        ordered = ⊎_elim
            (λ given. inl (given ∙ ap (behind_command c) behind
            ∙ sym (one_more 0 place s.front c [] (omega (arith, at, s.many)))))
            (λ kept. inr (
              s.front,
              ap (λ x. s.front ++ x ∷ []) kept.0,
              kept.1 ∙ behind
                  ∙ ap (λ n. step.Begins n ∷ behind_commands 0 s.front []) (at ∙ s.many),
            ))
            begun;
      }

  all_front : (es : List (Event D)) (ls : List Link) (commands rest : List ScriptCommand) (count : ℕ) → rest ≡ []
      → (s : SoFar es ls commands rest count) → s.front ≡ commands
  all_front es ls commands rest count none s = sym (append-nil s.front) ∙ ap (λ x. s.front ++ x) (sym none) ∙ s.are

  pub so_far_all : (es : List (Event D)) (ls : List Link) (commands rest : List ScriptCommand) (count : ℕ)
      → rest ≡ [] → SoFar es ls commands rest count → orders es ≡ behind_commands 0 commands []
  so_far_all es ls commands rest count none s = s.ordered ∙ ap (λ cs. behind_commands 0 cs [])
      (all_front es ls commands rest count none s)

  -- a link that is held behind all of them
  pub left_held : (es : List (Event D)) (ls : List Link) (commands rest : List ScriptCommand) (count : ℕ)
      → rest ≡ [] → SoFar es ls commands rest count → AreLinked es ls
      → ((f : ℕ → Bool) → HoldFor f ls → (server : ℕ) × (1 ≤ links_of server ls) × (f server ≡ true))
      → IsStillHeld es commands
  left_held es ls commands rest count none s linked some =
      let held : (server : ℕ) × (1 ≤ links_of server ls) × (held_now commands es server ≡ true) =
      some (held_now commands es) s.holds.each in
      let now : held_in commands es held.0 ≡ true = both_later (runs held.0 es) (held_in commands es held.0)
      held.2 in record {
        left = record {
          ordered = so_far_all es ls commands rest count none s;
          server = held.0;
          runs = subst (λ (n : ℕ). 1 ≤ n) (sym (linked held.0)) held.1;
          held = ap (λ cs. is_held held.0 cs false) (sym (all_front es ls commands rest count none s))
              ∙ s.within held.0 now;
        };
        held = now;
      }
