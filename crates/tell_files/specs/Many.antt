-- What is known of files that were checked one after another.
use Rattle.std.specs.Prelude.{◌≡◌, ◌++◌, ⊤, ℕ, Bool, List, Option, Some, None, map}
use Rattle.std.specs.List.{list_all}

-- known verdicts grow by more
abbrev pub Notes : Option (List (List ℕ × Bool)) → Option (List (List ℕ × Bool)) → List (List ℕ × Bool) → Type 0
Notes None new more = ⊤
Notes (Some told) None more = ⊥
Notes (Some told) (Some now) more = now ≡ told ++ more

-- There is a verdict of each of these files, in their order, and no other. All are sound, or not.
pub record AreChecked (names : List (List ℕ)) (old new : Option (List (List ℕ × Bool))) (are_sound : Bool) : Type
    0 where
  pub verdicts : List (List ℕ × Bool)
  pub each : map (λ v. v.0) verdicts ≡ names
  pub noted : Notes old new verdicts
  pub all : are_sound ≡ list_all (λ v. v.1) verdicts
