-- Inputs that are read up to a limit.
use Rattle.std.proofs.Common.{◌≡◌, ◌≤◌, ◌<◌, ◌++◌, ℕ, List, [], Option, Some, None, length, take, ap, ◌∙◌, arith}
use Rattle.std.proofs.Common.{IfSome}
use Rattle.std.specs.Option.{option_map}
use Rattle.std.proofs.lemmas.List.{take_all, length-take}

-- fewer bytes than the limit were read, so these are all
pub whole-below : (known : Option (List ℕ)) (limit : ℕ) (old new : List ℕ) → old ≡ []
    → IfSome (option_map (take limit) known) (λ xs. new ≡ old ++ xs) → length new < limit
    → IfSome known (λ input. new ≡ input)
whole-below None limit old new empty read few = tt
whole-below (Some xs) limit old new empty read few =
    let same : new ≡ take limit xs = read ∙ ap (λ o. o ++ take limit xs) empty in
    let short : length xs ≤ limit = omega (arith, ap length same, length-take limit xs) in
    same ∙ take_all limit xs short
