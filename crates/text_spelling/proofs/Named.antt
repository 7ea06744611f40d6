-- The names of a path, one after another.
use Rattle.std.proofs.Common.{◌≡◌, ◌++◌, ◌∷◌, ℕ, Bool, List, Option, Some, None, Result, Ok, Err, true, false, is_some}
use Rattle.std.proofs.Common.{[], append_assoc, refl, sym, ap, ◌∙◌}
use Rattle.std.specs.Option.{option_map}
use Rattle.cfb_names.specs.Names.{name_read as taken_name}
use Rattle.cfb_names.specs.declared.fault.DirFault.{DirFault}
use Rattle.text_spelling.specs.Paths.{name_read, named, named_onto, names_read}
use Rattle.text_spelling.specs.Words.{onto}
use Rattle.text_spelling.proofs.Hex.{none-onto, some-onto}

-- names before those that are read behind them
abbrev pub behind : List (List ℕ) → Result (List (List ℕ)) DirFault → Result (List (List ℕ)) DirFault
behind front (Ok names) = Ok (front ++ names)
behind front (Err fault) = Err fault

-- a name that a directory doesn't take
pub named-fault : (front : List (List ℕ)) (name : List ℕ) (fault : DirFault) (part : Option (List ℕ))
    (parts : Option (List (List ℕ))) → part ≡ Some name → taken_name name ≡ Err fault
    → option_map (λ ns. Err fault) parts ≡ option_map (λ ns. behind front (named ns)) (onto part parts)
named-fault front name fault part None is not = ap (λ p. option_map (λ ns. behind front (named ns)) (onto p None))
    (sym is)
named-fault front name fault part (Some ns) is not =
    ap (λ r. Some (behind front (named_onto r (named ns)))) (sym not)
    ∙ ap (λ p. option_map (λ ns. behind front (named ns)) (onto p (Some ns))) (sym is)

-- a name that a directory takes
behind-more : (front : List (List ℕ)) (name : List ℕ) (names : Result (List (List ℕ)) DirFault)
    → behind (front ++ name ∷ []) names ≡ behind front (named_onto (Ok name) names)
behind-more front name (Ok names) = ap Ok (append_assoc front (name ∷ []) names)
behind-more front name (Err fault) = refl

pub named-more : (front : List (List ℕ)) (name : List ℕ) (part : Option (List ℕ)) (parts : Option (List (List ℕ)))
    → part ≡ Some name → taken_name name ≡ Ok name
    → option_map (λ ns. behind (front ++ name ∷ []) (named ns)) parts ≡ option_map (λ ns. behind front (named ns))
    (onto part parts)
named-more front name part None is taken = ap (λ p. option_map (λ ns. behind front (named ns)) (onto p None)) (sym is)
named-more front name part (Some ns) is taken =
    ap Some (behind-more front name (named ns))
    ∙ ap (λ r. Some (behind front (named_onto r (named ns)))) (sym taken)
    ∙ ap (λ p. option_map (λ ns. behind front (named ns)) (onto p (Some ns))) (sym is)

-- whether parts are names, where the first of them is one, and where it isn't
pub more-names : (part : List ℕ) (parts rest : List (List ℕ)) (whole : Bool) → parts ≡ part ∷ rest
    → true ≡ is_some (name_read part)
    → is_some (names_read parts) ≡ whole → is_some (names_read rest) ≡ whole
more-names part parts rest whole cut is so = some-onto (name_read part) (names_read rest) is
    ∙ ap (λ ps. is_some (names_read ps)) (sym cut) ∙ so

pub no-name : (part : List ℕ) (parts rest : List (List ℕ)) (whole : Bool) → parts ≡ part ∷ rest
    → false ≡ is_some (name_read part)
    → is_some (names_read parts) ≡ whole → false ≡ whole
no-name part parts rest whole cut is so = none-onto (name_read part) (names_read rest) is
    ∙ ap (λ ps. is_some (names_read ps)) (sym cut) ∙ so
