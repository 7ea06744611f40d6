-- What a line asks for, with its number.
use Rattle.std.proofs.Common.{ℕ, Option, Some, None, refl, rules}
use Rattle.std.specs.Option.{option_map}
use Rattle.std.specs.Prelude.{IsSome}
use Rattle.tree_edits.specs.declared.change.Line.{Line}

no_line : IsSome {T = Line} None → ⊥
no_line h = search rules

pub numbered_within : (n : ℕ) (read : Option Line) → IsSome read
    → IsSome {T = ℕ × Line} (option_map (λ asked. (n, asked)) read)
numbered_within n (Some asked) is = refl
numbered_within n None is = absurd (no_line is)
