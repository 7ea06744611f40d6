-- What a description is refused for once the command of a line can't be carried out.
use Rattle.std.specs.Prelude.{ℕ, List, [], ◌∷◌, cond, is_some}
use Rattle.tree_descriptions.specs.Commands.{line_read}
use Rattle.tree_descriptions.specs.declared.fault.LineFault.{LineFault}
use Rattle.tree_descriptions.specs.declared.fault.LineFault.TheVariants.{Bad}

-- the first of the lines behind it that is outside the grammar, or else its own fault
abbrev pub refusal : List (ℕ × List ℕ) → ℕ × LineFault → ℕ × LineFault
refusal [] told = told
refusal ((n, line) ∷ left) told = cond (is_some (line_read line)) (refusal left told) (n, Bad)
