use Rattle.std.proofs.Common.{ℕ, arith, inl, inr, refl, subst, sym}
use Rattle.program_calls.specs.Edits.{MayRefuseLines}
use Rattle.program_calls.specs.declared.editing.LinesFault.TheVariants.{Named}
use Rattle.program_calls.proofs.editing.edit_by.Goals as goal

pub returns-in-Err-Named : goal.returns-in-Err-Named
returns-in-Err-Named c =
    let told : MayRefuseLines c.args.lines.items (Named c.in-Err-Named.named) =
    subst (MayRefuseLines c.args.lines.items) c.in-Err-Named.field-0-is c.in-Err-Named.ensures.refused in
    inr (
      omega arith,
      inl (
        refl,
        subst (λ (n : ℕ). MayRefuseLines c.args.lines.items (Named n))
            (sym c.in-Err-Named.named-is) told,
      ),
      refl,
      c.requires.needed,
    )
