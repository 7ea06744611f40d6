use Rattle.std.proofs.Common.{arith, inl, inr, refl, subst, sym}
use Rattle.program_calls.proofs.Answered.{outlined}
use Rattle.program_calls.specs.Calls.{IsRefusedText}
use Rattle.program_calls.proofs.calls.make_line.Goals as goal

pub returns-in-Ok-Outline : goal.returns-in-Ok-Outline
returns-in-Ok-Outline c =
    inr (
      omega arith,
      outlined c.args.description.now c.in-Ok-Outline.field-0 c.in-Ok-Outline.field-0-0
          c.in-Ok-Outline.field-0-is c.in-Ok-Outline.ensures.made,
      refl,
      refl,
    )

pub returns : goal.returns
returns c =
    inr (
      c.text_number.ensures.fault,
      inl (subst (λ line. IsRefusedText c.args.description.now line c.text_number.result) (sym c.text_line.ensures)
          (c.text_number.ensures.told c.args.description.now c.in-Err.ensures.refused)),
      refl,
      refl,
    )
