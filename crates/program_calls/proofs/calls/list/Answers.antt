use Rattle.std.proofs.Common.{◌∙◌, inl}
use Rattle.program_calls.proofs.calls.list.Goals as goal

pub returns-in-Ok-text : goal.returns-in-Ok-text
returns-in-Ok-text c =
    let placed = c.in-Ok.ensures.placed in
    inl (
      c.deref.result.now,
      (placed.0, c.in-Ok.outline, placed.1, c.deref.ensures.value ∙ c.in-Ok-text.ensures),
      c.put.ensures.put,
      c.put.ensures.needed,
    )
