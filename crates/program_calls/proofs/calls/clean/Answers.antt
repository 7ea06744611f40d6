use Rattle.std.proofs.Common.{inl, inr, refl}
use Rattle.program_calls.proofs.Answered.{unread}
use Rattle.program_calls.proofs.calls.clean.Goals as goal

pub returns-in-Err : goal.returns-in-Err
returns-in-Err c =
    inr (
      c.read_number.ensures.fault,
      inl (unread c.args.file.now c.read_file.result c.in-Err.fault c.read_number.result c.in-Err.is
          c.read_number.ensures.number c.read_file.ensures.header c.read_file.ensures.reads
          c.read_file.ensures.refused),
      refl,
      refl,
    )
