use Rattle.std.proofs.Common.{◌∙◌, ap, sym}
use Rattle.message_model.specs.Frames.{operation_fits}
use Rattle.message_bytes.proofs.encode.operation_fits.Goals as goal

pub returns-in-Load : goal.returns-in-Load
returns-in-Load c = c.is_within.ensures ∙ ap operation_fits (sym c.in-Load.is)
