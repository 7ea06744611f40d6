use Rattle.std.proofs.Common.{rules}
use Rattle.ole_model.proofs.ole_stream.OleStream.read.Goals as goal

pub returns : goal.returns
returns c = search rules
