use Rattle.std.proofs.Common.{rules}
use Rattle.ole_model.proofs.comp_obj.write_stream.Goals as goal

pub returns : goal.returns
returns c = search rules
