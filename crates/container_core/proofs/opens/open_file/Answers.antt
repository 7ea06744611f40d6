use Rattle.std.proofs.Common.{option_copied}
use Rattle.container_core.proofs.OpensMade.{barred, passed}
use Rattle.container_core.proofs.opens.open_file.Goals as goal

pub open_named-requires-clause-named : goal.open_named-requires-clause-named
open_named-requires-clause-named c = passed c.args.state.now c.as_slice.result.now c.args.name c.args.w c.args.h
    c.as_slice.ensures c.in-Ok.ensures

pub returns-in-Err-clause-refused : goal.returns-in-Err-clause-refused
returns-in-Err-clause-refused c = barred c.args.state.now c.as_slice.result.now c.args.name c.args.w c.args.h
    (option_copied c.args.file) c.in-Err.fault c.as_slice.ensures c.in-Err.ensures
