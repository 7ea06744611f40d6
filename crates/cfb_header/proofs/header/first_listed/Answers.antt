use Rattle.cfb_header.proofs.Headers.{first_listed_is}
use Rattle.cfb_header.proofs.header.first_listed.Goals as goal

pub returns : goal.returns
returns c = first_listed_is c.args.fat.now c.copy_from_slice.new.self c.min-count.result c.min-count.ensures
    c.copy_from_slice.ensures.after
