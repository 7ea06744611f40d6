use Rattle.message_bytes.proofs.Adding.{refused_alone}
use Rattle.message_bytes.proofs.encode.encode.Goals as goal

pub returns-in-Err : goal.returns-in-Err
returns-in-Err c = refused_alone c.in-Err.fault c.new-out.result.items c.encode_into.new.out.items c.args.frame.now
    c.in-Err.ensures
