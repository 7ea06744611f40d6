use Rattle.tree_descriptions.proofs.Streams.{told}
use Rattle.tree_descriptions.proofs.command.plain_stream.Goals as goal

pub returns : goal.returns
returns c = told c.args.line.now c.in_ok-rest.rest.now c.in-Some.name c.in-Some.word.now c.in_ok-rest.ensures
    c.in-Some.ensures.cut c.in-Some.ensures.read
