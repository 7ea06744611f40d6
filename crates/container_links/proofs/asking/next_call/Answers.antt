use Rattle.std.proofs.Common.{arith}
use Rattle.container_links.proofs.asking.next_call.Goals as goal

pub overflow_add-link : goal.overflow_add-link
overflow_add-link c = omega (arith, c.requires)

pub returns : goal.returns
returns c = rw (c.call.ensures, c.in_ok-copy.ensures)
