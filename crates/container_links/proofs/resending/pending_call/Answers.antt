use Rattle.container_links.proofs.resending.pending_call.Goals as goal

pub returns-in_default : goal.returns-in_default
returns-in_default c = rw c.in_default.is

pub returns-in-None : goal.returns-in-None
returns-in-None c = rw (c.in-Some.is, c.in-None.is)

pub returns-in_ok-copy-in-Some-pending : goal.returns-in_ok-copy-in-Some-pending
returns-in_ok-copy-in-Some-pending c =
    rw (c.in-Some.is, c.in-Some-pending.is, c.call.ensures, c.in_ok-copy-in-Some-pending.ensures)
