use Rattle.std.proofs.Common.{◌≡◌, arith, rules, drop}
use Rattle.message_bytes.proofs.Fronts.{faulty_head, whole_front, faulty_body}
use Rattle.message_bytes.proofs.front.front_of.Goals as goal

pub returns-in-Bad : goal.returns-in-Bad
returns-in-Bad c = faulty_head c.in-Bad.fault c.args.xs.now c.in-Bad.ensures.0 c.in-Bad.ensures.1

pub returns-in-Ok : goal.returns-in-Ok
returns-in-Ok c =
    let behind : c.split_at.result.1.now ≡ drop 10 c.args.xs.now = search rules in
    whole_front c.in-Body.kind c.in-Body.len c.args.xs.now c.in-Ok.frame (λ i. omega (arith, c.type_inv.xs i))
    c.in-Body.ensures c.if-xs-len.false (rw behind at c.in-Ok.ensures)

pub returns-in-Err-Bad : goal.returns-in-Err-Bad
returns-in-Err-Bad c =
    let behind : c.split_at.result.1.now ≡ drop 10 c.args.xs.now = search rules in
    faulty_body c.in-Body.kind c.in-Body.len c.args.xs.now (λ i. omega (arith, c.type_inv.xs i)) c.in-Body.ensures
    c.if-xs-len.false (rw behind at (rw c.in-Err-Bad.field-0-is at c.in-Err-Bad.ensures))
