use Rattle.std.proofs.Common.{◌<◌, length, refl, arith}
use Rattle.message_bytes.proofs.Bodies.{body_goes_on}
use Rattle.message_bytes.proofs.feeding.feed_body.Goals as goal

pub returns-in-Ok-clause-grows : goal.returns-in-Ok-clause-grows
returns-in-Ok-clause-grows c rest h =
    let few : length c.args.piece.now < c.args.body.now.to_come =
    omega (arith, c.if-piece-n.true, c.to_come-n.ensures) in
    let g = body_goes_on c.args.body.now c.grow.new.self rest c.args.piece.now
    (λ i. omega (arith, c.type_inv.piece i)) h c.in-Ok.ensures.goes few in
    (refl, g.0, g.1)
