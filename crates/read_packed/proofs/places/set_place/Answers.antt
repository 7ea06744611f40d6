use Rattle.std.proofs.Common.{◌∙◌, ◌+◌, ◌-◌, ◌++◌, ap, arith, replicate, take}
use Rattle.read_packed.proofs.Placed.{set_inside, set_past}
use Rattle.read_packed.proofs.places.set_place.Goals as goal

pub returns-then-n-len-clause-put : goal.returns-then-n-len-clause-put
returns-then-n-len-clause-put c = λ count l. set_inside count c.args.places.now.items c.args.n c.args.at
    (omega (arith, c.if-n-len.true, c.len.ensures, c.args.places.now.ok.0))

pub returns-clause-put : goal.returns-clause-put
returns-clause-put c = λ count l.
    set_past count c.args.places.now.items c.resize.new.self.items c.args.n c.args.at
    (omega (arith, c.if-n-len.false, c.len.ensures, c.args.places.now.ok.0)) l
    (c.in_ok-resize.ensures.items
    ∙ ap (λ m. take (c.args.n + 1) c.args.places.now.items ++ replicate (c.args.n + 1 - m) 0) c.args.places.now.ok.0)
