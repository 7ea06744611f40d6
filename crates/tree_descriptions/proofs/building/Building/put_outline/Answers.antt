use Rattle.std.proofs.Common.{arith}
use Rattle.tree_descriptions.proofs.Built.{outline-put}
use Rattle.tree_descriptions.proofs.building.Building.put_outline.Goals as goal

pub returns-in-Ok : goal.returns-in-Ok
returns-in-Ok c = λ k bytes is built.
    outline-put c.args.self.now (record { tree = c.put_empty.new.self.tree; spent = c.saturating_add-self.result })
    k c.args.path.now bytes built
    c.in-Ok.ensures.free c.in-Ok.ensures.made
    (omega (arith, c.saturating_add-self.ensures, c.in-Ok.ensures.same, c.requires))
    (omega (arith, c.saturating_add-self.ensures, c.in-Ok.ensures.same, is))

pub returns-in-Err : goal.returns-in-Err
returns-in-Err c = λ k bytes is built. c.in-Err.ensures.refused k bytes built
