use Rattle.std.proofs.Common.{ap, ◌+◌}
use Rattle.tree_descriptions.proofs.Built.{whole-put, whole-refused}
use Rattle.tree_storage.specs.Kept.{kept}
use Rattle.tree_descriptions.proofs.building.Building.put_whole.Goals as goal

pub returns-in-Ok : goal.returns-in-Ok
returns-in-Ok c = λ k built.
    whole-put c.args.self.now
    (record { tree = c.make_stream.new.self; spent = c.args.self.now.spent + c.len-size.result }) k
    c.args.path.now c.args.bytes built c.requires
    c.if-is_empty.ensures
    c.in-Ok.ensures (ap (λ n. c.args.self.now.spent + n) c.len-size.ensures)

pub returns-in-Err : goal.returns-in-Err
returns-in-Err c = λ k built.
    rw c.from.ensures (whole-refused c.args.self.now k (kept c.make_stream.new.self) c.args.path.now c.args.bytes
    c.in-Err.fault built c.requires
    c.if-is_empty.ensures
    c.in-Err.ensures)
