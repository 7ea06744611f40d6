use Rattle.std.proofs.Common.{ap, sym, ◌∙◌, refl}
use Rattle.tree_storage.specs.Kept.{kept, made}
use Rattle.tree_descriptions.proofs.Built.{storage-made, storage-refused}
use Rattle.tree_descriptions.specs.Description.{zero_class}
use Rattle.tree_descriptions.proofs.building.Building.make_storage.Goals as goal

pub returns-in-Ok : goal.returns-in-Ok
returns-in-Ok c = λ k built.
    storage-made c.args.self.now (record { tree = c.make_storage.new.self; spent = c.args.self.now.spent }) k
    c.args.path.now zero_class 0 built
    (ap (λ class. made c.args.path.now class 0 (kept c.args.self.now.tree)) (sym c.from_bytes.ensures)
    ∙ c.in-Ok.ensures) refl

pub returns-in-Err : goal.returns-in-Err
returns-in-Err c = λ k built.
    rw c.from.ensures (storage-refused c.args.self.now k (kept c.make_storage.new.self) c.args.path.now zero_class 0
    c.in-Err.fault built
    (rw c.from_bytes.ensures at c.in-Err.ensures))
