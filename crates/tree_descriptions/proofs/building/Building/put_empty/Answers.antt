use Rattle.std.proofs.Common.{ap, sym, ◌∙◌}
use Rattle.tree_storage.specs.Kept.{kept, put}
use Rattle.tree_descriptions.proofs.Built.{exists, outline-refused}
use Rattle.tree_descriptions.proofs.building.Building.put_empty.Goals as goal

pub returns-then-is_taken-clause-refused : goal.returns-then-is_taken-clause-refused
returns-then-is_taken-clause-refused c = λ k bytes built.
    exists c.args.self.now k c.args.path.now bytes built
    (sym c.is_taken.ensures ∙ c.if-is_taken.true)

pub returns-in-Ok-clause-made : goal.returns-in-Ok-clause-made
returns-in-Ok-clause-made c = ap (λ x. put c.args.path.now x (kept c.args.self.now.tree)) (sym c.new.ensures)
    ∙ c.in-Ok.ensures

pub returns-in-Err-clause-refused : goal.returns-in-Err-clause-refused
returns-in-Err-clause-refused c = λ k bytes built.
    rw c.from.ensures (outline-refused c.args.self.now k (kept c.put_stream.new.self) c.args.path.now bytes
    c.in-Err.fault built
    (sym c.is_taken.ensures ∙ c.if-is_taken.false)
    (rw c.new.ensures at c.in-Err.ensures))
