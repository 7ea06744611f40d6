use Rattle.std.proofs.Common.{List, ℕ, subst}
use Rattle.read_files.specs.Reads.{MayRefuseFind}
use Rattle.read_files.proofs.ReadingAlike.{alike_read}
use Rattle.tell_files.proofs.Gotten.{lies_at, missing}
use Rattle.tell_files.proofs.getting.place_of.Goals as goal

pub returns-in-Ok-clause-found : goal.returns-in-Ok-clause-found
returns-in-Ok-clause-found c = λ a h. lies_at a c.args.catalog.now.file c.args.path.now h c.in-Ok.place
    c.in-Ok.ensures.found

pub returns-in-Err-Read-clause-refused : goal.returns-in-Err-Read-clause-refused
returns-in-Err-Read-clause-refused c = λ a h.
    let b : List ℕ = c.args.catalog.now.file in
    alike_read a b c.in-Err-Read.fault h (subst (MayRefuseFind b c.args.path.now) c.in-Err-Read.field-0-is
    c.in-Err-Read.ensures.refused)

pub returns-in-Err-Tree-clause-refused : goal.returns-in-Err-Tree-clause-refused
returns-in-Err-Tree-clause-refused c = λ a h.
    let b : List ℕ = c.args.catalog.now.file in
    missing a b c.args.path.now h c.in-Err-Tree.fault
    (subst (MayRefuseFind b c.args.path.now) c.in-Err-Tree.field-0-is c.in-Err-Tree.ensures.refused)
