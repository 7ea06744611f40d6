use Rattle.std.proofs.Common.{refl, subst}
use Rattle.read_files.specs.Reads.{MayRefuseRead}
use Rattle.tell_files.proofs.Input.{some_all}
use Rattle.tell_files.proofs.checking.tell.Goals as goal

pub returns-in-NoMemory-clause-told : goal.returns-in-NoMemory-clause-told
returns-in-NoMemory-clause-told g c = some_all (g.S.Source.bytes c.args.source.now) _ (λ _. refl)

pub returns-in-NoMemory-clause-ends : goal.returns-in-NoMemory-clause-ends
returns-in-NoMemory-clause-ends g c =
    some_all (g.S.Source.bytes c.args.source.now) _ (λ file r. subst (MayRefuseRead file) c.in-NoMemory.is r)
