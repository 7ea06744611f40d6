use Rattle.std.proofs.Common.{ℕ, List, Option, refl}
use Rattle.read_files.specs.Reads.{MayRefuseRead}
use Rattle.text_io.specs.Input.{MayRefuseInput}
use Rattle.tell_lists.proofs.Listed.{some_map}
use Rattle.tell_lists.specs.declared.fault.ListFault.TheVariants as list
use Rattle.tell_files.specs.Checks.{MayRefuseCheck, Tells}
use Rattle.tell_files.proofs.Input.{of_input, some_all}
use Rattle.tell_files.proofs.checking.tell_fault.Goals as goal

pub returns-in-Err-clause-told : goal.returns-in-Err-clause-told
returns-in-Err-clause-told g c = some_all (g.S.Source.bytes c.args.source.now) _ (λ _. refl)

pub returns-in-Err-clause-ends : goal.returns-in-Err-clause-ends
returns-in-Err-clause-ends g c =
    some_map (g.S.Source.bytes c.args.source.now) (λ file. MayRefuseInput file c.in-Err.fault)
    (λ file. MayRefuseRead file c.args.fault → MayRefuseCheck file (list.Input c.in-Err.fault)) (λ file r _. r)
    c.in-Err.ensures.refused

pub returns-clause-told : goal.returns-clause-told
returns-clause-told g c =
    let old : Option (List ℕ) = g.W.Write.contents c.args.writer.now in
    let new : Option (List ℕ) = g.W.Write.contents c.tell_spot.new.writer in
    of_input (λ file. Tells file c.args.form c.tell_spot.result old new) (g.S.Source.bytes c.args.source.now)
    c.in-Ok.file.items c.deref.result.now c.in-Ok.ensures.whole c.deref.ensures.value c.tell_spot.ensures.told

pub returns-clause-ends : goal.returns-clause-ends
returns-clause-ends g c =
    of_input (λ file. MayRefuseRead file c.args.fault → MayRefuseCheck file c.tell_spot.result)
    (g.S.Source.bytes c.args.source.now)
    c.in-Ok.file.items c.deref.result.now c.in-Ok.ensures.whole c.deref.ensures.value c.tell_spot.ensures.ends
