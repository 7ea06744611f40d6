use Rattle.std.proofs.Common.{inl, ℕ, List, Option, Some, IfSome, subst}
use Rattle.std.specs.Io.KnownBytes.{Appends}
use Rattle.read_files.specs.Reads.{MayRefuseRead}
use Rattle.read_files.specs.declared.fault.ReadFault.{ReadFault}
use Rattle.tell_lists.proofs.Listed.{err_map, ok_map, some_both, some_map}
use Rattle.tell_checks.specs.Json.{sound_text}
use Rattle.tell_files.specs.Checks.{IsSound, IsTaken, IsUnwritten, MayRefuseCheck, Tells}
use Rattle.tell_files.proofs.Input.{some_all, unwritten_judged, unwritten_told}
use Rattle.tell_files.proofs.checking.check_file.Goals as goal

pub returns-in-Ok-None-clause-sound : goal.returns-in-Ok-None-clause-sound
returns-in-Ok-None-clause-sound g c =
    let known : Option (List ℕ) = g.S.Source.bytes c.args.source.now in
    let old : Option (List ℕ) = g.W.Write.contents c.args.writer.now in
    let new : Option (List ℕ) = g.W.Write.contents c.write_sound.new.writer in
    ok_map c.write_sound.result (Appends old new (sound_text c.args.form))
    (IfSome known (λ file. IsSound file c.args.form old new))
    (λ w. some_map known IsTaken (λ file. IsSound file c.args.form old new)
    (λ file d. record { t = d.0; denotes = d.1; few = d.2; written = w })
    (c.in-Ok-None.ensures.sound c.in-Ok-None.field-0-is)) c.write_sound.ensures.written

pub returns-in-Ok-None-clause-refused : goal.returns-in-Ok-None-clause-refused
returns-in-Ok-None-clause-refused g c =
    let known : Option (List ℕ) = g.S.Source.bytes c.args.source.now in
    let old : Option (List ℕ) = g.W.Write.contents c.args.writer.now in
    let new : Option (List ℕ) = g.W.Write.contents c.write_sound.new.writer in
    err_map c.write_sound.result (λ fault. IsUnwritten fault old new)
    (λ fault. IfSome known (λ file. MayRefuseCheck file fault))
    (λ fault h. some_map known IsTaken (λ file. MayRefuseCheck file fault)
    (λ file d. unwritten_judged file fault old new h (inl (d.0, d.1)))
    (c.in-Ok-None.ensures.sound c.in-Ok-None.field-0-is)) c.write_sound.ensures.refused

pub returns-in-Ok-None-clause-told : goal.returns-in-Ok-None-clause-told
returns-in-Ok-None-clause-told g c =
    let known : Option (List ℕ) = g.S.Source.bytes c.args.source.now in
    let old : Option (List ℕ) = g.W.Write.contents c.args.writer.now in
    let new : Option (List ℕ) = g.W.Write.contents c.write_sound.new.writer in
    err_map c.write_sound.result (λ fault. IsUnwritten fault old new)
    (λ fault. IfSome known (λ file. Tells file c.args.form fault old new))
    (λ fault h. some_all known (λ file. Tells file c.args.form fault old new)
    (λ file. unwritten_told file c.args.form fault old new h))
    c.write_sound.ensures.refused

pub returns-in-Ok-Some-clause-refused : goal.returns-in-Ok-Some-clause-refused
returns-in-Ok-Some-clause-refused g c =
    let known : Option (List ℕ) = g.S.Source.bytes c.args.source.now in
    let fault : ReadFault = c.in-Ok-Some.fault in
    some_both known (λ file. MayRefuseRead file fault) (λ file. MayRefuseRead file fault
    → MayRefuseCheck file c.tell.result)
    (λ file. MayRefuseCheck file c.tell.result) (λ file r ends. ends r)
    (subst (λ (v : Option ReadFault). IfSome v (λ f. IfSome known (λ file. MayRefuseRead file f)))
    c.in-Ok-Some.field-0-is c.in-Ok-Some.ensures.at_fault)
    (subst (λ (k : Option (List ℕ)). IfSome k (λ file. MayRefuseRead file fault
    → MayRefuseCheck file c.tell.result)) c.judge.ensures.kept c.tell.ensures.ends)

pub returns-in-Ok-Some-clause-told : goal.returns-in-Ok-Some-clause-told
returns-in-Ok-Some-clause-told g c =
    let old : Option (List ℕ) = g.W.Write.contents c.args.writer.now in
    let new : Option (List ℕ) = g.W.Write.contents c.tell.new.writer in
    subst (λ (k : Option (List ℕ)). IfSome k (λ file. Tells file c.args.form c.tell.result old new))
    c.judge.ensures.kept c.tell.ensures.told
