use Rattle.std.proofs.Common.{◌∙◌, inr, ℕ, List, Option, subst}
use Rattle.std.specs.Io.KnownBytes.{Appends}
use Rattle.tell_files.specs.Checks.{TellsFault}
use Rattle.tell_files.proofs.Input.{told_fault}
use Rattle.tell_files.proofs.checking.tell_spot.Goals as goal

pub returns-in-Ok-write_all-clause-told : goal.returns-in-Ok-write_all-clause-told
returns-in-Ok-write_all-clause-told g c =
    let old : Option (List ℕ) = g.W.Write.contents c.args.writer.now in
    let new : Option (List ℕ) = g.W.Write.contents c.write_all.new.writer in
    let told : TellsFault c.args.file.now c.args.form c.args.fault old new = record {
      at = c.in-Ok.spot;
      is_there = c.in-Ok.ensures.there;
      header = c.in-Ok.ensures.header;
      placed = c.in-Ok.ensures.told;
      written = subst (Appends old new) (c.deref.ensures.value ∙ c.in-Ok-told_text.ensures) c.in-Ok-write_all.ensures;
    } in
    told_fault c.args.file.now c.args.form c.args.fault old new c.requires.its_own told

pub returns-in_default-clause-ends : goal.returns-in_default-clause-ends
returns-in_default-clause-ends g c = λ r. inr (c.args.fault, c.requires.its_own, r)

pub returns-clause-ends : goal.returns-clause-ends
returns-clause-ends g c = λ r. inr (c.args.fault, c.requires.its_own, r)
