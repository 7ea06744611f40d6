use Rattle.std.proofs.Common.{ℕ, List, ◌∙◌, subst}
use Rattle.std.specs.Io.KnownBytes.{Appends}
use Rattle.tell_files.proofs.mapping.write_map.Goals as goal

pub returns-in-Ok-write_all-clause-written : goal.returns-in-Ok-write_all-clause-written
returns-in-Ok-write_all-clause-written g c = λ a h t d told.
    subst (λ (xs : List ℕ). Appends (g.W.Write.contents c.args.writer.now)
    (g.W.Write.contents c.write_all.new.writer) xs) (c.deref.ensures.value ∙ c.in-Ok.ensures.mapped a h t d told)
    c.in-Ok-write_all.ensures
