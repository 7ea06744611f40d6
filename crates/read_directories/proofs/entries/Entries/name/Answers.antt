use Rattle.std.proofs.Common.{IfErr, subst}
use Rattle.cfb_entries.specs.Entries.{EntriesValue, MayRefuseEntry}
use Rattle.read_directories.proofs.entries.Entries.name.Goals as goal

pub returns-clause-refused : goal.returns-clause-refused
returns-clause-refused c = subst (λ (e : EntriesValue). IfErr c.name.result (MayRefuseEntry e.directory c.args.id))
    c.self.view_is c.name.ensures.refused
