use Rattle.std.proofs.Common.{◌∙◌, List, Option, arith, refl, sym, ℕ}
use Rattle.folder_commands.specs.Extracting.{of_folder_fault}
use Rattle.folder_commands.specs.declared.fault.ExtractFault.TheVariants.{NoMemory}
use Rattle.folder_commands.proofs.Stopped.{as_told, cut_short, extracts, no_memory, unplanned}
use Rattle.folder_commands.proofs.extracting.extract_file.Goals as goal

pub returns-in-Err-plan_asked-clause-stopped : goal.returns-in-Err-plan_asked-clause-stopped
returns-in-Err-plan_asked-clause-stopped g c =
    let known : Option (List ℕ) = g.S.Source.bytes c.args.source.now in
    as_told c.args.paths.now known _ _ c.unmade-in-Err-plan_asked.result.made 0
    c.unmade-in-Err-plan_asked.result.fault c.in-Err-plan_asked.fault
    c.unmade-in-Err-plan_asked.ensures.made c.unmade-in-Err-plan_asked.ensures.fault
    (unplanned c.args.paths.now known c.in-Ok.opened (g.F.Folder.made c.args.folder.now)
    (g.F.Folder.made c.args.folder.now) c.in-Err-plan_asked.fault
    c.in-Ok.ensures.opened c.in-Err-plan_asked.ensures.refused)

pub returns-in-Err-new-clause-stopped : goal.returns-in-Err-new-clause-stopped
returns-in-Err-new-clause-stopped g c =
    let known : Option (List ℕ) = g.S.Source.bytes c.args.source.now in
    as_told c.args.paths.now known _ _ c.unmade-in-Err-new.result.made 0 c.unmade-in-Err-new.result.fault NoMemory
    c.unmade-in-Err-new.ensures.made c.unmade-in-Err-new.ensures.fault
    (no_memory c.args.paths.now known c.in-Ok.opened (g.F.Folder.made c.args.folder.now)
    (g.F.Folder.made c.args.folder.now) c.in-Ok.ensures.opened)

pub returns-in-Ok-make_all-clause-extracted : goal.returns-in-Ok-make_all-clause-extracted
returns-in-Ok-make_all-clause-extracted g c =
    extracts c.args.paths.now (g.S.Source.bytes c.args.source.now) c.in-Ok.opened c.in-Ok-plan_asked.planned.items
    c.deref.result.now
    (g.F.Folder.made c.args.folder.now) (g.F.Folder.made c.make_all.new.folder) c.len.result
    c.in-Ok.ensures.opened c.in-Ok-plan_asked.ensures.there c.in-Ok-plan_asked.ensures.planned c.deref.ensures.value
    (omega (arith, c.len.ensures, c.in-Ok-plan_asked.planned.ok.0))
    (λ a known len. c.in-Ok-make_all.ensures.all a (c.open.ensures.kept ∙ known) len
    (c.in-Ok-new.ensures a c.in-Ok.opened.tables))

pub returns-clause-stopped : goal.returns-clause-stopped
returns-clause-stopped g c =
    let known : Option (List ℕ) = g.S.Source.bytes c.args.source.now in
    as_told c.args.paths.now known _ _ c.in-Err-make_all.made c.in-Err-make_all.made c.of_folder.result
    (of_folder_fault c.path_at.result c.in-Err-make_all.fault) refl c.of_folder.ensures
    (cut_short c.args.paths.now known c.in-Ok.opened c.in-Ok-plan_asked.planned.items c.deref.result.now
    (g.F.Folder.made c.args.folder.now) (g.F.Folder.made c.make_all.new.folder) c.in-Err-make_all.made
    c.path_at.result c.in-Err-make_all.fault
    c.in-Ok.ensures.opened c.in-Ok-plan_asked.ensures.planned c.deref.ensures.value c.in-Err-make_all.ensures.some.0
    (λ a is len. c.in-Err-make_all.ensures.some.1 a (c.open.ensures.kept ∙ is) len
    (c.in-Ok-new.ensures a c.in-Ok.opened.tables))
    c.path_at.ensures)
