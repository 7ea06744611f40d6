use Rattle.std.proofs.Common.{◌∷◌, ◌∙◌, [], List, ℕ, ap, refl, subst, sym}
use Rattle.std.proofs.lemmas.Result.{IfOk-at_ok}
use Rattle.script_model.specs.Events.{Shut}
use Rattle.script_model.specs.Saved.{IsReadOf}
use Rattle.script_opens.proofs.Reading.{err_same, fault_told, read_told}
use Rattle.script_container.specs.Servers.{servers, turned}
use Rattle.script_opens.proofs.opens.open_disk.Goals as goal

pub returns-in-Ok-clause-first : goal.returns-in-Ok-clause-first
returns-in-Ok-clause-first g c =
    let disk = c.document_on-file.result.1 in
    read_told g.H.Disk.Disk c.args.name c.deref.result.now c.args.width c.args.height
    (g.H.Host.told c.args.host.now) (g.H.Host.told c.shut.new.self) (g.H.Host.told c.open_found.new.host)
    c.args.disk disk c.requires.found
    (c.shut.ensures ∙ ap (λ (n : List ℕ). Shut n disk ∷ g.H.Host.told c.args.host.now) c.as_slice.ensures)
    c.open_found.result
    (λ m. subst (λ (b : List ℕ). IsReadOf g.H.Disk.Disk c.args.disk b disk) (sym c.deref.ensures.value)
    (IfOk-at_ok (λ file. IsReadOf g.H.Disk.Disk c.args.disk file.items disk) c.in-Ok.is
    (c.document_on-file.ensures.read m)))
    c.open_found.ensures.opened

pub returns-in-Err-clause-first : goal.returns-in-Err-clause-first
returns-in-Err-clause-first g c =
    let disk = c.document_on-file.result.1 in
    fault_told g.H.Disk.Disk c.args.name [] c.args.width c.args.height (g.H.Host.told c.args.host.now)
    (g.H.Host.told c.shut.new.self) (g.H.Host.told c.shut.new.self) c.args.disk disk c.requires.found
    (c.shut.ensures ∙ ap (λ (n : List ℕ). Shut n disk ∷ g.H.Host.told c.args.host.now) c.as_slice.ensures)
    c.unread.result c.in-Err.fault (λ m is. c.document_on-file.ensures.large m
    (err_same c.in-Err.fault c.in-Err.is is)) refl c.unread.ensures.told

pub returns-in-Ok-clause-serving : goal.returns-in-Ok-clause-serving
unfolding servers turned
returns-in-Ok-clause-serving g c = c.open_found.ensures.serving ∙ ap servers c.shut.ensures

pub returns-in-Err-clause-serving : goal.returns-in-Err-clause-serving
unfolding servers turned
returns-in-Err-clause-serving g c = ap servers c.shut.ensures
