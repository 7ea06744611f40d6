use Rattle.std.proofs.Common.{None, refl, ◌∙◌, ap}
use Rattle.script_opens.proofs.Reading.{found_none, none_found, not_found}
use Rattle.script_container.specs.Servers.{servers, turned}
use Rattle.script_opens.proofs.opens.open_named.Goals as goal

pub returns-in-Ok-None-clause-first : goal.returns-in-Ok-None-clause-first
returns-in-Ok-None-clause-first g c =
    none_found g.H.Disk.Disk c.args.name c.args.width c.args.height (g.H.Host.told c.args.host.now)
    (g.H.Host.told c.find.new.self)
    (found_none (g.H.Host.told c.args.host.now) (g.H.Host.told c.find.new.self) c.args.name c.as_slice.result.now
    c.in-Ok-None.field-0 c.in-Ok-None.ensures.told c.as_slice.ensures c.in-Ok-None.field-0-is)

pub returns-in-Err-clause-first : goal.returns-in-Err-clause-first
returns-in-Err-clause-first g c =
    not_found g.H.Disk.Disk c.args.name c.args.width c.args.height (g.H.Host.told c.args.host.now)
    (g.H.Host.told c.find.new.self)
    (found_none (g.H.Host.told c.args.host.now) (g.H.Host.told c.find.new.self) c.args.name c.as_slice.result.now
    None c.in-Err.ensures.told c.as_slice.ensures refl) c.unfound.result c.in-Err.fault c.unfound.ensures.told

pub returns-in-Ok-Some-clause-serving : goal.returns-in-Ok-Some-clause-serving
unfolding servers turned
returns-in-Ok-Some-clause-serving g c = c.open_disk.ensures.serving ∙ ap servers c.find.ensures.told

pub returns-in-Ok-None-clause-serving : goal.returns-in-Ok-None-clause-serving
unfolding servers turned
returns-in-Ok-None-clause-serving g c = ap servers c.find.ensures.told

pub returns-in-Err-clause-serving : goal.returns-in-Err-clause-serving
unfolding servers turned
returns-in-Err-clause-serving g c = ap servers c.find.ensures.told
