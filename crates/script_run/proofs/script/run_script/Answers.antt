use Rattle.std.proofs.Common.{◌≡◌, ap, false}
use Rattle.container_model.specs.Record.{Record}
use Rattle.script_model.specs.Errors.{before_ends, is_asked}
use Rattle.script_model.specs.Saved.{is_any_unsaved}
use Rattle.script_links.proofs.Going.{lawful_of}
use Rattle.script_run.proofs.Faulted.{ended_so, unread_so}
use Rattle.script_run.proofs.HeldBack.{back_ended, back_none}
use Rattle.script_run.proofs.Holding.{released_still}
use Rattle.script_run.proofs.Settled.{settled_still}
use Rattle.script_run.proofs.Writing.{all_ended, none_written, of_commands, some_ended, unread_none}
use Rattle.script_run.proofs.script.run_script.Goals as goal

pub returns-in-Err-clause-faulted : goal.returns-in-Err-clause-faulted
returns-in-Err-clause-faulted g c = unread_so g.H.Disk.Disk (g.R.Read.remaining c.args.reader.now)
    (g.H.Host.told c.args.host.now) c.in-Err.fault c.requires c.in-Err.ensures.refused

pub returns-clause-faulted : goal.returns-clause-faulted
returns-clause-faulted g c =
    ended_so g.H.Disk.Disk c.carry_out_all-told.result (g.R.Read.remaining c.args.reader.now) c.in-Ok.commands.items
    (g.H.Host.told c.carry_out_all-told.new.host) (g.H.Host.told c.end_all.new.host) c.in-Ok.ensures.read
    c.end_all.ensures.ends c.carry_out_all-told.ensures.shown

pub returns-clause-settled : goal.returns-clause-settled
returns-clause-settled g c =
    settled_still c.carry_out_all-told.result (g.H.Host.told c.carry_out_all-told.new.host)
    (g.H.Host.told c.end_all.new.host) c.carry_out_all-told.new.progress.core c.carry_out_all-told.ensures.told
    c.end_all.ensures.ends c.carry_out_all-told.ensures.settled

pub carry_out_all-told-requires-clause-quiet : goal.carry_out_all-told-requires-clause-quiet
carry_out_all-told-requires-clause-quiet g c = λ s asked. let none : is_asked s c.new-core.result.objects ≡ false =
    ap (λ (r : Record). is_asked s r.objects) c.new-core.ensures.empty in absurd (cc)

pub carry_out_all-told-requires-clause-saved : goal.carry_out_all-told-requires-clause-saved
carry_out_all-told-requires-clause-saved g c = ap (λ (r : Record). is_any_unsaved r.frames) c.new-core.ensures.empty

pub returns-in-Err-clause-begun_printed : goal.returns-in-Err-clause-begun_printed
returns-in-Err-clause-begun_printed g c =
    unread_none g.H.Disk.Disk (before_ends (g.H.Host.told c.args.host.now)) (g.R.Read.remaining c.args.reader.now)
    (g.W.Write.contents c.args.writer.now) c.in-Err.fault c.in-Err.ensures.refused

pub returns-in_default-clause-begun_printed : goal.returns-in_default-clause-begun_printed
returns-in_default-clause-begun_printed g c = none_written g.H.Disk.Disk (g.H.Host.told c.args.host.now)
    (g.R.Read.remaining c.args.reader.now) c.in-Ok.commands.items (g.W.Write.contents c.args.writer.now)
    c.in-Ok.ensures.read c.requires

pub returns-clause-printed : goal.returns-clause-printed
returns-clause-printed g c =
    all_ended g.H.Disk.Disk c.carry_out_all-told.result (g.R.Read.remaining c.args.reader.now)
    c.in-Ok.commands.items (g.H.Host.told c.carry_out_all-told.new.host) (g.H.Host.told c.end_all.new.host)
    c.carry_out_all-told.new.progress.core
    (g.W.Write.contents c.args.writer.now) (g.W.Write.contents c.carry_out_all-told.new.writer) c.in-Ok.ensures.read
    c.carry_out_all-told.ensures.told c.end_all.ensures.ends c.carry_out_all-told.ensures.printed

pub returns-clause-begun_printed : goal.returns-clause-begun_printed
returns-clause-begun_printed g c =
    some_ended g.H.Disk.Disk c.carry_out_all-told.result (g.R.Read.remaining c.args.reader.now)
    c.in-Ok.commands.items (g.H.Host.told c.carry_out_all-told.new.host) (g.H.Host.told c.end_all.new.host)
    c.carry_out_all-told.new.progress.core
    (g.W.Write.contents c.args.writer.now) (g.W.Write.contents c.carry_out_all-told.new.writer) c.in-Ok.ensures.read
    c.carry_out_all-told.ensures.told c.end_all.ensures.ends
    (of_commands g.H.Disk.Disk c.carry_out_all-told.result c.in-Ok.commands.items
    (g.H.Host.told c.carry_out_all-told.new.host) c.carry_out_all-told.ensures.shown)
    c.carry_out_all-told.ensures.begun_printed

pub returns-clause-released : goal.returns-clause-released
returns-clause-released g c =
    released_still c.carry_out_all-told.result (g.R.Read.remaining c.args.reader.now) c.in-Ok.commands.items
    (g.H.Host.told c.carry_out_all-told.new.host) (g.H.Host.told c.end_all.new.host)
    c.carry_out_all-told.new.progress.core c.in-Ok.ensures.read c.carry_out_all-told.ensures.told c.end_all.ensures.ends
    c.carry_out_all-told.ensures.released

pub returns-in-Err-clause-held_back : goal.returns-in-Err-clause-held_back
returns-in-Err-clause-held_back g c = back_none (g.R.Read.remaining c.args.reader.now)
    (g.H.Host.told c.args.host.now) c.requires

pub returns-in_default-clause-held_back : goal.returns-in_default-clause-held_back
returns-in_default-clause-held_back g c = back_none (g.R.Read.remaining c.args.reader.now)
    (g.H.Host.told c.args.host.now) c.requires

pub returns-clause-held_back : goal.returns-clause-held_back
returns-clause-held_back g c =
    back_ended (g.R.Read.remaining c.args.reader.now) c.in-Ok.commands.items
    (g.H.Host.told c.carry_out_all-told.new.host) (g.H.Host.told c.end_all.new.host) c.in-Ok.ensures.read
    c.end_all.ensures.ends c.carry_out_all-told.ensures.held_back

pub end_all-requires-clause-lawful : goal.end_all-requires-clause-lawful
end_all-requires-clause-lawful g c = lawful_of g.H.Disk.Disk (g.H.Host.told c.carry_out_all-told.new.host)
    c.carry_out_all-told.new.progress.core c.carry_out_all-told.ensures.told
