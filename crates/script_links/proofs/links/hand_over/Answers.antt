use Rattle.std.proofs.Common.{◌≡◌, Option, rules, sym, subst}
use Rattle.std.specs.Result.{IsErrAnd}
use Rattle.script_model.specs.Notices.{Notes, Notice, notices}
use Rattle.script_container.proofs.Known.{leaves_by, stopped_on}
use Rattle.script_container.proofs.Noticed.{seen_first, seen_unless}
use Rattle.script_container.proofs.Shown.{memory_shown}
use Rattle.script_links.proofs.links.hand_over.Goals as goal

pub save_all-requires : goal.save_all-requires
save_all-requires g c =
    let before = notices (g.H.Host.told c.args.host.now) in
    record {
      known = record {
        told = c.message.ensures.told;
        seen = seen_first before (notices (g.H.Host.told c.message.new.host)) c.args.noticed.now c.notice_of.result
            c.first_of.result c.first_of.ensures c.requires.known.seen
            (subst (λ (n : Option Notice). Notes before n c.notice_of.result) (sym c.in-Ok.ensures.noticed)
            (c.notice_of.ensures before));
      };
    }

pub returns-in_err-save_all-in-Ok-clause-leaves : goal.returns-in_err-save_all-in-Ok-clause-leaves
returns-in_err-save_all-in-Ok-clause-leaves g c =
    let again : IsErrAnd c.from_residual.result (λ x. x ≡ c.in_err-save_all-in-Ok.field-0.0) = search rules in
    stopped_on g.H.Disk.Disk c.from_residual.result c.in_err-save_all-in-Ok.field-0.0
    (g.H.Host.told c.save_all.new.host) c.save_all.new.core c.save_all.new.noticed again
    c.in_err-save_all-in-Ok.ensures.leaves

pub returns-in-Err-clause-leaves : goal.returns-in-Err-clause-leaves
returns-in-Err-clause-leaves g c =
    leaves_by g.H.Disk.Disk c.refused.result (g.H.Host.told c.message.new.host) c.message.new.core
    c.args.noticed.now c.message.ensures.told
    (seen_unless c.refused.result c.in-Err.fault (notices (g.H.Host.told c.args.host.now))
    (notices (g.H.Host.told c.message.new.host)) c.args.noticed.now c.refused.ensures.known
    c.in-Err.ensures.unnoticed c.requires.known.seen)
    (memory_shown g.H.Disk.Disk c.refused.result (g.H.Host.told c.message.new.host) c.refused.ensures.lacking)
