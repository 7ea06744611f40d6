use Rattle.std.proofs.Common.{◌≡◌, ◌++◌, ◌∙◌, List, None, ap, inr, refl, subst, sym, rules, ℕ}
use Rattle.std.specs.Io.KnownBytes.{Appends}
use Rattle.std.specs.Result.{IsErrAnd}
use Rattle.script_model.specs.Answers.{told_line}
use Rattle.script_model.specs.declared.answer.Told.{Told}
use Rattle.container_model.specs.Record.{Record}
use Rattle.script_model.specs.Errors.{behind_hold}
use Rattle.script_model.specs.Orders.{asked, ordered_by, orders}
use Rattle.script_model.specs.Saved.{is_any_unsaved}
use Rattle.script_links.proofs.Going.{ends_on, memory_ends}
use Rattle.script_commands.proofs.Coursed.{asked_same, begun_same}
use Rattle.script_commands.proofs.Lines.{begins_quiet, line_of}
use Rattle.script_commands.proofs.Ordered.{begun_on}
use Rattle.script_commands.proofs.commands.carry_out.Goals as goal

pub returns-in_err-turns-clause-holding : goal.returns-in_err-turns-clause-holding
returns-in_err-turns-clause-holding g c = λ f hold. c.turns.ensures.kept.holding
    (λ s. behind_hold c.args.command s (f s)) (c.begin.ensures.holding f hold)

pub returns-in_err-push_told-clause-holding : goal.returns-in_err-push_told-clause-holding
returns-in_err-push_told-clause-holding g c = λ f hold. c.turns.ensures.kept.holding
    (λ s. behind_hold c.args.command s (f s)) (c.begin.ensures.holding f hold)

pub returns-in-Ok-clause-holding : goal.returns-in-Ok-clause-holding
returns-in-Ok-clause-holding g c = λ f hold. c.turns.ensures.kept.holding (λ s. behind_hold c.args.command s (f s))
    (c.begin.ensures.holding f hold)

pub returns-clause-holding : goal.returns-clause-holding
returns-clause-holding g c = λ f hold. c.turns.ensures.kept.holding (λ s. behind_hold c.args.command s (f s))
    (c.begin.ensures.holding f hold)

pub returns-then-is_any_unsaved-clause-holding : goal.returns-then-is_any_unsaved-clause-holding
returns-then-is_any_unsaved-clause-holding g c = λ f hold. c.turns.ensures.kept.holding
    (λ s. behind_hold c.args.command s (f s)) (c.begin.ensures.holding f hold)

pub returns-in_err-turns-clause-begun : goal.returns-in_err-turns-clause-begun
returns-in_err-turns-clause-begun g c =
    begun_on c.args.command (orders (g.H.Host.told c.args.host.now)) (asked (g.H.Host.told c.begin.new.host))
    (asked (g.H.Host.told c.turns.new.host))
    (asked_same (g.H.Host.told c.begin.new.host) (g.H.Host.told c.turns.new.host) c.turns.ensures.kept.ordered)
    c.begin.ensures.begun

pub returns-then-is_any_unsaved-clause-begun : goal.returns-then-is_any_unsaved-clause-begun
returns-then-is_any_unsaved-clause-begun g c =
    begun_on c.args.command (orders (g.H.Host.told c.args.host.now)) (asked (g.H.Host.told c.begin.new.host))
    (asked (g.H.Host.told c.turns.new.host))
    (asked_same (g.H.Host.told c.begin.new.host) (g.H.Host.told c.turns.new.host) c.turns.ensures.kept.ordered)
    c.begin.ensures.begun

pub returns-in_err-push_told-clause-begun : goal.returns-in_err-push_told-clause-begun
returns-in_err-push_told-clause-begun g c =
    begun_on c.args.command (orders (g.H.Host.told c.args.host.now)) (asked (g.H.Host.told c.begin.new.host))
    (asked (g.H.Host.told c.turns.new.host))
    (asked_same (g.H.Host.told c.begin.new.host) (g.H.Host.told c.turns.new.host) c.turns.ensures.kept.ordered)
    c.begin.ensures.begun

pub returns-in-Ok-clause-begun : goal.returns-in-Ok-clause-begun
returns-in-Ok-clause-begun g c =
    begun_on c.args.command (orders (g.H.Host.told c.args.host.now)) (asked (g.H.Host.told c.begin.new.host))
    (asked (g.H.Host.told c.turns.new.host))
    (asked_same (g.H.Host.told c.begin.new.host) (g.H.Host.told c.turns.new.host) c.turns.ensures.kept.ordered)
    c.begin.ensures.begun

pub returns-clause-begun : goal.returns-clause-begun
returns-clause-begun g c =
    begun_on c.args.command (orders (g.H.Host.told c.args.host.now)) (asked (g.H.Host.told c.begin.new.host))
    (asked (g.H.Host.told c.turns.new.host))
    (asked_same (g.H.Host.told c.begin.new.host) (g.H.Host.told c.turns.new.host) c.turns.ensures.kept.ordered)
    c.begin.ensures.begun

pub returns-in-Ok-clause-ordered : goal.returns-in-Ok-clause-ordered
returns-in-Ok-clause-ordered g c =
    ap ordered_by (asked_same (g.H.Host.told c.begin.new.host) (g.H.Host.told c.turns.new.host)
    c.turns.ensures.kept.ordered) ∙ c.in_ok-told.ensures.ordered

pub returns-in_err-turns-clause-standing : goal.returns-in_err-turns-clause-standing
returns-in_err-turns-clause-standing g c = begun_same (g.H.Host.told c.begin.new.host)
    (g.H.Host.told c.turns.new.host) c.turns.ensures.kept.ordered ∙ c.begin.ensures.standing

pub returns-then-is_any_unsaved-clause-standing : goal.returns-then-is_any_unsaved-clause-standing
returns-then-is_any_unsaved-clause-standing g c = begun_same (g.H.Host.told c.begin.new.host)
    (g.H.Host.told c.turns.new.host) c.turns.ensures.kept.ordered ∙ c.begin.ensures.standing

pub returns-in_err-push_told-clause-standing : goal.returns-in_err-push_told-clause-standing
returns-in_err-push_told-clause-standing g c = begun_same (g.H.Host.told c.begin.new.host)
    (g.H.Host.told c.turns.new.host) c.turns.ensures.kept.ordered ∙ c.begin.ensures.standing

pub returns-in-Ok-clause-standing : goal.returns-in-Ok-clause-standing
returns-in-Ok-clause-standing g c = begun_same (g.H.Host.told c.begin.new.host) (g.H.Host.told c.turns.new.host)
    c.turns.ensures.kept.ordered ∙ c.begin.ensures.standing

pub returns-clause-standing : goal.returns-clause-standing
returns-clause-standing g c = begun_same (g.H.Host.told c.begin.new.host) (g.H.Host.told c.turns.new.host)
    c.turns.ensures.kept.ordered ∙ c.begin.ensures.standing

pub returns-in-Ok-clause-printed : goal.returns-in-Ok-clause-printed
returns-in-Ok-clause-printed g c =
    line_of g.H.Disk.Disk c.args.command (g.H.Host.told c.begin.new.host) (g.H.Host.told c.turns.new.host)
    c.new-text.result.items c.begin.new.text.items c.push_told.new.text.items c.in_ok-told.told
    c.turns.new.progress.noticed
    (g.W.Write.contents c.args.writer.now) (g.W.Write.contents c.write_all.new.writer) c.new-text.ensures.items
    c.turns.ensures.kept.ordered c.in_ok-turns.ensures.anew c.in_ok-told.ensures.first c.in_ok-turns.ensures.leaves.seen
    (c.in_ok-push_told.ensures ∙ ap (λ (t : Told). c.begin.new.text.items ++ told_line t) c.further.ensures)
    (subst (λ (b : List ℕ). Appends (g.W.Write.contents c.args.writer.now)
    (g.W.Write.contents c.write_all.new.writer) b) c.deref.ensures.value c.in-Ok.ensures)

pub returns-in_err-told-clause-handing : goal.returns-in_err-told-clause-handing
returns-in_err-told-clause-handing g c = λ f hold. c.begin.ensures.handing f

pub returns-in_err-turns-clause-handing : goal.returns-in_err-turns-clause-handing
returns-in_err-turns-clause-handing g c = λ f hold. c.turns.ensures.kept.handing
    (λ s. behind_hold c.args.command s (f s)) (c.begin.ensures.holding f hold) ∙ c.begin.ensures.handing f

pub returns-then-is_any_unsaved-clause-handing : goal.returns-then-is_any_unsaved-clause-handing
returns-then-is_any_unsaved-clause-handing g c = λ f hold. c.turns.ensures.kept.handing
    (λ s. behind_hold c.args.command s (f s)) (c.begin.ensures.holding f hold) ∙ c.begin.ensures.handing f

pub returns-in_err-push_told-clause-handing : goal.returns-in_err-push_told-clause-handing
returns-in_err-push_told-clause-handing g c = λ f hold. c.turns.ensures.kept.handing
    (λ s. behind_hold c.args.command s (f s)) (c.begin.ensures.holding f hold) ∙ c.begin.ensures.handing f

pub returns-in-Ok-clause-handing : goal.returns-in-Ok-clause-handing
returns-in-Ok-clause-handing g c = λ f hold. c.turns.ensures.kept.handing (λ s. behind_hold c.args.command s (f s))
    (c.begin.ensures.holding f hold) ∙ c.begin.ensures.handing f

pub returns-clause-handing : goal.returns-clause-handing
returns-clause-handing g c = λ f hold. c.turns.ensures.kept.handing (λ s. behind_hold c.args.command s (f s))
    (c.begin.ensures.holding f hold) ∙ c.begin.ensures.handing f

pub begin-requires-clause-going : goal.begin-requires-clause-going
begin-requires-clause-going g c = record {
  told = c.requires.told;
  linked = c.requires.linked;
  served = c.requires.served;
  seen = begins_quiet (g.H.Host.told c.args.host.now) c.requires.begins None refl;
}

pub returns-in_err-told-clause-leaves : goal.returns-in_err-told-clause-leaves
returns-in_err-told-clause-leaves g c =
    let again : IsErrAnd c.from_residual.result (λ x. x ≡ c.in_err-told.field-0.0) = search rules in
    ends_on g.H.Disk.Disk c.from_residual.result c.in_err-told.field-0.0 (g.H.Host.told c.begin.new.host)
    c.begin.new.progress again c.in_err-told.ensures.leaves

pub returns-in_err-turns-clause-leaves : goal.returns-in_err-turns-clause-leaves
returns-in_err-turns-clause-leaves g c =
    let again : IsErrAnd c.from_residual-in_err-turns.result (λ x. x ≡ c.in_err-turns.field-0.0) = search rules in
    ends_on g.H.Disk.Disk c.from_residual-in_err-turns.result c.in_err-turns.field-0.0
    (g.H.Host.told c.turns.new.host) c.turns.new.progress again c.in_err-turns.ensures.leaves

pub returns-in_err-push_told-clause-leaves : goal.returns-in_err-push_told-clause-leaves
returns-in_err-push_told-clause-leaves g c =
    memory_ends g.H.Disk.Disk c.from_residual-in_err-push_told.result (g.H.Host.told c.turns.new.host)
    c.turns.new.progress c.from_residual-in_err-push_told.ensures.1 c.in_ok-turns.ensures.leaves.told
    c.in_ok-turns.ensures.leaves.linked

pub returns-then-is_any_unsaved-clause-leaves : goal.returns-then-is_any_unsaved-clause-leaves
returns-then-is_any_unsaved-clause-leaves g c = record {
  told = c.in_ok-turns.ensures.leaves.told;
  linked = c.in_ok-turns.ensures.leaves.linked;
  shown = inr (ap (λ (r : Record). is_any_unsaved r.frames) c.in_ok-turns.ensures.leaves.told.recorded
      ∙ sym c.is_any_unsaved.ensures
      ∙ c.if-is_any_unsaved.true);
}
