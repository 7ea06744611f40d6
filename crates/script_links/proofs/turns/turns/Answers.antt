use Rattle.std.proofs.Common.{◌+◌, ◌∙◌, ◌≡◌, inl, ap, sym, arith, rules}
use Rattle.std.specs.Result.{IsErrAnd}
use Rattle.script_links.specs.Shown.{is_any_awaited}
use Rattle.script_links.proofs.Going.{ends_on, keeps_then}
use Rattle.script_links.proofs.Paces.{links_more}
use Rattle.script_links.proofs.Shown.{none_awaited, some_awaited, unanswered_by}
use Rattle.script_links.proofs.turns.turns.Goals as goal

pub loop-done-preserved : goal.loop-done-preserved
loop-done-preserved g c = record {
  going = c.in_ok-turn.ensures.leaves;
  ready = c.in_ok-turn.ensures.ready (c.loop-done.done + 1) c.loop-done.invariant.ready;
  kept = keeps_then c.loop-done.invariant.kept c.turn.ensures.kept;
  due = c.in_ok-turn.ensures.due (c.loop-done.done + 1) c.loop-done.invariant.due;
  anew = λ s. links_more (g.H.Host.told c.args.host.now) (g.H.Host.told c.loop-done.host)
      (g.H.Host.told c.turn.new.host) s (c.in_ok-turn.ensures.anew s) (c.loop-done.invariant.anew s);
}

pub returns-in_err-turn-clause-leaves : goal.returns-in_err-turn-clause-leaves
returns-in_err-turn-clause-leaves g c =
    let again : IsErrAnd c.from_residual.result (λ x. x ≡ c.in_err-turn.field-0.0) = search rules in
    ends_on g.H.Disk.Disk c.from_residual.result c.in_err-turn.field-0.0 (g.H.Host.told c.turn.new.host)
    c.turn.new.progress again c.in_err-turn.ensures.leaves

pub returns-in_err-turn-clause-kept : goal.returns-in_err-turn-clause-kept
returns-in_err-turn-clause-kept g c = keeps_then c.loop-done.invariant.kept c.turn.ensures.kept

pub returns-then-is_pending-clause-leaves : goal.returns-then-is_pending-clause-leaves
returns-then-is_pending-clause-leaves g c =
    let most = c.loop-done-test.false in
    let end = c.loop-done.auto.done-end in
    let all : c.loop-done.done ≡ 1000 = omega (arith, most, end) in
    record {
      told = c.loop-done.invariant.going.told;
      linked = c.loop-done.invariant.going.linked;
      shown = inl (unanswered_by (g.H.Host.told c.loop-done.host) c.loop-done.progress.core
          c.loop-done.progress.links.items c.loop-done.done all c.loop-done.invariant.going.told
          c.loop-done.invariant.going.linked c.loop-done.invariant.due
          (some_awaited c.loop-done.progress.core.objects c.loop-done.progress.links.items
          (ap (λ ls. is_any_awaited ls c.loop-done.progress.core.objects) (sym c.deref-2.ensures.value)
          ∙ sym c.is_pending-2.ensures ∙ c.if-is_pending.true)));
    }

pub returns-then-not-is_pending-clause-quiet : goal.returns-then-not-is_pending-clause-quiet
returns-then-not-is_pending-clause-quiet g c =
    none_awaited c.loop-done.progress.core.objects c.loop-done.progress.links.items
    (ap (λ ls. is_any_awaited ls c.loop-done.progress.core.objects) (sym c.deref.ensures.value)
    ∙ sym c.is_pending.ensures ∙ c.if-not-is_pending.true)

pub returns-clause-quiet : goal.returns-clause-quiet
returns-clause-quiet g c =
    none_awaited c.loop-done.progress.core.objects c.loop-done.progress.links.items
    (ap (λ ls. is_any_awaited ls c.loop-done.progress.core.objects) (sym c.deref-2.ensures.value)
    ∙ sym c.is_pending-2.ensures ∙ c.if-is_pending.false)
