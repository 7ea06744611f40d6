use Rattle.std.proofs.Common.{◌<◌, length, arith, ◌≡◌, rules}
use Rattle.std.specs.Result.{IsErrAnd}
use Rattle.script_container.proofs.Servers.{handing_of, paced_of}
use Rattle.script_links.proofs.Going.{ends_on, keeps_then}
use Rattle.script_links.proofs.Paces.{had_all, had_without, links_more, links_still, turn_without}
use Rattle.script_container.specs.Servers.{turned}
use Rattle.script_links.proofs.turns.turn.Goals as goal

pub loop-place-preserved-then-branch : goal.loop-place-preserved-then-branch
loop-place-preserved-then-branch g c = record {
  going = c.in_ok-serve_at.ensures.leaves;
  each = λ n ready. c.in_ok-serve_at.ensures.ready n (c.loop-place.invariant.each n ready);
  kept = keeps_then c.loop-place.invariant.kept c.serve_at.ensures.kept;
  due = λ n due. c.in_ok-serve_at.ensures.due n (c.loop-place.invariant.due n due);
  anew = λ s. links_more (g.H.Host.told c.args.host.now) (g.H.Host.told c.loop-place.host)
      (g.H.Host.told c.serve_at.new.host) s (c.in_ok-serve_at.ensures.anew s) (c.loop-place.invariant.anew s);
}

pub loop-place-preserved : goal.loop-place-preserved
unfolding turned
loop-place-preserved g c =
    let many = c.serve_at.ensures.many in
    let test = c.loop-place-test.true in
    let len = c.len.ensures in
    let within : c.loop-place.place < length c.serve_at.new.progress.links.items = omega (arith, many, test, len) in
    record {
      going = c.in_ok-end_at.ensures.leaves;
      each = λ n ready.
          turn_without n (g.H.Host.told c.serve_at.new.host) (g.H.Host.told c.end_at.new.host)
          c.serve_at.new.progress.links.items c.loop-place.place within c.end_at.new.progress.links.items
          c.end_at.ensures.rest (paced_of c.end_at.ensures.turning)
          (c.in_ok-serve_at.ensures.ready n (c.loop-place.invariant.each n ready));
      kept = keeps_then (keeps_then c.loop-place.invariant.kept c.serve_at.ensures.kept) (record {
        ordered = c.end_at.ensures.ordered;
        holding = c.end_at.ensures.holding;
        handing = λ f hold. handing_of c.end_at.ensures.turning f;
      });
      due = λ n due.
          had_without n (g.H.Host.told c.serve_at.new.host) (g.H.Host.told c.end_at.new.host)
          c.serve_at.new.progress.links.items c.loop-place.place within c.end_at.new.progress.links.items
          c.end_at.ensures.rest (paced_of c.end_at.ensures.turning)
          (c.in_ok-serve_at.ensures.due n (c.loop-place.invariant.due n due));
      anew = λ s.
          links_still (g.H.Host.told c.args.host.now) (g.H.Host.told c.serve_at.new.host)
          (g.H.Host.told c.end_at.new.host) s (paced_of c.end_at.ensures.turning s)
          (links_more (g.H.Host.told c.args.host.now) (g.H.Host.told c.loop-place.host)
          (g.H.Host.told c.serve_at.new.host) s (c.in_ok-serve_at.ensures.anew s)
          (c.loop-place.invariant.anew s));
    }

pub returns-clause-ready : goal.returns-clause-ready
returns-clause-ready g c = λ n ready. (c.loop-place.invariant.each n ready).all

pub returns-clause-due : goal.returns-clause-due
returns-clause-due g c = λ n due.
    let test = c.loop-place-test.false in
    let len = c.len.ensures in
    had_all n (g.H.Host.told c.loop-place.host) c.loop-place.progress.links.items c.loop-place.place
    (omega (arith, test, len)) (c.loop-place.invariant.due n due)

pub returns-in_err-serve_at-clause-leaves : goal.returns-in_err-serve_at-clause-leaves
returns-in_err-serve_at-clause-leaves g c =
    let again : IsErrAnd c.from_residual.result (λ x. x ≡ c.in_err-serve_at.field-0.0) = search rules in
    ends_on g.H.Disk.Disk c.from_residual.result c.in_err-serve_at.field-0.0 (g.H.Host.told c.serve_at.new.host)
    c.serve_at.new.progress again c.in_err-serve_at.ensures.leaves

pub returns-in_err-end_at-clause-leaves : goal.returns-in_err-end_at-clause-leaves
returns-in_err-end_at-clause-leaves g c =
    let again : IsErrAnd c.from_residual-in_err-end_at.result (λ x. x ≡ c.in_err-end_at.field-0.0) = search rules in
    ends_on g.H.Disk.Disk c.from_residual-in_err-end_at.result c.in_err-end_at.field-0.0
    (g.H.Host.told c.end_at.new.host) c.end_at.new.progress again c.in_err-end_at.ensures.leaves

pub returns-in_err-serve_at-clause-kept : goal.returns-in_err-serve_at-clause-kept
returns-in_err-serve_at-clause-kept g c = keeps_then c.loop-place.invariant.kept c.serve_at.ensures.kept

pub returns-in_err-end_at-clause-kept : goal.returns-in_err-end_at-clause-kept
unfolding turned
returns-in_err-end_at-clause-kept g c =
    keeps_then (keeps_then c.loop-place.invariant.kept c.serve_at.ensures.kept) (record {
      ordered = c.end_at.ensures.ordered;
      holding = c.end_at.ensures.holding;
      handing = λ f hold. handing_of c.end_at.ensures.turning f;
    })
