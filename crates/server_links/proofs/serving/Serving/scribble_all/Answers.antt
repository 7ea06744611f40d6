use Rattle.std.proofs.Common.{◌∙◌, take, arith}
use Rattle.server_links.specs.Turns.{scribbled_all}
use Rattle.server_links.proofs.Served.{all_wrote, one_more}
use Rattle.server_links.proofs.serving.Serving.scribble_all.Goals as goal

pub loop-place-preserved : goal.loop-place-preserved
loop-place-preserved g c = (
  c.in_ok-scribble.ensures.started,
  c.in_ok-scribble.ensures.edited ∙ c.loop-place.invariant.1,
  c.in_ok-scribble.ensures.decoder ∙ c.loop-place.invariant.2,
  λ t h.
      one_more _ c.args.self.now c.scribble.new.self t c.loop-place.place c.index-act.result.now
      c.loop-place.self.edited.items (c.loop-place.invariant.1 ∙ h.edited)
      (omega (arith, c.loop-place-test.true, c.len.ensures)) c.index-act.ensures
      (c.in_ok-scribble.ensures.written (scribbled_all t (take c.loop-place.place t.edited))
      (c.loop-place.invariant.3 t h)),
  c.in_ok-scribble.ensures.counts.0 ∙ c.loop-place.invariant.4,
  c.in_ok-scribble.ensures.counts.1 ∙ c.loop-place.invariant.5,
)

pub returns-clause-written : goal.returns-clause-written
returns-clause-written g c = λ t h.
    all_wrote _ _ t c.loop-place.place c.loop-place.self.edited.items (c.loop-place.invariant.1 ∙ h.edited)
    (omega (arith, c.loop-place-test.false, c.len.ensures))
    (c.loop-place.invariant.3 t h)
