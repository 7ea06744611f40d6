use Rattle.std.proofs.Common.{ap, sym, arith}
use Rattle.server_links.proofs.Lacking.{err_any, lacked}
use Rattle.server_links.proofs.Linked.{comes_to, far, far_long, goes_on, stepped}
use Rattle.server_links.proofs.link.serve_link.Goals as goal

pub returns-in-Some-clause-served : goal.returns-in-Some-clause-served
returns-in-Some-clause-served g c = λ made began unread held h.
    let told = c.in_ok-advance.ensures in
    let s = (c.loop.invariant.1 made began unread held h).0 in
    comes_to _ made (far s.served.taken c.loop.serving.turns c.loop.serving.reads) c.in_ok-advance.advance
    c.in-Some.pause c.advance.new.self began unread _ held _ c.in-Some.ensures
    (stepped _ made g.R.Read.remaining g.W.Write.contents c.loop.serving c.advance.new.self c.loop.reader
    c.advance.new.reader c.loop.writer c.advance.new.writer
    c.in_ok-advance.advance told.counted told.leaves_reader told.leaves_writer told.advanced began unread held s)

pub loop-preserved : goal.loop-preserved
loop-preserved g c = (
  c.in_ok-advance.ensures.started,
  λ made began unread held h.
      let told = c.in_ok-advance.ensures in
      let far_as = c.loop.invariant.1 made began unread held h in
      let s = far_as.0 in
      let next = goes_on _ made (far s.served.taken c.loop.serving.turns c.loop.serving.reads)
      c.in_ok-advance.advance c.advance.new.self began unread _ held _ (sym c.in_default.ensures)
      (stepped _ made g.R.Read.remaining g.W.Write.contents c.loop.serving c.advance.new.self c.loop.reader
      c.advance.new.reader c.loop.writer c.advance.new.writer
      c.in_ok-advance.advance told.counted told.leaves_reader told.leaves_writer told.advanced began unread held s) in
      (next.0, omega (arith, far_as.1, next.1)),
)

pub returns-clause-served : goal.returns-clause-served
returns-clause-served g c = λ made began unread held h.
    let s = c.loop.invariant.1 made began unread held h in (
      s.0,
      far_long s.0.served.taken c.loop.serving.turns c.loop.serving.reads c.loop.counter s.0.more s.0.reads
          (omega (arith, c.loop-test.false)) s.1,
    )

pub returns-in_err-advance-clause-lacking : goal.returns-in_err-advance-clause-lacking
returns-in_err-advance-clause-lacking g c = λ made began unread held h.
    let told = c.in_err-advance.ensures in
    let s = (c.loop.invariant.1 made began unread held h).0 in
    err_any c.from_residual.result (lacked _ made c.loop.serving began unread _ held _ _ _ s
    (ap g.W.Write.contents told.unwritten)
    (told.lacking s.served.now s.served.fed s.served.taken s.served.at))
