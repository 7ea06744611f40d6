use Rattle.std.proofs.Common.{◌<◌, ◌-◌, ◌+◌, arith, get_or, length}
use Rattle.read_chains.proofs.Ways.{clearing_below, clearing_end, clearing_start, clearing_step}
use Rattle.read_chains.proofs.links.Links.clear_walk.Goals as goal

pub loop-init : goal.loop-init
loop-init c =
    clearing_start (λ n. get_or c.args.self.now n 0) c.args.start c.args.walk.count (c.args.walk.count - 0)
    c.args.used.now (omega arith)
    (c.requires.walked.0, (c.args.walk.stop, c.requires.walked.1))

pub bounds-used-n : goal.bounds-used-n
bounds-used-n c =
    clearing_below (λ n. get_or c.args.self.now n 0) c.args.start c.args.walk.count c.args.used.now c.loop.used
    c.loop.at (c.args.walk.count - c.loop.counter)
    c.loop.invariant (omega arith)

pub entry-at-requires : goal.entry-at-requires
entry-at-requires c =
    let lt : c.loop.at < length c.loop.used =
    clearing_below (λ n. get_or c.args.self.now n 0) c.args.start c.args.walk.count c.args.used.now c.loop.used
    c.loop.at (c.args.walk.count - c.loop.counter)
    c.loop.invariant (omega arith) in
    omega (arith, lt, c.loop.invariant.long, c.requires.each)

pub loop-preserved : goal.loop-preserved
loop-preserved c =
    clearing_step (λ n. get_or c.args.self.now n 0) c.args.start c.args.walk.count c.args.used.now c.loop.used
    c.loop.at (c.args.walk.count - c.loop.counter)
    c.entry-at.result (c.args.walk.count - (c.loop.counter + 1)) c.loop.invariant (omega arith) c.entry-at.ensures
    (omega arith)

pub returns : goal.returns
returns c = λ before w.
    clearing_end (λ n. get_or c.args.self.now n 0) c.args.start c.args.walk.count c.args.used.now c.loop.used
    c.loop.at (c.args.walk.count - c.loop.counter)
    before c.args.walk.stop c.loop.invariant (omega arith) w
