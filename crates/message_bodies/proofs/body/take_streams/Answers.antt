use Rattle.message_bodies.proofs.Parts.{streams_stop, streams_end}
use Rattle.message_bodies.proofs.body.take_streams.Goals as goal

pub returns-in-Err : goal.returns-in-Err
returns-in-Err c = streams_stop c.in-Err.fault c.args.count c.loop.counter c.loop.streams c.loop.room
    c.loop.rest.now c.args.xs.now c.loop-test.true c.loop.invariant c.in-Err.ensures

pub returns : goal.returns
returns c = streams_end c.args.count c.loop.counter c.loop.streams c.loop.room c.loop.rest.now c.args.xs.now
    c.loop-test.false c.loop.invariant
