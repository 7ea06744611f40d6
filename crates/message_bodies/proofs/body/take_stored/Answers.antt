use Rattle.message_bodies.proofs.Parts.{stored_stops, stored_unpictured, stored_read}
use Rattle.message_bodies.proofs.body.take_stored.Goals as goal

pub returns-in-Err : goal.returns-in-Err
returns-in-Err c = stored_stops c.in-Err.fault c.in_ok-count.count c.args.xs.now c.in_ok-count.rest.now
    c.in_ok-count.ensures c.if-count-gt-MOST_STREAMS.false c.in-Err.ensures

pub returns-in-Err-take_blob : goal.returns-in-Err-take_blob
returns-in-Err-take_blob c =
    stored_unpictured c.in-Err-take_blob.fault c.in_ok-count.count c.args.xs.now c.in_ok-count.rest.now
    c.in-Ok.read.0 c.in-Ok.read.1 c.in-Ok.read.2.now c.in_ok-count.ensures c.if-count-gt-MOST_STREAMS.false
    c.in-Ok.ensures c.in-Err-take_blob.ensures.given

pub returns : goal.returns
returns c =
    stored_read c.in_ok-count.count c.args.xs.now c.in_ok-count.rest.now c.in-Ok.read.0 c.in-Ok.read.1
    c.in-Ok.read.2.now c.in-Ok-take_blob.read.0 c.in-Ok-take_blob.read.1.now c.in_ok-count.ensures
    c.if-count-gt-MOST_STREAMS.false c.in-Ok.ensures c.in-Ok-take_blob.ensures.given
