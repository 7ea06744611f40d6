use Rattle.std.proofs.Common.{true, ◌≡◌, rules}
use Rattle.message_model.specs.Reading.{may_follow}
use Rattle.message_bodies.proofs.Parts.{stops}
use Rattle.message_bodies.proofs.body.take_stream.Goals as goal

pub returns-in-Err-take_blob : goal.returns-in-Err-take_blob
returns-in-Err-take_blob c =
    let follows : may_follow c.args.streams.now c.in-Ok.read.0 ≡ true = search rules in
    stops c.in-Err-take_blob.fault c.args.streams.now c.args.room c.args.xs.now c.in-Ok.read.0 c.in-Ok.read.1.now
    c.in-Ok.ensures follows c.in-Err-take_blob.ensures.given
