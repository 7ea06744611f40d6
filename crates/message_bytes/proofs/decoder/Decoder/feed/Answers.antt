use Rattle.std.proofs.Common.{None, Some, inr, refl}
use Rattle.message_bytes.proofs.Fronts.{fed_more}
use Rattle.message_bytes.proofs.decoder.Decoder.feed.Goals as goal

pub returns-in-None-shown-clause-fed : goal.returns-in-None-shown-clause-fed
returns-in-None-shown-clause-fed c fed taken s =
    fed_more c.args.self.now (record {
      alloc = c.args.self.now.alloc;
      waiting = c.feed.new.waiting;
      bytes = c.feed.new.bytes;
      fault = c.in-Ok.shown;
    }) None c.args.piece.now fed taken c.in-None.is
    c.in-Ok.ensures.fed c.in-None-shown.is s

pub returns-in-Some-shown-clause-fed : goal.returns-in-Some-shown-clause-fed
returns-in-Some-shown-clause-fed c fed taken s =
    inr (fed_more c.args.self.now (record {
      alloc = c.args.self.now.alloc;
      waiting = c.feed.new.waiting;
      bytes = c.feed.new.bytes;
      fault = c.in-Ok.shown;
    }) (Some c.in-Some-shown.found) c.args.piece.now fed taken
    c.in-None.is c.in-Ok.ensures.fed c.in-Some-shown.is s)
