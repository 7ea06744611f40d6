use Rattle.std.proofs.Common.{take}
use Rattle.server_links.proofs.Served.{fed_well, err_inside}
use Rattle.server_links.proofs.serving.Serving.read.Goals as goal

pub returns-in_default-clause-read : goal.returns-in_default-clause-read
returns-in_default-clause-read g c = λ t fed taken a b h n. record {
  reads = n;
  piece = take c.in-Ok.n c.read_again.new.into;
  consumed = c.in-Ok.ensures.bytes.0;
  next = record {
    turn = record { server = h.turn.server; out = h.turn.out; edited = h.turn.edited };
    read = fed_well c.feed.result fed (take c.in-Ok.n c.read_again.new.into) taken c.feed.new.self
        (λ e. c.in_default.not-NoMemory (err_inside c.feed.result _ _ c.in-Err-feed.is e))
        (c.feed.ensures.fed fed taken h.read);
  };
}
