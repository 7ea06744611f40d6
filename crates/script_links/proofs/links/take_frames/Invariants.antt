use Rattle.std.proofs.Common.{◌≡◌, []}
use Rattle.script_model.specs.Bounds.{pace}
use Rattle.script_model.specs.Origins.{passed}
use Rattle.script_container.specs.Known.{IsKnown}
use Rattle.script_links.specs.Apart.{others}
use Rattle.script_links.specs.Links.{IsServed}
use Rattle.script_links.proofs.links.take_frames.Given as goal

abbrev pub invariant-loop : goal.invariant-loop
invariant-loop g l = record {
  known : IsKnown g.H.Disk.Disk (g.H.Host.told l.host) l.core l.noticed;
  same : l.link.inc ≡ l.fn.link.inc;
  holding : l.link.held ≡ l.fn.link.held;
  paced : pace l.fn.link.inc (g.H.Host.told l.host) ≡ pace l.fn.link.inc (g.H.Host.told l.fn.host);
  served : IsServed (passed l.link.inc (g.H.Host.told l.host)) l.link [];
  apart : others l.fn.link.inc l.fn.link.held (g.H.Host.told l.host)
      ≡ others l.fn.link.inc l.fn.link.held (g.H.Host.told l.fn.host);
}
