use Rattle.std.proofs.Common.{◌≡◌, []}
use Rattle.script_model.specs.Bounds.{pace}
use Rattle.script_model.specs.Origins.{passed}
use Rattle.script_container.specs.Known.{IsKnown}
use Rattle.script_links.specs.Apart.{others}
use Rattle.script_links.specs.Links.{IsServed}
use Rattle.script_links.specs.Ready.{GoesOn}
use Rattle.script_links.proofs.links.hear.Given as goal

abbrev pub invariant-loop-reads : goal.invariant-loop-reads
invariant-loop-reads g l = record {
  known : IsKnown g.H.Disk.Disk (g.H.Host.told l.host) l.core l.noticed;
  same : l.link.inc ≡ l.fn.link.inc;
  holding : l.link.held ≡ l.fn.link.held;
  on : GoesOn (pace l.fn.link.inc (g.H.Host.told l.fn.host)) (pace l.link.inc (g.H.Host.told l.host)) l.reads;
  served : IsServed (passed l.link.inc (g.H.Host.told l.host)) l.link [];
  apart : others l.fn.link.inc l.fn.link.held (g.H.Host.told l.host)
      ≡ others l.fn.link.inc l.fn.link.held (g.H.Host.told l.fn.host);
}

abbrev pub decreases-loop-reads : goal.decreases-loop-reads
decreases-loop-reads g l = l.reads
