use Rattle.std.proofs.Common.{◌≡◌, ℕ, false}
use Rattle.std.specs.Vec.Iter.{into_iter_items}
use Rattle.script_model.specs.Bounds.{pace}
use Rattle.script_model.specs.Courses.{course}
use Rattle.script_model.specs.Origins.{AreNext, giving, passed}
use Rattle.script_container.specs.Known.{IsKnown}
use Rattle.script_links.specs.Apart.{others}
use Rattle.script_commands.proofs.holding.hand_all.Given as goal

abbrev pub invariant-loop-taken : goal.invariant-loop-taken
invariant-loop-taken g l = record {
  known : IsKnown g.H.Disk.Disk (g.H.Host.told l.host) l.core l.noticed;
  paced : (s : ℕ) → pace s (g.H.Host.told l.host) ≡ pace s (g.H.Host.told l.fn.host);
  apart : others l.inc false (g.H.Host.told l.host) ≡ others l.inc false (g.H.Host.told l.fn.host);
  ordered : course (g.H.Host.told l.host) ≡ course (g.H.Host.told l.fn.host);
  next : AreNext (passed l.inc (g.H.Host.told l.host)) (into_iter_items l.taken-iterator);
  given : giving (into_iter_items l.taken-iterator) (passed l.inc (g.H.Host.told l.host))
      ≡ giving l.fn.waiting (passed l.inc (g.H.Host.told l.fn.host));
}
