use Rattle.std.proofs.Common.{◌≡◌, false}
use Rattle.std.specs.Vec.Iter.{into_iter_items}
use Rattle.script_model.specs.Saved.{is_any_unsaved}
use Rattle.script_links.specs.Links.{AreLinked, AreServed}
use Rattle.script_links.specs.Shown.{AreQuiet}
use Rattle.script_container.specs.Told.{IsTold}
use Rattle.script_run.proofs.Carried.{SoFar}
use Rattle.script_run.specs.Printed.{HasLines}
use Rattle.script_run.specs.HeldBack.{AreHeldBack}
use Rattle.script_run.proofs.script.carry_out_all.Given as goal

abbrev pub invariant-loop-place : goal.invariant-loop-place
invariant-loop-place g l = record {
  told : IsTold g.H.Disk.Disk (g.H.Host.told l.host) l.progress.core;
  linked : AreLinked (g.H.Host.told l.host) l.progress.links.items;
  served : AreServed (g.H.Host.told l.host) l.progress.links.items;
  quiet : AreQuiet l.progress.core.objects l.progress.links.items;
  saved : is_any_unsaved l.progress.core.frames ≡ false;
  lines : HasLines g.H.Disk.Disk l.fn.commands.items l.place-iterator.count (g.H.Host.told l.host)
      (g.W.Write.contents l.fn.writer) (g.W.Write.contents l.writer);
  back : AreHeldBack l.fn.commands.items (g.H.Host.told l.host);
  so_far : SoFar (g.H.Host.told l.host) l.progress.links.items l.fn.commands.items
      (into_iter_items l.place-iterator.iter)
      l.place-iterator.count;
}
