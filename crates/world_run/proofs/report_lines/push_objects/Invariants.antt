use Rattle.std.proofs.Common.{◌≡◌, ◌++◌, drop}
use Rattle.std.specs.List.{flat_map}
use Rattle.world_model.specs.Report.{object_line}
use Rattle.world_run.proofs.report_lines.push_objects.Given as goal

abbrev pub invariant-loop-object : goal.invariant-loop-object
invariant-loop-object l = l.text.items ++ flat_map object_line (drop l.object-index l.objects)
    ≡ l.initial.text.items ++ flat_map object_line l.objects
