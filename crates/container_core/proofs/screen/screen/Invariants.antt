use Rattle.std.proofs.Common.{◌≡◌, ◌++◌}
use Rattle.object_state.specs.Frames.{menu_of}
use Rattle.container_core.specs.Screen.{menu_line, rows}
use Rattle.container_core.proofs.screen.screen.Given as goal

abbrev pub invariant-loop-y : goal.invariant-loop-y
invariant-loop-y l = l.text.items ≡ menu_line (menu_of l.frame.ui.state) ++ rows l.f l.frame.ui l.objects l.y
