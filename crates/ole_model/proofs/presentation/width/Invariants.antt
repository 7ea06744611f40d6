use Rattle.std.proofs.Common.{◌≡◌, ◌≤◌, drop}
use Rattle.ole_model.specs.Presentations.{longest}
use Rattle.ole_model.proofs.presentation.width.Given as goal

abbrev pub invariant-loop-c : goal.invariant-loop-c
invariant-loop-c l = record {
  rest : longest l.longest l.before (drop l.c-index l.lines) ≡ longest 0 0 l.fn.lines;
  behind : l.before ≤ l.c-index;
  within : l.longest ≤ l.c-index;
}
