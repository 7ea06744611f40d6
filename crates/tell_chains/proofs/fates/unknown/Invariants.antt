use Rattle.std.proofs.Common.{◌≡◌}
use Rattle.std.specs.List.{All}
use Rattle.tell_chains.specs.declared.fates.Fate.{Fate}
use Rattle.tell_chains.specs.declared.fates.Fate.TheVariants as fate
use Rattle.tell_chains.proofs.fates.unknown.Given as goal

abbrev pub invariant-loop : goal.invariant-loop
invariant-loop l = All (λ (f : Fate). f ≡ fate.Unknown) l.fates.items
