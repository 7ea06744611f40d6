use Rattle.std.proofs.Common.{ap, sym}
use Rattle.container_checks.proofs.Numbers.{none_rise, numbers, still}
use Rattle.container_checks.proofs.objects.Objects.new.Goals as goal

pub invariant_of-result : goal.invariant_of-result
invariant_of-result c = record { rising = still none_rise (ap numbers (sym c.new.ensures.items)) }
