use Rattle.std.proofs.Common.{ap, sym}
use Rattle.container_checks.proofs.Numbers.{numbers, one_gone, still}
use Rattle.container_checks.proofs.objects.Objects.remove.Goals as goal

pub invariant_of-self : goal.invariant_of-self
invariant_of-self c =
    record {
      rising = still (one_gone c.args.self.now.list.items c.args.place c.args.self.now.rising)
          (ap numbers (sym c.remove.ensures.items));
    }
