use Rattle.std.proofs.Common.{◌++◌, List, ap, sym}
use Rattle.std.specs.Vec.Iter.{into_iter_items}
use Rattle.container_model.specs.declared.record.Object.{Object}
use Rattle.container_checks.proofs.Numbers.{numbers, one_more, still}
use Rattle.container_checks.proofs.objects.Objects.append_reserved.Goals as goal

pub invariant_of-self : goal.invariant_of-self
invariant_of-self c =
    let os : List Object = c.loop-object.self.list.items in
    let more : List Object = into_iter_items c.next.new.self in
    record {
      rising =
          still (one_more os c.in-Some.object more
          (still c.loop-object.invariant.rising
          (ap (λ (ms : List Object). numbers os ++ numbers ms) c.in-Some.ensures.steps.0)))
          (ap numbers (sym c.push_reserved.ensures.items));
    }
