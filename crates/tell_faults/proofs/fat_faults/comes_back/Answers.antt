use Rattle.tell_faults.proofs.Fats.{front_once}
use Rattle.tell_faults.proofs.fat_faults.comes_back.Goals as goal

pub returns-clause-back : goal.returns-clause-back
returns-clause-back c = λ t. (
  c.present_front-front.result,
  c.present_front-front.ensures.present,
  c.is_any_twice.ensures.twice t,
)

pub returns-clause-never : goal.returns-clause-never
returns-clause-never c = λ t k there.
    front_once c.args.sectors.now c.present_front-front.result c.args.count k c.present_front-front.ensures.within
    c.present_front-front.ensures.longest (c.is_any_twice.ensures.once t) there
