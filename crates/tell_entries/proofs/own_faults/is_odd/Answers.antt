use Rattle.std.proofs.Common.{◌≡◌, ◌*◌, ◌/◌, arith}
use Rattle.tell_entries.proofs.own_faults.is_odd.Goals as goal

pub returns-then-n-eq0-clause-even : goal.returns-then-n-eq0-clause-even
returns-then-n-eq0-clause-even c = λ _. let e : c.args.n ≡ 2 * (c.args.n / 2) = omega (arith, c.if-n-eq0.true) in
    (c.args.n / 2, e)
