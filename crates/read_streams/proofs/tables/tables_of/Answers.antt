use Rattle.std.proofs.Common.{subst, sym}
use Rattle.read_streams.specs.Chains.{IsFatOf}
use Rattle.read_streams.proofs.tables.tables_of.Goals as goal

pub returns-clause-tables : goal.returns-clause-tables
returns-clause-tables c = λ a h t d.
    let fat : IsFatOf a d.layout c.in_ok-fat.fat.items = c.in_ok-fat.ensures.fat a h t d in
    let lent : IsFatOf a d.layout c.deref.result.now =
    subst (IsFatOf a d.layout) (sym c.deref.ensures.value) fat in
    record {
      fat = fat;
      next = c.in_ok-mini_fat.ensures.next a h t d lent;
      stream = c.in_ok-mini_fat.ensures.stream a h t d lent;
    }
