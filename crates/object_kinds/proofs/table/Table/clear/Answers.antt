use Rattle.std.proofs.Common.{sym, ap, ◌∙◌, Ok}
use Rattle.object_core.specs.Content.{table}
use Rattle.object_core.specs.Edits.{edited, clear}
use Rattle.object_kinds.specs.Placed.{named, entries_at}
use Rattle.object_kinds.proofs.Kept.{clear-stays, cleared, not_cleared}
use Rattle.object_kinds.proofs.table.Table.clear.Goals as goal
use Rattle.object_kinds.proofs.table.Table.clear.Goals.{in-Some-remove, in-None}

pub invariant_of-self : goal.invariant_of-self
invariant_of-self c = rw c.remove.ensures.entries
    (clear-stays c.in-Some.place (named c.args.cell) c.self.inside.cells.entries c.in-Some.ensures c.self.invariant)

pub returns-clause-edited : goal.returns-clause-edited
returns-clause-edited c = elim c.match-remove.branch [
  | in-Some-remove w ↦ (rw w.result-is
      (ap (λ l. edited (clear (named c.args.cell)) (table l)) (sym c.self.view_is)
      ∙ cleared c.in-Some.place (named c.args.cell) c.self.inside.cells.entries w.in-Some-remove.field-0
      c.in-Some.ensures c.self.invariant
      (sym c.remove.ensures.value ∙ w.in-Some-remove.is)
      ∙ ap (λ es. Ok (table (entries_at es))) (sym c.remove.ensures.entries)))
  | in-None w ↦ (rw w.result-is tt)
]

pub returns-clause-refused : goal.returns-clause-refused
returns-clause-refused c = elim c.match-remove.branch [
  | in-Some-remove w ↦ (rw w.result-is tt)
  | in-None w ↦ (rw w.result-is
      (ap (λ l. edited (clear (named c.args.cell)) (table l)) (sym c.self.view_is)
      ∙ not_cleared c.in-Some.place (named c.args.cell) c.self.inside.cells.entries c.in-Some.ensures
      (sym c.remove.ensures.value ∙ w.in-None.is)))
]
