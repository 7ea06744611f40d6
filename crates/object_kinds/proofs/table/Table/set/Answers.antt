use Rattle.std.proofs.Common.{arith, sym, ◌≡◌, ◌≤◌, length, ap, ◌∙◌, true, Ok}
use Rattle.std.proofs.lemmas.Bool.Decides.{nat_tests}
use Rattle.std.specs.List.{list_all}
use Rattle.object_core.specs.Content.{table, CELL_SIZE}
use Rattle.object_state.specs.Printable.{is_printable}
use Rattle.object_core.specs.Edits.{edited, set}
use Rattle.object_kinds.specs.Placed.{named, entries_at}
use Rattle.object_kinds.proofs.Kept.{set-stays, was_set}
use Rattle.object_kinds.proofs.table.Table.set.Goals as goal

pub invariant_of-self-2 : goal.invariant_of-self-2
invariant_of-self-2 c =
    let some : 1 ≤ length c.args.text.now = grind (arith, nat_tests) in
    let fits : length c.args.text.now ≤ CELL_SIZE = omega arith in
    let printable : list_all is_printable c.args.text.now ≡ true = sym c.if-not-are_printable.ensures in
    let stays = set-stays c.in-Some.place (named c.args.cell) c.args.text.now c.in_ok-from_slice.field-0
    c.self.inside.cells.entries c.in-Some.ensures
    c.in_ok-from_slice.ensures.items some fits printable c.self.invariant in
    rw c.in_ok-insert.ensures.entries stays

pub returns-clause-edited : goal.returns-clause-edited
returns-clause-edited c =
    let some : 1 ≤ length c.args.text.now = grind (arith, nat_tests) in
    let fits : length c.args.text.now ≤ CELL_SIZE = omega arith in
    let printable : list_all is_printable c.args.text.now ≡ true = sym c.if-not-are_printable.ensures in
    ap (λ l. edited (set (named c.args.cell) c.args.text.now) (table l)) (sym c.self.view_is)
    ∙ was_set c.in-Some.place (named c.args.cell) c.args.text.now c.in_ok-from_slice.field-0
    c.self.inside.cells.entries c.in-Some.ensures
    c.in_ok-from_slice.ensures.items some fits printable
    ∙ ap (λ es. Ok (table (entries_at es))) (sym c.in_ok-insert.ensures.entries)
