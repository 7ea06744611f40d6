use Rattle.std.proofs.Common.{◌≡◌, ◌++◌, ◌∙◌, ℕ, List, [], ap, append_assoc, rules, subst}
use Rattle.tell_maps.specs.Maps.{legend, map_text, table, totals}
use Rattle.tell_maps.proofs.Rows.{behind}
use Rattle.tell_maps.proofs.telling.tell.Goals as goal

pub returns : goal.returns
returns c =
    let cs : List ℕ = c.args.cells.now in
    let tally : c.new-tally.result ≡ cs = c.new-tally.ensures in
    let second : c.push_legend.new.text.items ≡ c.push_table.new.text.items ++ legend cs =
    subst (λ (xs : List ℕ). c.push_legend.new.text.items ≡ c.push_table.new.text.items ++ legend xs) tally
    c.in_ok-push_legend.ensures in
    let third : c.push_totals.new.text.items ≡ c.push_legend.new.text.items ++ totals cs c.args.bytes =
    subst (λ (xs : List ℕ). c.push_totals.new.text.items ≡ c.push_legend.new.text.items ++ totals xs c.args.bytes)
    tally c.in_ok-push_totals.ensures in
    third ∙ behind c.push_table.new.text.items c.push_legend.new.text.items (legend cs) (totals cs c.args.bytes) second
    ∙ ap (λ xs. xs ++ (legend cs ++ totals cs c.args.bytes))
    (c.in_ok-push_table.ensures ∙ ap (λ xs. xs ++ table cs) c.new-text.ensures.items)
