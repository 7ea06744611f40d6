use Rattle.std.proofs.Common.{◌∙◌, ◌++◌, ◌∷◌, [], ap}
use Rattle.tree_rising.proofs.Rows.{pushed}
use Rattle.tree_rising.proofs.row.Row.push_whole.Goals as goal

pub returns-clause-added : goal.returns-clause-added
returns-clause-added c =
    let row = c.self.inside in
    pushed row.names.items c.reserve.new.self.items c.push_reserved.new.self.items row.contents
    c.push_whole.new.self c.args.name c.args.bytes c.self.invariant c.reserve.ensures.items
    c.push_reserved.ensures.items c.in_ok-push_whole.ensures.added
    ∙ ap (λ before. before ++ (c.args.name, c.args.bytes) ∷ []) c.self.view_is
