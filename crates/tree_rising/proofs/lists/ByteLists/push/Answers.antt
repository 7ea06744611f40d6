use Rattle.std.proofs.Common.{◌∙◌, ◌++◌, ◌∷◌, [], ap, map}
use Rattle.tree_rising.specs.Spots.{bytes_at}
use Rattle.tree_rising.proofs.Lying.{all-added, all-kept, on_err}
use Rattle.tree_rising.proofs.lists.ByteLists.push.Goals as goal

pub returns-in_err-spot-clause-kept : goal.returns-in_err-spot-clause-kept
returns-in_err-spot-clause-kept c =
    let lists = c.self.inside in
    on_err c.from_residual-in_err-spot.result
    (all-kept lists.blocks c.put.new.self lists.spots.items c.put.ensures.grows c.self.invariant
    ∙ c.self.view_is)

pub returns-in_err-push-clause-kept : goal.returns-in_err-push-clause-kept
returns-in_err-push-clause-kept c =
    let lists = c.self.inside in
    on_err c.from_residual-in_err-push.result
    (ap (map (bytes_at c.put.new.self)) c.in_err-push.ensures.items
    ∙ all-kept lists.blocks c.put.new.self lists.spots.items c.put.ensures.grows c.self.invariant
    ∙ c.self.view_is)

pub returns-clause-added : goal.returns-clause-added
returns-clause-added c =
    let lists = c.self.inside in
    all-added lists.blocks c.put.new.self lists.spots.items c.push.new.self.items c.in_ok-spot.spot c.args.bytes.now
    c.put.ensures.grows c.self.invariant c.in_ok-spot.ensures.there c.in_ok-push.ensures.items
    ∙ ap (λ xs. xs ++ c.args.bytes.now ∷ []) c.self.view_is
