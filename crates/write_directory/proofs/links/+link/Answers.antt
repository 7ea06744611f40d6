use Rattle.std.proofs.Common.{ℕ, subst, arith, ◌<◌, ◌≤◌, length}
use Rattle.cfb_entries.specs.Entries.{NO_STREAM}
use Rattle.cfb_entries.specs.SearchTree.{IsSearchTree, empty}
use Rattle.cfb_entries.proofs.Trees.{tree_joined}
use Rattle.write_directory.proofs.links.+link.Goals as goal

pub returns-then-lo-hi-clause-tree : goal.returns-then-lo-hi-clause-tree
returns-then-lo-hi-clause-tree t c =
    subst (λ (n : ℕ). IsSearchTree c.args.left.now c.args.right.now c.args.lo n NO_STREAM) c.if-lo-hi.true
    (empty c.args.lo)

pub returns-clause-tree : goal.returns-clause-tree
returns-clause-tree t c =
    let some : c.args.lo < c.args.hi = omega arith in
    let in_left : c.args.hi ≤ length c.link-after.new.left = omega arith in
    let in_right : c.args.hi ≤ length c.link-after.new.right = omega arith in
    tree_joined c.link-before.new.left c.link-before.new.right c.link-after.new.left c.link-after.new.right
    c.args.lo c.args.hi c.link-before.result c.link-after.result
    some in_left in_right c.link-before.ensures.tree c.link-after.ensures.kept_left c.link-after.ensures.kept_right
    c.link-after.ensures.tree
