use Rattle.std.proofs.Common.{ap, ◌∙◌, []}
use Rattle.tree_storage.specs.Kept.{Kept}
use Rattle.cfb_entries.specs.Tree.{Tree}
use Rattle.tree_rising.proofs.Ascending.{rolled}
use Rattle.tree_rising.specs.Row.{entries_of}
use Rattle.tree_rising.proofs.rising.Rising.into_tree.Goals as goal

pub returns : goal.returns
returns c =
    let at : Tree → Kept = λ t. record { now = t; saved = [] } in
    c.from_root.ensures ∙ ap at (rolled c.args.self.class c.args.self.state c.in_ok-children.children
    (entries_of c.args.self.streams) (c.in_ok-children.ensures c.args.self.ascending))
