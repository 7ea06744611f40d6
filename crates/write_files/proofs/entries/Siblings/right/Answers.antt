use Rattle.std.proofs.Common.{◌<◌, sym, ◌∙◌, ap, subst, length, ℕ, arith}
use Rattle.std.proofs.lemmas.Grind.{get_or_default_zero}
use Rattle.cfb_layout.specs.Directory.{linked, IsLink}
use Rattle.write_files.proofs.ContentsSiblings.{right-named, right-same}
use Rattle.write_files.proofs.entries.Siblings.right.Goals as goal

pub entry_id-requires : goal.entry_id-requires
entry_id-requires c =
    let inside : c.args.place < length c.args.self.now.links.right.items = omega arith in
    subst (λ (z : ℕ). IsLink (length c.args.self.now.ids.items) z)
    (sym (c.index.ensures ∙ get_or_default_zero c.args.self.now.links.right.items c.args.place
    c.index.result.now inside))
    (right-named c.args.self.now.links.left.items c.args.self.now.links.right.items
    (length c.args.self.now.ids.items) c.args.self.now.links.top c.requires.joined.search c.args.place
    c.requires.there)

pub returns : goal.returns
returns c =
    let inside : c.args.place < length c.args.self.now.links.right.items = omega arith in
    c.entry_id.ensures
    ∙ ap (linked c.args.self.now.ids.items)
    (c.index.ensures ∙ get_or_default_zero c.args.self.now.links.right.items c.args.place c.index.result.now inside
    ∙ right-same c.args.self.now.links.left.items c.args.self.now.links.right.items
    (length c.args.self.now.ids.items) c.args.self.now.links.top c.requires.joined.search c.args.place
    c.requires.there)
