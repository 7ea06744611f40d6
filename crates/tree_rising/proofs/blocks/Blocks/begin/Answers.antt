use Rattle.std.proofs.Common.{◌≡◌, ◌∙◌, ◌++◌, ◌∷◌, [], ap, arith, slice_set, subst, sym}
use Rattle.tree_rising.specs.Laid.{Grows, laid}
use Rattle.tree_rising.proofs.Growing.{begun, grows-behind}
use Rattle.tree_rising.proofs.blocks.Blocks.begin.Goals as goal

pub returns : goal.returns
returns c =
    let blocks = c.self.inside in
    let held = c.hold_place.new.full in
    let left : laid (slice_set held.items blocks.filled c.in_ok-closed.closed) c.in-Ok.next
    c.in_ok-fresh.fresh.items ≡ c.args.self.now ++ [] ∷ [] =
    begun blocks.full.items held.items blocks.filled c.in-Ok.next blocks.last.items c.in_ok-closed.closed
    c.in_ok-fresh.fresh.items
    c.in_ok-hold_place.ensures.there c.hold_place.ensures.same c.in_ok-closed.ensures.taken
    (omega (arith, c.in-Ok.ensures, c.len.ensures, held.ok.0)) c.in_ok-fresh.ensures.items
    ∙ ap (λ xs. xs ++ [] ∷ []) c.self.view_is in
    subst (Grows c.args.self.now) (sym left) (grows-behind c.args.self.now [])
