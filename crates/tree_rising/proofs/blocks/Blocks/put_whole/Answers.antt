use Rattle.std.proofs.Common.{◌≡◌, ◌∙◌, ◌++◌, ◌∷◌, [], ap, arith, length, subst, sym}
use Rattle.tree_rising.specs.Laid.{Grows, laid}
use Rattle.tree_rising.specs.Spots.{Holds}
use Rattle.tree_rising.proofs.Growing.{grows-behind, laid-behind, length-laid}
use Rattle.tree_rising.proofs.Lying.{behind-lies}
use Rattle.tree_rising.proofs.blocks.Blocks.put_whole.Goals as goal

left : (c : goal.In_ok-push) → laid c.push.new.self.items c.self.inside.filled c.self.inside.last.items
    ≡ c.args.self.now ++ c.args.bytes ∷ []
left c =
    let last = c.self.inside.last.items in
    ap (λ xs. laid xs c.self.inside.filled last) c.in_ok-push.ensures.items
    ∙ laid-behind c.hold_place.new.full.items c.self.inside.filled last c.args.bytes c.in_ok-hold_place.ensures.there
    ∙ ap (λ xs. xs ++ c.args.bytes ∷ []) (c.hold_place.ensures.same last ∙ c.self.view_is)

pub returns-clause-grows : goal.returns-clause-grows
returns-clause-grows c = subst (Grows c.args.self.now) (sym (left c)) (grows-behind c.args.self.now c.args.bytes)

pub returns-clause-there : goal.returns-clause-there
returns-clause-there c =
    let last = c.self.inside.last.items in
    let held = c.hold_place.new.full in
    let behind : c.in-Ok.block ≡ length c.args.self.now =
    omega (
      arith,
      c.in-Ok.ensures,
      c.len.ensures,
      held.ok.0,
      length-laid held.items c.self.inside.filled last
          c.in_ok-hold_place.ensures.there,
      ap length (c.hold_place.ensures.same last ∙ c.self.view_is),
    ) in
    subst (λ bs. Holds bs (record { block = c.in-Ok.block; start = 0; len = c.len-len.result }) c.args.bytes)
    (sym (left c))
    (behind-lies c.args.self.now c.in-Ok.block c.len-len.result c.args.bytes behind c.len-len.ensures)
