use Rattle.std.proofs.Common.{◌≡◌, ◌++◌, ap, arith, length, subst, sym}
use Rattle.tree_rising.specs.Laid.{Grows, laid}
use Rattle.tree_rising.specs.Spots.{Holds}
use Rattle.tree_rising.proofs.Growing.{grows-appended, grows-further, grows-same}
use Rattle.tree_rising.proofs.Lying.{appended-lies}
use Rattle.tree_rising.proofs.blocks.Blocks.put.Goals.{then-bytes-capacity+in_ok-begin, else-bytes-capacity}
use Rattle.tree_rising.proofs.blocks.Blocks.put.Goals as goal

left : (c : goal.In_ok-extend_from_slice) → laid c.self-2.inside.full.items c.self-2.inside.filled
    c.extend_from_slice.new.self.items ≡ laid c.self-2.inside.full.items c.self-2.inside.filled
    (c.self-2.inside.last.items ++ c.args.bytes.now)
left c = ap (laid c.self-2.inside.full.items c.self-2.inside.filled) c.in_ok-extend_from_slice.ensures.items

-- what a block that may have been begun before leaves
room : (c : goal.In_ok-extend_from_slice) → Grows c.args.self.now c.if-bytes-capacity.self
room c =
    elim c.if-bytes-capacity.branch [
      | then-bytes-capacity+in_ok-begin w ↦ subst (Grows c.args.self.now) (sym w.self-is) w.begin.ensures
      | else-bytes-capacity w ↦ grows-same c.args.self.now c.if-bytes-capacity.self w.self-is
    ]

pub returns-clause-grows : goal.returns-clause-grows
returns-clause-grows c =
    let blocks = c.self-2.inside in
    subst (Grows c.args.self.now) (sym (left c))
    (grows-further c.args.self.now (laid blocks.full.items blocks.filled blocks.last.items)
    (laid blocks.full.items blocks.filled (blocks.last.items ++ c.args.bytes.now))
    (subst (Grows c.args.self.now) (sym c.self-2.view_is) (room c))
    (grows-appended blocks.full.items blocks.filled blocks.last.items c.args.bytes.now))

pub returns-clause-there : goal.returns-clause-there
returns-clause-there c =
    let blocks = c.self-2.inside in
    subst (λ bs. Holds bs (record { block = blocks.filled; start = c.in-Ok.start; len = length c.args.bytes.now })
    c.args.bytes.now) (sym (left c))
    (appended-lies blocks.full.items blocks.filled c.in-Ok.start (length c.args.bytes.now) blocks.last.items
    c.args.bytes.now c.self-2.invariant (omega (arith, c.in-Ok.ensures, c.len-2.ensures, blocks.last.ok.0))
    (omega arith))
