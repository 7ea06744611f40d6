use Rattle.std.proofs.Common.{◌≤◌, ◌++◌, [], ℕ, List, Option, arith, refl, slice_range, subst}
use Rattle.std.specs.Int.{to_le_bytes, w32}
use Rattle.std.specs.List.{flat_map}
use Rattle.write_parts.specs.Sends.{Sends}
use Rattle.write_parts.proofs.Sent.{numbers_sent, sends_both, sends_into, sends_none}
use Rattle.write_parts.proofs.Numbers.{piece_more}
use Rattle.write_parts.proofs.pieces.send_numbers.Goals as goal

pub loop-at-init : goal.loop-at-init
loop-at-init g c = ([], sends_none _ _, refl)

pub loop-at-preserved : goal.loop-at-preserved
loop-at-preserved g c =
    let i = c.loop-at.invariant in
    let numbers : List ℕ = c.args.numbers.now in
    let piece : List ℕ = flat_map (to_le_bytes w32) (slice_range numbers c.loop-at.at c.min-end.result) in
    let v : Option (List ℕ) = g.W.Write.contents c.loop-at.writer in
    let u : Option (List ℕ) = g.W.Write.contents c.make_room.new.writer in
    let b : List ℕ = c.loop-at.waiting.items in
    let m : List ℕ = c.make_room.new.waiting.items in
    let d : List ℕ = c.push_numbers.new.waiting.items in
    let order : c.loop-at.at ≤ c.min-end.result = omega (arith, c.min-end.ensures, c.loop-at-test.true) in (
      i.0 ++ piece,
      sends_both (g.W.Write.contents c.args.writer.now) v u c.args.waiting.now.items b d i.0 piece i.1
          (sends_into v u b m d piece c.in_ok-make_room.ensures c.in_ok-push_numbers.ensures),
      piece_more numbers c.loop-at.at c.min-end.result i.0 piece _ order refl i.2,
    )

pub returns : goal.returns
returns g c =
    let i = c.loop-at.invariant in
    subst (λ (zs : List ℕ). Sends (g.W.Write.contents c.args.writer.now) (g.W.Write.contents c.loop-at.writer)
    c.args.waiting.now.items c.loop-at.waiting.items zs)
    (numbers_sent c.args.numbers.now c.loop-at.at i.0 _ c.loop-at-test.false i.2) i.1
