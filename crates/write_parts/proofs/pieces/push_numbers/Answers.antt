use Rattle.std.proofs.Common.{◌+◌, ◌*◌, ◌++◌, ◌∙◌, ℕ, List, ap, drop, get_or, take}
use Rattle.std.specs.Int.{to_le_bytes, w32}
use Rattle.write_parts.proofs.Numbers.{number_more, numbers_cut}
use Rattle.write_parts.proofs.pieces.push_numbers.Goals as goal

pub loop-k-preserved : goal.loop-k-preserved
loop-k-preserved c =
    let k : ℕ = c.loop-k.k in
    let numbers : List ℕ = c.args.numbers.now in
    c.write_number.ensures
    ∙ ap (λ bs. take (4 * k) bs ++ to_le_bytes w32 (get_or numbers k 0) ++ drop (4 * k + 4) bs) c.loop-k.invariant
    ∙ number_more numbers k c.loop-k-test.true c.requires

pub returns : goal.returns
returns c =
    c.in_ok-extend_from_slice.ensures.items
    ∙ ap (λ bs. c.args.waiting.now.items ++ bs)
    (numbers_cut c.args.numbers.now c.loop-k.bytes c.loop-k.k c.loop-k-test.false c.loop-k.invariant)
