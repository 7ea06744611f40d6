use Rattle.std.proofs.Common.{◌-◌, List, ℕ, drop, length, refl, take}
use Rattle.write_zeros.proofs.Blocks.{zero_behind}
use Rattle.write_zeros.proofs.zeros.is_zero_behind.Goals as goal

pub returns : goal.returns
returns c = λ t.
    let bytes : List ℕ = c.args.bytes.now in
    let rest : List ℕ = take (length bytes - c.min.result) (drop c.min.result bytes) in
    let piece : List ℕ = take c.min-2.result rest in
    let tail : List ℕ = take (length piece - c.min-3.result) (drop c.min-3.result piece) in
    zero_behind c.args.width c.args.at c.args.from c.min.result c.min-2.result c.min-3.result bytes rest piece tail
    c.min.ensures refl c.min-2.ensures refl c.min-3.ensures refl
    (c.are_zeros.ensures t)
