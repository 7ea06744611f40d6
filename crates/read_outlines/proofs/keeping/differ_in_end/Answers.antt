use Rattle.std.proofs.Common.{◌≡◌, ◌-◌, ◌<◌, ℕ, List, ap, arith, false, length, nat_eq, rules}
use Rattle.read_outlines.proofs.Ends.{ends-differ}
use Rattle.read_outlines.proofs.keeping.differ_in_end.Goals as goal

pub returns : goal.returns
returns c = λ differ.
    let a : List ℕ = c.args.one.now in
    let b : List ℕ = c.args.other.now in
    let one : List ℕ = c.as_bytes-one.result.now in
    let other : List ℕ = c.as_bytes-other.result.now in
    let last : ℕ = length one - 1 in
    let is_one : one ≡ a = c.as_bytes-one.ensures.spelled in
    let is_other : other ≡ b = c.as_bytes-other.ensures.spelled in
    let in_one : last < length a = omega (arith, ap length is_one, c.as_bytes-one.ensures.valid.some) in
    let in_other : last < length b =
    omega (
      arith,
      ap length is_one,
      ap length is_other,
      c.as_bytes-one.ensures.valid.some,
      c.if-one-other.false,
    ) in
    let apart : nat_eq c.to_ascii_uppercase.result c.to_ascii_uppercase-2.result ≡ false = search (rules, differ) in
    ends-differ a b last in_one in_other
    (cc (is_one, is_other, c.to_ascii_uppercase.ensures.value, c.to_ascii_uppercase-2.ensures.value, apart))
