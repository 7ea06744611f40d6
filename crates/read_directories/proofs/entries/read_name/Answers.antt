use Rattle.std.proofs.Common.{◌≡◌, ◌<◌, ◌≤◌, ◌+◌, ◌-◌, ◌*◌, ◌/◌, ◌%◌, ℕ, List, get_or, replicate, refl, ◌∙◌, ap, sym}
use Rattle.std.proofs.Common.{subst, arith}
use Rattle.std.proofs.lemmas.Grind.{get_or_tail}
use Rattle.cfb_bytes.specs.Bytes.{u16_at}
use Rattle.cfb_entries.specs.Entries.{IsNamed, name_length}
use Rattle.cfb_names.specs.Names.{is_forbidden}
use Rattle.cfb_entries.proofs.Reading.{unit_contained}
use Rattle.read_directories.proofs.Kept.{is_held, named_so, zeros_at}
use Rattle.read_directories.proofs.entries.read_name.Goals as goal

pub loop-k-init : goal.loop-k-init
loop-k-init c = record {
  room = refl;
  count = refl;
  read = λ k lt. absurd (omega (arith, lt));
  ascii = λ k lt. absurd (omega (arith, lt));
  zeros = λ k le. get_or_tail (c.read_u16-len.result / 2 - 1) (replicate 31 0) (k + 1) 0 (omega arith)
      ∙ zeros_at 31 (k + 1 - 1);
  allowed = λ k lt. absurd (omega (arith, lt));
}

pub returns-then-unit-gt127-clause-refused : goal.returns-then-unit-gt127-clause-refused
returns-then-unit-gt127-clause-refused c =
    let lt : c.loop-k.k < name_length c.args.entry.now / 2 - 1 = omega (arith, c.read_u16-len.ensures) in
    let past : 127 < u16_at c.args.entry.now (2 * c.loop-k.k) = omega (arith, c.read_u16-unit.ensures) in
    let short : name_length c.args.entry.now ≤ 64 = omega (arith, c.read_u16-len.ensures) in
    (short, (u16_at c.args.entry.now (2 * c.loop-k.k), unit_contained c.args.entry.now c.loop-k.k lt, past))

pub from_units-requires : goal.from_units-requires
from_units-requires c =
    let count : ℕ = c.read_u16-len.result / 2 - 1 in
    let few : count ≤ 31 = omega arith in
    let some : 0 < count = omega arith in
    is_held c.loop-k.units count c.loop-k.invariant.room few c.loop-k.invariant.count
    (λ k le. c.loop-k.invariant.zeros k (omega (arith, le))) some
    (λ k lt. c.loop-k.invariant.ascii k (omega (arith, lt)))
    (λ k lt. c.loop-k.invariant.allowed k (omega (arith, lt)))

pub returns-clause-read : goal.returns-clause-read
returns-clause-read c =
    let entry : List ℕ = c.args.entry.now in
    let is : c.read_u16-len.result ≡ name_length entry = c.read_u16-len.ensures in
    let some : 4 ≤ name_length entry = omega arith in
    let short : name_length entry ≤ 64 = omega arith in
    let even : name_length entry % 2 ≡ 0 = ap (λ n. n % 2) (sym is) ∙ c.if-len-ne0.false in
    let count : get_or c.loop-k.units 0 0 ≡ name_length entry / 2 - 1 = c.loop-k.invariant.count
    ∙ ap (λ n. n / 2 - 1) is in
    subst (IsNamed entry) (sym c.from_units.ensures)
    (named_so entry c.loop-k.units c.loop-k.invariant.room some short
    (λ k h. c.loop-k.invariant.read k (omega (arith, h))) count even)

pub forbidden_name-requires-clause-forbidden : goal.forbidden_name-requires-clause-forbidden
forbidden_name-requires-clause-forbidden c = ap is_forbidden (sym c.read_u16-unit.ensures)
    ∙ c.allowed-character.ensures.forbidden c.if-character-eq0.true
