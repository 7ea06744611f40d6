use Rattle.std.proofs.Common.{◌≡◌, ◌<◌, ◌≤◌, ◌*◌, ◌/◌, ◌-◌, ℕ, arith}
use Rattle.cfb_bytes.specs.Bytes.{u16_at}
use Rattle.cfb_entries.specs.Entries.{name_length}
use Rattle.cfb_entries.proofs.Reading.{unit_contained}
use Rattle.tell_entries.proofs.OwnFaults.{each_unit}
use Rattle.tell_entries.proofs.own_faults.is_past_ascii.Goals as goal

pub returns-then-read_u16-gt127-clause-past : goal.returns-then-read_u16-gt127-clause-past
returns-then-read_u16-gt127-clause-past c = λ _.
    let lt : c.loop-k.k < name_length c.args.entry.now / 2 - 1 =
    omega (arith, c.loop-k-test.true, c.count_characters-k-end.ensures) in
    let past : 127 < u16_at c.args.entry.now (2 * c.loop-k.k) =
    omega (arith, c.if-read_u16-gt127.true, c.read_u16-in-loop-k.ensures) in (
      omega (arith, c.if-read_u16-gt64.false, c.read_u16.ensures),
      (u16_at c.args.entry.now (2 * c.loop-k.k), unit_contained c.args.entry.now c.loop-k.k lt, past),
    )

pub returns-clause-ascii : goal.returns-clause-ascii
returns-clause-ascii c = λ _ short h.
    let low = each_unit (λ n. n ≤ 127) c.args.entry.now
    (λ k lt. c.loop-k.invariant k (omega (arith, lt, c.loop-k-test.false, c.count_characters-k-end.ensures)))
    h.0 h.1 in
    absurd (omega (arith, low, h.2))
