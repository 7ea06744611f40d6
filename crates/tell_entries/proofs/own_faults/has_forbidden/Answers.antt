use Rattle.std.proofs.Common.{◌≡◌, ◌<◌, ◌≤◌, ◌*◌, ◌/◌, ◌-◌, ◌∙◌, ℕ, ap, arith, false, sym}
use Rattle.cfb_bytes.specs.Bytes.{u16_at}
use Rattle.cfb_names.specs.Names.{is_forbidden}
use Rattle.cfb_entries.specs.Entries.{name_length}
use Rattle.cfb_entries.proofs.Reading.{unit_contained}
use Rattle.tell_entries.proofs.OwnFaults.{each_unit}
use Rattle.tell_entries.proofs.own_faults.has_forbidden.Goals as goal

pub returns-then-is_refused-clause-forbidden : goal.returns-then-is_refused-clause-forbidden
returns-then-is_refused-clause-forbidden c = λ _.
    let lt : c.loop-k.k < name_length c.args.entry.now / 2 - 1 =
    omega (arith, c.loop-k-test.true, c.count_characters-k-end.ensures) in (
      omega (arith, c.if-read_u16-gt64.false, c.read_u16.ensures),
      (
        u16_at c.args.entry.now (2 * c.loop-k.k),
        unit_contained c.args.entry.now c.loop-k.k lt,
        ap is_forbidden (sym c.read_u16-in-loop-k.ensures) ∙ sym c.is_refused.ensures ∙ c.if-is_refused.true,
      ),
    )

pub returns-clause-allowed : goal.returns-clause-allowed
returns-clause-allowed c = λ _ short h.
    let low = each_unit (λ n. is_forbidden n ≡ false) c.args.entry.now
    (λ k lt. c.loop-k.invariant k (omega (arith, lt, c.loop-k-test.false, c.count_characters-k-end.ensures)))
    h.0 h.1 in
    absurd (cc (low, h.2))
