use Rattle.std.proofs.Common.{◌≡◌, length, ◌∙◌, ap, arith}
use Rattle.cfb_entries.specs.Entries.{EntriesValue}
use Rattle.read_directories.proofs.InOrder.{all_inside, as_many, taken_back}
use Rattle.read_directories.proofs.entries.Entries.children.Goals as goal

pub unmark-requires : goal.unmark-requires
unmark-requires c = all_inside c.self.inside.table c.walk.new.self c.walk.new.found.items c.walk.ensures.free
    c.walk.ensures.marks

pub unmark-requires-in-Err-from_slice : goal.unmark-requires-in-Err-from_slice
unmark-requires-in-Err-from_slice c = all_inside c.self.inside.table c.walk.new.self c.walk.new.found.items
    c.walk.ensures.free c.walk.ensures.marks

pub returns-in-Err-clause-kept : goal.returns-in-Err-clause-kept
returns-in-Err-clause-kept c =
    taken_back c.self.inside.table c.walk.new.self c.unmark.new.self c.walk.new.found.items c.walk.ensures.free
    c.walk.ensures.marks c.unmark.ensures.unmarked ∙ c.self.view_is

pub returns-in-Err-from_slice-clause-kept : goal.returns-in-Err-from_slice-clause-kept
returns-in-Err-from_slice-clause-kept c =
    taken_back c.self.inside.table c.walk.new.self c.unmark-in-Err-from_slice.new.self c.walk.new.found.items
    c.walk.ensures.free c.walk.ensures.marks
    c.unmark-in-Err-from_slice.ensures.unmarked ∙ c.self.view_is

pub invariant_of-self : goal.invariant_of-self
invariant_of-self c =
    let back = taken_back c.self.inside.table c.walk.new.self c.unmark.new.self c.walk.new.found.items
    c.walk.ensures.free c.walk.ensures.marks c.unmark.ensures.unmarked in
    let same : length c.unmark.new.self.used ≡ length c.self.inside.table.used =
    ap (λ (v : EntriesValue). length v.used) back in (
      omega (arith, c.self.invariant.0, same, c.clear.ensures.capacity, c.walk.ensures.waiting_kept),
      omega (
        arith,
        c.self.invariant.1,
        same,
        c.clear-2.ensures.capacity,
        c.walk.ensures.found_kept,
        c.unmark.ensures.kept,
      ),
    )

pub invariant_of-self-in-Ok-from_slice : goal.invariant_of-self-in-Ok-from_slice
invariant_of-self-in-Ok-from_slice c =
    let same : length c.walk.new.self.used ≡ length c.self.inside.table.used =
    as_many c.self.inside.table c.walk.new.self c.walk.new.found.items c.walk.ensures.marks in (
      omega (arith, c.self.invariant.0, same, c.clear.ensures.capacity, c.walk.ensures.waiting_kept),
      omega (arith, c.self.invariant.1, same, c.clear-2.ensures.capacity, c.walk.ensures.found_kept),
    )

pub invariant_of-self-in-Err-from_slice : goal.invariant_of-self-in-Err-from_slice
invariant_of-self-in-Err-from_slice c =
    let back =
    taken_back c.self.inside.table c.walk.new.self c.unmark-in-Err-from_slice.new.self c.walk.new.found.items
    c.walk.ensures.free c.walk.ensures.marks
    c.unmark-in-Err-from_slice.ensures.unmarked in
    let same : length c.unmark-in-Err-from_slice.new.self.used ≡ length c.self.inside.table.used =
    ap (λ (v : EntriesValue). length v.used) back in (
      omega (arith, c.self.invariant.0, same, c.clear.ensures.capacity, c.walk.ensures.waiting_kept),
      omega (
        arith,
        c.self.invariant.1,
        same,
        c.clear-2.ensures.capacity,
        c.walk.ensures.found_kept,
        c.unmark-in-Err-from_slice.ensures.kept,
      ),
    )
