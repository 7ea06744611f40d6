use Rattle.std.proofs.Common.{◌≡◌, ◌∙◌, List, ℕ, ap, arith, refl}
use Rattle.cfb_entries.specs.Entries.{entry_at}
use Rattle.write_zeros.proofs.Starts.{IsStart, ends_long, ends_short}
use Rattle.write_zeros.proofs.streams.ends_so.Goals as goal

pub returns-then-size-lt-CUTOFF : goal.returns-then-size-lt-CUTOFF
returns-then-size-lt-CUTOFF c = λ is.
    let first : ℕ = c.read_u32-first.result in
    let size : ℕ = c.read_u32-size.result in
    let dir : List ℕ = c.args.parts.now.chains.entries.items in
    let s : IsStart c.in-Some.entry.now (entry_at dir c.args.id) first size = record {
      same = c.in-Some.ensures.value ∙ ap (λ (x : List ℕ). entry_at x c.args.id) c.deref.ensures.value;
      first_is = c.read_u32-first.ensures;
      size_is = c.read_u32-size.ensures;
    } in
    ends_short c.args.file.now c.args.parts.now c.in-Some.entry.now (entry_at dir c.args.id) first size
    c.deref-then-size-lt-CUTOFF-2.result.now
    c.deref-then-size-lt-CUTOFF.result.now s c.deref-then-size-lt-CUTOFF-2.ensures.value
    c.deref-then-size-lt-CUTOFF.ensures.value (omega arith) (c.ends_in_zeros.ensures is)

pub returns : goal.returns
returns c = λ is.
    let first : ℕ = c.read_u32-first.result in
    let size : ℕ = c.read_u32-size.result in
    let dir : List ℕ = c.args.parts.now.chains.entries.items in
    let s : IsStart c.in-Some.entry.now (entry_at dir c.args.id) first size = record {
      same = c.in-Some.ensures.value ∙ ap (λ (x : List ℕ). entry_at x c.args.id) c.deref.ensures.value;
      first_is = c.read_u32-first.ensures;
      size_is = c.read_u32-size.ensures;
    } in
    ends_long c.args.file.now c.args.parts.now c.in-Some.entry.now (entry_at dir c.args.id) first size
    c.deref-2.result.now s c.deref-2.ensures.value (omega arith)
    (c.ends_in_zeros-2.ensures is)
