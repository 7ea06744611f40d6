use Rattle.std.proofs.Common.{◌≡◌, List, ℕ, arith, get_or}
use Rattle.cfb_entries.specs.Entries.{entry_at}
use Rattle.write_zeros.proofs.Starts.{IsStart, mark_long, mark_short}
use Rattle.write_zeros.proofs.streams.mark_stream.Goals as goal

pub returns-then-size-lt-CUTOFF-clause-minis : goal.returns-then-size-lt-CUTOFF-clause-minis
returns-then-size-lt-CUTOFF-clause-minis c = λ ids longs shorts taken in_ids w.
    let bytes : List ℕ = c.in-Some.entry.now in
    let s : IsStart bytes (entry_at c.deref.result.now c.args.id) c.read_u32-first.result c.read_u32-size.result =
    record { same = c.in-Some.ensures.value; first_is = c.read_u32-first.ensures; size_is = c.read_u32-size.ensures } in
    let k : get_or bytes 66 0 ≡ 2 = omega arith in
    let m = mark_short c.args.parts.now ids longs shorts c.args.id c.deref.result.now bytes c.read_u32-first.result
    c.read_u32-size.result
    c.deref-then-size-lt-CUTOFF.result.now taken in_ids c.deref.ensures.value s k
    c.deref-then-size-lt-CUTOFF.ensures.value (omega arith) in
    c.mark_chain.ensures shorts m.chain m.linked m.all_in w

pub returns-clause-sectors : goal.returns-clause-sectors
returns-clause-sectors c = λ ids longs shorts taken in_ids w.
    let bytes : List ℕ = c.in-Some.entry.now in
    let s : IsStart bytes (entry_at c.deref.result.now c.args.id) c.read_u32-first.result c.read_u32-size.result =
    record { same = c.in-Some.ensures.value; first_is = c.read_u32-first.ensures; size_is = c.read_u32-size.ensures } in
    let k : get_or bytes 66 0 ≡ 2 = omega arith in
    let m = mark_long c.args.parts.now ids longs shorts c.args.id c.deref.result.now bytes c.read_u32-first.result
    c.read_u32-size.result
    c.deref-2.result.now taken in_ids c.deref.ensures.value s k c.deref-2.ensures.value (omega arith) in
    c.mark_chain-2.ensures longs m.chain m.linked m.all_in w
