use Rattle.std.proofs.Common.{◌≡◌, ◌≤◌, ◌+◌, ◌-◌, ◌*◌, ℕ, List, arith, drop, length, min, refl, take}
use Rattle.read_source.specs.Filled.{IsRunRead}
use Rattle.read_source.proofs.Filling.{if_some, run_past, run_read, some_map}
use Rattle.read_source.proofs.sectors.read_run.Goals as goal

pub returns-then-start-len-clause-read : goal.returns-then-start-len-clause-read
returns-then-start-len-clause-read g c =
    let past : length c.args.file.now ≤ 512 * (c.args.first + 1) = omega (arith, c.if-start-len.true, c.len.ensures) in
    if_some (g.S.Source.bytes c.args.source.now) (λ a. length a ≡ length c.args.file.now
    → IsRunRead a c.args.file.now c.args.file.now c.args.first c.args.count)
    (λ a len. run_past a c.args.file.now c.args.first c.args.count (512 * (c.args.first + 1)) refl past len)

pub returns-clause-read : goal.returns-clause-read
returns-clause-read g c =
    let old : List ℕ = c.args.file.now in
    let start : ℕ = 512 * (c.args.first + 1) in
    let size : ℕ = c.min-size.result in
    let size_is : size ≡ min (512 * c.args.count) (length old - start) =
    omega (arith, c.min-size.ensures, c.saturating_mul.ensures, c.len-2.ensures, c.len.ensures) in
    some_map (g.S.Source.bytes c.args.source.now) (λ a. c.fill.new.buffer.items ≡ take size (drop start a))
    (λ a. length a ≡ length old → IsRunRead a old c.put_run.new.file c.args.first c.args.count)
    (λ a is len.
    run_read a old c.put_run.new.file c.fill.new.buffer.items c.args.first c.args.count start size refl
    (omega (arith, c.if-start-len.false, c.len.ensures)) len size_is is c.in_ok-fill.ensures.len
    c.in_ok-put_run.ensures.len
    (rw c.deref.ensures.value at c.in_ok-put_run.ensures.here) c.in_ok-put_run.ensures.before
    (rw c.deref.ensures.value at c.in_ok-put_run.ensures.behind))
    c.in_ok-fill.ensures.bytes
