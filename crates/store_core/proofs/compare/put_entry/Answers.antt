use Rattle.std.proofs.Common.{◌≡◌, ◌+◌, ◌-◌, ◌++◌, ℕ, List, length, replicate, subst, take, arith}
use Rattle.std.specs.Int.{w32, to_le_bytes}
use Rattle.std.proofs.lemmas.List.{length-replicate, take-replicate}
use Rattle.store_core.proofs.Lists.{three_put}
use Rattle.store_core.proofs.compare.put_entry.Goals as goal

pub returns-clause-put : goal.returns-clause-put
returns-clause-put c =
    let block = c.requires.block in
    let zeros : List ℕ = replicate (512 - length c.args.bytes.now) 0 in
    let first : take (c.args.at + 4) c.put_at.new.out ≡ take c.args.at c.args.out.now ++ to_le_bytes w32 c.args.number =
    subst (λ (l : List ℕ). take (c.args.at + length l) c.put_at.new.out ≡ take c.args.at c.args.out.now ++ l)
    c.to_le_bytes.ensures c.put_at.ensures.put in
    let piece : take (512 - length c.args.bytes.now) (replicate 512 0) ≡ zeros =
    take-replicate (512 - length c.args.bytes.now) 512 0 (omega arith) in
    let third : take (c.args.at + 4 + length c.args.bytes.now + length zeros) c.put_at-3.new.out
    ≡ take (c.args.at + 4 + length c.args.bytes.now) c.put_at-2.new.out ++ zeros =
    subst (λ (l : List ℕ). take (c.args.at + 4 + length c.args.bytes.now + length l) c.put_at-3.new.out
    ≡ take (c.args.at + 4 + length c.args.bytes.now) c.put_at-2.new.out ++ l) piece c.put_at-3.ensures.put in
    three_put c.args.out.now c.put_at.new.out c.put_at-2.new.out c.put_at-3.new.out (to_le_bytes w32 c.args.number)
    c.args.bytes.now zeros c.args.at (c.args.at + 516)
    first c.put_at-2.ensures.put third
    (omega (arith, block, length-replicate {A = ℕ} (512 - length c.args.bytes.now) 0))
