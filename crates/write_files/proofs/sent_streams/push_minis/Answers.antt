use Rattle.std.proofs.Common.{◌≡◌, ◌++◌, ◌-◌, ◌*◌, ℕ, List, OnOk, arith, length, replicate, subst}
use Rattle.cfb_file.specs.Need.{pieces}
use Rattle.write_files.proofs.sent_streams.push_minis.Goals as goal

pub push_padded-requires : goal.push_padded-requires
push_padded-requires c = omega (arith, c.mini_zeros.ensures.zeros)

pub returns : goal.returns
returns c =
    let bytes : List ℕ = c.args.bytes.now in
    let count : c.mini_zeros.result ≡ 64 * pieces 64 (length bytes) - length bytes = c.mini_zeros.ensures.zeros in
    subst (λ (k : ℕ). OnOk c.push_padded.result (c.push_padded.new.waiting.items ≡ c.args.waiting.now.items
    ++ (bytes ++ replicate k 0))) count c.push_padded.ensures
