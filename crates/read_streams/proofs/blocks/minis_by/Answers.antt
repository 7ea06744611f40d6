use Rattle.std.proofs.Common.{◌≡◌, ◌*◌, ◌∙◌, ℕ, List, IfOk, subst}
use Rattle.cfb_header.specs.Bytes.{u32_at}
use Rattle.read_streams.specs.Chains.{walked}
use Rattle.read_streams.proofs.Joined.{whole_numbers}
use Rattle.read_streams.proofs.blocks.minis_by.Goals as goal

pub follow_minis-requires : goal.follow_minis-requires
follow_minis-requires c = record {
  whole = whole_numbers c.args.file.now c.args.sectors.now c.in-Some.bytes.now
      c.in-Some.ensures;
}

pub follow_minis-requires-2 : goal.follow_minis-requires-2
follow_minis-requires-2 c =
    record {
      whole = whole_numbers c.args.file.now c.args.sectors.now c.deref.result.now
          (c.deref.ensures.value ∙ c.in_ok-bytes.ensures);
    }

pub returns-in-Some : goal.returns-in-Some
returns-in-Some c =
    subst (λ (xs : List ℕ). IfOk c.follow_minis.result
    (λ v. v.items ≡ walked (λ n. u32_at xs (4 * n)) c.args.first c.args.count)) c.in-Some.ensures
    c.follow_minis.ensures

pub returns : goal.returns
returns c =
    subst (λ (xs : List ℕ). IfOk c.follow_minis-2.result
    (λ v. v.items ≡ walked (λ n. u32_at xs (4 * n)) c.args.first c.args.count))
    (c.deref.ensures.value ∙ c.in_ok-bytes.ensures) c.follow_minis-2.ensures
