use Rattle.std.proofs.Common.{◌≡◌, ◌+◌, ◌∙◌, ℕ, List, arith, get_or, length, refl, sym}
use Rattle.read_source.specs.Filled.{IsRead, IsRunRead}
use Rattle.read_source.proofs.Filling.{IsReadSoFar, all_read, some_both, some_map, some_same, more_read}
use Rattle.read_source.proofs.sectors.read_sectors.Goals as goal

pub loop-at-preserved : goal.loop-at-preserved
loop-at-preserved g c =
    let i = c.loop-at.invariant in
    let old : List ℕ = c.args.file.now in
    let now : List ℕ = c.loop-at.file in
    let new : List ℕ = c.read_run.new.file in
    let sectors : List ℕ = c.args.sectors.now in
    let at : ℕ = c.loop-at.at in
    let count : ℕ = c.run_length-count.result in
    let first : ℕ = get_or sectors at 0 in (
      c.run_length-count.ensures.inside,
      c.in_ok-read_run.ensures.len ∙ i.1,
      c.in_ok-read_run.ensures.front ∙ i.2,
      c.in_ok-read_run.ensures.kept ∙ i.3,
      some_both (g.S.Source.bytes c.args.source.now) (λ a. length a ≡ length old → IsReadSoFar a old now sectors at)
          (λ a. length a ≡ length now → IsRunRead a now new first count) (λ a. length a ≡ length old
          → IsReadSoFar a old new sectors (at + count))
          (λ a h r len. more_read a old now new sectors at count first (h len) (r (len ∙ sym i.1)) refl
          c.run_length-count.ensures.in_turn)
          i.4 (some_same (g.S.Source.bytes c.loop-at.source) (g.S.Source.bytes c.args.source.now)
          (λ a. length a ≡ length now → IsRunRead a now new first count) i.3 c.in_ok-read_run.ensures.read),
    )

pub returns-clause-read : goal.returns-clause-read
returns-clause-read g c =
    some_map (g.S.Source.bytes c.args.source.now) (λ a. length a ≡ length c.args.file.now
    → IsReadSoFar a c.args.file.now c.loop-at.file c.args.sectors.now c.loop-at.at)
    (λ a. length a ≡ length c.args.file.now → IsRead a c.args.file.now c.loop-at.file c.args.sectors.now)
    (λ a h len. all_read a c.args.file.now c.loop-at.file c.args.sectors.now c.loop-at.at (h len) (omega arith))
    c.loop-at.invariant.4
