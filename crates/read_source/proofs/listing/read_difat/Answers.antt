use Rattle.std.proofs.Common.{◌≡◌, ◌+◌, ◌-◌, ◌∙◌, ◌∷◌, [], ℕ, List, arith, length, refl, sym}
use Rattle.cfb_header.specs.Header.{HeaderValue, difat_by, difat_from}
use Rattle.read_source.specs.Filled.{IsRead}
use Rattle.read_source.proofs.Filling.{IsDifatSoFar, all_met, if_some, more_met, none_met, some_both, some_map}
use Rattle.read_source.proofs.Filling.{some_same}
use Rattle.read_source.proofs.listing.read_difat.Goals as goal

pub loop-init : goal.loop-init
loop-init g c =
    let h : HeaderValue = c.args.header.now in
    let start : ℕ = c.first_difat-at.result in
    let end : ℕ = c.difat_count-end.result in
    let e : end - 0 ≡ h.difat_count = omega (arith, c.difat_count-end.ensures.count) in (
      refl,
      refl,
      refl,
      if_some (g.S.Source.bytes c.args.source.now) (λ a. length a ≡ length c.args.file.now
          → IsDifatSoFar a c.args.file.now c.args.file.now (difat_by a h) (end - 0) start)
          (λ a len. none_met a c.args.file.now (difat_by a h) (end - 0) start
          (λ i. difat_from a (e i) (c.first_difat-at.ensures i))),
    )

pub loop-preserved : goal.loop-preserved
loop-preserved g c =
    let i = c.loop.invariant in
    let h : HeaderValue = c.args.header.now in
    let old : List ℕ = c.args.file.now in
    let now : List ℕ = c.loop.file in
    let new : List ℕ = c.read_sectors.new.file in
    let at : ℕ = c.loop.at in
    let next : ℕ = c.in_ok-at.at in
    let end : ℕ = c.difat_count-end.result in
    let counter : ℕ = c.loop.counter in (
      c.in_ok-read_sectors.ensures.len ∙ i.0,
      c.in_ok-read_sectors.ensures.front ∙ i.1,
      c.in_ok-read_sectors.ensures.kept ∙ i.2,
      some_both (g.S.Source.bytes c.args.source.now) (λ a. length a ≡ length old
          → IsDifatSoFar a old now (difat_by a h) (end - counter) at)
          (λ a. length a ≡ length now → IsRead a now new (at ∷ [])) (λ a. length a ≡ length old
          → IsDifatSoFar a old new (difat_by a h) (end - (counter + 1)) next)
          (λ a s r len. more_met a old now new (difat_by a h) at next end counter c.loop-test.true
          c.in_ok-at.ensures (s len) (r (len ∙ sym i.0)))
          i.3 (some_same (g.S.Source.bytes c.loop.source) (g.S.Source.bytes c.args.source.now)
          (λ a. length a ≡ length now → IsRead a now new (at ∷ [])) i.2 c.in_ok-read_sectors.ensures.read),
    )

pub returns-clause-read : goal.returns-clause-read
returns-clause-read g c =
    let h : HeaderValue = c.args.header.now in
    let old : List ℕ = c.args.file.now in
    let end : ℕ = c.difat_count-end.result in
    some_map (g.S.Source.bytes c.args.source.now) (λ a. length a ≡ length old
    → IsDifatSoFar a old c.loop.file (difat_by a h) (end - c.loop.counter) c.loop.at)
    (λ a. length a ≡ length old → IsRead a old c.loop.file (difat_by a h))
    (λ a s len. all_met a old c.loop.file (difat_by a h) c.loop.at end c.loop.counter c.loop-test.false (s len))
    c.loop.invariant.3
