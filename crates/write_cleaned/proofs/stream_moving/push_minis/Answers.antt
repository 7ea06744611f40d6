use Rattle.std.proofs.Common.{◌≡◌, ◌-◌, ◌*◌, ◌∙◌, ℕ, List, arith, get_or, length, refl}
use Rattle.cfb_header.specs.Bytes.{u32_at}
use Rattle.read_source.proofs.Filling.{some_both, some_map, some_same}
use Rattle.read_streams.specs.Chains.{walked}
use Rattle.write_cleaned.specs.Windows.{IsAdded, IsPartAdded, IsWindow}
use Rattle.write_cleaned.proofs.Held.{always}
use Rattle.write_cleaned.proofs.Minis.{all_minis, first_minis, mini_more, no_minis, some_in_each, stream_bytes}
use Rattle.write_cleaned.proofs.stream_moving.push_minis.Goals as goal

pub loop-mini-init : goal.loop-mini-init
loop-mini-init g c = record {
  minis =
      c.deref-mini-items.ensures.value ∙ c.in-Ok.ensures
      ∙ (λ i. walked (λ n. u32_at (c.deref.ensures.value i) (4 * n)) c.args.place.first (c.count_minis.ensures i));
  left = omega arith;
  added = always (g.S.Source.bytes c.args.source.now) _
      (λ a len is. no_minis a c.args.tables.now c.args.place c.args.window.now c.args.waiting.now.items is);
  kept = refl;
}

pub push_part-requires-clause-few_zeros : goal.push_part-requires-clause-few_zeros
push_part-requires-clause-few_zeros g c =
    let i = c.loop-mini.invariant in
    some_in_each (λ n. u32_at c.args.tables.now.mini_fat.items (4 * n)) c.deref-mini-items.result.now
    c.args.place.first c.args.place.size c.loop-mini.mini-index c.loop-mini.left c.min-len.result
    i.minis (omega (arith, c.loop-mini-test.true)) i.left c.min-len.ensures

pub loop-mini-preserved : goal.loop-mini-preserved
loop-mini-preserved g c =
    let i = c.loop-mini.invariant in
    let tables = c.args.tables.now in
    let place = c.args.place in
    let ns : List ℕ = c.deref-mini-items.result.now in
    let k : ℕ = c.loop-mini.mini-index in
    let len : ℕ = c.min-len.result in
    let old : List ℕ = c.args.waiting.now.items in
    let now : List ℕ = c.loop-mini.waiting.items in
    let new : List ℕ = c.push_part.new.waiting.items in
    let start : ℕ = 64 * get_or ns k 0 in
    let known = g.S.Source.bytes c.args.source.now in
    record {
      minis = i.minis;
      left = omega (arith, i.left, c.min-len.ensures);
      added =
          some_both known
          (λ a. length a ≡ tables.len → IsWindow a tables c.args.window.now
          → IsAdded a tables c.loop-mini.window (first_minis (stream_bytes a tables place) place.size k) old
          now)
          (λ a. length a ≡ tables.len → IsWindow a tables c.loop-mini.window
          → IsPartAdded a tables c.push_part.new.window start len (64 - len) now new) _
          (λ a h p all is.
          let before : IsAdded a tables c.loop-mini.window (first_minis (stream_bytes a tables place) place.size k)
          old now = h all is in
          mini_more a tables place ns old now new c.loop-mini.window c.push_part.new.window start k len (64 - len)
          i.minis (omega (arith, c.loop-mini-test.true)) refl
          (c.min-len.ensures ∙ omega (arith, i.left)) refl before (p all before.is_window))
          i.added
          (some_same (g.S.Source.bytes c.loop-mini.source) known
          (λ a. length a ≡ tables.len → IsWindow a tables c.loop-mini.window
          → IsPartAdded a tables c.push_part.new.window start len (64 - len) now new) i.kept
          c.in_ok-push_part.ensures.added);
      kept = c.push_part.ensures.kept ∙ i.kept;
    }

pub returns-clause-added : goal.returns-clause-added
returns-clause-added g c =
    let i = c.loop-mini.invariant in
    let tables = c.args.tables.now in
    let place = c.args.place in
    let old : List ℕ = c.args.waiting.now.items in
    let new : List ℕ = c.loop-mini.waiting.items in
    some_map (g.S.Source.bytes c.args.source.now)
    (λ a. length a ≡ tables.len → IsWindow a tables c.args.window.now
    → IsAdded a tables c.loop-mini.window
    (first_minis (stream_bytes a tables place) place.size c.loop-mini.mini-index) old new) _
    (λ a h len is.
    all_minis a tables place c.deref-mini-items.result.now c.loop-mini.window old new c.loop-mini.mini-index i.minis
    (omega (arith, c.loop-mini-test.false, c.loop-mini.auto.mini-index-end)) c.requires.short (h len is)) i.added
