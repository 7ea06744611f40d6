use Rattle.std.proofs.Common.{◌≡◌, ◌<◌, ◌≤◌, ◌+◌, ◌-◌, ◌*◌, ◌∙◌, ◌++◌, ℕ, List, ap, drop, length, length-append}
use Rattle.std.proofs.Common.{length-take, sym, take, arith}
use Rattle.std.proofs.lemmas.List.{append-nil}
use Rattle.store_model.specs.Changes.{bytes_in, change_at, change_between, changes_from, spelled}
use Rattle.store_model.proofs.Changed.{changes_more}
use Rattle.store_model.proofs.Runs.{window_part}
use Rattle.store_model.proofs.Spelled.{spelled_more}
use Rattle.store_core.proofs.compare.compare.Goals as goal

-- the blocks up to the next one
next : (first number : ℕ) (old new : List ℕ) → first ≤ number → changes_from first (number + 1 - first) old new
    ≡ changes_from first (number - first) old new ++ change_at number old new
next first number old new from =
    let sum : number + 1 - first ≡ number - first + 1 = omega (arith, from) in
    let here : first + (number - first) ≡ number = omega (arith, from) in
    ap (λ (k : ℕ). changes_from first k old new) sum
    ∙ changes_more first (number - first) 1 old new
    ∙ ap (λ (n : ℕ). changes_from first (number - first) old new ++ changes_from n 1 old new) here
    ∙ ap (λ bs. changes_from first (number - first) old new ++ bs) (append-nil (change_at number old new))

-- a block of the window is one of the document
in_window : (first number last : ℕ) (old window : List ℕ) → first ≤ number → number < last → last ≤ first + 128
    → window ≡ take 65536 (drop (512 * first) old) → bytes_in (number - first) window ≡ bytes_in number old
in_window first number last old window from below few is =
    let here : 512 * first + 512 * (number - first) ≡ 512 * number = omega (arith, from) in
    ap (λ (l : List ℕ). take 512 (drop (512 * (number - first)) l)) is
    ∙ window_part 65536 (512 * (number - first)) 512 (512 * first) old (omega (arith, from, below, few))
    ∙ ap (λ (n : ℕ). take 512 (drop n old)) here

pub compare_block-count-requires-clause-block : goal.compare_block-count-requires-clause-block
compare_block-count-requires-clause-block c =
    let is = ap length c.block-now.ensures in
    omega (arith, is, length-take 512 (drop (512 * c.loop-number.number) c.args.document.now))

pub loop-number-preserved : goal.loop-number-preserved
loop-number-preserved c =
    let first : ℕ = c.args.first in
    let number : ℕ = c.loop-number.number in
    let so_far = c.loop-number.invariant in
    let below = c.loop-number-test.true in
    let from = so_far.from in
    let most = so_far.few in
    let step = c.compare_block-count.ensures in
    let grows = step.few in
    let change : (old : List ℕ) → c.args.window.now ≡ take 65536 (drop (512 * first) old)
    → change_between number c.block-was.result.now c.block-now.result.now
    ≡ change_at number old c.args.document.now = λ old is.
    ap (λ (l : List ℕ). change_between number l c.block-now.result.now)
    (c.block-was.ensures ∙ in_window first number c.args.last old c.args.window.now so_far.from
    c.loop-number-test.true c.requires.few is)
    ∙ ap (λ (l : List ℕ). change_between number (bytes_in number old) l) c.block-now.ensures in
    record {
      from = omega (arith, from);
      to = omega (arith, below);
      few = omega (arith, most, grows);
      out = step.out ∙ so_far.out;
      counted = λ old is.
          step.count ∙ ap (λ bs. c.loop-number.count + length bs) (change old is)
          ∙ ap (λ (n : ℕ). n + length (change_at number old c.args.document.now)) (so_far.counted old is)
          ∙ sym (ap length (next first number old c.args.document.now so_far.from)
          ∙ length-append (changes_from first (number - first) old c.args.document.now)
          (change_at number old c.args.document.now));
      spelled = λ old is.
          step.put ∙ ap (λ bs. take (516 * c.loop-number.count) c.loop-number.out ++ spelled bs) (change old is)
          ∙ ap (λ (l : List ℕ). l ++ spelled (change_at number old c.args.document.now)) (so_far.spelled old is)
          ∙ sym (ap spelled (next first number old c.args.document.now so_far.from)
          ∙ spelled_more (changes_from first (number - first) old c.args.document.now)
          (change_at number old c.args.document.now));
    }
