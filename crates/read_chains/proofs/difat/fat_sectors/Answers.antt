use Rattle.std.proofs.Common.{◌≡◌, ◌+◌, ◌-◌, ◌++◌, ◌∷◌, ◌∙◌, [], List, ℕ, append-nil, ap, arith, length, rules, sym}
use Rattle.std.proofs.Common.{take}
use Rattle.std.proofs.lemmas.List.{length-take}
use Rattle.std.specs.List.{flat_map}
use Rattle.cfb_header.specs.Header.{difat_by, difat_from, named_in}
use Rattle.read_chains.specs.View.{image_bytes}
use Rattle.cfb_chains.proofs.Tables.{difat_done, difat_more, named_more}
use Rattle.read_chains.proofs.difat.fat_sectors.Goals as goal

pub loop-init : goal.loop-init
loop-init c =
    let file = image_bytes c.args.file.now in
    let h = c.args.header.now in
    let fat : c.in_ok-fat.fat.items ≡ h.fat = search rules in
    let none : c.new-difat.result.items ≡ [] = search rules in (
      fat ∙ sym (append-nil h.fat) ∙ ap (λ xs. h.fat ++ flat_map (named_in file) xs) (sym none),
      ap (λ xs. xs ++ difat_from file (c.difat_count-end.result - 0) c.first_difat-at.result) none
          ∙ ap (λ n. difat_from file (n - 0) c.first_difat-at.result) c.difat_count-end.ensures.count
          ∙ ap (difat_from file (h.difat_count - 0)) c.first_difat-at.ensures
          ∙ (let e : h.difat_count - 0 ≡ h.difat_count = omega arith in ap (λ n. difat_from file n h.first_difat) e),
    )

pub loop-preserved : goal.loop-preserved
loop-preserved c =
    let file = image_bytes c.args.file.now in
    let h = c.args.header.now in
    let pushed : c.push.new.self.items ≡ c.loop.difat.items ++ c.loop.at ∷ [] = search rules in
    let named : c.read_named.new.fat.items ≡ c.loop.fat.items ++ named_in file c.loop.at = search rules in (
      named_more file h.fat c.loop.fat.items c.read_named.new.fat.items c.loop.difat.items c.loop.at
          c.loop.invariant.0 named
          ∙ ap (λ xs. h.fat ++ flat_map (named_in file) xs) (sym pushed),
      (λ i. pushed i ++ difat_from file (c.difat_count-end.result - (c.loop.counter + 1)) c.in_ok-at.at)
          ∙ difat_more file c.loop.difat.items (difat_by file h) c.loop.at c.in_ok-at.at c.difat_count-end.result
          c.loop.counter c.loop-test.true
          c.in_ok-at.ensures.next c.loop.invariant.1,
    )

pub returns-clause-fat : goal.returns-clause-fat
returns-clause-fat c =
    let file = image_bytes c.args.file.now in
    let h = c.args.header.now in
    let finished : c.loop.difat.items ≡ difat_by file h =
    difat_done file c.loop.difat.items (difat_by file h) c.loop.at c.difat_count-end.result c.loop.counter
    c.loop-test.false c.loop.invariant.1 in
    c.truncate.ensures.items ∙ (λ i. take (c.fat_count.ensures.count i) (c.loop.invariant.0 i))
    ∙ ap (λ xs. take h.fat_count (h.fat ++ flat_map (named_in file) xs)) finished

pub returns-clause-difat : goal.returns-clause-difat
returns-clause-difat c =
    difat_done (image_bytes c.args.file.now) c.loop.difat.items
    (difat_by (image_bytes c.args.file.now) c.args.header.now) c.loop.at c.difat_count-end.result c.loop.counter
    c.loop-test.false c.loop.invariant.1

pub returns-clause-few : goal.returns-clause-few
returns-clause-few c =
    omega (
      arith,
      ap (λ (xs : List ℕ). length xs) c.truncate.ensures.items,
      length-take c.fat_count.result c.loop.fat.items,
      c.fat_count.ensures.few,
    )
