use Rattle.std.proofs.Common.{◌≡◌, ◌-◌, ◌*◌, ◌++◌, ℕ, List, inl, inr, length, take, drop, min, replicate, sym, ◌∙◌, ap}
use Rattle.std.proofs.Common.{arith, length-drop}
use Rattle.std.proofs.lemmas.Bool.{cases_lt}
use Rattle.std.proofs.lemmas.List.{append-nil, take_all, length-take}
use Rattle.cfb_bytes.specs.Bytes.{block}
use Rattle.read_directories.proofs.bytes.entry_bytes.Goals as goal

-- the zeros behind a part stand for the bytes past the end
cut_at : (rest : List ℕ) (m : ℕ) → m ≡ min 128 (length rest)
    → take m rest ++ replicate (128 - length (take m rest)) 0 ≡ take 128 rest ++ replicate (128 - length rest) 0
cut_at rest m h =
    let zeros : 128 - length (take m rest) ≡ 128 - length rest = omega (arith, length-take m rest) in
    let part : take m rest ≡ take 128 rest =
    elim (cases_lt (length rest) 128) [
      | inl lt ↦ take_all m rest (omega arith) ∙ sym (take_all 128 rest (omega arith))
      | inr ge ↦ let e : m ≡ 128 = omega arith in ap (λ k. take k rest) e
    ] in
    (λ t. part t ++ replicate (zeros t) 0)

pub returns-in-Some : goal.returns-in-Some
unfolding block
returns-in-Some c =
    let start : ℕ = 128 * c.args.id in
    let rest : List ℕ = drop start c.args.directory.now in
    let n : ℕ = c.min-end.result - start in
    let m : n ≡ min 128 (length rest) = omega (arith, c.min-end.ensures, length-drop start c.args.directory.now) in
    let none : 128 - length (take n rest) ≡ 0 = omega (arith, c.in-Some.ensures.cases.long) in
    c.in-Some.ensures.cases.same
    ∙ sym (append-nil (take n rest))
    ∙ (λ t. take n rest ++ replicate (sym none t) 0)
    ∙ cut_at rest n m

pub returns-in-None : goal.returns-in-None
unfolding block
returns-in-None c =
    let start : ℕ = 128 * c.args.id in
    let rest : List ℕ = drop start c.args.directory.now in
    let m : c.min-end.result - start ≡ min 128 (length rest) =
    omega (arith, c.min-end.ensures, length-drop start c.args.directory.now) in
    c.padded.ensures ∙ cut_at rest (c.min-end.result - start) m
