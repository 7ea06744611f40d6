use Rattle.std.proofs.Common.{◌≡◌, ◌+◌, ◌-◌, ◌*◌, ◌++◌, ◌∙◌, ℕ, List, ap, arith, drop, length, length-drop, min, subst}
use Rattle.std.proofs.Common.{sym, take}
use Rattle.std.proofs.lemmas.List.{take_all}
use Rattle.cfb_header.specs.Bytes.{block, joined}
use Rattle.read_chains.specs.View.{bytes_of, start_of, width_of}
use Rattle.cfb_chains.proofs.Runs.{joined_cut, shown_more}
use Rattle.read_chains.proofs.fat.Pieces.show.Goals as goal

pub loop-at-preserved : goal.loop-at-preserved
loop-at-preserved c = λ back.
    let piece : ℕ → List ℕ = λ n. block (width_of c.args.self.now) (bytes_of c.args.self.now)
    (start_of c.args.self.now + width_of c.args.self.now * n) in
    let ns : List ℕ = c.args.numbers.now in
    let at : ℕ = c.loop-at.at in
    let count : ℕ = c.row_length-count.result in
    let rest : List ℕ = c.loop-at.rest.now in
    let run : List ℕ = c.in-Some.run'.now in
    let len : ℕ = c.min-len.result in
    let behind : List ℕ = joined piece (drop (at + count) ns) in
    let least : len ≡ min (length rest) (length run) = c.min-len.ensures in
    let front : take len rest ≡ take len run = c.are_equal.ensures c.if-not-are_equal.false in
    let left : drop len rest ≡ take (length (drop len rest)) behind =
    subst (λ (xs : List ℕ). xs ≡ take (length xs) behind)
    (take_all (length rest - len) (drop len rest) (omega (arith, length-drop len rest))) back in
    let run_is : run ≡ joined piece (take count (drop at ns)) =
    c.in-Some.ensures ∙ ap (λ k. joined piece (take k (drop at ns)))
    (let e : at + count - at ≡ count = omega arith in e) in
    c.loop-at.invariant
    (shown_more rest run behind len least front left
    ∙ ap (λ xs. take (length rest) (xs ++ behind)) run_is ∙ ap (take (length rest))
    (sym (joined_cut piece ns at count)))
