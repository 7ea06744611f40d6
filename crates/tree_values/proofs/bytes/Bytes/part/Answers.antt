use Rattle.std.proofs.Common.{◌≡◌, ◌+◌, ◌∙◌, ℕ, List, ap, arith, drop, length, rules, sym, take}
use Rattle.tree_values.proofs.Parts.{part_of}
use Rattle.tree_values.proofs.bytes.Bytes.part.Goals as goal

pub returns-in_ok-clone-in-Some : goal.returns-in_ok-clone-in-Some
returns-in_ok-clone-in-Some c =
    let bytes : List ℕ = c.in-Some.buffer.value.items in
    let start : ℕ = c.args.start in
    let len : ℕ = c.args.len in
    let shared : c.in_ok-clone-in-Some.field-0.value.items ≡ bytes = search rules in
    let whole : c.args.self.now ≡ take c.self.inside.len (drop c.self.inside.start bytes) = search rules in
    ap (λ xs. take len (drop (c.self.inside.start + start) xs)) shared
    ∙ part_of start len c.self.inside.start c.self.inside.len bytes (omega (arith, c.requires, ap length whole))
    ∙ ap (λ xs. take len (drop start xs)) (sym whole)
