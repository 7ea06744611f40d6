use Rattle.std.proofs.Common.{◌≤◌, ◌+◌, ◌/◌, ◌∙◌, ℕ, List, ap, arith, get_or, sym}
use Rattle.read_packed.specs.Places.{filled}
use Rattle.std.proofs.lemmas.Grind.{common_steps}
use Rattle.read_packed.proofs.Placed.{get_filled, run_each}
use Rattle.read_packed.proofs.places.Places.run.Goals as goal

pub returns-clause-each : goal.returns-clause-each
returns-clause-each c =
    let places : List ℕ = filled (c.self.inside.len / 512 + 1) c.self.inside.places.items in
    let inside : c.args.first + c.args.count ≤ c.self.inside.len / 512 =
    grind (arith, common_steps, c.in_ok-end.ensures, c.if-end-self.false) in
    run_each c.self.inside.len c.self.inside.pool places c.args.self.now c.in_ok-run.run'.now
    (λ k. c.args.first + k) c.args.count c.index.result.now
    c.self.invariant c.self.view_is (λ k l. omega (arith, inside, l))
    (λ k l. get_filled (c.self.inside.len / 512 + 1) c.self.inside.places.items (c.args.first + k)
    ∙ ap (λ xs. get_or xs (c.args.first + k) 0) (sym c.deref.ensures.value)
    ∙ c.are_in_turn.ensures c.if-not-are_in_turn.false k l)
    c.in_ok-run.ensures.bytes
