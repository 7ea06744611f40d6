use Rattle.std.proofs.Common.{◌+◌, ◌/◌, ◌∙◌, ℕ, List, ap, arith, drop, get_or, length, sym, take}
use Rattle.read_packed.specs.Places.{filled}
use Rattle.read_packed.proofs.Placed.{get_filled, run_each}
use Rattle.read_packed.proofs.places.Places.entries.Goals as goal

pub returns-clause-each : goal.returns-clause-each
returns-clause-each c =
    let places : List ℕ = filled (c.self.inside.len / 512 + 1) c.self.inside.places.items in
    let sectors : List ℕ = c.args.sectors.now in
    run_each c.self.inside.len c.self.inside.pool places c.args.self.now c.in_ok-entries.entries.now
    (λ k. get_or sectors k 0 + 1) (length sectors) c.place_at-at.result
    c.self.invariant c.self.view_is (c.are_at.ensures.whole c.if-not-are_at.false)
    (λ k l. get_filled (c.self.inside.len / 512 + 1) c.self.inside.places.items (get_or sectors k 0 + 1)
    ∙ ap (λ xs. get_or xs (get_or sectors k 0 + 1) 0) (sym c.deref-2.ensures.value)
    ∙ c.are_at.ensures.in_turn c.if-not-are_at.false k l)
    (c.in_ok-entries.ensures.bytes ∙ ap (λ n. take n (drop c.place_at-at.result c.self.inside.pool))
    (omega (arith, c.in_ok-size.ensures)))
