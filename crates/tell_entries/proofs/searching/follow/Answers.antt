use Rattle.std.proofs.Common.{◌≡◌, ◌∷◌, [], List, arith, length, refl, rules, subst}
use Rattle.tell_entries.specs.Searches.{IsSearch}
use Rattle.tell_entries.specs.declared.searching.Ahead.{Ahead}
use Rattle.tell_entries.proofs.searching.follow.Goals as goal

empty : (xs : List Ahead) → length xs ≡ 0 → xs ≡ []
empty [] e = refl
empty (x ∷ xs) e = absurd (omega (arith, e))

pub returns-clause-all : goal.returns-clause-all
returns-clause-all c =
    let none : c.loop-fault.search.ahead.items ≡ [] = empty c.loop-fault.search.ahead.items
    (search (rules, c.is_empty.ensures, c.loop-fault-test.false)) in
    subst (λ (a : List Ahead). IsSearch c.args.directory.now c.args.fault c.loop-fault.search.ids.items
    c.loop-fault.search.parents.items c.loop-fault.search.seen.items a c.loop-fault.search.unseen) none
    c.loop-fault.invariant
