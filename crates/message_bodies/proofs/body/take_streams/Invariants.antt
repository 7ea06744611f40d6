use Rattle.std.proofs.Common.{◌≡◌, ◌-◌, ℕ, List, []}
use Rattle.tree_streams.specs.declared.streams.NamedStream.{NamedStream}
use Rattle.message_model.specs.Reading.{Reader, more}
use Rattle.message_bodies.proofs.body.take_streams.Given as goal

abbrev pub invariant-loop : goal.invariant-loop
invariant-loop l = (k : List NamedStream → ℕ → Reader) → more (l.count - l.counter) l.streams l.room k l.rest
    ≡ more l.count [] 262144 k l.fn.xs
