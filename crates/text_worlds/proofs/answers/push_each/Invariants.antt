use Rattle.std.proofs.Common.{◌≡◌, ◌++◌, drop}
use Rattle.std.specs.List.{flat_map}
use Rattle.text_spelling.specs.Written.{numbered}
use Rattle.text_worlds.proofs.answers.push_each.Given as goal

abbrev pub invariant-loop-number : goal.invariant-loop-number
invariant-loop-number l = l.text.items ++ flat_map (numbered l.before) (drop l.number-index l.numbers)
    ≡ l.initial.text.items ++ flat_map (numbered l.before) l.numbers
