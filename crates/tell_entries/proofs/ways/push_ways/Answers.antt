use Rattle.tell_entries.proofs.ways.push_ways.Goals as goal

pub push_way-requires-clause-child : goal.push_way-requires-clause-child
push_way-requires-clause-child c = c.requires.children c.loop-child.child-index 0 c.loop-child-test.true
