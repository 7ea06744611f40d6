use Rattle.std.proofs.Common.{◌≡◌, take}
use Rattle.message_drafts.proofs.made.shared.Given as goal

abbrev pub invariant-streams : goal.invariant-streams
invariant-streams l = (l.streams.items ≡ l.fn.streams.items) × (l.items.items ≡ take l.at l.fn.streams.items)
