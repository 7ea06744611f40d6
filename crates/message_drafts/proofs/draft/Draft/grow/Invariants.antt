use Rattle.std.proofs.Common.{◌-◌, ◌≤◌, length, take}
use Rattle.message_drafts.specs.Drafts.{Advances, IsPlanned, Keeps}
use Rattle.message_drafts.proofs.draft.Draft.grow.Given as goal

abbrev pub invariant-steps : goal.invariant-steps
invariant-steps l = (l.used ≤ length l.bytes) × IsPlanned l.self × Advances l.fn.self l.self (take l.used l.bytes)
    × Keeps l.fn.self l.self

abbrev pub decreases-steps : goal.decreases-steps
decreases-steps l = length l.bytes - l.used
