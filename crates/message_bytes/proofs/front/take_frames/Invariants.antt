use Rattle.std.proofs.Common.{◌-◌, length}
use Rattle.message_bytes.specs.Fronts.{Took}
use Rattle.message_bytes.proofs.front.take_frames.Given as goal

abbrev pub invariant-frames : goal.invariant-frames
invariant-frames l = Took l.fn.waiting.items l.waiting.items l.bytes l.used

abbrev pub decreases-frames : goal.decreases-frames
decreases-frames l = length l.bytes - l.used
