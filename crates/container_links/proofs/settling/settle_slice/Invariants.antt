use Rattle.std.proofs.Common.{◌≡◌, ◌+◌, ◌++◌, drop, take, length}
use Rattle.container_model.specs.Saves.{settled_frames}
use Rattle.container_links.proofs.settling.settle_slice.Given as goal

abbrev pub invariant-loop-i : goal.invariant-loop-i
invariant-loop-i l = record {
  same_length : length l.frames ≡ length l.fn.frames;
  same : take l.i l.frames ++ settled_frames (l.i + 1) l.objects (drop l.i l.frames)
      ≡ settled_frames 1 l.objects l.fn.frames;
}
