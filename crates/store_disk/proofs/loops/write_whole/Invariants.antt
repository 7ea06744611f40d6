use Rattle.std.proofs.Common.{◌-◌, ◌≡◌, ◌≤◌, length, take}
use Rattle.store_model.specs.Crash.{Elapses, Follows, InArea, Torn}
use Rattle.store_model.specs.Image.{bytes_of, changed, put}
use Rattle.store_disk.specs.Sound.{StaysSound}
use Rattle.store_disk.proofs.loops.write_whole.Given as goal

abbrev pub invariant-loop-done : goal.invariant-loop-done
invariant-loop-done g l =
    let files = g.F.DiskFiles in
    record {
      within : l.done ≤ length l.bytes;
      written : files.follows_model → l.at ≤ length (bytes_of l.area (files.reads l.fn.files))
          → files.reads l.files ≡ changed l.area
          (put (bytes_of l.area (files.reads l.fn.files)) l.at (take l.done l.bytes)) (files.reads l.fn.files);
      crash : files.follows_model → Follows (InArea l.area (Torn l.at (length l.bytes)))
          (files.may_leave l.fn.files) (files.may_leave l.files);
      time : files.follows_model → Elapses (files.moment l.fn.files) (files.moment l.files)
          (files.left_since l.fn.files) (files.left_since l.files) (files.may_leave l.files);
      sound : StaysSound files.sync_may_lie files.has_names l.fn.files l.files;
    }

abbrev pub decreases-loop-done : goal.decreases-loop-done
decreases-loop-done g l = length l.bytes - l.done
