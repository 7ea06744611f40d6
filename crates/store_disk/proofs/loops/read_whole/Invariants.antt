use Rattle.std.proofs.Common.{◌-◌, ◌≡◌, ◌≤◌, drop, length, take}
use Rattle.store_model.specs.Crash.{Elapses, IsWithin}
use Rattle.store_model.specs.Image.{bytes_of}
use Rattle.store_disk.specs.Sound.{StaysSound}
use Rattle.store_disk.proofs.loops.read_whole.Given as goal

abbrev pub invariant-loop-done : goal.invariant-loop-done
invariant-loop-done g l =
    let files = g.F.DiskFiles in
    record {
      within : l.done ≤ length l.into;
      into : length l.into ≡ length l.fn.into;
      told : files.follows_model → take l.done l.into
          ≡ take l.done (drop l.at (bytes_of l.area (files.reads l.fn.files)));
      same : files.follows_model → files.reads l.files ≡ files.reads l.fn.files;
      crash : files.follows_model → IsWithin (files.may_leave l.fn.files) (files.may_leave l.files);
      time : files.follows_model → Elapses (files.moment l.fn.files) (files.moment l.files)
          (files.left_since l.fn.files) (files.left_since l.files) (files.may_leave l.files);
      sound : StaysSound files.sync_may_lie files.has_names l.fn.files l.files;
    }

abbrev pub decreases-loop-done : goal.decreases-loop-done
decreases-loop-done g l = length l.into - l.done
