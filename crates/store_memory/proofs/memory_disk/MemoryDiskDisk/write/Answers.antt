use Rattle.std.proofs.Common.{length, sym, ◌∙◌, ap, subst}
use Rattle.store_memory.specs.Calls.{image_of}
use Rattle.store_model.specs.Crash.{InArea, Torn}
use Rattle.store_model.specs.Image.{bytes_of, changed, put}
use Rattle.store_memory.specs.declared.areas.Call.TheVariants.{Write}
use Rattle.store_memory.proofs.Kept.{elapses_to, left_by_last, left_still, replayed_to}
use Rattle.store_memory.proofs.memory_disk.MemoryDiskDisk.write.Goals as goal

pub invariant_of-self-in-Ok : goal.invariant_of-self-in-Ok
invariant_of-self-in-Ok c =
    let kept = c.in-Ok.ensures.logged in
    let held = image_of c.args.self.now.held in
    let written = c.in-Ok.ensures.written
    ∙ ap (λ b. changed c.args.area (put (bytes_of c.args.area held) c.args.at b) held) (sym kept.1) in
    record {
      replayed = replayed_to (image_of c.args.self.now.first) held (image_of c.log_write.new.areas)
          c.args.self.now.calls.items c.log_write.new.calls.items (Write c.args.area c.args.at kept.0)
          c.args.self.now.replayed kept.2 written;
    }

pub returns-in-Ok-clause-crash : goal.returns-in-Ok-clause-crash
returns-in-Ok-clause-crash c i left =
    let kept = c.in-Ok.ensures.logged in
    let from = left_by_last (image_of c.args.self.now.first) c.args.self.now.calls.items c.log_write.new.calls.items
    (Write c.args.area c.args.at kept.0) kept.2 i left in
    (from.0, from.1, subst (λ b. InArea c.args.area (Torn c.args.at (length b)) from.0 i) kept.1 from.2)

pub returns-in-Ok-clause-grows : goal.returns-in-Ok-clause-grows
returns-in-Ok-clause-grows c i left =
    let kept = c.in-Ok.ensures.logged in
    left_still (image_of c.args.self.now.first) c.args.self.now.calls.items c.log_write.new.calls.items c.args.area
    c.args.at kept.0 kept.2 i left

pub returns-in-Ok-clause-time : goal.returns-in-Ok-clause-time
returns-in-Ok-clause-time c =
    let kept = c.in-Ok.ensures.logged in
    elapses_to (image_of c.args.self.now.first) c.args.self.now.calls.items c.log_write.new.calls.items
    (Write c.args.area c.args.at kept.0) kept.2
