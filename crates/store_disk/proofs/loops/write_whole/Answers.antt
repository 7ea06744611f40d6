use Rattle.std.proofs.Common.{◌∙◌, ℕ, List, ap, length, arith}
use Rattle.std.proofs.lemmas.List.{take_all}
use Rattle.store_model.specs.Image.{Image, bytes_of, changed, put}
use Rattle.store_disk.proofs.Puts.{follows_none, follows_on, put_image_none, put_image_on, put_reaches}
use Rattle.store_disk.proofs.Runs.{grown_time, no_time, same_sound, then_refused, then_written, written_sound}
use Rattle.store_disk.proofs.loops.write_whole.Goals as goal

pub loop-done-init : goal.loop-done-init
loop-done-init g c =
    let files = g.F.DiskFiles in
    record {
      within = omega arith;
      written = λ model le. put_image_none c.args.area (files.reads c.args.files.now) c.args.bytes.now c.args.at;
      crash = λ model. follows_none c.args.area c.args.at (length c.args.bytes.now) (files.may_leave c.args.files.now);
      time = λ model. no_time files.may_leave files.moment files.left_since c.args.files.now;
      sound = same_sound files.sync_may_lie files.has_names c.args.files.now;
    }

pub loop-done-preserved : goal.loop-done-preserved
loop-done-preserved g c =
    let files = g.F.DiskFiles in
    let before = c.loop-done.invariant in
    let step = c.in-Ok.ensures in
    let bound = step.bound in
    let area = c.args.area in
    let old : Image = files.reads c.args.files.now in
    let mid : Image = files.reads c.loop-done.files in
    let bytes : List ℕ = c.args.bytes.now in
    let at : ℕ = c.args.at in
    let done : ℕ = c.loop-done.done in
    record {
      within = bound;
      written = λ model le.
          let is = before.written model le in
          step.written model (put_reaches area old mid bytes at done le before.within is)
          ∙ put_image_on area old mid bytes at done c.in-Ok.more le bound is;
      crash = λ model. follows_on area at (length bytes) done (files.may_leave c.args.files.now)
          (files.may_leave c.loop-done.files) (files.may_leave c.write_more.new.files) before.within
          (before.crash model) (step.crash model);
      time = λ model. grown_time files.may_leave files.moment files.left_since c.args.files.now c.loop-done.files
          c.write_more.new.files (step.grows model) (before.time model) (step.time model);
      sound = then_written files.sync_may_lie files.has_names c.args.files.now c.loop-done.files
          c.write_more.new.files c.in-Ok.more before.sound step.sound;
    }

pub returns-in-Err-clause-crash : goal.returns-in-Err-clause-crash
returns-in-Err-clause-crash g c model =
    let files = g.F.DiskFiles in
    follows_on c.args.area c.args.at (length c.args.bytes.now) c.loop-done.done (files.may_leave c.args.files.now)
    (files.may_leave c.loop-done.files) (files.may_leave c.write_more.new.files) c.loop-done.invariant.within
    (c.loop-done.invariant.crash model) (c.write_more.ensures.crash model)

pub returns-in-Err-clause-time : goal.returns-in-Err-clause-time
returns-in-Err-clause-time g c model =
    let files = g.F.DiskFiles in
    grown_time files.may_leave files.moment files.left_since c.args.files.now c.loop-done.files
    c.write_more.new.files (c.write_more.ensures.grows model) (c.loop-done.invariant.time model)
    (c.write_more.ensures.time model)

pub returns-in-Err-clause-sound : goal.returns-in-Err-clause-sound
returns-in-Err-clause-sound g c =
    let files = g.F.DiskFiles in
    then_refused files.sync_may_lie files.has_names c.args.files.now c.loop-done.files c.write_more.new.files
    c.in-Err.error c.loop-done.invariant.sound c.in-Err.ensures.sound

pub returns-clause-written : goal.returns-clause-written
returns-clause-written g c model le =
    let bytes : List ℕ = c.args.bytes.now in
    let old : Image = g.F.DiskFiles.reads c.args.files.now in
    let all = c.loop-done-test.false in
    c.loop-done.invariant.written model le
    ∙ ap (λ (l : List ℕ). changed c.args.area (put (bytes_of c.args.area old) c.args.at l) old)
    (take_all c.loop-done.done bytes (omega (arith, all)))

pub returns-clause-sound : goal.returns-clause-sound
returns-clause-sound g c =
    let files = g.F.DiskFiles in
    written_sound files.sync_may_lie files.has_names c.args.files.now c.loop-done.files c.loop-done.invariant.sound
