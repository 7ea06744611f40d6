use Rattle.std.proofs.Common.{◌≡◌, ◌+◌, ◌++◌, ◌∙◌, ℕ, List, ap, drop, length, refl, sym, take, subst, arith, rules}
use Rattle.std.proofs.lemmas.List.{take_all}
use Rattle.store_model.specs.Image.{Image, bytes_of}
use Rattle.store_disk.proofs.Puts.{read_on}
use Rattle.store_disk.proofs.Runs.{no_time, same_sound, then_sound, then_time}
use Rattle.store_disk.proofs.loops.read_whole.Goals as goal

pub loop-done-init : goal.loop-done-init
loop-done-init g c =
    let files = g.F.DiskFiles in
    record {
      within = omega arith;
      into = refl;
      told = λ model. refl;
      same = λ model. refl;
      crash = λ model i left. left;
      time = λ model. no_time files.may_leave files.moment files.left_since c.args.files.now;
      sound = same_sound files.sync_may_lie files.has_names c.args.files.now;
    }

pub loop-done-preserved : goal.loop-done-preserved
loop-done-preserved g c =
    let files = g.F.DiskFiles in
    let before = c.loop-done.invariant in
    let step = c.in_ok-more.ensures in
    let bound = step.bound in
    record {
      within = search rules;
      into = search rules;
      told = λ model.
          let bytes : List ℕ = bytes_of c.args.area (files.reads c.args.files.now) in
          let here : bytes_of c.args.area (files.reads c.loop-done.files) ≡ bytes =
          ap (λ (i : Image). bytes_of c.args.area i) (before.same model) in
          read_on bytes c.loop-done.into c.read_more.new.into c.args.at c.loop-done.done c.in_ok-more.more
          (before.told model)
          (subst (λ (l : List ℕ). take (c.loop-done.done + c.in_ok-more.more) c.read_more.new.into
          ≡ take c.loop-done.done c.loop-done.into ++ take c.in_ok-more.more
          (drop (c.args.at + c.loop-done.done) l)) here (step.bytes model));
      same = λ model. step.same model ∙ before.same model;
      crash = λ model i left. before.crash model i (step.crash model i left);
      time = λ model. then_time files.may_leave files.moment files.left_since c.args.files.now c.loop-done.files
          c.read_more.new.files
          (λ t i le left. g.met.F.DiskFiles.counts_now c.args.files.now t i le (before.crash model i left))
          (before.time model) (step.time model);
      sound = then_sound files.sync_may_lie files.has_names c.args.files.now c.loop-done.files c.read_more.new.files
          before.sound step.sound;
    }

pub returns-in_err-more-clause-crash : goal.returns-in_err-more-clause-crash
returns-in_err-more-clause-crash g c model i left = c.loop-done.invariant.crash model i
    (c.read_more.ensures.crash model i left)

pub returns-in_err-more-clause-time : goal.returns-in_err-more-clause-time
returns-in_err-more-clause-time g c model =
    let files = g.F.DiskFiles in
    then_time files.may_leave files.moment files.left_since c.args.files.now c.loop-done.files c.read_more.new.files
    (λ t i le left. g.met.F.DiskFiles.counts_now c.args.files.now t i le (c.loop-done.invariant.crash model i left))
    (c.loop-done.invariant.time model) (c.read_more.ensures.time model)

pub returns-in_err-more-clause-sound : goal.returns-in_err-more-clause-sound
returns-in_err-more-clause-sound g c =
    let files = g.F.DiskFiles in
    then_sound files.sync_may_lie files.has_names c.args.files.now c.loop-done.files c.read_more.new.files
    c.loop-done.invariant.sound c.read_more.ensures.sound

pub returns-clause-bytes : goal.returns-clause-bytes
returns-clause-bytes g c model =
    let into : List ℕ = c.loop-done.into in
    let within = c.loop-done.invariant.within in
    let long = c.loop-done.invariant.into in
    let all = c.loop-done-test.false in
    let here : length c.args.into.now ≡ c.loop-done.done = omega (arith, within, long, all) in
    let bytes : List ℕ = bytes_of c.args.area (g.F.DiskFiles.reads c.args.files.now) in
    sym (take_all c.loop-done.done into (omega (arith, within, all)))
    ∙ c.loop-done.invariant.told model
    ∙ ap (λ (n : ℕ). take n (drop c.args.at bytes)) (sym here)
