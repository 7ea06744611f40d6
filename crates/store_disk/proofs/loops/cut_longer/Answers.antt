use Rattle.std.proofs.Common.{◌∙◌, ap, length, take, arith}
use Rattle.std.proofs.lemmas.Result.{on_ok_weaker}
use Rattle.store_model.specs.Image.{Image, bytes_of, changed}
use Rattle.store_disk.proofs.Puts.{cut_nothing, not_cut, then_cut}
use Rattle.store_disk.proofs.Runs.{then_sound, then_time}
use Rattle.store_disk.proofs.loops.cut_longer.Goals as goal

pub returns-in_err-long-clause-crash : goal.returns-in_err-long-clause-crash
returns-in_err-long-clause-crash g c model = not_cut c.args.area c.args.size
    (g.F.DiskFiles.may_leave c.args.files.now) (g.F.DiskFiles.may_leave c.length.new.self)
    (c.length.ensures.crash model)

pub returns-then-long-size-clause-cut : goal.returns-then-long-size-clause-cut
returns-then-long-size-clause-cut g c model =
    let is = c.in_ok-long.ensures.length model in
    let small = c.if-long-size.true in
    c.in_ok-long.ensures.same model ∙ cut_nothing c.args.area (g.F.DiskFiles.reads c.args.files.now) c.args.size
    (omega (arith, is, small))

pub returns-then-long-size-clause-crash : goal.returns-then-long-size-clause-crash
returns-then-long-size-clause-crash g c model = not_cut c.args.area c.args.size
    (g.F.DiskFiles.may_leave c.args.files.now) (g.F.DiskFiles.may_leave c.length.new.self)
    (c.length.ensures.crash model)

pub returns-clause-cut : goal.returns-clause-cut
returns-clause-cut g c model =
    on_ok_weaker c.set_length.result
    (λ is. is ∙ ap (λ (i : Image). changed c.args.area (take c.args.size (bytes_of c.args.area i)) i)
    (c.in_ok-long.ensures.same model)) (c.set_length.ensures.cut model)

pub returns-clause-crash : goal.returns-clause-crash
returns-clause-crash g c model =
    let files = g.F.DiskFiles in
    let is = c.in_ok-long.ensures.length model in
    let long = c.if-long-size.false in
    let same = ap (λ (i : Image). length (bytes_of c.args.area i)) (c.in_ok-long.ensures.same model) in
    then_cut c.args.area c.args.size (files.may_leave c.args.files.now) (files.may_leave c.length.new.self)
    (files.may_leave c.set_length.new.self) (c.in_ok-long.ensures.crash model)
    (c.set_length.ensures.crash model (omega (arith, is, long, same)))

pub returns-clause-time : goal.returns-clause-time
returns-clause-time g c model =
    let files = g.F.DiskFiles in
    then_time files.may_leave files.moment files.left_since c.args.files.now c.length.new.self c.set_length.new.self
    (λ t i le left. g.met.F.DiskFiles.counts_now c.args.files.now t i le (c.in_ok-long.ensures.crash model i left))
    (c.in_ok-long.ensures.time model) (c.set_length.ensures.time model)

pub returns-clause-sound : goal.returns-clause-sound
returns-clause-sound g c =
    let files = g.F.DiskFiles in
    then_sound files.sync_may_lie files.has_names c.args.files.now c.length.new.self c.set_length.new.self
    c.in_ok-long.ensures.sound c.set_length.ensures.sound
