use Rattle.std.proofs.Common.{◌∙◌}
use Rattle.std.proofs.lemmas.Result.{on_ok_weaker}
use Rattle.store_disk.proofs.Runs.{then_time}
use Rattle.store_disk.proofs.loops.sync_with_names.Goals as goal

pub returns-clause-durable : goal.returns-clause-durable
returns-clause-durable g c model = on_ok_weaker c.sync_names.result
    (λ same i left. c.in_ok-sync.ensures.durable model c.requires i (c.sync_names.ensures.crash model i left))
    (c.sync_names.ensures.same model)

pub returns-clause-same : goal.returns-clause-same
returns-clause-same g c model = on_ok_weaker c.sync_names.result (λ same. same ∙ c.in_ok-sync.ensures.same model)
    (c.sync_names.ensures.same model)

pub returns-clause-crash : goal.returns-clause-crash
returns-clause-crash g c model i left = c.in_ok-sync.ensures.crash model i (c.sync_names.ensures.crash model i left)

pub returns-clause-time : goal.returns-clause-time
returns-clause-time g c model =
    let files = g.F.DiskFiles in
    then_time files.may_leave files.moment files.left_since c.args.files.now c.sync.new.self c.sync_names.new.self
    (λ t i le left. g.met.F.DiskFiles.counts_now c.args.files.now t i le (c.in_ok-sync.ensures.crash model i left))
    (c.in_ok-sync.ensures.time model) (c.sync_names.ensures.time model)

pub returns-clause-sound : goal.returns-clause-sound
returns-clause-sound g c = on_ok_weaker c.sync_names.result (λ keeps. keeps (c.in_ok-sync.ensures.sound c.requires))
    c.sync_names.ensures.sound

pub returns-clause-named : goal.returns-clause-named
returns-clause-named g c was = c.sync_names.ensures.named (c.in_ok-sync.ensures.named was)
