use Rattle.std.proofs.Common.{◌≡◌, ◌≤◌, ◌+◌, IfOk, OnOk, arith, ap, subst, length, vec_len, vec_capacity}
use Rattle.message_values.specs.Found.{nth}
use Rattle.world_model.specs.declared.moment.Moment.TheVariants as moment
use Rattle.world_host.specs.Stops.{made_names}
use Rattle.world_run.specs.Names.{name_left}
use Rattle.world_run.specs.Passes.{Passes}
use Rattle.world_run.specs.Told.{told}
use Rattle.world_run.proofs.Stopping.{few_names, may_given, stop_taken, told_same}
use Rattle.world_run.proofs.runs.Runs.stop.Goals as goal

pub leave-requires-clause-kept_room : goal.leave-requires-clause-kept_room
leave-requires-clause-kept_room g c =
    let mid = c.room-name.new.self in
    let frames = mid.state.host.core.frames in
    let room : vec_len mid.kept + length frames ≤ vec_capacity mid.kept =
    subst (λ r. OnOk r (vec_len mid.kept + length frames ≤ vec_capacity mid.kept)) c.in-Ok-name.is
    c.room-name.ensures.kept_room in
    let many : length c.in-Ok.left.names.items ≡ length (made_names c.args.frames.now 1 frames) =
    ap length c.in-Ok.ensures.left.names in
    let few : length (made_names c.args.frames.now 1 frames) ≤ length frames = few_names c.args.frames.now 1 frames in
    omega arith

pub returns-in-Ok-name-clause-taken : goal.returns-in-Ok-name-clause-taken
returns-in-Ok-name-clause-taken g c =
    let old = c.args.self.now in
    let mid = c.room-name.new.self in
    let fs = c.args.frames.now in
    let same : told (λ s. (goal.Embedded-dyn g (s.boxed.vtable, s.boxed.value)).content s.boxed.value) mid
    ≡ told (λ s. (goal.Embedded-dyn g (s.boxed.vtable, s.boxed.value)).content s.boxed.value) old =
    told_same (λ s. (goal.Embedded-dyn g (s.boxed.vtable, s.boxed.value)).content s.boxed.value) mid old
    c.room-name.ensures.state c.room-name.ensures.past c.room-name.ensures.has_document
    c.room-name.ensures.document c.room-name.ensures.kept in
    let name : c.in-Ok-name.name ≡ name_left fs (nth mid.state.host.core.frames 1) mid.has_document =
    subst (λ r. IfOk r (λ n. n ≡ name_left fs (nth mid.state.host.core.frames 1) mid.has_document))
    c.in-Ok-name.is c.room-name.ensures.name in
    subst (λ s. Passes s (moment.Stop fs)
    (told (λ s. (goal.Embedded-dyn g (s.boxed.vtable, s.boxed.value)).content s.boxed.value) c.leave.new.self))
    same
    (stop_taken (λ s. (goal.Embedded-dyn g (s.boxed.vtable, s.boxed.value)).content s.boxed.value) mid
    c.leave.new.self c.stop.new.self c.in-Ok.left c.in-Ok-name.name fs c.in-Ok.ensures.stopped
    (may_given _ _ c.stop.result c.in-Ok.left c.in-Ok.is c.stop.ensures.may) c.in-Ok.ensures.left name
    c.leave.ensures.state c.leave.ensures.past c.leave.ensures.has_document c.leave.ensures.document
    c.leave.ensures.kept)
