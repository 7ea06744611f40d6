use Rattle.std.proofs.Common.{◌≡◌, ◌∙◌, ℕ, List, ap, sym, take}
use Rattle.std.proofs.lemmas.Result.{on_ok_weaker}
use Rattle.store_model.specs.Journal.{changed_document, size_in}
use Rattle.store_core.specs.Steps.{IsInstalling}
use Rattle.store_core.proofs.Moments.{then_leaves, then_quiet}
use Rattle.store_core.proofs.Under.{installs_again, installs_first, installs_on, size_held}
use Rattle.store_core.proofs.carry.carry_out.Goals as goal

pub cut_told-requires-clause-ready : goal.cut_told-requires-clause-ready
cut_told-requires-clause-ready g c model =
    let open_with = c.requires.open model in
    let ready = installs_first g.D.Disk.reads g.D.Disk.may_leave g.D.Disk.moment g.D.Disk.left_since c.args.disk.now
    open_with.gate open_with.whole (c.requires.durable model) in
    installs_again g.D.Disk.reads g.D.Disk.may_leave g.D.Disk.moment g.D.Disk.left_since c.args.disk.now
    c.write_change.new.disk (g.met.D.Disk.reads_are_left c.write_change.new.disk) ready
    (c.write_change.ensures.stays model)

pub cut_told-requires-clause-told : goal.cut_told-requires-clause-told
cut_told-requires-clause-told g c model =
    let journal = ((c.write_change.ensures.stays model).now (g.D.Disk.reads c.write_change.new.disk)
    (g.met.D.Disk.reads_are_left c.write_change.new.disk)).0 in
    c.from.ensures ∙ c.size.ensures ∙ size_held (g.D.Disk.reads c.args.disk.now).journal c.args.change
    (c.requires.open model).holds ∙ sym (ap size_in journal)

pub returns-in_err-cut_told-clause-stays : goal.returns-in_err-cut_told-clause-stays
returns-in_err-cut_told-clause-stays g c model =
    let reads = g.D.Disk.reads in
    let so_far = c.write_change.ensures.stays model in
    then_leaves g.D.Disk.may_leave g.D.Disk.moment g.D.Disk.left_since c.args.disk.now c.write_change.new.disk
    c.cut_told.new.disk (IsInstalling (reads c.write_change.new.disk)) (IsInstalling (reads c.args.disk.now))
    so_far (c.cut_told.ensures.stays model)
    (λ i is. installs_on (reads c.args.disk.now) (reads c.write_change.new.disk) i
    (so_far.now (reads c.write_change.new.disk) (g.met.D.Disk.reads_are_left c.write_change.new.disk)) is)

pub returns-clause-written : goal.returns-clause-written
returns-clause-written g c model =
    let reads = g.D.Disk.reads in
    let journal : (reads c.write_change.new.disk).journal ≡ (reads c.args.disk.now).journal =
    ((c.write_change.ensures.stays model).now (reads c.write_change.new.disk)
    (g.met.D.Disk.reads_are_left c.write_change.new.disk)).0 in
    let document : take c.from.result (reads c.write_change.new.disk).document
    ≡ changed_document (reads c.args.disk.now) =
    ap (λ (n : ℕ). take n (reads c.write_change.new.disk).document) (c.from.ensures ∙ c.size.ensures)
    ∙ c.in_ok-write_change.ensures.written model in
    on_ok_weaker c.sync_area.result (λ same. same ∙ c.in_ok-cut_told.ensures.cut model
    ∙ ap (λ (d : List ℕ). record { document = d; journal = (reads c.write_change.new.disk).journal }) document
    ∙ ap (λ (j : List ℕ). record { document = changed_document (reads c.args.disk.now); journal = j }) journal)
    (c.sync_area.ensures.same model)

pub returns-clause-stays : goal.returns-clause-stays
returns-clause-stays g c model =
    let reads = g.D.Disk.reads in
    let so_far = c.write_change.ensures.stays model in
    then_quiet g.D.Disk.may_leave g.D.Disk.moment g.D.Disk.left_since c.args.disk.now c.cut_told.new.disk
    c.sync_area.new.disk (IsInstalling (reads c.args.disk.now))
    (then_leaves g.D.Disk.may_leave g.D.Disk.moment g.D.Disk.left_since c.args.disk.now c.write_change.new.disk
    c.cut_told.new.disk (IsInstalling (reads c.write_change.new.disk)) (IsInstalling (reads c.args.disk.now))
    so_far (c.cut_told.ensures.stays model)
    (λ i is. installs_on (reads c.args.disk.now) (reads c.write_change.new.disk) i
    (so_far.now (reads c.write_change.new.disk) (g.met.D.Disk.reads_are_left c.write_change.new.disk)) is))
    (c.sync_area.ensures.quiet model)
