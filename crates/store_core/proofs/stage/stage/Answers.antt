use Rattle.std.proofs.Common.{◌≡◌, ◌+◌, ◌*◌, ◌∙◌, ◌++◌, ℕ, List, ap, get_or, length, refl, subst, sym, take}
use Rattle.store_model.specs.Changes.{changes, head_of, journal_from, spelled}
use Rattle.store_model.specs.Image.{Image, changed}
use Rattle.store_model.specs.declared.area.Area.TheVariants.{Journal}
use Rattle.store_core.specs.Steps.{IsStaging}
use Rattle.store_core.proofs.Moments.{then_quiet}
use Rattle.store_core.proofs.Staged.{changes_long, headed, tail_there}
use Rattle.store_core.proofs.Under.{stages_again, stages_more}
use Rattle.store_core.proofs.stage.stage.Goals as goal

pub begin_journal-requires-clause-closed : goal.begin_journal-requires-clause-closed
begin_journal-requires-clause-closed g c model =
    let old = g.D.Disk.reads c.args.disk.now in
    let rests = c.requires.rests model in
    λ i left. subst (λ (b : Image). IsStaging old b) (sym (rests.durable i left)) (refl, rests.closed)

pub write_changes-requires-clause-closed : goal.write_changes-requires-clause-closed
write_changes-requires-clause-closed g c model =
    let disk = c.begin_journal.new.disk in
    stages_again g.D.Disk.reads g.D.Disk.may_leave g.D.Disk.moment g.D.Disk.left_since c.args.disk.now disk
    (g.met.D.Disk.reads_are_left disk) (c.begin_journal.ensures.stays model)

pub returns-in_err-count-clause-stays : goal.returns-in_err-count-clause-stays
returns-in_err-count-clause-stays g c model =
    let disk = c.begin_journal.new.disk in
    stages_more g.D.Disk.reads g.D.Disk.may_leave g.D.Disk.moment g.D.Disk.left_since c.args.disk.now disk
    c.write_changes.new.disk (g.met.D.Disk.reads_are_left disk) (c.begin_journal.ensures.stays model)
    (c.write_changes.ensures.stays model)

pub end_journal-requires-clause-closed : goal.end_journal-requires-clause-closed
end_journal-requires-clause-closed g c model =
    let old = c.args.disk.now in
    let begun = c.begin_journal.new.disk in
    let written = c.write_changes.new.disk in
    stages_again g.D.Disk.reads g.D.Disk.may_leave g.D.Disk.moment g.D.Disk.left_since old written
    (g.met.D.Disk.reads_are_left written)
    (stages_more g.D.Disk.reads g.D.Disk.may_leave g.D.Disk.moment g.D.Disk.left_since old begun written
    (g.met.D.Disk.reads_are_left begun) (c.begin_journal.ensures.stays model)
    (c.write_changes.ensures.stays model))

pub end_journal-requires-clause-there : goal.end_journal-requires-clause-there
end_journal-requires-clause-there g c model =
    let disk = c.args.disk.now in
    let reads = g.D.Disk.reads in
    let old : List ℕ = (reads disk).document in
    let new : List ℕ = c.args.document.now in
    let gate : ℕ = get_or (reads disk).journal 0 0 in
    let begun = (c.begin_journal.ensures.stays model).now (reads c.begin_journal.new.disk)
    (g.met.D.Disk.reads_are_left c.begin_journal.new.disk) in
    let n : ℕ = c.in_ok-count.count in
    let is_n : n ≡ length (changes old new) = c.in_ok-count.ensures.blocks model
    ∙ ap (λ (d : List ℕ). length (changes d new)) begun.0 in
    let front : take (13 + 516 * n) (reads c.write_changes.new.disk).journal ≡ head_of gate (length new) 0
    ++ spelled (changes old new) =
    c.in_ok-count.ensures.written model
    ∙ ap (λ (d : List ℕ). take 13 (reads c.begin_journal.new.disk).journal ++ spelled (changes d new)) begun.0
    ∙ ap (λ (l : List ℕ). l ++ spelled (changes old new)) (c.in_ok-begin_journal.ensures.written model) in
    tail_there n (head_of gate (length new) 0) (spelled (changes old new)) (reads c.write_changes.new.disk).journal
    refl (changes_long n old new is_n) front

pub returns-in_err-end_journal-clause-stays : goal.returns-in_err-end_journal-clause-stays
returns-in_err-end_journal-clause-stays g c model =
    let old = c.args.disk.now in
    let begun = c.begin_journal.new.disk in
    let written = c.write_changes.new.disk in
    let run = stages_more g.D.Disk.reads g.D.Disk.may_leave g.D.Disk.moment g.D.Disk.left_since old begun written
    (g.met.D.Disk.reads_are_left begun) (c.begin_journal.ensures.stays model)
    (c.write_changes.ensures.stays model) in
    stages_more g.D.Disk.reads g.D.Disk.may_leave g.D.Disk.moment g.D.Disk.left_since old written
    c.end_journal.new.disk (g.met.D.Disk.reads_are_left written) run (c.end_journal.ensures.stays model)

pub returns-in_err-sync_area-clause-stays : goal.returns-in_err-sync_area-clause-stays
returns-in_err-sync_area-clause-stays g c model =
    let old = c.args.disk.now in
    let begun = c.begin_journal.new.disk in
    let written = c.write_changes.new.disk in
    let run = stages_more g.D.Disk.reads g.D.Disk.may_leave g.D.Disk.moment g.D.Disk.left_since old begun written
    (g.met.D.Disk.reads_are_left begun) (c.begin_journal.ensures.stays model)
    (c.write_changes.ensures.stays model) in
    then_quiet g.D.Disk.may_leave g.D.Disk.moment g.D.Disk.left_since old c.end_journal.new.disk
    c.sync_area.new.disk (IsStaging (g.D.Disk.reads old))
    (stages_more g.D.Disk.reads g.D.Disk.may_leave g.D.Disk.moment g.D.Disk.left_since old written
    c.end_journal.new.disk (g.met.D.Disk.reads_are_left written) run (c.end_journal.ensures.stays model))
    (c.sync_area.ensures.quiet model)

pub returns-clause-staged : goal.returns-clause-staged
returns-clause-staged g c model =
    let disk = c.args.disk.now in
    let reads = g.D.Disk.reads in
    let old : List ℕ = (reads disk).document in
    let new : List ℕ = c.args.document.now in
    let gate : ℕ = get_or (reads disk).journal 0 0 in
    let begun = (c.begin_journal.ensures.stays model).now (reads c.begin_journal.new.disk)
    (g.met.D.Disk.reads_are_left c.begin_journal.new.disk) in
    let written = (c.write_changes.ensures.stays model).now (reads c.write_changes.new.disk)
    (g.met.D.Disk.reads_are_left c.write_changes.new.disk) in
    let n : ℕ = c.in_ok-count.count in
    let is_n : n ≡ length (changes old new) = c.in_ok-count.ensures.blocks model
    ∙ ap (λ (d : List ℕ). length (changes d new)) begun.0 in
    let front : take (13 + 516 * n) (reads c.write_changes.new.disk).journal ≡ head_of gate (length new) 0
    ++ spelled (changes old new) =
    c.in_ok-count.ensures.written model
    ∙ ap (λ (d : List ℕ). take 13 (reads c.begin_journal.new.disk).journal ++ spelled (changes d new)) begun.0
    ∙ ap (λ (l : List ℕ). l ++ spelled (changes old new)) (c.in_ok-begin_journal.ensures.written model) in
    c.in_ok-sync_area.ensures.same model ∙ c.in_ok-end_journal.ensures.written model
    ∙ ap (λ (l : List ℕ). changed Journal l (reads c.write_changes.new.disk))
    (headed gate (length new) n (spelled (changes old new)) (reads c.write_changes.new.disk).journal
    (changes_long n old new is_n) front
    ∙ ap (λ (m : ℕ). head_of gate (length new) m ++ spelled (changes old new)) is_n)
    ∙ ap (λ (d : List ℕ). record { document = d; journal = journal_from gate old new }) (written.0 ∙ begun.0)

pub returns-clause-stays : goal.returns-clause-stays
returns-clause-stays g c model =
    let old = c.args.disk.now in
    let begun = c.begin_journal.new.disk in
    let written = c.write_changes.new.disk in
    let run = stages_more g.D.Disk.reads g.D.Disk.may_leave g.D.Disk.moment g.D.Disk.left_since old begun written
    (g.met.D.Disk.reads_are_left begun) (c.begin_journal.ensures.stays model)
    (c.write_changes.ensures.stays model) in
    then_quiet g.D.Disk.may_leave g.D.Disk.moment g.D.Disk.left_since old c.end_journal.new.disk
    c.sync_area.new.disk (IsStaging (g.D.Disk.reads old))
    (stages_more g.D.Disk.reads g.D.Disk.may_leave g.D.Disk.moment g.D.Disk.left_since old written
    c.end_journal.new.disk (g.met.D.Disk.reads_are_left written) run (c.end_journal.ensures.stays model))
    (c.sync_area.ensures.quiet model)
