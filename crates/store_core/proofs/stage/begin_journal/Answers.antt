use Rattle.std.proofs.Common.{◌≡◌, ◌≤◌, ◌∙◌, ◌∷◌, [], ℕ, List, ap, length, subst, sym, take}
use Rattle.std.specs.Int.{w64, to_le_bytes}
use Rattle.std.proofs.lemmas.Result.{on_ok_weaker}
use Rattle.store_model.specs.Image.{Image, put}
use Rattle.store_core.proofs.Staged.{begun}
use Rattle.store_core.proofs.Under.{stages_more}
use Rattle.store_core.proofs.stage.begin_journal.Goals as goal

pub returns-in_err-write_behind-2-clause-stays : goal.returns-in_err-write_behind-2-clause-stays
returns-in_err-write_behind-2-clause-stays g c model =
    let mid = c.write_behind.new.disk in
    stages_more g.D.Disk.reads g.D.Disk.may_leave g.D.Disk.moment g.D.Disk.left_since c.args.disk.now mid
    c.write_behind-2.new.disk (g.met.D.Disk.reads_are_left mid) (c.write_behind.ensures.stays model)
    (c.write_behind-2.ensures.stays model)

pub returns-clause-stays : goal.returns-clause-stays
returns-clause-stays g c model =
    let old = c.args.disk.now in
    let first = c.write_behind.new.disk in
    let second = c.write_behind-2.new.disk in
    stages_more g.D.Disk.reads g.D.Disk.may_leave g.D.Disk.moment g.D.Disk.left_since old second
    c.write_behind-3.new.disk (g.met.D.Disk.reads_are_left second)
    (stages_more g.D.Disk.reads g.D.Disk.may_leave g.D.Disk.moment g.D.Disk.left_since old first second
    (g.met.D.Disk.reads_are_left first) (c.write_behind.ensures.stays model)
    (c.write_behind-2.ensures.stays model))
    (c.write_behind-3.ensures.stays model)

pub returns-clause-written : goal.returns-clause-written
returns-clause-written g c model =
    let reads = g.D.Disk.reads in
    let journal : List ℕ = (reads c.args.disk.now).journal in
    let there = c.requires.there model in
    let all = begun journal c.args.size there in
    let sized : (reads c.write_behind.new.disk).journal ≡ put journal 1 (to_le_bytes w64 c.args.size) =
    ap (λ (i : Image). i.journal) (c.in_ok-write_behind.ensures.written model)
    ∙ ap (λ (s : List ℕ). put journal 1 s) c.to_le_bytes.ensures in
    let formed : (reads c.write_behind-2.new.disk).journal ≡ put (put journal 1 (to_le_bytes w64 c.args.size)) 8
    (1 ∷ []) =
    ap (λ (i : Image). i.journal) (c.in_ok-write_behind-2.ensures.written model)
    ∙ ap (λ (l : List ℕ). put l 8 (1 ∷ [])) sized in
    on_ok_weaker c.write_behind-3.result (λ written. ap (λ (i : Image). take 13 i.journal) written
    ∙ ap (λ (l : List ℕ). take 13 (put l 9 (0 ∷ 0 ∷ 0 ∷ 0 ∷ []))) formed ∙ all.2)
    (c.write_behind-3.ensures.written model)

pub write_behind-requires-2-clause-within : goal.write_behind-requires-2-clause-within
write_behind-requires-2-clause-within g c model =
    let journal : List ℕ = (g.D.Disk.reads c.args.disk.now).journal in
    let sized : (g.D.Disk.reads c.write_behind.new.disk).journal ≡ put journal 1 (to_le_bytes w64 c.args.size) =
    ap (λ (i : Image). i.journal) (c.in_ok-write_behind.ensures.written model)
    ∙ ap (λ (s : List ℕ). put journal 1 s) c.to_le_bytes.ensures in
    subst (λ (l : List ℕ). 8 ≤ length l) (sym sized) (begun journal c.args.size (c.requires.there model)).0

pub write_behind-requires-3-clause-within : goal.write_behind-requires-3-clause-within
write_behind-requires-3-clause-within g c model =
    let journal : List ℕ = (g.D.Disk.reads c.args.disk.now).journal in
    let sized : (g.D.Disk.reads c.write_behind.new.disk).journal ≡ put journal 1 (to_le_bytes w64 c.args.size) =
    ap (λ (i : Image). i.journal) (c.in_ok-write_behind.ensures.written model)
    ∙ ap (λ (s : List ℕ). put journal 1 s) c.to_le_bytes.ensures in
    let formed : (g.D.Disk.reads c.write_behind-2.new.disk).journal
    ≡ put (put journal 1 (to_le_bytes w64 c.args.size)) 8 (1 ∷ []) =
    ap (λ (i : Image). i.journal) (c.in_ok-write_behind-2.ensures.written model)
    ∙ ap (λ (l : List ℕ). put l 8 (1 ∷ [])) sized in
    subst (λ (l : List ℕ). 9 ≤ length l) (sym formed) (begun journal c.args.size (c.requires.there model)).1
