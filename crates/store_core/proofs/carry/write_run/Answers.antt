use Rattle.std.proofs.Common.{◌≡◌, ◌≤◌, ◌+◌, ◌*◌, ◌∙◌, ℕ, List, ap, drop, length, length-take, subst, sym, take, arith}
use Rattle.store_model.specs.Image.{Image, changed, put}
use Rattle.store_model.specs.Journal.{blocks_from, number_at}
use Rattle.store_model.specs.Patches.{Follow, IsTold, joined}
use Rattle.store_model.specs.declared.area.Area.TheVariants.{Document}
use Rattle.store_core.proofs.Carried.{is_blocks, read_first, read_follow, read_joined, run_told}
use Rattle.store_core.proofs.carry.write_run.Goals as goal

pub write_told-requires-clause-told : goal.write_told-requires-clause-told
write_told-requires-clause-told g c model =
    let reads = g.D.Disk.reads in
    let J : List ℕ = (reads c.args.disk.now).journal in
    let at : ℕ = 13 + 516 * c.args.index in
    let m : ℕ = length c.args.entries.now in
    let entries : c.read_into.new.into ≡ take m (drop at J) = c.in_ok-read_into.ensures.bytes model in
    let kept : length c.read_into.new.into ≡ m = c.read_into.auto.into in
    let inside = c.gather-taken.ensures.within in
    let within : 516 * c.gather-taken.result ≤ m = omega (arith, inside, kept) in
    let some : 4 ≤ m = let enough = c.requires.some in omega (arith, enough) in
    let follow : Follow (number_at at J) (blocks_from c.gather-taken.result at J) =
    read_follow J c.gather-taken.result m at within some
    (subst (λ (l : List ℕ). Follow (number_at 0 l) (blocks_from c.gather-taken.result 0 l)) entries
    c.gather-taken.ensures.follow) in
    let number : c.number_in-number.result ≡ number_at at J = c.number_in-number.ensures.number
    ∙ ap (λ (l : List ℕ). number_at 0 l) entries ∙ read_first J m at some in
    let space = c.gather-taken.ensures.room in
    let long : length (take (512 * c.gather-taken.result) c.gather-taken.new.run) ≡ 512 * c.gather-taken.result =
    omega (arith, space, length-take (512 * c.gather-taken.result) c.gather-taken.new.run) in
    let fits = c.requires.room model in
    let told : IsTold J (512 * number_at at J) (512 * c.gather-taken.result) =
    run_told J c.args.index c.gather-taken.result (number_at at J) (omega (arith, fits, within)) follow in
    subst (λ (i : Image). IsTold i.journal (512 * c.number_in-number.result)
    (length (take (512 * c.gather-taken.result) c.gather-taken.new.run)))
    (sym (c.in_ok-read_into.ensures.same model))
    (subst (λ (n : ℕ). IsTold J (512 * n) (length (take (512 * c.gather-taken.result) c.gather-taken.new.run)))
    (sym number)
    (subst (λ (n : ℕ). IsTold J (512 * number_at at J) n) (sym long) told))

pub write_told-requires-clause-within : goal.write_told-requires-clause-within
write_told-requires-clause-within g c model =
    let J : List ℕ = (g.D.Disk.reads c.args.disk.now).journal in
    let at : ℕ = 13 + 516 * c.args.index in
    let m : ℕ = length c.args.entries.now in
    let entries : c.read_into.new.into ≡ take m (drop at J) = c.in_ok-read_into.ensures.bytes model in
    let some : 4 ≤ m = let enough = c.requires.some in omega (arith, enough) in
    let number : c.number_in-number.result ≡ number_at at J = c.number_in-number.ensures.number
    ∙ ap (λ (l : List ℕ). number_at 0 l) entries ∙ read_first J m at some in
    subst (λ (i : Image). 512 * c.number_in-number.result ≤ length i.document)
    (sym (c.in_ok-read_into.ensures.same model))
    (subst (λ (n : ℕ). 512 * n ≤ length (g.D.Disk.reads c.args.disk.now).document) (sym number)
    (c.requires.within model))

pub returns-clause-follow : goal.returns-clause-follow
returns-clause-follow g c model =
    let J : List ℕ = (g.D.Disk.reads c.args.disk.now).journal in
    let at : ℕ = 13 + 516 * c.args.index in
    let m : ℕ = length c.args.entries.now in
    let entries : c.read_into.new.into ≡ take m (drop at J) = c.in_ok-read_into.ensures.bytes model in
    let kept : length c.read_into.new.into ≡ m = c.read_into.auto.into in
    let inside = c.gather-taken.ensures.within in
    let within : 516 * c.gather-taken.result ≤ m = omega (arith, inside, kept) in
    let some : 4 ≤ m = let enough = c.requires.some in omega (arith, enough) in
    read_follow J c.gather-taken.result m at within some
    (subst (λ (l : List ℕ). Follow (number_at 0 l) (blocks_from c.gather-taken.result 0 l)) entries
    c.gather-taken.ensures.follow)

pub returns-clause-written : goal.returns-clause-written
returns-clause-written g c model =
    let reads = g.D.Disk.reads in
    let J : List ℕ = (reads c.args.disk.now).journal in
    let area : List ℕ = (reads c.args.disk.now).document in
    let at : ℕ = 13 + 516 * c.args.index in
    let m : ℕ = length c.args.entries.now in
    let run : List ℕ = take (512 * c.gather-taken.result) c.gather-taken.new.run in
    let entries : c.read_into.new.into ≡ take m (drop at J) = c.in_ok-read_into.ensures.bytes model in
    let kept : length c.read_into.new.into ≡ m = c.read_into.auto.into in
    let inside = c.gather-taken.ensures.within in
    let within : 516 * c.gather-taken.result ≤ m = omega (arith, inside, kept) in
    let some : 4 ≤ m = let enough = c.requires.some in omega (arith, enough) in
    let number : c.number_in-number.result ≡ number_at at J = c.number_in-number.ensures.number
    ∙ ap (λ (l : List ℕ). number_at 0 l) entries ∙ read_first J m at some in
    let same : reads c.read_into.new.disk ≡ reads c.args.disk.now = c.in_ok-read_into.ensures.same model in
    let bytes : run ≡ joined (blocks_from c.gather-taken.result at J) =
    c.gather-taken.ensures.joined ∙ ap (λ (l : List ℕ). joined (blocks_from c.gather-taken.result 0 l)) entries
    ∙ read_joined J c.gather-taken.result m at within in
    c.in_ok-write_told.ensures.written model
    ∙ ap (λ (i : Image). changed Document (put i.document (512 * c.number_in-number.result) run) i) same
    ∙ ap (λ (n : ℕ). changed Document (put area (512 * n) run) (reads c.args.disk.now)) number
    ∙ ap (λ (l : List ℕ). changed Document (put area (512 * number_at at J) l) (reads c.args.disk.now)) bytes

pub read_into-requires : goal.read_into-requires
read_into-requires g c = record {
  within = λ model some.
      let fits = c.requires.room model in
      let parts = (is_blocks (g.D.Disk.reads c.args.disk.now) (c.requires.ready model).whole
      (c.requires.form model)).room in
      omega (arith, fits, parts);
}
