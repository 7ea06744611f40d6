use Rattle.std.proofs.Common.{◌≡◌, ◌≤◌, ◌+◌, ◌∙◌, ℕ, List, ap, drop, length, length-take, take, arith, rules}
use Rattle.store_model.specs.Image.{bytes_of}
use Rattle.store_disk.proofs.Puts.{read_behind}
use Rattle.store_disk.proofs.loops.read_more.Goals as goal

pub returns-clause-bytes : goal.returns-clause-bytes
returns-clause-bytes g c model =
    let into : List ℕ = c.args.into.now in
    let done : ℕ = c.args.done in
    let bytes : List ℕ = bytes_of c.args.area (g.F.DiskFiles.reads c.args.files.now) in
    let small = c.requires in
    let bound = c.in_ok-n.ensures.bound in
    let kept = c.read_at.auto.into in
    let offset : c.in-Some.offset ≡ c.args.at + done = search rules in
    let front : length (take done into) ≡ done = omega (arith, small, length-take done into) in
    let room : c.in_ok-n.n ≤ length c.read_at.new.into = search rules in
    read_behind (take done into) c.read_at.new.into _ (take c.in_ok-n.n (drop (c.args.at + done) bytes)) done
    c.in_ok-n.n front room
    (c.in_ok-n.ensures.bytes model ∙ ap (λ (k : ℕ). take c.in_ok-n.n (drop k bytes)) offset)
