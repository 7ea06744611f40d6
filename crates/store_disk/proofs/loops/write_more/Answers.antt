use Rattle.std.proofs.Common.{◌≡◌, ◌+◌, ◌-◌, ℕ, List, drop, length, length-drop, length-take, take, arith, rules}
use Rattle.store_disk.proofs.Puts.{follows_as}
use Rattle.store_disk.proofs.loops.write_more.Goals as goal

pub returns-in-Err-clause-crash : goal.returns-in-Err-clause-crash
returns-in-Err-clause-crash g c model =
    let bytes : List ℕ = c.args.bytes.now in
    let done : ℕ = c.args.done in
    let offset : c.in-Some.offset ≡ c.args.at + done = search rules in
    let part : List ℕ = take (length bytes - done) (drop done bytes) in
    let long : length part ≡ length bytes - done =
    omega (arith, length-take (length bytes - done) (drop done bytes), length-drop done bytes) in
    follows_as c.args.area c.in-Some.offset (length part) (c.args.at + done) (length bytes - done)
    (g.F.DiskFiles.may_leave c.args.files.now) (g.F.DiskFiles.may_leave c.write_at.new.self) offset long
    (c.write_at.ensures.crash model)

pub returns-in-Ok-eq0-clause-crash : goal.returns-in-Ok-eq0-clause-crash
returns-in-Ok-eq0-clause-crash g c model =
    let bytes : List ℕ = c.args.bytes.now in
    let done : ℕ = c.args.done in
    let offset : c.in-Some.offset ≡ c.args.at + done = search rules in
    let part : List ℕ = take (length bytes - done) (drop done bytes) in
    let long : length part ≡ length bytes - done =
    omega (arith, length-take (length bytes - done) (drop done bytes), length-drop done bytes) in
    follows_as c.args.area c.in-Some.offset (length part) (c.args.at + done) (length bytes - done)
    (g.F.DiskFiles.may_leave c.args.files.now) (g.F.DiskFiles.may_leave c.write_at.new.self) offset long
    (c.write_at.ensures.crash model)

pub returns-in-Ok-clause-crash : goal.returns-in-Ok-clause-crash
returns-in-Ok-clause-crash g c model =
    let bytes : List ℕ = c.args.bytes.now in
    let done : ℕ = c.args.done in
    let offset : c.in-Some.offset ≡ c.args.at + done = search rules in
    let part : List ℕ = take (length bytes - done) (drop done bytes) in
    let long : length part ≡ length bytes - done =
    omega (arith, length-take (length bytes - done) (drop done bytes), length-drop done bytes) in
    follows_as c.args.area c.in-Some.offset (length part) (c.args.at + done) (length bytes - done)
    (g.F.DiskFiles.may_leave c.args.files.now) (g.F.DiskFiles.may_leave c.write_at.new.self) offset long
    (c.write_at.ensures.crash model)
