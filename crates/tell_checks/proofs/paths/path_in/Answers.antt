use Rattle.std.proofs.Common.{◌≡◌, ◌<◌, ◌+◌, [], arith, length, rules}
use Rattle.tell_checks.proofs.Named.{front_more, front_none, path_whole}
use Rattle.tell_checks.proofs.paths.path_in.Goals as goal

pub loop-k-init : goal.loop-k-init
loop-k-init c =
    let e : c.new-path.result.items ≡ [] = search (rules, c.new-path.ensures) in
    front_none c.args.entries.now.directory c.args.way.now c.new-path.result.items e

pub returns-then-k-way : goal.returns-then-k-way
returns-then-k-way c =
    let all : c.loop-k.k + 1 ≡ length c.args.way.now = omega (arith, c.if-k-way.true) in
    path_whole c.args.entries.now.directory c.args.way.now c.loop-k.k c.loop-k.path.items c.push_part.new.path.items
    c.in-Some.name c.loop-k.invariant all c.in-Some.ensures.named
    c.in_ok-push_part.ensures

pub loop-k-preserved : goal.loop-k-preserved
loop-k-preserved c =
    let lt : c.loop-k.k < length c.args.way.now = omega arith in
    front_more c.args.entries.now.directory c.args.way.now c.loop-k.k c.loop-k.path.items c.push_part.new.path.items
    c.push.new.self.items c.in-Some.name c.loop-k.invariant lt c.in-Some.ensures.named
    c.in_ok-push_part.ensures c.in_ok-push.ensures.items
