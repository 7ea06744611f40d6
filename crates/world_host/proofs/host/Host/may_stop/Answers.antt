use Rattle.std.proofs.Common.{◌+◌, ◌≤◌, ◌∙◌, length, subst, sym}
use Rattle.world_host.proofs.Stopping.{lack_at_first, lack_more, may_by, unless_image, unless_there}
use Rattle.world_host.proofs.host.Host.may_stop.Goals as goal

pub loop-i-init : goal.loop-i-init
loop-i-init c = lack_at_first c.args.self.now.core c.args.frames.now

pub loop-i-preserved : goal.loop-i-preserved
loop-i-preserved c = lack_more c.args.self.now.core c.args.frames.now c.loop-i.i c.loop-i.invariant
    (sym c.lacks_image.ensures ∙ c.if-lacks_image.false)

pub returns-then-not-are_there : goal.returns-then-not-are_there
returns-then-not-are_there c =
    sym (unless_there c.args.self.now.core c.args.frames.now (sym c.are_there.ensures ∙ c.if-not-are_there.true))

pub returns-then-lacks_image : goal.returns-then-lacks_image
returns-then-lacks_image c =
    sym (unless_image c.args.self.now.core c.args.frames.now (c.loop-i.i + 1)
    (sym c.lacks_image.ensures ∙ c.if-lacks_image.true))

pub returns : goal.returns
returns c = sym (may_by c.args.self.now.core c.args.frames.now c.loop-i.i
    (sym c.are_there.ensures ∙ c.if-not-are_there.false)
    (subst (λ frames. length frames ≤ c.loop-i.i) c.all_frames-i-end.ensures c.loop-i-test.false) c.loop-i.invariant)
