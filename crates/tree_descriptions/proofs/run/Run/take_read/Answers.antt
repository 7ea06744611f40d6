use Rattle.std.proofs.Common.{◌∷◌, [], ◌∙◌, ap, arith, sym}
use Rattle.tree_storage.specs.Kept.{added}
use Rattle.tree_rising.specs.Rising.{rising}
use Rattle.tree_descriptions.proofs.Runs.{put-behind}
use Rattle.tree_descriptions.proofs.run.Run.take_read.Goals as goal

pub returns : goal.returns
returns c = λ k run.
    let self = c.args.self.now in
    let name = c.args.name.now in
    put-behind self (record { tree = c.make_last.new.self; spent = c.in-Some.spent; buffer = self.buffer }) k name
    self.buffer.items run
    (ap (λ bytes. added (name ∷ []) bytes (rising self.tree)) (sym c.deref.ensures.value)
    ∙ (rw c.if-not-made.false at c.in-Ok.ensures).1)
    (omega (arith, c.in-Some.ensures.0, c.len.ensures, self.buffer.ok.0)) c.in-Some.ensures.1
