use Rattle.std.proofs.Common.{refl}
use Rattle.message_drafts.proofs.Taken.{goes_over, keeps_alike}
use Rattle.message_drafts.proofs.draft.Draft.pass_over.Goals as goal

pub returns-clause-goes : goal.returns-clause-goes
returns-clause-goes c = goes_over c.args.self.now _ c.args.bytes.now c.requires.over c.requires.some.0
    c.requires.some.1 refl refl refl

pub returns-clause-keeps : goal.returns-clause-keeps
returns-clause-keeps c = keeps_alike c.args.self.now _ refl refl refl
