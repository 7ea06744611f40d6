use Rattle.std.proofs.Common.{refl, sym}
use Rattle.message_drafts.proofs.Bodies.{above_picture, short_picture, begun_picture}
use Rattle.message_drafts.proofs.Taken.{keeps_alike}
use Rattle.message_drafts.proofs.draft.Draft.begin_picture.Goals as goal

pub returns-then-len-self-clause-begins : goal.returns-then-len-self-clause-begins
returns-then-len-self-clause-begins c = above_picture c.args.self.now _ c.number_in-len.result c.requires.full
    c.requires.picture (sym c.number_in-len.ensures) c.if-len-self.true refl refl refl refl refl

pub returns-then-len-self-clause-keeps : goal.returns-then-len-self-clause-keeps
returns-then-len-self-clause-keeps c = keeps_alike c.args.self.now _ refl refl refl

pub returns-then-len-self-2-clause-begins : goal.returns-then-len-self-2-clause-begins
returns-then-len-self-2-clause-begins c = short_picture c.args.self.now _ c.number_in-len.result c.requires.full
    c.requires.picture (sym c.number_in-len.ensures) c.if-len-self-2.true refl refl refl refl refl

pub returns-then-len-self-2-clause-keeps : goal.returns-then-len-self-2-clause-keeps
returns-then-len-self-2-clause-keeps c = keeps_alike c.args.self.now _ refl refl refl

pub returns-clause-begins : goal.returns-clause-begins
returns-clause-begins c =
    begun_picture c.args.self.now _ c.number_in-len.result c.requires.full c.requires.picture
    (sym c.number_in-len.ensures) c.if-len-self.false c.if-len-self-2.false refl refl refl refl refl refl refl

pub returns-clause-keeps : goal.returns-clause-keeps
returns-clause-keeps c = keeps_alike c.args.self.now _ refl refl refl
