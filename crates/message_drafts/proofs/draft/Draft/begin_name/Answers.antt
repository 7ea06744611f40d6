use Rattle.std.proofs.Common.{refl, []}
use Rattle.message_drafts.proofs.Plans.{stream_outside}
use Rattle.message_drafts.proofs.Bodies.{named_none, named_some, range_low, range_high}
use Rattle.message_drafts.proofs.Taken.{keeps_alike}
use Rattle.message_drafts.proofs.draft.Draft.begin_name.Goals as goal

pub returns-then-n-lt1-clause-begins : goal.returns-then-n-lt1-clause-begins
returns-then-n-lt1-clause-begins c =
    named_none c.args.self.now _ c.args.n [] c.requires.full c.requires.name.0 c.requires.name.1
    (stream_outside c.args.n [] (range_low c.args.n c.if-n-lt1.true)) refl refl refl refl refl

pub returns-then-n-lt1-clause-keeps : goal.returns-then-n-lt1-clause-keeps
returns-then-n-lt1-clause-keeps c = keeps_alike c.args.self.now _ refl refl refl

pub returns-then-n-gt31-clause-begins : goal.returns-then-n-gt31-clause-begins
returns-then-n-gt31-clause-begins c =
    named_none c.args.self.now _ c.args.n [] c.requires.full c.requires.name.0 c.requires.name.1
    (stream_outside c.args.n [] (range_high c.args.n c.if-n-gt31.true)) refl refl refl refl refl

pub returns-then-n-gt31-clause-keeps : goal.returns-then-n-gt31-clause-keeps
returns-then-n-gt31-clause-keeps c = keeps_alike c.args.self.now _ refl refl refl

pub returns-else-n-gt31-clause-begins : goal.returns-else-n-gt31-clause-begins
returns-else-n-gt31-clause-begins c = named_some c.args.self.now c.args.n c.requires.full c.requires.name.0
    c.requires.name.1 c.if-n-gt31.false

pub returns-else-n-gt31-clause-keeps : goal.returns-else-n-gt31-clause-keeps
returns-else-n-gt31-clause-keeps c = keeps_alike c.args.self.now _ refl refl refl
