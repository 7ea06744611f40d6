use Rattle.std.proofs.Common.{refl, sym, ap, ◌∙◌, [], ◌∷◌, ◌++◌, ◌≡◌, List, ℕ, true, false, rules}
use Rattle.tree_streams.specs.declared.streams.NamedStream.{NamedStream}
use Rattle.message_model.specs.Reading.{may_follow}
use Rattle.message_drafts.proofs.Begun.{none_of, unfit_of, above_of, short_of, begun_of}
use Rattle.message_drafts.proofs.Taken.{keeps_alike, keeps_pushed}
use Rattle.message_drafts.proofs.draft.Draft.begin_stream.Goals as goal

pub returns-in-None-clause-begins : goal.returns-in-None-clause-begins
returns-in-None-clause-begins c = none_of c.args.self.now _ _ c.requires.full c.requires.stream.0 refl
    c.requires.stream.1 c.in-None.ensures refl refl refl refl refl

pub returns-in-None-clause-keeps : goal.returns-in-None-clause-keeps
returns-in-None-clause-keeps c = keeps_alike c.args.self.now _ refl refl refl

pub returns-then-not-may_follow-clause-begins : goal.returns-then-not-may_follow-clause-begins
returns-then-not-may_follow-clause-begins c =
    let unfit : may_follow c.args.self.now.streams.items c.in-Some.field.0 ≡ false = search rules in
    unfit_of c.args.self.now _ _ c.in-Some.field.0 c.in-Some.field.1 c.requires.full c.requires.stream.0 refl
    c.requires.stream.1 c.in-Some.ensures unfit refl refl refl refl refl

pub returns-then-not-may_follow-clause-keeps : goal.returns-then-not-may_follow-clause-keeps
returns-then-not-may_follow-clause-keeps c = keeps_alike c.args.self.now _ refl refl refl

pub returns-then-len-self-clause-begins : goal.returns-then-len-self-clause-begins
returns-then-len-self-clause-begins c =
    above_of c.args.self.now _ _ c.in-Some.field.0 c.in-Some.field.1 c.requires.full c.requires.stream.0 refl
    c.requires.stream.1 c.in-Some.ensures c.if-len-self.true refl refl refl refl refl

pub returns-then-len-self-clause-keeps : goal.returns-then-len-self-clause-keeps
returns-then-len-self-clause-keeps c = keeps_alike c.args.self.now _ refl refl refl

pub returns-then-len-self-2-clause-begins : goal.returns-then-len-self-2-clause-begins
returns-then-len-self-2-clause-begins c =
    short_of c.args.self.now _ _ c.in-Some.field.0 c.in-Some.field.1 c.requires.full c.requires.stream.0 refl
    c.requires.stream.1 c.in-Some.ensures c.if-len-self-2.true refl refl refl refl refl

pub returns-then-len-self-2-clause-keeps : goal.returns-then-len-self-2-clause-keeps
returns-then-len-self-2-clause-keeps c = keeps_alike c.args.self.now _ refl refl refl

pub returns-in_err-push-clause-keeps : goal.returns-in_err-push-clause-keeps
returns-in_err-push-clause-keeps c = keeps_alike c.args.self.now _ refl c.in_err-push.ensures.items refl

pub returns-clause-begins : goal.returns-clause-begins
returns-clause-begins c =
    let follows : may_follow c.args.self.now.streams.items c.in-Some.field.0 ≡ true = search rules in
    let pushed : c.push.new.self.items ≡ c.args.self.now.streams.items
    ++ record { name = c.in-Some.field.0; bytes = [] } ∷ [] =
    c.in_ok-push.ensures.items ∙ ap (λ (t : NamedStream). c.args.self.now.streams.items ++ t ∷ []) c.new.ensures in
    begun_of c.args.self.now _ _ c.in-Some.field.0 c.in-Some.field.1 c.requires.full c.requires.stream.0 refl
    c.requires.stream.1 c.in-Some.ensures follows c.if-len-self.false c.if-len-self-2.false
    (sym c.requires.full.phase) refl refl refl refl refl refl pushed refl

pub returns-clause-keeps : goal.returns-clause-keeps
returns-clause-keeps c = keeps_pushed c.args.self.now _ c.new.result refl c.in_ok-push.ensures.items refl
