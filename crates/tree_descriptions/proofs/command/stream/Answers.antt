use Rattle.std.proofs.Common.{◌≡◌, Option, ap, subst}
use Rattle.std.specs.Option.{option_copied}
use Rattle.std.specs.Prelude.{IfErr, IfOk, IsSome}
use Rattle.text_words.specs.Words.{further}
use Rattle.tree_descriptions.specs.declared.command.Command.{Command}
use Rattle.tree_descriptions.proofs.Streams.{asked}
use Rattle.tree_descriptions.proofs.command.stream.Goals as goal

pub returns-in-Some-clause-read : goal.returns-in-Some-clause-read
returns-in-Some-clause-read c =
    let P : Option Command → Type 0 = λ told. IfOk c.stream_of.result (λ command. command ≡ told) in
    subst P (asked c.args.rest.now c.cut.result.0.now c.in-Some.bytes.now
    (further 32 (option_copied c.cut.result.1)) c.cut.ensures.pieces
    (ap (λ o. further 32 (option_copied o)) c.in-Some.is)) c.stream_of.ensures.read

pub returns-in-Some-clause-within : goal.returns-in-Some-clause-within
returns-in-Some-clause-within c =
    let P : Option Command → Type 0 = λ told. IfErr c.stream_of.result (λ _. IsSome told) in
    subst P (asked c.args.rest.now c.cut.result.0.now c.in-Some.bytes.now
    (further 32 (option_copied c.cut.result.1)) c.cut.ensures.pieces
    (ap (λ o. further 32 (option_copied o)) c.in-Some.is)) c.stream_of.ensures.within
