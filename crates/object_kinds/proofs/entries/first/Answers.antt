use Rattle.std.proofs.Common.{ap, ◌∙◌, ◌∷◌, ◌≡◌}
use Rattle.std.specs.Option.{option_copied}
use Rattle.text_words.specs.Words.{pieces, further}
use Rattle.object_kinds.proofs.Loading.{entries-last, first-bad, first-early, first-read}
use Rattle.object_kinds.proofs.entries.first.Goals as goal

pub returns-in-None-clause-read : goal.returns-in-None-clause-read
returns-in-None-clause-read c =
    entries-last c.args.place c.args.bytes.now c.cut.result.0.now c.requires
    (c.cut.ensures.pieces ∙ ap (λ r. c.cut.result.0.now ∷ further 10 (option_copied r)) c.in-None.is)

pub returns-in-None-entry-clause-read : goal.returns-in-None-entry-clause-read
returns-in-None-entry-clause-read c =
    let split : pieces 10 c.args.bytes.now ≡ c.cut.result.0.now ∷ pieces 10 c.in-Some.rest.now =
    c.cut.ensures.pieces ∙ ap (λ r. c.cut.result.0.now ∷ further 10 (option_copied r)) c.in-Some.is in
    first-bad c.args.place c.args.bytes.now c.cut.result.0.now c.in-Some.rest.now split c.in-None-entry.ensures

pub returns-then-at-place-clause-read : goal.returns-then-at-place-clause-read
returns-then-at-place-clause-read c =
    let split : pieces 10 c.args.bytes.now ≡ c.cut.result.0.now ∷ pieces 10 c.in-Some.rest.now =
    c.cut.ensures.pieces ∙ ap (λ r. c.cut.result.0.now ∷ further 10 (option_copied r)) c.in-Some.is in
    first-early c.args.place c.in-Some-entry.entry.0 c.args.bytes.now c.cut.result.0.now c.in-Some.rest.now
    c.in-Some-entry.entry.1.now split
    c.in-Some-entry.ensures c.if-at-place.true

pub returns-clause-read : goal.returns-clause-read
returns-clause-read c =
    let split : pieces 10 c.args.bytes.now ≡ c.cut.result.0.now ∷ pieces 10 c.in-Some.rest.now =
    c.cut.ensures.pieces ∙ ap (λ r. c.cut.result.0.now ∷ further 10 (option_copied r)) c.in-Some.is in
    first-read c.args.place c.in-Some-entry.entry.0 c.args.bytes.now c.cut.result.0.now c.in-Some.rest.now
    c.in-Some-entry.entry.1.now split
    c.in-Some-entry.ensures c.if-at-place.false
