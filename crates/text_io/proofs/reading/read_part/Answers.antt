use Rattle.std.proofs.Common.{[], ◌∷◌, ◌∙◌, ap, refl, subst}
use Rattle.std.specs.Io.BufRead.{FillKeeps}
use Rattle.std.specs.Option.{option_copied}
use Rattle.std.proofs.KnownBytes.{Consumes-kept, Consumes-nil}
use Rattle.text_words.specs.Words.{further}
use Rattle.text_io.proofs.LineFeeds.{front-within, last-within, nothing-shown, refused-shown, takes-front, takes-last}
use Rattle.text_io.proofs.reading.read_part.Goals as goal

pub returns-in-Err-keep-clause-refused : goal.returns-in-Err-keep-clause-refused
returns-in-Err-keep-clause-refused g c =
    let piece = c.cut.result.0.now in
    let is = c.cut.ensures.pieces ∙ ap (λ rest. piece ∷ further 10 (option_copied rest)) c.in-Some.is in
    refused-shown (g.R.Read.remaining c.args.reader.now) c.in-Ok.available.now c.args.passed.now.bytes _
    c.in-Err-keep.fault
    (last-within c.in-Ok.available.now piece c.in-Some.field-0.now is) c.in-Ok.ensures.front
    c.in-Err-keep.ensures.refused

pub returns-in-Err-keep-2-clause-refused : goal.returns-in-Err-keep-2-clause-refused
returns-in-Err-keep-2-clause-refused g c =
    let piece = c.cut.result.0.now in
    let is = c.cut.ensures.pieces ∙ ap (λ rest. piece ∷ further 10 (option_copied rest)) c.in-None.is in
    refused-shown (g.R.Read.remaining c.args.reader.now) c.in-Ok.available.now c.args.passed.now.bytes _
    c.in-Err-keep-2.fault
    (front-within c.in-Ok.available.now piece is) c.in-Ok.ensures.front c.in-Err-keep-2.ensures.refused

pub returns-then-taken-eq0-clause-read : goal.returns-then-taken-eq0-clause-read
returns-then-taken-eq0-clause-read g c =
    let known = g.R.Read.remaining c.args.reader.now in
    let kept = c.fill_buf.follows.holds-at-none.0 in
    let piece = c.cut.result.0.now in
    let is = c.cut.ensures.pieces ∙ ap (λ rest. piece ∷ further 10 (option_copied rest)) c.in-None.is in (
      refl,
      refl,
      Consumes-kept _ _ _ [] (Consumes-nil _) kept,
      nothing-shown known c.in-Ok.available.now piece c.in-Ok.ensures.end is c.if-taken-eq0.true,
    )

pub returns-in-Ok-keep-clause-read : goal.returns-in-Ok-keep-clause-read
returns-in-Ok-keep-clause-read g c =
    let rested = c.fill_buf.follows.lender-at-none in
    let known = g.R.Read.remaining c.args.reader.now in
    let filled = subst (FillKeeps known (g.R.Read.remaining rested) (g.R.BufRead.consumable_len rested)) c.in-Ok.is
    c.fill_buf.follows.holds-at-none in
    let piece = c.cut.result.0.now in
    let is = c.cut.ensures.pieces ∙ ap (λ rest. piece ∷ further 10 (option_copied rest)) c.in-Some.is in
    takes-last c.args.passed.now c.keep.new.passed c.args.line.now.items c.keep.new.line.items c.in-Ok.available.now
    piece known (g.R.Read.remaining rested) (g.R.Read.remaining c.consume.new.self)
    (g.R.BufRead.consumable_len rested) c.in-Ok.ensures.front c.in-Ok.ensures.end filled.0 filled.1
    c.in-Ok-keep.ensures.kept
    c.in-Some.field-0.now is c.in-Ok-keep.ensures.counted c.consume.ensures.bytes

pub returns-in-Ok-keep-2-clause-read : goal.returns-in-Ok-keep-2-clause-read
returns-in-Ok-keep-2-clause-read g c =
    let rested = c.fill_buf.follows.lender-at-none in
    let known = g.R.Read.remaining c.args.reader.now in
    let filled = subst (FillKeeps known (g.R.Read.remaining rested) (g.R.BufRead.consumable_len rested)) c.in-Ok.is
    c.fill_buf.follows.holds-at-none in
    let piece = c.cut.result.0.now in
    let is = c.cut.ensures.pieces ∙ ap (λ rest. piece ∷ further 10 (option_copied rest)) c.in-None.is in
    takes-front c.args.passed.now c.keep-in-None.new.passed c.args.line.now.items c.keep-in-None.new.line.items
    c.in-Ok.available.now piece known (g.R.Read.remaining rested)
    (g.R.Read.remaining c.consume-in-None.new.self)
    (g.R.BufRead.consumable_len rested) c.in-Ok.ensures.front c.in-Ok.ensures.end filled.0 filled.1
    c.in-Ok-keep-2.ensures.kept
    is c.in-Ok-keep-2.ensures.counted c.consume-in-None.ensures.bytes
