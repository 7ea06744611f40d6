use Rattle.std.proofs.Common.{◌∙◌, ◌+◌, true, IfSome, arith, refl, subst, sym}
use Rattle.text_io.specs.Reading.{IsPart, LeavesLine}
use Rattle.text_io.proofs.LineFeeds.{IsWithin, last-read, line-read, none-read, nothing-more, some-more}
use Rattle.text_io.proofs.reading.read_line.Goals as goal

pub returns-in-Ok-Last-clause-read : goal.returns-in-Ok-Last-clause-read
returns-in-Ok-Last-clause-read g c =
    let before = c.loop.line.items in
    let after = c.read_part.new.line.items in
    let known = g.R.Read.remaining c.args.reader.now in
    let left = g.R.Read.remaining c.loop.reader in
    let behind = g.R.Read.remaining c.read_part.new.reader in
    let part = subst (λ p. IsPart p c.loop.passed c.read_part.new.passed before after left behind)
    c.in-Ok-Last.field-0-is c.in-Ok-Last.ensures.read in
    line-read c.args.passed.now c.loop.passed c.read_part.new.passed
    (record { lines = c.read_part.new.passed.lines + 1; bytes = c.read_part.new.passed.bytes }) before after
    known left behind
    c.loop.invariant.plain c.loop.invariant.read c.loop.invariant.counted
    (omega (arith, c.in-Ok-Last.ensures.lines, c.loop.invariant.same)) part refl

pub returns-then-passed-before-clause-read : goal.returns-then-passed-before-clause-read
returns-then-passed-before-clause-read g c =
    let before = c.loop.line.items in
    let after = c.read_part.new.line.items in
    let known = g.R.Read.remaining c.args.reader.now in
    let left = g.R.Read.remaining c.loop.reader in
    let behind = g.R.Read.remaining c.read_part.new.reader in
    let part = subst (λ p. IsPart p c.loop.passed c.read_part.new.passed before after left behind)
    c.in-Ok-End.field-0-is c.in-Ok-End.ensures.read in
    none-read c.args.passed.now c.read_part.new.passed before after known left behind c.loop.invariant.read
    (omega (arith, c.loop.invariant.counted, part.1, c.if-passed-before.true)) c.if-passed-before.true part.2 part.3

pub returns-in-Ok-End-clause-read : goal.returns-in-Ok-End-clause-read
returns-in-Ok-End-clause-read g c =
    let before = c.loop.line.items in
    let after = c.read_part.new.line.items in
    let known = g.R.Read.remaining c.args.reader.now in
    let left = g.R.Read.remaining c.loop.reader in
    let behind = g.R.Read.remaining c.read_part.new.reader in
    let part = subst (λ p. IsPart p c.loop.passed c.read_part.new.passed before after left behind)
    c.in-Ok-End.field-0-is c.in-Ok-End.ensures.read in
    subst
    (λ line. IfSome known (λ text. LeavesLine true c.args.passed.now
    (record { lines = c.read_part.new.passed.lines + 1; bytes = c.read_part.new.passed.bytes }) line text
    behind)) (sym part.0)
    (last-read c.args.passed.now c.loop.passed c.read_part.new.passed
    (record { lines = c.read_part.new.passed.lines + 1; bytes = c.read_part.new.passed.bytes }) before after
    known left behind
    c.loop.invariant.plain c.loop.invariant.read c.loop.invariant.counted
    (omega (arith, c.in-Ok-End.ensures.lines, c.loop.invariant.same)) (sym part.1) part.2 part.3)

pub loop-preserved-in-Ok-Nothing : goal.loop-preserved-in-Ok-Nothing
loop-preserved-in-Ok-Nothing g c =
    let old = c.args.passed.now in
    let new = c.read_part.new.passed in
    let before = c.loop.line.items in
    let after = c.read_part.new.line.items in
    let known = g.R.Read.remaining c.args.reader.now in
    let left = g.R.Read.remaining c.loop.reader in
    let behind = g.R.Read.remaining c.read_part.new.reader in
    let part = subst (λ p. IsPart p c.loop.passed new before after left behind) c.in-Ok-Nothing.field-0-is
    c.in-Ok-Nothing.ensures.read in
    let within : IsWithin old new after known behind =
    nothing-more old c.loop.passed new before after known left behind c.loop.invariant.plain c.loop.invariant.read
    c.loop.invariant.counted c.in-Ok-Nothing.ensures.bytes part.0 part.1 part.2 in
    record {
      same = c.in-Ok-Nothing.ensures.lines ∙ c.loop.invariant.same;
      few = within.few;
      began = refl;
      plain = within.plain;
      counted = within.counted;
      read = within.read;
    }

pub loop-preserved : goal.loop-preserved
loop-preserved g c =
    let old = c.args.passed.now in
    let new = c.read_part.new.passed in
    let before = c.loop.line.items in
    let after = c.read_part.new.line.items in
    let known = g.R.Read.remaining c.args.reader.now in
    let left = g.R.Read.remaining c.loop.reader in
    let behind = g.R.Read.remaining c.read_part.new.reader in
    let part = subst (λ p. IsPart p c.loop.passed new before after left behind) c.in-Ok-Front.field-0-is
    c.in-Ok-Front.ensures.read in
    let within : IsWithin old new after known behind =
    some-more old c.loop.passed new before after known left behind c.loop.invariant.plain c.loop.invariant.read
    c.loop.invariant.counted c.in-Ok-Front.ensures.bytes part in
    record {
      same = c.in-Ok-Front.ensures.lines ∙ c.loop.invariant.same;
      few = within.few;
      began = refl;
      plain = within.plain;
      counted = within.counted;
      read = within.read;
    }
