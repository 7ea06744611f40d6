use Rattle.std.proofs.Common.{◌≡◌, ◌∷◌, Ok, drop, ap, sym, ◌∙◌, length, arith}
use Rattle.text_words.specs.Words.{lines}
use Rattle.text_worlds.specs.Moments.{moment_read}
use Rattle.text_io.proofs.LineByLine.{stands, skipped, read_more, bad, length-pieces}
use Rattle.text_worlds.proofs.WantingEnds.{spelled_wants, wanting}
use Rattle.text_worlds.proofs.moments.parse_moments.Goals as goal

pub loop-line-init : goal.loop-line-init
loop-line-init c = record {
  few = rw c.new-left.ensures (omega (arith, length-pieces 10 c.args.text.now));
  left = sym c.new-left.ensures;
  read = ap Ok (sym c.new-moments.ensures.items);
}

pub loop-line-preserved-then-is_skipped : goal.loop-line-preserved-then-is_skipped
loop-line-preserved-then-is_skipped c =
    let taken : c.loop-line.left ≡ c.in-Some.line.now ∷ c.next_piece.new.self = c.in-Some.ensures in
    let at : drop c.loop-line.number (lines c.args.text.now) ≡ c.in-Some.line.now ∷ c.next_piece.new.self =
    c.loop-line.invariant.left ∙ taken in
    record {
      few = omega (arith, c.loop-line.invariant.few, ap length taken);
      left = (stands (lines c.args.text.now) c.loop-line.number c.in-Some.line.now c.next_piece.new.self at).behind;
      read = skipped moment_read (lines c.args.text.now) c.loop-line.number c.in-Some.line.now c.next_piece.new.self
          c.loop-line.moments.items at c.loop-line.invariant.read (sym c.is_skipped.ensures ∙ c.if-is_skipped.true);
    }

pub loop-line-preserved : goal.loop-line-preserved
loop-line-preserved c =
    let taken : c.loop-line.left ≡ c.in-Some.line.now ∷ c.next_piece.new.self = c.in-Some.ensures in
    let at : drop c.loop-line.number (lines c.args.text.now) ≡ c.in-Some.line.now ∷ c.next_piece.new.self =
    c.loop-line.invariant.left ∙ taken in
    record {
      few = omega (arith, c.loop-line.invariant.few, ap length taken);
      left = (stands (lines c.args.text.now) c.loop-line.number c.in-Some.line.now c.next_piece.new.self at).behind;
      read = rw c.in-Ok.ensures.items (read_more moment_read (lines c.args.text.now) c.loop-line.number
          c.in-Some.line.now c.next_piece.new.self c.loop-line.moments.items c.in-Ok-Some.moment at
          c.loop-line.invariant.read (sym c.is_skipped.ensures ∙ c.if-is_skipped.false)
          (sym c.in-Ok-Some.field-0-is ∙ c.in-Ok-Some.ensures.read));
    }

pub returns-in-Err-push-clause-refused : goal.returns-in-Err-push-clause-refused
returns-in-Err-push-clause-refused c =
    wanting c.args.text.now c.loop-line.number c.in-Some.line.now c.next_piece.new.self c.loop-line.moments.items
    (c.loop-line.invariant.left ∙ c.in-Some.ensures) c.loop-line.invariant.read
    (sym c.is_skipped.ensures ∙ c.if-is_skipped.false)
    (spelled_wants c.in-Some.line.now c.in-Ok-Some.moment (sym c.in-Ok-Some.field-0-is ∙ c.in-Ok-Some.ensures.read))

pub returns-in-Ok-None-clause-refused : goal.returns-in-Ok-None-clause-refused
returns-in-Ok-None-clause-refused c =
    bad moment_read (lines c.args.text.now) c.loop-line.number c.in-Some.line.now c.next_piece.new.self
    c.loop-line.moments.items (c.loop-line.invariant.left ∙ c.in-Some.ensures) c.loop-line.invariant.read
    (sym c.is_skipped.ensures ∙ c.if-is_skipped.false)
    (sym c.in-Ok-None.field-0-is ∙ c.in-Ok-None.ensures.read)

pub returns-in-Err-clause-refused : goal.returns-in-Err-clause-refused
returns-in-Err-clause-refused c =
    wanting c.args.text.now c.loop-line.number c.in-Some.line.now c.next_piece.new.self c.loop-line.moments.items
    (c.loop-line.invariant.left ∙ c.in-Some.ensures) c.loop-line.invariant.read
    (sym c.is_skipped.ensures ∙ c.if-is_skipped.false)
    c.in-Err.ensures.within
