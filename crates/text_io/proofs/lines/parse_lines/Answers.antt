use Rattle.std.proofs.Common.{◌++◌, ◌∷◌, [], Ok, ap, sym, ◌∙◌}
use Rattle.text_words.specs.Words.{lines}
use Rattle.text_io.specs.Lines.{asking}
use Rattle.text_io.proofs.Asking.{all-asked, asked-turn, bad-at, lacking_at, one-more}
use Rattle.text_io.proofs.LineByLine.{some_is}
use Rattle.text_io.proofs.lines.parse_lines.Goals as goal

pub loop-number-init : goal.loop-number-init
loop-number-init g c = ([], sym c.new-left.ensures, ap Ok (sym c.new-asked.ensures.items))

pub loop-number-preserved : goal.loop-number-preserved
loop-number-preserved g c =
    let gone = c.loop-number.invariant.0 in (
      gone ++ (c.in-Some.number, c.in-Some.line.now) ∷ [],
      one-more (asking 1 (lines c.args.text.now)) gone c.loop-number.left (c.in-Some.number, c.in-Some.line.now)
          c.next_line.new.self c.loop-number.invariant.1 c.in-Some.ensures,
      rw c.in-Ok.ensures.items (asked-turn g.G.Grammar.read gone c.in-Some.number c.in-Some.line.now
          c.loop-number.asked.items c.in-Ok-Some.one c.loop-number.invariant.2
          (sym c.in-Ok-Some.field-0-is ∙ c.in-Ok-Some.ensures.read)),
    )

pub returns-in-Err-push-clause-refused : goal.returns-in-Err-push-clause-refused
returns-in-Err-push-clause-refused g c =
    lacking_at g.G.Grammar.read c.args.text.now c.loop-number.invariant.0 c.in-Some.number c.in-Some.line.now
    c.next_line.new.self c.loop-number.asked.items
    (c.loop-number.invariant.1 ∙ ap (λ l. c.loop-number.invariant.0 ++ l) c.in-Some.ensures) c.loop-number.invariant.2
    (some_is g.G.Grammar.read (g.G.Grammar.read c.in-Some.number c.in-Some.line.now) c.in-Ok-Some.one
    (sym c.in-Ok-Some.field-0-is ∙ c.in-Ok-Some.ensures.read))

pub returns-in-Ok-None-clause-refused : goal.returns-in-Ok-None-clause-refused
returns-in-Ok-None-clause-refused g c =
    bad-at g.G.Grammar.read c.args.text.now c.loop-number.invariant.0 c.in-Some.number c.in-Some.line.now
    c.next_line.new.self c.loop-number.asked.items
    (c.loop-number.invariant.1 ∙ ap (λ l. c.loop-number.invariant.0 ++ l) c.in-Some.ensures)
    c.loop-number.invariant.2 (sym c.in-Ok-None.field-0-is ∙ c.in-Ok-None.ensures.read)

pub returns-in-Err-clause-refused : goal.returns-in-Err-clause-refused
returns-in-Err-clause-refused g c =
    lacking_at g.G.Grammar.read c.args.text.now c.loop-number.invariant.0 c.in-Some.number c.in-Some.line.now
    c.next_line.new.self c.loop-number.asked.items
    (c.loop-number.invariant.1 ∙ ap (λ l. c.loop-number.invariant.0 ++ l) c.in-Some.ensures)
    c.loop-number.invariant.2 c.in-Err.ensures.within

pub returns-clause-read : goal.returns-clause-read
returns-clause-read g c =
    all-asked g.G.Grammar.read c.args.text.now c.loop-number.invariant.0 c.loop-number.left
    c.loop-number.asked.items c.loop-number.invariant.1 c.loop-number.invariant.2 c.in_default.ensures.0
