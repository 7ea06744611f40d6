use Rattle.std.proofs.Common.{Some, ap, ◌∙◌}
use Rattle.message_bytes.proofs.Leaving.{on_ok}
use Rattle.server_links.proofs.Lacking.{lacks_frame, lacks_piece}
use Rattle.server_links.proofs.Served.{handed_none, handed_out, reader_same, writer_same}
use Rattle.server_links.proofs.serving.Serving.advance.Goals as goal

pub returns-in-Ok-Some-Message-clause-leaves_reader : goal.returns-in-Ok-Some-Message-clause-leaves_reader
returns-in-Ok-Some-Message-clause-leaves_reader g c = on_ok c.meet.result (λ told _. reader_same told _)
    c.meet.ensures.counted

pub returns-in-Ok-Some-Message-clause-leaves_writer : goal.returns-in-Ok-Some-Message-clause-leaves_writer
returns-in-Ok-Some-Message-clause-leaves_writer g c = on_ok c.meet.result (λ told _. writer_same told _)
    c.meet.ensures.counted

pub returns-in-Ok-Some-Turn-clause-leaves_reader : goal.returns-in-Ok-Some-Turn-clause-leaves_reader
returns-in-Ok-Some-Turn-clause-leaves_reader g c = on_ok c.give_turn.result (λ told _. reader_same told _)
    c.give_turn.ensures.counted

pub returns-in-Ok-None-clause-leaves_writer : goal.returns-in-Ok-None-clause-leaves_writer
returns-in-Ok-None-clause-leaves_writer g c = on_ok c.read.result (λ told _. writer_same told _) c.read.ensures.counted

pub returns-in-Ok-Some-Message-clause-advanced : goal.returns-in-Ok-Some-Message-clause-advanced
returns-in-Ok-Some-Message-clause-advanced g c = λ t fed taken h.
    c.meet.ensures.met t fed taken _ _ (record { server = h.turn.server; out = h.turn.out; edited = h.turn.edited })
    (handed_out c.in-Ok-Some-Message.field-0 _ fed taken c.next.new.self
    (c.in-Ok-Some-Message.field-0-is ∙ ap (λ f. Some f) c.in-Ok-Some-Message.field-0-0-is)
    (c.in-Ok-Some-Message.ensures fed taken h.read))

pub returns-in-Ok-Some-Turn-clause-advanced : goal.returns-in-Ok-Some-Turn-clause-advanced
returns-in-Ok-Some-Turn-clause-advanced g c = λ t fed taken h.
    c.give_turn.ensures.turned t fed taken _ _
    (record { server = h.turn.server; out = h.turn.out; edited = h.turn.edited })
    (handed_out c.in-Ok-Some-Turn.field-0 _ fed taken c.next.new.self
    (c.in-Ok-Some-Turn.field-0-is ∙ ap (λ f. Some f) c.in-Ok-Some-Turn.field-0-0-is)
    (c.in-Ok-Some-Turn.ensures fed taken h.read))

pub returns-in-Ok-None-clause-advanced : goal.returns-in-Ok-None-clause-advanced
returns-in-Ok-None-clause-advanced g c = λ t fed taken h.
    let none = handed_none c.in-Ok-None.field-0 fed taken c.next.new.self c.in-Ok-None.field-0-is
    (c.in-Ok-None.ensures fed taken h.read) in
    c.read.ensures.read t fed taken _ _
    (record {
      turn = record { server = h.turn.server; out = h.turn.out; edited = h.turn.edited };
      read = none.0;
    }) none.1

pub returns-in-Ok-Some-Message-clause-lacking : goal.returns-in-Ok-Some-Message-clause-lacking
returns-in-Ok-Some-Message-clause-lacking g c = λ t fed taken h.
    lacks_frame c.meet.result c.in-Ok-Some-Message.field-0 _ fed taken c.next.new.self _
    (c.in-Ok-Some-Message.field-0-is ∙ ap (λ f. Some f) c.in-Ok-Some-Message.field-0-0-is)
    (c.in-Ok-Some-Message.ensures fed taken h.read)

pub returns-in-Ok-Some-Turn-clause-lacking : goal.returns-in-Ok-Some-Turn-clause-lacking
returns-in-Ok-Some-Turn-clause-lacking g c = λ t fed taken h.
    lacks_frame c.give_turn.result c.in-Ok-Some-Turn.field-0 _ fed taken c.next.new.self _
    (c.in-Ok-Some-Turn.field-0-is ∙ ap (λ f. Some f) c.in-Ok-Some-Turn.field-0-0-is)
    (c.in-Ok-Some-Turn.ensures fed taken h.read)

pub returns-in-Ok-None-clause-lacking : goal.returns-in-Ok-None-clause-lacking
returns-in-Ok-None-clause-lacking g c = λ t fed taken h.
    lacks_piece c.read.result fed taken _ _ (handed_none c.in-Ok-None.field-0 fed taken c.next.new.self
    c.in-Ok-None.field-0-is (c.in-Ok-None.ensures fed taken h.read)).1 c.read.ensures.lacking
