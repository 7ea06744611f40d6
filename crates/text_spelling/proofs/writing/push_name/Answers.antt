use Rattle.text_words.specs.Spelled.{byte_text}
use Rattle.text_spelling.proofs.Pushed.{push-turn}
use Rattle.text_spelling.proofs.writing.push_name.Goals as goal

pub loop-byte-preserved : goal.loop-byte-preserved
loop-byte-preserved c =
    push-turn byte_text c.loop-byte.text.items c.push_byte.new.text.items _ c.args.name.now c.loop-byte.byte-index
    c.loop-byte-test.true c.in_ok-push_byte.ensures c.loop-byte.invariant
