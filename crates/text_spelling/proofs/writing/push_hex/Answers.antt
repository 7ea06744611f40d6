use Rattle.text_words.specs.Spelled.{byte_hex}
use Rattle.text_spelling.proofs.Pushed.{push-turn}
use Rattle.text_spelling.proofs.writing.push_hex.Goals as goal

pub loop-byte-preserved : goal.loop-byte-preserved
loop-byte-preserved c =
    push-turn byte_hex c.loop-byte.text.items c.push_byte_hex.new.text.items _ c.args.bytes.now
    c.loop-byte.byte-index c.loop-byte-test.true c.in_ok-push_byte_hex.ensures c.loop-byte.invariant
