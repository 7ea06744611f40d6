use Rattle.std.proofs.Common.{◌≡◌, ◌+◌, ◌≤◌, ◌<◌, ◌/◌, ◌++◌, None, length, take}
use Rattle.std.specs.Option.{option_map}
use Rattle.text_spelling.specs.Words.{hex_read}
use Rattle.text_spelling.proofs.words.fill_hex.Given as goal

abbrev pub invariant-loop-rest : goal.invariant-loop-rest
invariant-loop-rest l = record {
  room : l.filled + length l.rest / 2 ≡ length l.buffer;
  well : l.bits < 256 → option_map (λ bs. take l.filled l.buffer ++ bs) (hex_read l.rest) ≡ hex_read l.word;
  ill : 256 ≤ l.bits → hex_read l.word ≡ None;
}

abbrev pub decreases-loop-rest : goal.decreases-loop-rest
decreases-loop-rest l = length l.rest
