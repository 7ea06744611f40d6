use Rattle.std.proofs.Common.{◌≡◌, ◌+◌, ◌*◌, ◌/◌, ◌++◌, length, take, drop}
use Rattle.std.specs.Option.{option_map}
use Rattle.text_spelling.specs.Words.{hex_read}
use Rattle.text_spelling.proofs.hex_blocks.fill_blocks.Given as goal

abbrev pub invariant-loop-rest : goal.invariant-loop-rest
invariant-loop-rest l = record {
  whole : 2 * l.filled + length l.rest ≡ length l.word;
  room : l.filled + length l.rest / 2 ≡ length l.buffer;
  long : length l.buffer ≡ length l.initial.buffer;
  behind : l.rest ≡ drop (2 * l.filled) l.word;
  read : option_map (λ bs. take l.filled l.buffer ++ bs) (hex_read l.rest) ≡ hex_read l.word;
}

abbrev pub decreases-loop-rest : goal.decreases-loop-rest
decreases-loop-rest l = length l.rest
