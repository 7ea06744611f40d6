use Rattle.std.proofs.Common.{◌≡◌, ◌≤◌, drop}
use Rattle.text_words.specs.Words.{digits_read}
use Rattle.text_words.proofs.words.digits.Given as goal

abbrev pub invariant-loop-digit : goal.invariant-loop-digit
invariant-loop-digit l = record {
  small : l.number ≤ 4294967295;
  same : digits_read l.number (drop l.digit-index l.word) ≡ digits_read 0 l.word;
}
