use Rattle.std.proofs.Common.{◌≡◌, ◌≤◌, ◌+◌, length}
use Rattle.std.specs.Io.KnownBytes.{Consumes}
use Rattle.text_io.specs.Input.{most}
use Rattle.text_io.specs.Reading.{HasNoLineFeed}
use Rattle.text_io.proofs.reading.read_line.Given as goal

abbrev pub invariant-loop : goal.invariant-loop
invariant-loop g l = record {
  same : l.passed.lines ≡ l.fn.passed.lines;
  few : l.passed.bytes ≤ most;
  began : l.before ≡ l.fn.passed.bytes;
  plain : HasNoLineFeed l.line.items;
  counted : l.passed.bytes ≡ l.fn.passed.bytes + length l.line.items;
  read : Consumes (g.R.Read.remaining l.fn.reader) (g.R.Read.remaining l.reader) l.line.items;
}
