use Rattle.std.proofs.Common.{◌≡◌, ◌++◌, drop}
use Rattle.message_bytes.specs.Encoding.{AreNamed, Begins}
use Rattle.message_model.specs.Spelling.{streams}
use Rattle.message_bytes.proofs.encode.push_streams.Given as goal

abbrev pub invariant-loop-stream : goal.invariant-loop-stream
invariant-loop-stream l = record {
  added : l.out.items ++ streams (drop l.stream-index l.list) ≡ l.fn.out.items ++ streams l.list;
  begins : Begins l.fn.out.items l.out.items;
  named : AreNamed (drop l.stream-index l.list) → AreNamed l.list;
}
