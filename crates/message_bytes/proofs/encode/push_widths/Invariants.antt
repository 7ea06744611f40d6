use Rattle.std.proofs.Common.{◌≡◌, ◌++◌, drop}
use Rattle.message_bytes.specs.Encoding.{Begins}
use Rattle.message_model.specs.Spelling.{widths}
use Rattle.message_bytes.proofs.encode.push_widths.Given as goal

abbrev pub invariant-loop-width : goal.invariant-loop-width
invariant-loop-width l = record {
  added : l.out.items ++ widths (drop l.width-index l.border) ≡ l.fn.out.items ++ widths l.border;
  begins : Begins l.fn.out.items l.out.items;
}
