use Rattle.std.proofs.Common.{rules}
use Rattle.tell_checks.proofs.Standing.{entry_in}
use Rattle.tell_checks.proofs.bytes.entry_in.Goals as goal

pub returns-then-are_same : goal.returns-then-are_same
returns-then-are_same c = record {
  dir = c.args.directory.now.bytes.items;
  begins = entry_in c.args.file.now c.args.directory.now c.deref.result.now c.args.id c.in_ok-at.at
      c.requires.directory c.deref.ensures.value c.in_ok-at.ensures;
  inside = search rules;
  same = search rules;
}
