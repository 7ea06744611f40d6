use Rattle.object_kinds.specs.Listed.{behind, entries_of}
use Rattle.object_kinds.proofs.Loading.{collected, collected-before}
use Rattle.object_kinds.proofs.entries.collect.Goals as goal

pub loop-rest-preserved : goal.loop-rest-preserved
loop-rest-preserved c = record {
  whole = collected c.loop-rest.cells.entries c.insert.new.self.entries c.loop-rest.place c.in-Some.entry.place
      c.in-Some.entry.text.now c.in_ok-from_slice-in-Some.field-0
      (behind c.loop-rest.place (entries_of c.loop-rest.rest.now))
      (behind c.in-Some.entry.place (entries_of c.in-Some.entry.rest.now))
      (behind 0 (entries_of c.args.bytes.now))
      c.loop-rest.invariant.before c.in-Some.ensures.later c.in_ok-from_slice-in-Some.ensures.items
      c.in_ok-insert-in-Some.ensures.entries c.in-Some.ensures.read c.loop-rest.invariant.whole;
  before = collected-before c.loop-rest.cells.entries c.insert.new.self.entries c.loop-rest.place
      c.in-Some.entry.place c.in_ok-from_slice-in-Some.field-0
      c.loop-rest.invariant.before c.in-Some.ensures.later c.in_ok-insert-in-Some.ensures.entries;
}
