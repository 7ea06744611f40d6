use Rattle.std.proofs.Common.{◌∙◌, ap, subst, sym}
use Rattle.std.specs.Prelude.{IsSome}
use Rattle.tree_descriptions.specs.Building.{IsBuilt}
use Rattle.tree_descriptions.specs.Commands.{line_read}
use Rattle.tree_descriptions.specs.Run.{IsRun}
use Rattle.tree_descriptions.proofs.Reading.{begins-reading, ends-reading, lacking-told, outside-told, reads-on}
use Rattle.tree_descriptions.proofs.Reading.{refused-told, some-there}
use Rattle.tree_descriptions.proofs.description.describe_lines.Goals as goal

pub loop-run-init : goal.loop-run-init
loop-run-init g c = record {
  lines = c.in_ok-next.ensures.lines;
  bytes = c.in_ok-next.ensures.bytes;
  so_far = begins-reading (g.R.Read.remaining c.args.reader.now) (g.R.Read.remaining c.next_line.new.reader)
      c.in_ok-next.next c.nothing-passed.result c.next_line.new.passed
      c.next_line.new.line.items (IsRun c.new-run.result) c.nothing-passed.ensures.lines
      c.nothing-passed.ensures.bytes c.new-run.ensures c.in_ok-next.ensures.read;
}

pub loop-run-preserved : goal.loop-run-preserved
loop-run-preserved g c =
    let one = some-there c.loop-run.next (sym c.is_some.ensures ∙ c.loop-run-test.true) in
    let did = c.if-take_line.ensures in
    record {
      lines = c.in_ok-next-2.ensures.lines;
      bytes = c.in_ok-next-2.ensures.bytes;
      so_far = reads-on (g.R.Read.remaining c.args.reader.now) (g.R.Read.remaining c.loop-run.reader)
          c.loop-run.next c.loop-run.line.items c.loop-run.passed (IsRun c.loop-run.run)
          c.loop-run.invariant.so_far one.0 one.1 did.0 (IsRun c.take_line.new.self) _
          c.next_line-in-loop-run.new.line.items c.next_line-in-loop-run.new.passed
          (g.R.Read.remaining c.next_line-in-loop-run.new.reader) (sym did.1 ∙ ap line_read c.deref.ensures.value)
          did.2 c.in_ok-next-2.ensures.read;
    }

pub returns-in-Err-carry_out-clause-refused : goal.returns-in-Err-carry_out-clause-refused
returns-in-Err-carry_out-clause-refused g c =
    refused-told (g.R.Read.remaining c.args.reader.now) (g.R.Read.remaining c.loop-next.reader) c.loop-next.next
    c.loop-next.line.items c.loop-next.passed (IsBuilt c.loop-next.building)
    c.loop-next.invariant.so_far c.in-Some.number c.in-Some.is c.in-Ok-Some.command c.in-Err-carry_out.fault
    c.refusal.result
    (sym c.in-Ok-Some.field-0-is ∙ c.in-Ok-Some.ensures.read ∙ ap line_read c.deref-in-Some.ensures.value)
    c.in-Err-carry_out.ensures c.refusal.ensures

pub returns-in-Ok-None-clause-refused : goal.returns-in-Ok-None-clause-refused
returns-in-Ok-None-clause-refused g c =
    outside-told (g.R.Read.remaining c.args.reader.now) (g.R.Read.remaining c.loop-next.reader) c.loop-next.next
    c.loop-next.line.items c.loop-next.passed (IsBuilt c.loop-next.building)
    c.loop-next.invariant.so_far c.in-Some.number c.in-Some.is c.behind_all.result
    (sym c.in-Ok-None.field-0-is ∙ c.in-Ok-None.ensures.read ∙ ap line_read c.deref-in-Some.ensures.value)
    c.behind_all.ensures

pub returns-in-Err-clause-refused : goal.returns-in-Err-clause-refused
returns-in-Err-clause-refused g c =
    lacking-told (g.R.Read.remaining c.args.reader.now) (g.R.Read.remaining c.loop-next.reader) c.loop-next.next
    c.loop-next.line.items c.loop-next.passed (IsBuilt c.loop-next.building)
    c.loop-next.invariant.so_far c.in-Some.number c.in-Some.is c.behind_all-in-Err.result
    (subst (λ line. IsSome (line_read line)) c.deref-in-Some.ensures.value c.in-Err.ensures.within)
    c.behind_all-in-Err.ensures

pub loop-next-preserved : goal.loop-next-preserved
loop-next-preserved g c =
    record {
      lines = c.in_ok-next-3.ensures.lines;
      bytes = c.in_ok-next-3.ensures.bytes;
      so_far = reads-on (g.R.Read.remaining c.args.reader.now) (g.R.Read.remaining c.loop-next.reader)
          c.loop-next.next c.loop-next.line.items c.loop-next.passed (IsBuilt c.loop-next.building)
          c.loop-next.invariant.so_far c.in-Some.number c.in-Some.is c.in-Ok-Some.command
          (IsBuilt c.carry_out.new.building) _ c.next_line-in-Some.new.line.items c.next_line-in-Some.new.passed
          (g.R.Read.remaining c.next_line-in-Some.new.reader)
          (sym c.in-Ok-Some.field-0-is ∙ c.in-Ok-Some.ensures.read ∙ ap line_read c.deref-in-Some.ensures.value)
          c.in-Ok-carry_out.ensures
          c.in_ok-next-3.ensures.read;
    }

pub returns-clause-made : goal.returns-clause-made
returns-clause-made g c =
    ends-reading (g.R.Read.remaining c.args.reader.now) (g.R.Read.remaining c.loop-next.reader) c.loop-next.next
    c.loop-next.line.items c.loop-next.passed (IsBuilt c.loop-next.building)
    c.loop-next.invariant.so_far c.finish.result c.in_default-next.is c.loop-next.invariant.bytes c.finish.ensures
