use Rattle.std.proofs.Common.{◌≡◌, ◌≤◌, ◌++◌, ◌-◌, ◌+◌, [], drop, length}
use Rattle.object_core.specs.Content.{note}
use Rattle.world_run.specs.Shown.{shown}
use Rattle.text_worlds.specs.Answers.{answer_lines}
use Rattle.olecon.proofs.simulation.push_answers.Given as goal

abbrev pub invariant-loop-answer : goal.invariant-loop-answer
invariant-loop-answer g l =
    let answers = (shown (λ _. note []) l.world).now.answers in
    record {
      first : 1 ≤ l.event;
      last : l.event ≤ length answers + 1;
      written : l.out.items ++ answer_lines l.event (drop (l.event - 1) answers) ≡ l.initial.out.items
          ++ answer_lines 1 answers;
    }

abbrev pub decreases-loop-answer : goal.decreases-loop-answer
decreases-loop-answer g l =
    let answers = (shown (λ _. note []) l.world).now.answers in
    length answers + 1 - l.event
