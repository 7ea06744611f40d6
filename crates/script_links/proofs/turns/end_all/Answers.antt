use Rattle.std.proofs.Common.{rules}
use Rattle.script_links.proofs.Linked.{popped_linked}
use Rattle.script_links.proofs.turns.end_all.Goals as goal

pub loop-link-preserved : goal.loop-link-preserved
loop-link-preserved g c = record {
  lawful = record {
    sent = search (rules, c.end.ensures);
    bounded = search (rules, c.end.ensures);
    heard = search (rules, c.end.ensures);
    saved = search (rules, c.end.ensures);
    opened = search (rules, c.end.ensures);
    started = search (rules, c.end.ensures);
  };
  ends = search (rules, c.end.ensures);
  ordered = search (rules, c.end.ensures);
  linked = popped_linked c.loop-link.links.items c.pop.new.self.items c.in-Some.link c.in-Some.ensures.items
      c.end.ensures c.loop-link.invariant.linked;
}
