use Rattle.std.proofs.Common.{◌==◌, ◌+◌, ◌∙◌, sym, ap, drop, if◌then◌else◌}
use Rattle.script_links.specs.declared.links.Link.{Link}
use Rattle.script_links.specs.Links.{links_of}
use Rattle.script_commands.proofs.Held.{links_from, none_from, not_this}
use Rattle.script_commands.proofs.placing.place_of.Goals as goal

pub returns-then-link-inc-clause-there : goal.returns-then-link-inc-clause-there
returns-then-link-inc-clause-there c = record {
  link = c.index-links-place.result;
  stands = c.index-links-place.is;
  server = c.if-link-inc.true;
}

pub loop-place-preserved : goal.loop-place-preserved
loop-place-preserved c =
    let later = links_of c.args.inc (drop (c.loop-place.place + 1) c.args.links.now) in
    sym (not_this c.args.inc c.index-links-place.result later c.if-link-inc.false)
    ∙ ap (λ (l : Link). later + (if l.inc == c.args.inc then 1 else 0)) c.index-links-place.is
    ∙ sym (links_from c.args.inc c.args.links.now c.loop-place.place c.index-links-place.result
    c.loop-place-test.true) ∙ c.loop-place.invariant

pub returns-clause-none : goal.returns-clause-none
returns-clause-none c = sym c.loop-place.invariant ∙ none_from c.args.inc c.args.links.now c.loop-place.place
    c.loop-place-test.false
