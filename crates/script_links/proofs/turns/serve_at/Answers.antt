use Rattle.std.proofs.Common.{ap, sym, ◌∙◌}
use Rattle.script_links.specs.declared.links.Link.{Link}
use Rattle.std.proofs.lemmas.Result.{on_ok_weaker}
use Rattle.script_links.proofs.Apart.{apart_of, aside_of, handed_of, ordered_of, still_apart}
use Rattle.script_links.proofs.Going.{goes_by}
use Rattle.script_links.proofs.Linked.{same_links}
use Rattle.script_links.proofs.Paces.{had_on, is_next, links_on, single_linked, turn_goes_on}
use Rattle.script_links.proofs.Served.{placed_served}
use Rattle.script_links.proofs.Shown.{hold_set}
use Rattle.script_links.proofs.Handing.{told_at}
use Rattle.script_links.specs.Apart.{others}
use Rattle.script_links.proofs.turns.serve_at.Goals as goal

pub returns-clause-leaves : goal.returns-clause-leaves
unfolding others
returns-clause-leaves g c =
    goes_by g.H.Disk.Disk c.serve.result (g.H.Host.told c.serve.new.host) _ c.serve.ensures.leaves
    (λ s. still_apart c.serve.ensures.apart s ∙ c.requires.going.linked s
    ∙ sym (same_links s c.args.progress.now.links.items c.args.place _ c.index_mut.result.now c.requires.within
    (c.serve.ensures.same ∙ ap (λ (l : Link). l.inc) c.index_mut.ensures.value)))
    (on_ok_weaker c.serve.result
    (λ now. placed_served (g.H.Host.told c.args.host.now) (g.H.Host.told c.serve.new.host)
    c.args.progress.now.links.items c.args.place c.index_mut.result.now c.serve.new.link c.requires.within
    c.index_mut.ensures.value c.requires.going.told.single c.requires.going.linked c.serve.ensures.same
    (apart_of c.serve.ensures.apart) now c.requires.going.served)
    c.serve.ensures.served)

pub serve-requires-clause-ready : goal.serve-requires-clause-ready
serve-requires-clause-ready g c = is_next 1000 (g.H.Host.told c.args.host.now) (g.H.Host.told c.args.host.now)
    c.args.progress.now.links.items c.args.place c.requires.within c.index_mut.result.now c.index_mut.ensures.value
    c.requires.ready

pub returns-clause-ready : goal.returns-clause-ready
unfolding others
returns-clause-ready g c = λ n underway.
    on_ok_weaker c.serve.result
    (λ had. turn_goes_on n (g.H.Host.told c.args.host.now) (g.H.Host.told c.serve.new.host)
    c.args.progress.now.links.items
    c.args.place c.requires.within c.index_mut.result.now c.serve.new.link c.index_mut.ensures.value
    (λ s. single_linked (g.H.Host.told c.args.host.now) c.args.progress.now.links.items s c.requires.going.told.single
    c.requires.going.linked) c.serve.ensures.same
    (λ s. same_links s c.args.progress.now.links.items c.args.place _ c.index_mut.result.now c.requires.within
    (c.serve.ensures.same ∙ ap (λ (l : Link). l.inc) c.index_mut.ensures.value))
    (aside_of c.serve.ensures.apart) had underway)
    c.serve.ensures.turned

pub returns-clause-due : goal.returns-clause-due
unfolding others
returns-clause-due g c = λ n had_before.
    on_ok_weaker c.serve.result
    (λ had. had_on n (g.H.Host.told c.args.host.now) (g.H.Host.told c.serve.new.host) c.args.progress.now.links.items
    c.args.place c.requires.within c.index_mut.result.now c.serve.new.link c.index_mut.ensures.value
    c.serve.ensures.same
    (λ s. same_links s c.args.progress.now.links.items c.args.place _ c.index_mut.result.now c.requires.within
    (c.serve.ensures.same ∙ ap (λ (l : Link). l.inc) c.index_mut.ensures.value))
    (aside_of c.serve.ensures.apart) had had_before)
    c.serve.ensures.turned

pub returns-clause-anew : goal.returns-clause-anew
unfolding others
returns-clause-anew g c =
    on_ok_weaker c.serve.result (λ had. links_on (g.H.Host.told c.args.host.now) (g.H.Host.told c.serve.new.host)
    c.index_mut.result.now.inc c.serve.new.link.inc c.serve.ensures.same (aside_of c.serve.ensures.apart) had)
    c.serve.ensures.turned

pub returns-clause-kept : goal.returns-clause-kept
unfolding others
returns-clause-kept g c = record {
  ordered = ordered_of c.serve.ensures.apart;
  holding = λ f hold.
      hold_set f c.args.progress.now.links.items c.args.place c.serve.new.link c.index_mut.result.now
      c.requires.within (c.serve.ensures.same ∙ ap (λ (l : Link). l.inc) c.index_mut.ensures.value)
      (c.serve.ensures.holding ∙ ap (λ (l : Link). l.held) c.index_mut.ensures.value) hold;
  handing = λ f hold. handed_of (g.H.Host.told c.args.host.now) (g.H.Host.told c.serve.new.host)
      c.index_mut.result.now.inc c.index_mut.result.now.held c.serve.ensures.apart f
      (told_at f c.args.progress.now.links.items c.args.place c.index_mut.result.now c.requires.within
      c.index_mut.ensures.value hold);
}
