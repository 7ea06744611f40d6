use Rattle.std.proofs.Common.{◌≡◌, ◌==◌, false, [], if◌then◌else◌, rules, slice_index_or, ◌∙◌, ap, sym}
use Rattle.script_model.specs.Origins.{passed}
use Rattle.script_links.proofs.Served.{others_placed, release_next, release_served}
use Rattle.std.specs.Result.{IsErrAnd}
use Rattle.script_container.proofs.Servers.{handing_of, paced_of}
use Rattle.script_links.proofs.Apart.{apart_of, handed_of, still_apart}
use Rattle.script_links.proofs.Going.{ends_on}
use Rattle.script_commands.proofs.Held.{let_go_holds, server_at}
use Rattle.script_container.specs.Servers.{turned}
use Rattle.script_links.specs.Apart.{others}
use Rattle.script_commands.proofs.holding.release.Goals as goal

pub hand_all-requires-clause-next : goal.hand_all-requires-clause-next
hand_all-requires-clause-next g c =
    release_next (λ s. passed s (g.H.Host.told c.args.host.now)) c.args.progress.now.links.items c.args.place
    c.index.result.now c.let_go-waiting.result c.requires.within c.index.ensures
    (c.let_go-waiting.ensures.waited c.index.result.now) c.requires.going.served

pub end_at-requires-clause-served : goal.end_at-requires-clause-served
unfolding others
end_at-requires-clause-served g c =
    others_placed (g.H.Host.told c.args.host.now) (g.H.Host.told c.hand_all.new.host) c.args.progress.now.links.items
    c.let_go-waiting.new.links.items c.args.place c.index.result.now
    (record (slice_index_or c.args.progress.now.links.items c.args.place c.index.result.now)
    { held = false; waiting = [] })
    c.requires.within c.index.ensures c.requires.going.told.single c.requires.going.linked
    (c.let_go-waiting.ensures.changed c.index.result.now) (apart_of c.hand_all.ensures.apart) c.requires.going.served

pub returns-in_err-hand_all-clause-holding : goal.returns-in_err-hand_all-clause-holding
returns-in_err-hand_all-clause-holding g c = λ f inc at hold.
    let_go_holds f (g.H.Host.told c.args.host.now) c.args.progress.now.links.items c.let_go-waiting.new.links.items
    c.args.place inc c.index.result.now c.requires.within at c.requires.going.told.single c.requires.going.linked
    (c.let_go-waiting.ensures.changed c.index.result.now) hold

pub returns-then-branch-clause-holding : goal.returns-then-branch-clause-holding
returns-then-branch-clause-holding g c = λ f inc at hold.
    let_go_holds f (g.H.Host.told c.args.host.now) c.args.progress.now.links.items c.let_go-waiting.new.links.items
    c.args.place inc c.index.result.now c.requires.within at c.requires.going.told.single c.requires.going.linked
    (c.let_go-waiting.ensures.changed c.index.result.now) hold

pub returns-clause-holding : goal.returns-clause-holding
returns-clause-holding g c = λ f inc at hold. c.end_at.ensures.holding (λ s. if inc == s then false else f s)
    (let_go_holds f (g.H.Host.told c.args.host.now) c.args.progress.now.links.items c.let_go-waiting.new.links.items
    c.args.place inc c.index.result.now c.requires.within at c.requires.going.told.single c.requires.going.linked
    (c.let_go-waiting.ensures.changed c.index.result.now) hold)

pub returns-in_err-hand_all-clause-leaves : goal.returns-in_err-hand_all-clause-leaves
unfolding others
returns-in_err-hand_all-clause-leaves g c =
    let again : IsErrAnd c.from_residual.result (λ x. x ≡ c.in_err-hand_all.field-0.0) = search rules in
    ends_on g.H.Disk.Disk c.from_residual.result c.in_err-hand_all.field-0.0 (g.H.Host.told c.hand_all.new.host)
    (record c.args.progress.now {
      core = c.hand_all.new.core;
      links = c.let_go-waiting.new.links;
      noticed = c.hand_all.new.noticed;
    }) again (record {
      told = c.in_err-hand_all.ensures.leaves.told;
      linked = (λ s. still_apart c.hand_all.ensures.apart s ∙ c.requires.going.linked s
          ∙ sym (c.let_go-waiting.ensures.same s));
      shown = c.in_err-hand_all.ensures.leaves.shown;
    })

pub returns-then-branch-clause-leaves : goal.returns-then-branch-clause-leaves
unfolding others
returns-then-branch-clause-leaves g c = record {
  told = c.in_ok-hand_all.ensures.leaves.told;
  linked = (λ s. still_apart c.hand_all.ensures.apart s ∙ c.requires.going.linked s
      ∙ sym (c.let_go-waiting.ensures.same s));
  served =
      release_served (g.H.Host.told c.args.host.now) (g.H.Host.told c.hand_all.new.host) c.args.progress.now.links.items
      c.let_go-waiting.new.links.items c.args.place c.index.result.now c.let_go-waiting.result
      c.requires.within c.index.ensures (c.let_go-waiting.ensures.waited c.index.result.now)
      c.requires.going.told.single
      c.requires.going.linked (c.let_go-waiting.ensures.changed c.index.result.now)
      (apart_of c.hand_all.ensures.apart) (c.in_ok-hand_all.ensures.given c.if-branch.true) c.requires.going.served;
  seen = c.in_ok-hand_all.ensures.leaves.seen;
}

pub end_at-requires-clause-linked : goal.end_at-requires-clause-linked
unfolding others
end_at-requires-clause-linked g c = (λ s. still_apart c.hand_all.ensures.apart s ∙ c.requires.going.linked s
    ∙ sym (c.let_go-waiting.ensures.same s))

pub returns-clause-paced : goal.returns-clause-paced
unfolding turned
returns-clause-paced g c = λ s. paced_of c.end_at.ensures.turning s ∙ c.hand_all.ensures.paced s

pub returns-in_err-hand_all-clause-handing : goal.returns-in_err-hand_all-clause-handing
returns-in_err-hand_all-clause-handing g c = λ f inc at free. handed_of (g.H.Host.told c.args.host.now)
    (g.H.Host.told c.hand_all.new.host) c.index.result.now.inc false c.hand_all.ensures.apart f
    (ap f (server_at c.args.progress.now.links.items c.args.place inc c.index.result.now c.requires.within
    c.index.ensures at) ∙ free)

pub returns-then-branch-clause-handing : goal.returns-then-branch-clause-handing
returns-then-branch-clause-handing g c = λ f inc at free. handed_of (g.H.Host.told c.args.host.now)
    (g.H.Host.told c.hand_all.new.host) c.index.result.now.inc false c.hand_all.ensures.apart f
    (ap f (server_at c.args.progress.now.links.items c.args.place inc c.index.result.now c.requires.within
    c.index.ensures at) ∙ free)

pub returns-clause-handing : goal.returns-clause-handing
unfolding turned
returns-clause-handing g c = λ f inc at free. handing_of c.end_at.ensures.turning f
    ∙ handed_of (g.H.Host.told c.args.host.now)
    (g.H.Host.told c.hand_all.new.host) c.index.result.now.inc false c.hand_all.ensures.apart f
    (ap f (server_at c.args.progress.now.links.items c.args.place inc c.index.result.now c.requires.within
    c.index.ensures at) ∙ free)
