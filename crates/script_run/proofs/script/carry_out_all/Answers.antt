use Rattle.std.proofs.Common.{◌≡◌, ◌+◌, ◌∷◌, [], inr, ap, sym, ◌∙◌, rules, List, subst}
use Rattle.std.proofs.lemmas.List.{nil_from_length}
use Rattle.std.specs.Vec.Iter.{into_iter_items}
use Rattle.container_model.specs.Record.{Record}
use Rattle.script_model.specs.Events.{Event}
use Rattle.script_model.specs.Origins.{passed}
use Rattle.script_model.specs.Saved.{is_any_unsaved}
use Rattle.script_links.specs.Links.{is_any_held}
use Rattle.script_links.proofs.Served.{same_served}
use Rattle.script_run.proofs.Carried.{last_begun, left_held, so_far_first, so_far_more}
use Rattle.script_run.proofs.Faulted.{handed_on}
use Rattle.script_commands.proofs.Held.{some_held}
use Rattle.script_run.proofs.HeldBack.{back_more}
use Rattle.script_run.proofs.Holding.{held_now, released_by}
use Rattle.script_run.proofs.Settled.{settled_by}
use Rattle.script_run.proofs.Writing.{lines_all, lines_first, lines_held, lines_left, lines_more}
use Rattle.std.specs.Result.{IsErrAnd}
use Rattle.script_run.specs.HeldBack.{AreHeldBack}
use Rattle.script_run.proofs.script.carry_out_all.Goals as goal

pub loop-place-init : goal.loop-place-init
loop-place-init g c =
    let count : c.into_iter-place-iterator.result.count ≡ 0 = search rules in
    let rest : into_iter_items c.into_iter-place-iterator.result.iter ≡ c.args.commands.items = search rules in
    record {
      told = c.requires.told;
      linked = c.requires.linked;
      served = c.requires.served;
      quiet = c.requires.quiet;
      saved = c.requires.saved;
      lines = lines_first g.H.Disk.Disk c.args.commands.items c.into_iter-place-iterator.result.count
          (g.H.Host.told c.args.host.now) (g.W.Write.contents c.args.writer.now) count;
      back = subst (λ (h : List (Event _)). AreHeldBack c.args.commands.items h) (sym c.requires.none) tt;
      so_far = so_far_first (g.H.Host.told c.args.host.now) c.args.progress.now.links.items c.args.commands.items
          (into_iter_items c.into_iter-place-iterator.result.iter) c.into_iter-place-iterator.result.count count
          rest c.requires.none c.requires.free;
    }

pub loop-place-preserved : goal.loop-place-preserved
loop-place-preserved g c =
    let items : into_iter_items c.loop-place.place-iterator.iter ≡ c.in-Some.command
    ∷ into_iter_items c.next.new.self.iter = search rules in
    let at : c.in-Some.place ≡ c.loop-place.place-iterator.count = search rules in
    let counts : c.next.new.self.count ≡ c.loop-place.place-iterator.count + 1 = search rules in
    record {
      told = c.in_ok-carry_out.ensures.leaves.told;
      linked = c.in_ok-carry_out.ensures.leaves.linked;
      served = c.in_ok-carry_out.ensures.leaves.served;
      quiet = c.in_ok-carry_out.ensures.quiet;
      saved = c.in_ok-carry_out.ensures.saved;
      lines = lines_more g.H.Disk.Disk (g.H.Host.told c.loop-place.host) (g.H.Host.told c.begins.new.host)
          (g.H.Host.told c.carry_out.new.host) c.loop-place.progress.links.items c.args.commands.items
          (into_iter_items c.loop-place.place-iterator.iter)
          (into_iter_items c.next.new.self.iter) c.in-Some.command c.loop-place.place-iterator.count c.in-Some.place
          c.next.new.self.count (g.W.Write.contents c.args.writer.now) (g.W.Write.contents c.loop-place.writer)
          (g.W.Write.contents c.carry_out.new.writer)
          c.loop-place.invariant.so_far items at c.begins.ensures.noted c.carry_out.ensures.standing
          c.loop-place.invariant.lines counts c.in_ok-carry_out.ensures.printed;
      back = back_more (g.H.Host.told c.loop-place.host) (g.H.Host.told c.begins.new.host)
          (g.H.Host.told c.carry_out.new.host) c.loop-place.progress.links.items c.args.commands.items
          (into_iter_items c.loop-place.place-iterator.iter)
          (into_iter_items c.next.new.self.iter) c.in-Some.command c.loop-place.place-iterator.count c.in-Some.place
          c.loop-place.invariant.so_far items at c.begins.ensures.noted c.carry_out.ensures.standing
          (c.carry_out.ensures.handing (held_now c.args.commands.items (g.H.Host.told c.loop-place.host))
          c.loop-place.invariant.so_far.holds) c.loop-place.invariant.back;
      so_far = so_far_more (g.H.Host.told c.loop-place.host) (g.H.Host.told c.begins.new.host)
          (g.H.Host.told c.carry_out.new.host) c.loop-place.progress.links.items c.carry_out.new.progress.links.items
          c.args.commands.items (into_iter_items c.loop-place.place-iterator.iter)
          (into_iter_items c.next.new.self.iter) c.in-Some.command c.loop-place.place-iterator.count c.in-Some.place
          c.next.new.self.count c.loop-place.invariant.so_far at counts items c.begins.ensures.noted
          c.begins.ensures.ordered c.in_ok-carry_out.ensures.ordered c.carry_out.ensures.standing
          c.in_ok-carry_out.ensures.leaves.linked c.carry_out.ensures.holding;
    }

pub returns-in_err-carry_out-clause-begun : goal.returns-in_err-carry_out-clause-begun
returns-in_err-carry_out-clause-begun g c =
    let items : into_iter_items c.loop-place.place-iterator.iter ≡ c.in-Some.command
    ∷ into_iter_items c.next.new.self.iter = search rules in
    let at : c.in-Some.place ≡ c.loop-place.place-iterator.count = search rules in
    last_begun (g.H.Host.told c.loop-place.host) (g.H.Host.told c.begins.new.host)
    (g.H.Host.told c.carry_out.new.host) c.loop-place.progress.links.items c.args.commands.items
    (into_iter_items c.loop-place.place-iterator.iter)
    (into_iter_items c.next.new.self.iter) c.in-Some.command c.loop-place.place-iterator.count c.in-Some.place
    c.loop-place.invariant.so_far at items c.begins.ensures.ordered c.carry_out.ensures.begun

pub returns-in_err-carry_out-clause-shown : goal.returns-in_err-carry_out-clause-shown
returns-in_err-carry_out-clause-shown g c =
    let again : IsErrAnd c.from_residual.result (λ x. x ≡ c.in_err-carry_out.field-0.0) = search rules in
    handed_on g.H.Disk.Disk c.from_residual.result c.in_err-carry_out.field-0.0 c.args.commands.items
    (g.H.Host.told c.carry_out.new.host) again c.in_err-carry_out.ensures.leaves.shown

pub returns-then-is_any_held-clause-shown : goal.returns-then-is_any_held-clause-shown
returns-then-is_any_held-clause-shown g c =
    let none : into_iter_items c.loop-place.place-iterator.iter ≡ [] =
    nil_from_length (into_iter_items c.loop-place.place-iterator.iter)
    (sym c.loop-place.place-iterator.iter.rest.ok.0 ∙ c.in-None.ensures.steps.0.0) in
    inr (left_held (g.H.Host.told c.loop-place.host) c.loop-place.progress.links.items c.args.commands.items
    (into_iter_items c.loop-place.place-iterator.iter) c.loop-place.place-iterator.count none
    c.loop-place.invariant.so_far c.loop-place.invariant.linked
    (λ f hold. some_held f c.loop-place.progress.links.items (ap is_any_held (sym c.deref.ensures.value)
    ∙ sym c.is_any_held.ensures ∙ c.if-is_any_held.true) hold))

pub begins-requires : goal.begins-requires
begins-requires g c = ap (λ (r : Record). is_any_unsaved r.frames) c.loop-place.invariant.told.recorded
    ∙ c.loop-place.invariant.saved

pub returns-clause-settled : goal.returns-clause-settled
returns-clause-settled g c =
    settled_by (g.H.Host.told c.loop-place.host) c.loop-place.progress.core c.loop-place.progress.links.items
    c.loop-place.invariant.told c.loop-place.invariant.linked c.loop-place.invariant.quiet
    c.loop-place.invariant.saved
    (ap is_any_held (sym c.deref.ensures.value) ∙ sym c.is_any_held.ensures ∙ c.if-is_any_held.false)

pub returns-clause-released : goal.returns-clause-released
returns-clause-released g c =
    released_by c.args.commands.items (g.H.Host.told c.loop-place.host) c.loop-place.progress.links.items
    c.loop-place.invariant.linked c.loop-place.invariant.so_far.holds
    (ap is_any_held (sym c.deref.ensures.value) ∙ sym c.is_any_held.ensures ∙ c.if-is_any_held.false)

pub carry_out-requires-clause-served : goal.carry_out-requires-clause-served
carry_out-requires-clause-served g c =
    same_served (λ s. passed s (g.H.Host.told c.loop-place.host)) (λ s. passed s (g.H.Host.told c.begins.new.host))
    c.loop-place.progress.links.items c.begins.ensures.quiet c.loop-place.invariant.served

pub carry_out-requires-clause-begins : goal.carry_out-requires-clause-begins
carry_out-requires-clause-begins g c = record {
  place = c.in-Some.place;
  before = g.H.Host.told c.loop-place.host;
  last = c.begins.ensures.noted;
}

pub returns-in_err-carry_out-clause-begun_printed : goal.returns-in_err-carry_out-clause-begun_printed
returns-in_err-carry_out-clause-begun_printed g c =
    let items : into_iter_items c.loop-place.place-iterator.iter ≡ c.in-Some.command
    ∷ into_iter_items c.next.new.self.iter = search rules in
    let at : c.in-Some.place ≡ c.loop-place.place-iterator.count = search rules in
    let again : IsErrAnd c.from_residual.result (λ x. x ≡ c.in_err-carry_out.field-0.0) = search rules in
    lines_left g.H.Disk.Disk (g.H.Host.told c.loop-place.host) (g.H.Host.told c.begins.new.host)
    (g.H.Host.told c.carry_out.new.host) c.loop-place.progress.links.items c.args.commands.items
    (into_iter_items c.loop-place.place-iterator.iter)
    (into_iter_items c.next.new.self.iter) c.in-Some.command c.loop-place.place-iterator.count c.in-Some.place
    c.next.new.self.count (g.W.Write.contents c.args.writer.now) (g.W.Write.contents c.loop-place.writer)
    (g.W.Write.contents c.carry_out.new.writer)
    c.loop-place.invariant.so_far items at c.begins.ensures.noted c.carry_out.ensures.standing
    c.loop-place.invariant.lines c.from_residual.result c.in_err-carry_out.field-0.0 again
    c.in_err-carry_out.ensures.unwritten

pub returns-then-is_any_held-clause-begun_printed : goal.returns-then-is_any_held-clause-begun_printed
returns-then-is_any_held-clause-begun_printed g c =
    let none : into_iter_items c.loop-place.place-iterator.iter ≡ [] =
    nil_from_length (into_iter_items c.loop-place.place-iterator.iter)
    (sym c.loop-place.place-iterator.iter.rest.ok.0 ∙ c.in-None.ensures.steps.0.0) in
    lines_held g.H.Disk.Disk c.args.commands.items (g.H.Host.told c.loop-place.host)
    (g.W.Write.contents c.args.writer.now) (g.W.Write.contents c.loop-place.writer)
    (lines_all g.H.Disk.Disk c.loop-place.progress.links.items (g.H.Host.told c.loop-place.host) c.args.commands.items
    (into_iter_items c.loop-place.place-iterator.iter) c.loop-place.place-iterator.count
    (g.W.Write.contents c.args.writer.now) (g.W.Write.contents c.loop-place.writer) none
    c.loop-place.invariant.so_far c.loop-place.invariant.lines)

pub returns-clause-printed : goal.returns-clause-printed
returns-clause-printed g c =
    let none : into_iter_items c.loop-place.place-iterator.iter ≡ [] =
    nil_from_length (into_iter_items c.loop-place.place-iterator.iter)
    (sym c.loop-place.place-iterator.iter.rest.ok.0 ∙ c.in-None.ensures.steps.0.0) in
    lines_all g.H.Disk.Disk c.loop-place.progress.links.items (g.H.Host.told c.loop-place.host) c.args.commands.items
    (into_iter_items c.loop-place.place-iterator.iter) c.loop-place.place-iterator.count
    (g.W.Write.contents c.args.writer.now) (g.W.Write.contents c.loop-place.writer) none
    c.loop-place.invariant.so_far c.loop-place.invariant.lines

pub returns-in_err-carry_out-clause-held_back : goal.returns-in_err-carry_out-clause-held_back
returns-in_err-carry_out-clause-held_back g c =
    let items : into_iter_items c.loop-place.place-iterator.iter ≡ c.in-Some.command
    ∷ into_iter_items c.next.new.self.iter = search rules in
    let at : c.in-Some.place ≡ c.loop-place.place-iterator.count = search rules in
    back_more (g.H.Host.told c.loop-place.host) (g.H.Host.told c.begins.new.host)
    (g.H.Host.told c.carry_out.new.host) c.loop-place.progress.links.items c.args.commands.items
    (into_iter_items c.loop-place.place-iterator.iter)
    (into_iter_items c.next.new.self.iter) c.in-Some.command c.loop-place.place-iterator.count c.in-Some.place
    c.loop-place.invariant.so_far items at c.begins.ensures.noted c.carry_out.ensures.standing
    (c.carry_out.ensures.handing (held_now c.args.commands.items (g.H.Host.told c.loop-place.host))
    c.loop-place.invariant.so_far.holds) c.loop-place.invariant.back
