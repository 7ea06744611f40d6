use Rattle.std.proofs.Common.{◌≡◌, ◌∙◌, refl, sym, ap, arith, subst}
use Rattle.object_core.specs.Kinds as embed
use Rattle.object_core.specs.Kinds.{kind_of}
use Rattle.server_model.specs.Server.{is_class}
use Rattle.server_links.specs.Turns.{first_turn}
use Rattle.server_links.specs.Served.{IsKindOf, is_made}
use Rattle.server_links.specs.Served.Served.{none}
use Rattle.server_links.proofs.Runs.{lacked_on, long_on, long_stopped, next_on, offered_on, on_first, passed_on}
use Rattle.server_links.proofs.Runs.{stopped, wait_lacked_on}
use Rattle.server_links.proofs.all_links.serve_links.OwnLists.{own-1}
use Rattle.server_links.proofs.all_links.serve_links.Goals as goal
use Rattle.server_links.proofs.all_links.serve_links.Goals.{in-Note+in-Ok-new_note, in-Note+in-Err-new_note}
use Rattle.server_links.proofs.all_links.serve_links.Goals.{in-Table+in-Ok-new_table, in-Table+in-Err-new_table}
use Rattle.server_links.proofs.all_links.serve_links.Goals.{in-Drawing+in-Ok-new_drawing, in-Drawing+in-Err-new_drawing}
use Rattle.server_links.proofs.all_links.serve_links.Goals.{in-Other}

pub returns-in_default-clause-stopped : goal.returns-in_default-clause-stopped
returns-in_default-clause-stopped g c = record {
  links = g.L.Links.told c.args.links.now;
  count = 0;
  left = first_turn c.args.session c.args.inc c.args.numbers;
  served = none;
  few = omega arith;
  behind = c.in_default.ensures;
}

pub loop-init : goal.loop-init
loop-init g c = (
  c.in_ok-start.ensures.started,
  omega arith,
  on_first _ g.L.Reader.Read.remaining g.L.Writer.Write.contents
      (first_turn c.args.session c.args.inc c.args.numbers) (g.L.Links.told c.args.links.now) c.start.new.self
      c.in-Some.link _ c.in-Some.ensures
      (λ unread held. c.in_ok-start.ensures.underway is_made unread held),
)

pub loop-preserved-in-Wants : goal.loop-preserved-in-Wants
loop-preserved-in-Wants g c =
    let s = c.loop.invariant.2 in
    let p = c.in-Ok.ensures.served is_made _ _ _ s.on in
    elim c.match-kind_of_class.branch [
      | in-Note+in-Ok-new_note w ↦
          let boxed = w.into_dyn_box.result in
          let is = subst (λ v. (x : (own-1.entry v).0.Denot) → kind_of ((own-1.entry v).1.content x) ≡ embed.Note)
          (sym w.into_dyn_box.ensures.0) (λ x. refl) boxed.value in
          offered_on _ g.L.Reader.Read.remaining g.L.Writer.Write.contents _ _ c.loop.serving
          c.serve_link.new.serving c.loop.link
          (record { reader = c.serve_link.new.reader; writer = c.serve_link.new.writer }) c.loop.served _ s
          w.offer.new.self c.match-kind_of_class.serving c.match-kind_of_class.offered w.offer.result _
          c.in-Ok.pause c.in-Wants.class
          (kind_of ((own-1.entry boxed.vtable).1.content boxed.value)) w.serving-is w.offer.ensures.started
          w.offered-is c.in_default-offered.is c.in-Wants.is
          (ap (λ k. is_class k c.in-Wants.class) is ∙ subst (λ k. IsKindOf k c.in-Wants.class) w.in-Note.is
          c.kind_of_class.ensures)
          p (w.offer.ensures.underway is_made)
      | in-Note+in-Err-new_note w ↦ absurd (c.in_default-offered.not-Err _ w.offered-is)
      | in-Table+in-Ok-new_table w ↦
          let boxed = w.into_dyn_box-in-Ok-new_table.result in
          let is = subst (λ v. (x : (own-1.entry v).0.Denot) → kind_of ((own-1.entry v).1.content x) ≡ embed.Table)
          (sym w.into_dyn_box-in-Ok-new_table.ensures.0) (λ x. refl) boxed.value in
          offered_on _ g.L.Reader.Read.remaining g.L.Writer.Write.contents _ _ c.loop.serving
          c.serve_link.new.serving c.loop.link
          (record { reader = c.serve_link.new.reader; writer = c.serve_link.new.writer }) c.loop.served _ s
          w.offer-in-Ok-new_table.new.self c.match-kind_of_class.serving c.match-kind_of_class.offered
          w.offer-in-Ok-new_table.result _ c.in-Ok.pause c.in-Wants.class
          (kind_of ((own-1.entry boxed.vtable).1.content boxed.value)) w.serving-is
          w.offer-in-Ok-new_table.ensures.started w.offered-is c.in_default-offered.is c.in-Wants.is
          (ap (λ k. is_class k c.in-Wants.class) is ∙ subst (λ k. IsKindOf k c.in-Wants.class) w.in-Table.is
          c.kind_of_class.ensures)
          p (w.offer-in-Ok-new_table.ensures.underway is_made)
      | in-Table+in-Err-new_table w ↦ absurd (c.in_default-offered.not-Err _ w.offered-is)
      | in-Drawing+in-Ok-new_drawing w ↦
          let boxed = w.into_dyn_box-in-Ok-new_drawing.result in
          let is = subst (λ v. (x : (own-1.entry v).0.Denot) → kind_of ((own-1.entry v).1.content x)
          ≡ embed.Drawing) (sym w.into_dyn_box-in-Ok-new_drawing.ensures.0) (λ x. refl) boxed.value in
          offered_on _ g.L.Reader.Read.remaining g.L.Writer.Write.contents _ _ c.loop.serving
          c.serve_link.new.serving c.loop.link
          (record { reader = c.serve_link.new.reader; writer = c.serve_link.new.writer }) c.loop.served _ s
          w.offer-in-Ok-new_drawing.new.self c.match-kind_of_class.serving c.match-kind_of_class.offered
          w.offer-in-Ok-new_drawing.result _ c.in-Ok.pause c.in-Wants.class
          (kind_of ((own-1.entry boxed.vtable).1.content boxed.value)) w.serving-is
          w.offer-in-Ok-new_drawing.ensures.started w.offered-is c.in_default-offered.is c.in-Wants.is
          (ap (λ k. is_class k c.in-Wants.class) is ∙ subst (λ k. IsKindOf k c.in-Wants.class) w.in-Drawing.is
          c.kind_of_class.ensures)
          p (w.offer-in-Ok-new_drawing.ensures.underway is_made)
      | in-Drawing+in-Err-new_drawing w ↦ absurd (c.in_default-offered.not-Err _ w.offered-is)
      | in-Other w ↦
          passed_on _ g.L.Reader.Read.remaining g.L.Writer.Write.contents _ _ c.loop.serving
          c.serve_link.new.serving c.loop.link
          (record { reader = c.serve_link.new.reader; writer = c.serve_link.new.writer }) c.loop.served _ s
          c.match-kind_of_class.serving c.in-Ok.pause c.in-Wants.class c.kind_of_class.result w.serving-is
          c.in-Ok.ensures.started c.in-Wants.is w.in-Other.is c.kind_of_class.ensures p
    ]

pub returns-in-Err-clause-wanting : goal.returns-in-Err-clause-wanting
returns-in-Err-clause-wanting g c =
    let s = c.loop.invariant.2 in
    lacked_on _ g.L.Reader.Read.remaining g.L.Writer.Write.contents _ _ c.loop.serving c.serve_link.new.serving
    c.loop.link (record { reader = c.serve_link.new.reader; writer = c.serve_link.new.writer }) c.loop.served _
    s
    _ c.close.ensures (c.in-Err.ensures.lacking is_made _ _ _ s.on)

pub returns-in-Err-offered-clause-wanting : goal.returns-in-Err-offered-clause-wanting
returns-in-Err-offered-clause-wanting g c =
    let s = c.loop.invariant.2 in
    wait_lacked_on _ g.L.Reader.Read.remaining g.L.Writer.Write.contents _ _ c.loop.serving c.serve_link.new.serving
    c.loop.link (record { reader = c.serve_link.new.reader; writer = c.serve_link.new.writer }) c.loop.served _
    s
    c.in-Ok.pause c.in-Wants.class _ c.in-Wants.is (c.in-Ok.ensures.served is_made _ _ _ s.on)
    c.close-in-Err-offered.ensures

pub loop-preserved-in-Long : goal.loop-preserved-in-Long
loop-preserved-in-Long g c =
    let s = c.loop.invariant.2 in (
      c.in-Ok.ensures.started,
      c.loop.invariant.1,
      long_on _ g.L.Reader.Read.remaining g.L.Writer.Write.contents _ _ c.loop.serving c.serve_link.new.serving
          c.loop.link (record { reader = c.serve_link.new.reader; writer = c.serve_link.new.writer }) c.loop.served
          _ s
          c.in-Ok.pause c.in-Long.is (c.in-Ok.ensures.served is_made _ _ _ s.on),
    )

pub loop-preserved : goal.loop-preserved
loop-preserved g c =
    let s = c.loop.invariant.2 in
    let n = next_on _ g.L.Reader.Read.remaining g.L.Writer.Write.contents _ _ c.loop.serving
    c.serve_link.new.serving c.loop.link
    (record { reader = c.serve_link.new.reader; writer = c.serve_link.new.writer }) c.loop.served _ s
    c.begin.new.self c.in-Ok.pause c.in-Over.field-0 c.in-Ok-next_link.next _ c.in-Over.is
    (c.in-Ok.ensures.served is_made _ _ _ s.on) c.in-Ok-next_link.ensures
    (c.begin.ensures.underway is_made) in
    (c.begin.ensures.started, n.few, n)

pub returns-in-Err-next_link-clause-stopped : goal.returns-in-Err-next_link-clause-stopped
returns-in-Err-next_link-clause-stopped g c =
    let s = c.loop.invariant.2 in
    stopped _ g.L.Reader.Read.remaining g.L.Writer.Write.contents _ _ c.loop.serving c.serve_link.new.serving
    c.loop.link (record { reader = c.serve_link.new.reader; writer = c.serve_link.new.writer }) c.loop.served _
    s
    c.in-Ok.pause c.in-Over.field-0 c.in-Err-next_link.stop _ c.in-Over.is
    (c.in-Ok.ensures.served is_made _ _ _ s.on) c.in-Err-next_link.ensures

pub returns-clause-stopped : goal.returns-clause-stopped
returns-clause-stopped g c =
    long_stopped _ g.L.Reader.Read.remaining g.L.Writer.Write.contents _ _ c.loop.serving c.loop.link c.loop.served
    _ _ c.loop.invariant.2 c.close-2.ensures
