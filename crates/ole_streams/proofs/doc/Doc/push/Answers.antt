use Rattle.std.proofs.Common.{sym, arith, length-append}
use Rattle.ole_streams.proofs.Writing.{AreHeld-push}
use Rattle.ole_streams.proofs.doc.Doc.push.Goals as goal

pub invariant_of-self-2 : goal.invariant_of-self-2
invariant_of-self-2 c = rw c.in_ok-push.ensures.items (record {
  session = c.self.invariant.session;
  few = simp length-append (omega arith);
  held = AreHeld-push c.self.inside.objects.items c.args.object c.self.invariant.held (record {
    class = c.promises.ensures.class;
    area = c.promises.ensures.area;
    within = sym c.if-not-is_within.ensures;
    in_order = c.promises.ensures.in_order;
  });
})
