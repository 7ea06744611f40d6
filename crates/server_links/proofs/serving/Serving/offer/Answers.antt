use Rattle.std.proofs.Common.{◌∙◌, ◌++◌, ◌∷◌, []}
use Rattle.message_bytes.proofs.Leaving.{on_ok}
use Rattle.message_model.specs.declared.frame.Frame.TheVariants as frame
use Rattle.server_links.proofs.Linked.{handed_underway}
use Rattle.server_links.proofs.Served.{offered}
use Rattle.server_links.proofs.serving.Serving.offer.Goals as goal

pub returns-in-Some-clause-met : goal.returns-in-Some-clause-met
returns-in-Some-clause-met g c = λ t fed taken m h w.
    offered _ c.args.self.now c.act.new.self t fed taken m c.in-Some.message _ c.act.result h
    (c.in-Some.ensures.value ∙ w) c.act.ensures.decoder
    (c.act.ensures.met t (record { server = h.turn.server; out = h.turn.out; edited = h.turn.edited }))

pub returns-in-Some-clause-underway : goal.returns-in-Some-clause-underway
returns-in-Some-clause-underway g c = λ made began ub u hb h class k may.
    on_ok c.act.result (λ _ at. handed_underway _ made c.args.self.now c.act.new.self _ began ub u hb h class k may
    c.act.ensures.counts.0 c.act.ensures.counts.1 at)
    (offered _ c.args.self.now c.act.new.self k.served.now k.served.fed
    (k.served.taken ++ frame.Message k.message ∷ []) k.message c.in-Some.message _ c.act.result k.served.at
    (c.in-Some.ensures.value ∙ k.waits) c.act.ensures.decoder
    (c.act.ensures.met k.served.now
    (record {
      server = k.served.at.turn.server;
      out = k.served.at.turn.out;
      edited = k.served.at.turn.edited;
    })))
