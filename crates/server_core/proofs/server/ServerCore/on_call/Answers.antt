use Rattle.std.proofs.Common.{None, refl, sym}
use Rattle.server_core.specs.View.{seen}
use Rattle.server_core.proofs.OwnCalls.{back_if, refused_if, takes_if}
use Rattle.server_core.proofs.server.ServerCore.on_call.Goals as goal

pub returns-in-Some-clause-acted : goal.returns-in-Some-clause-acted
returns-in-Some-clause-acted g c =
    takes_if c.known_call.result _ c.args.message c.in-Call.inc c.in-Call.act c.in-Call.n c.in-Call.operation _ _
    (λ r. r.reply) (λ r. r.counted) _ c.in-Call.is (sym c.if-not-is_for.ensures) refl c.known_call.ensures.acted

pub returns-in-Some-clause-back : goal.returns-in-Some-clause-back
returns-in-Some-clause-back g c =
    back_if c.known_call.result
    (seen (λ s. (goal.Embedded-dyn g (s.boxed.vtable, s.boxed.value)).content s.boxed.value) c.args.self.now)
    c.args.message c.in-Call.inc c.in-Call.act c.in-Call.n c.in-Call.operation _ (λ r. r.back) c.args.boxed
    c.in-Call.is (sym c.if-not-is_for.ensures) refl c.known_call.ensures.back

pub returns-in-Some-clause-refused : goal.returns-in-Some-clause-refused
returns-in-Some-clause-refused g c =
    refused_if c.known_call.result _ c.args.message c.in-Call.inc c.in-Call.act c.in-Call.n c.in-Call.operation _ _
    (λ r. r.fault) c.in-Call.is (sym c.if-not-is_for.ensures) refl c.known_call.ensures.refused

pub returns-in-None-clause-acted : goal.returns-in-None-clause-acted
returns-in-None-clause-acted g c =
    takes_if c.unknown_call.result _ c.args.message c.in-Call.inc c.in-Call.act c.in-Call.n c.in-Call.operation _
    None (λ r. r.reply) (λ r. r.counted) _ c.in-Call.is (sym c.if-not-is_for.ensures) c.in-None.ensures
    c.unknown_call.ensures.acted

pub returns-in-None-clause-back : goal.returns-in-None-clause-back
returns-in-None-clause-back g c =
    back_if c.unknown_call.result
    (seen (λ s. (goal.Embedded-dyn g (s.boxed.vtable, s.boxed.value)).content s.boxed.value) c.args.self.now)
    c.args.message c.in-Call.inc c.in-Call.act c.in-Call.n c.in-Call.operation None (λ r. r.back) c.args.boxed
    c.in-Call.is (sym c.if-not-is_for.ensures) c.in-None.ensures c.unknown_call.ensures.back

pub returns-in-None-clause-refused : goal.returns-in-None-clause-refused
returns-in-None-clause-refused g c =
    refused_if c.unknown_call.result _ c.args.message c.in-Call.inc c.in-Call.act c.in-Call.n c.in-Call.operation _
    None (λ r. r.fault) c.in-Call.is (sym c.if-not-is_for.ensures) c.in-None.ensures
    c.unknown_call.ensures.refused
