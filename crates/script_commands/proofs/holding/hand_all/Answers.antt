use Rattle.std.proofs.Common.{◌≡◌, ◌∷◌, ◌∙◌, rules, false, refl}
use Rattle.std.specs.Vec.Iter.{into_iter_items}
use Rattle.script_model.specs.Origins.{giving, passed}
use Rattle.script_links.proofs.Served.{others_given, others_next}
use Rattle.std.specs.Result.{IsErrAnd}
use Rattle.script_container.proofs.Known.{stopped_on}
use Rattle.script_links.proofs.Apart.{message_apart, message_given, message_paced}
use Rattle.script_commands.proofs.holding.hand_all.Goals as goal

pub loop-taken-preserved : goal.loop-taken-preserved
loop-taken-preserved g c =
    let items : into_iter_items c.loop-taken.taken-iterator ≡ c.in-Some.taken ∷ into_iter_items c.next.new.self =
    search rules in
    record {
      known = c.in_ok-hand_over.ensures.leaves;
      paced = λ s. message_paced (g.H.Host.told c.loop-taken.host) (g.H.Host.told c.hand_over.new.host)
          c.args.inc c.in-Some.taken c.hand_over.ensures.serving s
          ∙ c.loop-taken.invariant.paced s;
      apart = message_apart (g.H.Host.told c.loop-taken.host) (g.H.Host.told c.hand_over.new.host)
          c.args.inc c.in-Some.taken c.hand_over.ensures.serving false refl c.hand_over.ensures.ordered
          ∙ c.loop-taken.invariant.apart;
      ordered = c.hand_over.ensures.ordered ∙ c.loop-taken.invariant.ordered;
      next = others_next (passed c.args.inc (g.H.Host.told c.loop-taken.host))
          (passed c.args.inc (g.H.Host.told c.hand_over.new.host)) c.in-Some.taken
          (into_iter_items c.loop-taken.taken-iterator)
          (into_iter_items c.next.new.self) items
          (message_given (g.H.Host.told c.loop-taken.host) (g.H.Host.told c.hand_over.new.host)
          c.args.inc c.in-Some.taken c.hand_over.ensures.serving) c.loop-taken.invariant.next;
      given = others_given (passed c.args.inc (g.H.Host.told c.loop-taken.host))
          (passed c.args.inc (g.H.Host.told c.hand_over.new.host))
          (giving c.args.waiting (passed c.args.inc (g.H.Host.told c.args.host.now))) c.in-Some.taken
          (into_iter_items c.loop-taken.taken-iterator)
          (into_iter_items c.next.new.self) items
          (message_given (g.H.Host.told c.loop-taken.host) (g.H.Host.told c.hand_over.new.host)
          c.args.inc c.in-Some.taken c.hand_over.ensures.serving) c.loop-taken.invariant.given;
    }

pub returns-in_err-hand_over-clause-leaves : goal.returns-in_err-hand_over-clause-leaves
returns-in_err-hand_over-clause-leaves g c =
    let again : IsErrAnd c.from_residual.result (λ x. x ≡ c.in_err-hand_over.field-0.0) = search rules in
    stopped_on g.H.Disk.Disk c.from_residual.result c.in_err-hand_over.field-0.0 (g.H.Host.told c.hand_over.new.host)
    c.hand_over.new.core c.hand_over.new.noticed again c.in_err-hand_over.ensures.leaves

pub returns-in_err-hand_over-clause-paced : goal.returns-in_err-hand_over-clause-paced
returns-in_err-hand_over-clause-paced g c = λ s. message_paced (g.H.Host.told c.loop-taken.host)
    (g.H.Host.told c.hand_over.new.host)
    c.args.inc c.in-Some.taken c.hand_over.ensures.serving s
    ∙ c.loop-taken.invariant.paced s

pub returns-in_err-hand_over-clause-apart : goal.returns-in_err-hand_over-clause-apart
returns-in_err-hand_over-clause-apart g c = message_apart (g.H.Host.told c.loop-taken.host)
    (g.H.Host.told c.hand_over.new.host)
    c.args.inc c.in-Some.taken c.hand_over.ensures.serving false refl c.hand_over.ensures.ordered
    ∙ c.loop-taken.invariant.apart

pub returns-then-not-branch-clause-paced : goal.returns-then-not-branch-clause-paced
returns-then-not-branch-clause-paced g c = λ s. message_paced (g.H.Host.told c.loop-taken.host)
    (g.H.Host.told c.hand_over.new.host)
    c.args.inc c.in-Some.taken c.hand_over.ensures.serving s
    ∙ c.loop-taken.invariant.paced s

pub returns-then-not-branch-clause-apart : goal.returns-then-not-branch-clause-apart
returns-then-not-branch-clause-apart g c = message_apart (g.H.Host.told c.loop-taken.host)
    (g.H.Host.told c.hand_over.new.host)
    c.args.inc c.in-Some.taken c.hand_over.ensures.serving false refl c.hand_over.ensures.ordered
    ∙ c.loop-taken.invariant.apart
