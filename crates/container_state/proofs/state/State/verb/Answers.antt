use Rattle.std.proofs.Common.{◌≡◌, ◌∙◌, Ok, Option, ap, sym}
use Rattle.std.proofs.Math.Facts.{to_z-of_z}
use Rattle.std.proofs.lemmas.Result.{IfErr-weaker, IfOk-weaker}
use Rattle.object_state.specs.Verbs.{verb_of}
use Rattle.object_state.specs.declared.verbs.Verb.{Verb}
use Rattle.container_model.specs.Record.{Record, Refuses, counts_none}
use Rattle.container_model.specs.Verbs.{verb, verb_framed}
use Rattle.container_model.specs.Located.{located, ready}
use Rattle.container_commands.proofs.LocatedSteps.{by_both, stood}
use Rattle.container_state.proofs.state.State.verb.Goals as goal

pub returns-in-Ok-clause-taken : goal.returns-in-Ok-clause-taken
returns-in-Ok-clause-taken c =
    let r : Record = c.args.self.now in
    let v : Option Verb = c.verb_of-verb.result in
    let is : verb r c.args.object c.args.number ≡ located r c.args.object (ready (verb_framed r v)) =
    ap (λ (w : Option Verb). located r c.args.object (ready (verb_framed r w)))
    (sym (c.verb_of-verb.ensures ∙ ap verb_of (to_z-of_z c.ranges.number))) in
    IfOk-weaker c.verb_ready.result _ _ (λ a made. by_both (λ t. t ≡ Ok (counts_none c.verb_ready.new.self a))
    (verb r c.args.object c.args.number) (verb_framed r v) _ _
    (stood r c.args.object c.in-Ok.i c.in-Ok.at (verb_framed r v) (verb r c.args.object c.args.number) is
    c.in-Ok.ensures.step) made) c.verb_ready.ensures.taken

pub returns-in-Ok-clause-refused : goal.returns-in-Ok-clause-refused
returns-in-Ok-clause-refused c =
    let r : Record = c.args.self.now in
    let v : Option Verb = c.verb_of-verb.result in
    let is : verb r c.args.object c.args.number ≡ located r c.args.object (ready (verb_framed r v)) =
    ap (λ (w : Option Verb). located r c.args.object (ready (verb_framed r w)))
    (sym (c.verb_of-verb.ensures ∙ ap verb_of (to_z-of_z c.ranges.number))) in
    IfErr-weaker c.verb_ready.result _ _ (λ e told. by_both (λ t. Refuses t e) (verb r c.args.object c.args.number)
    (verb_framed r v) _ _ (stood r c.args.object c.in-Ok.i c.in-Ok.at (verb_framed r v)
    (verb r c.args.object c.args.number) is c.in-Ok.ensures.step) told) c.verb_ready.ensures.refused

pub returns-in-Err-clause-refused : goal.returns-in-Err-clause-refused
returns-in-Err-clause-refused c = c.in-Err.ensures.refused (verb_framed c.args.self.now (verb_of c.args.number))
