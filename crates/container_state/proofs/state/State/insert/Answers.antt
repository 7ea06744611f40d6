use Rattle.std.proofs.Common.{◌≡◌, ◌∙◌, refl, subst, sym}
use Rattle.std.proofs.lemmas.Result.{IfErr-weaker, IfOk-weaker}
use Rattle.container_model.specs.Commands.{insert, insert_at, insert_into, kind_of}
use Rattle.container_model.specs.Record.{Record, Refuses}
use Rattle.container_commands.proofs.InsertsMade.{no_such, such}
use Rattle.container_state.proofs.state.State.insert.Goals as goal

pub returns-in_default-clause-refused : goal.returns-in_default-clause-refused
returns-in_default-clause-refused c =
    let r : Record = c.args.self.now in
    no_such _ r (insert_at r c.args.frame (kind_of c.args.kind) c.args.area) c.args.frame _ c.self.view_is refl
    c.in_default.ensures

pub returns-in-Ok-clause-taken : goal.returns-in-Ok-clause-taken
returns-in-Ok-clause-taken c =
    let r : Record = c.args.self.now in
    let is : insert r c.args.frame (kind_of c.args.kind) c.args.area ≡ insert_into r c.args.frame
    (kind_of c.args.kind) c.args.area =
    such _ r (insert_at r c.args.frame (kind_of c.args.kind) c.args.area) c.args.frame c.in-Some.at _
    c.index.result.now c.self.view_is refl c.in-Some.ensures c.index.ensures
    ∙ c.in-Ok.ensures.may r c.args.frame c.args.kind in
    IfOk-weaker c.insert_into.result _ _ (λ a made. is ∙ made) c.insert_into.ensures.taken

pub returns-in-Ok-clause-refused : goal.returns-in-Ok-clause-refused
returns-in-Ok-clause-refused c =
    let r : Record = c.args.self.now in
    let is : insert r c.args.frame (kind_of c.args.kind) c.args.area ≡ insert_into r c.args.frame
    (kind_of c.args.kind) c.args.area =
    such _ r (insert_at r c.args.frame (kind_of c.args.kind) c.args.area) c.args.frame c.in-Some.at _
    c.index.result.now c.self.view_is refl c.in-Some.ensures c.index.ensures
    ∙ c.in-Ok.ensures.may r c.args.frame c.args.kind in
    IfErr-weaker c.insert_into.result _ _ (λ e told. subst (λ t. Refuses t e) (sym is) told)
    c.insert_into.ensures.refused

pub returns-in-Err-clause-refused : goal.returns-in-Err-clause-refused
returns-in-Err-clause-refused c =
    let r : Record = c.args.self.now in
    subst (λ t. Refuses t c.in-Err.fault)
    (sym (such _ r (insert_at r c.args.frame (kind_of c.args.kind) c.args.area) c.args.frame c.in-Some.at _
    c.index.result.now c.self.view_is refl c.in-Some.ensures c.index.ensures))
    (c.in-Err.ensures.refused r c.args.frame c.args.kind)
