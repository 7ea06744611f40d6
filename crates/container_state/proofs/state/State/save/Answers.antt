use Rattle.std.proofs.Common.{◌≡◌, ◌∙◌, IfSome, None, Ok, Some, ap, refl, slice_get, subst, sym}
use Rattle.std.proofs.lemmas.Result.{IfErr-weaker, IfOk-weaker}
use Rattle.container_model.specs.Commands.{save, save_at, save_numbered}
use Rattle.container_model.specs.Numbered.{IsNth}
use Rattle.container_model.specs.Record.{Record, Refuses, counts_none}
use Rattle.container_commands.specs.Saving.{plain}
use Rattle.container_commands.proofs.VerbsPlaced.{frame_here}
use Rattle.container_commands.proofs.InsertsMade.{no_such}
use Rattle.container_state.proofs.state.State.save.Goals as goal

pub returns-in_default-clause-refused : goal.returns-in_default-clause-refused
returns-in_default-clause-refused c =
    let r : Record = c.args.self.now in
    no_such _ r (save_at r c.args.frame) c.args.frame _ c.self.view_is refl c.in_default.ensures

pub returns-in-Err-clause-refused : goal.returns-in-Err-clause-refused
returns-in-Err-clause-refused c =
    let r : Record = c.args.self.now in
    let found : IsNth c.args.frame r.frames c.in-Some.at =
    subst (λ (t : Record). IsNth c.args.frame t.frames c.in-Some.at) c.self.view_is c.in-Some.ensures in
    let here : slice_get r.frames c.in-Some.at ≡ Some c.index.result.now =
    frame_here _ r c.in-Some.at c.index.result.now c.self.view_is found.fits c.index.ensures in
    let same : r.objects ≡ c.self.inside.objects.list.items = ap (λ (t : Record). t.objects) (sym c.self.view_is) in
    subst (λ t. Refuses t c.in-Err.fault) (sym (ap (save_at r c.args.frame) (found.found ∙ here)))
    (c.in-Err.ensures.refused r (plain r c.args.frame c.index.result.now) same)

pub returns-in-Err-may_follow-clause-refused : goal.returns-in-Err-may_follow-clause-refused
returns-in-Err-may_follow-clause-refused c =
    let r : Record = c.args.self.now in
    let found : IsNth c.args.frame r.frames c.in-Some.at =
    subst (λ (t : Record). IsNth c.args.frame t.frames c.in-Some.at) c.self.view_is c.in-Some.ensures in
    let here : slice_get r.frames c.in-Some.at ≡ Some c.index.result.now =
    frame_here _ r c.in-Some.at c.index.result.now c.self.view_is found.fits c.index.ensures in
    let same : r.objects ≡ c.self.inside.objects.list.items = ap (λ (t : Record). t.objects) (sym c.self.view_is) in
    let session : r.session ≡ c.self.inside.session = ap (λ (t : Record). t.session) (sym c.self.view_is) in
    let is : save r c.args.frame ≡ plain r c.args.frame c.index.result.now =
    ap (save_at r c.args.frame) (found.found ∙ here) ∙ c.in-Ok.ensures.may r
    (plain r c.args.frame c.index.result.now) same in
    subst (λ t. Refuses t c.in-Err-may_follow.fault) (sym is)
    (c.in-Err-may_follow.ensures.refused r c.args.frame c.index.result.now session)

pub returns-in-Ok-may_follow-clause-taken : goal.returns-in-Ok-may_follow-clause-taken
returns-in-Ok-may_follow-clause-taken c =
    let r : Record = c.args.self.now in
    let found : IsNth c.args.frame r.frames c.in-Some.at =
    subst (λ (t : Record). IsNth c.args.frame t.frames c.in-Some.at) c.self.view_is c.in-Some.ensures in
    let here : slice_get r.frames c.in-Some.at ≡ Some c.index.result.now =
    frame_here _ r c.in-Some.at c.index.result.now c.self.view_is found.fits c.index.ensures in
    let same : r.objects ≡ c.self.inside.objects.list.items = ap (λ (t : Record). t.objects) (sym c.self.view_is) in
    let session : r.session ≡ c.self.inside.session = ap (λ (t : Record). t.session) (sym c.self.view_is) in
    let is : save r c.args.frame ≡ save_numbered r c.args.frame c.index.result.now None None =
    ap (save_at r c.args.frame) (found.found ∙ here) ∙ c.in-Ok.ensures.may r
    (plain r c.args.frame c.index.result.now) same ∙ c.in-Ok-may_follow.ensures.may r c.args.frame
    c.index.result.now session in
    IfOk-weaker c.save_numbered.result _ _
    (λ a made. is
    ∙ subst (λ t. IfSome t (λ x. save_numbered r c.args.frame x None None
    ≡ Ok (counts_none c.save_numbered.new.self a))) here made) c.save_numbered.ensures.taken

pub returns-in-Ok-may_follow-clause-refused : goal.returns-in-Ok-may_follow-clause-refused
returns-in-Ok-may_follow-clause-refused c =
    let r : Record = c.args.self.now in
    let found : IsNth c.args.frame r.frames c.in-Some.at =
    subst (λ (t : Record). IsNth c.args.frame t.frames c.in-Some.at) c.self.view_is c.in-Some.ensures in
    let here : slice_get r.frames c.in-Some.at ≡ Some c.index.result.now =
    frame_here _ r c.in-Some.at c.index.result.now c.self.view_is found.fits c.index.ensures in
    let same : r.objects ≡ c.self.inside.objects.list.items = ap (λ (t : Record). t.objects) (sym c.self.view_is) in
    let session : r.session ≡ c.self.inside.session = ap (λ (t : Record). t.session) (sym c.self.view_is) in
    let is : save r c.args.frame ≡ save_numbered r c.args.frame c.index.result.now None None =
    ap (save_at r c.args.frame) (found.found ∙ here) ∙ c.in-Ok.ensures.may r
    (plain r c.args.frame c.index.result.now) same ∙ c.in-Ok-may_follow.ensures.may r c.args.frame
    c.index.result.now session in
    IfErr-weaker c.save_numbered.result _ _
    (λ e told. subst (λ t. Refuses t e) (sym is)
    (subst (λ t. IfSome t (λ x. Refuses (save_numbered r c.args.frame x None None) e)) here told))
    c.save_numbered.ensures.refused
