use Rattle.std.proofs.Common.{◌≡◌, ◌∙◌, ℕ, List, Some, ap, refl, slice_get, subst, sym}
use Rattle.container_model.specs.Commands.{save_as, save_as_at}
use Rattle.container_model.specs.Numbered.{IsNth}
use Rattle.container_model.specs.Record.{Record, Refuses}
use Rattle.container_commands.specs.Saving.{named}
use Rattle.container_commands.proofs.SavesMade.{save_as_is}
use Rattle.container_commands.proofs.VerbsPlaced.{frame_here}
use Rattle.container_commands.proofs.InsertsMade.{no_such}
use Rattle.container_state.proofs.state.State.save_as.Goals as goal

pub returns-in_default-clause-refused : goal.returns-in_default-clause-refused
returns-in_default-clause-refused c =
    let r : Record = c.args.self.now in
    no_such _ r (save_as_at r c.args.frame c.args.name) c.args.frame _ c.self.view_is refl c.in_default.ensures

pub returns-in-Err-clause-refused : goal.returns-in-Err-clause-refused
returns-in-Err-clause-refused c =
    let r : Record = c.args.self.now in
    let found : IsNth c.args.frame r.frames c.in-Some.at =
    subst (λ (t : Record). IsNth c.args.frame t.frames c.in-Some.at) c.self.view_is c.in-Some.ensures in
    let here : slice_get r.frames c.in-Some.at ≡ Some c.index.result.now =
    frame_here _ r c.in-Some.at c.index.result.now c.self.view_is found.fits c.index.ensures in
    let same : r.objects ≡ c.self.inside.objects.list.items = ap (λ (t : Record). t.objects) (sym c.self.view_is) in
    subst (λ t. Refuses t c.in-Err.fault)
    (sym (ap (save_as_at r c.args.frame c.args.name) (found.found ∙ here)
    ∙ save_as_is r c.args.frame c.args.name c.index.result.now))
    (c.in-Err.ensures.refused r (named r c.args.frame c.args.name c.index.result.now) same)

pub returns-in-Err-may_bear-clause-refused : goal.returns-in-Err-may_bear-clause-refused
returns-in-Err-may_bear-clause-refused c =
    let r : Record = c.args.self.now in
    let found : IsNth c.args.frame r.frames c.in-Some.at =
    subst (λ (t : Record). IsNth c.args.frame t.frames c.in-Some.at) c.self.view_is c.in-Some.ensures in
    let here : slice_get r.frames c.in-Some.at ≡ Some c.index.result.now =
    frame_here _ r c.in-Some.at c.index.result.now c.self.view_is found.fits c.index.ensures in
    let later : slice_get r.frames c.in-Some.at ≡ Some c.index-2.result.now =
    frame_here _ r c.in-Some.at c.index-2.result.now c.self.view_is found.fits c.index-2.ensures in
    let both = sym here ∙ later in
    let one : c.index.result.now ≡ c.index-2.result.now = cc in
    let same : r.objects ≡ c.self.inside.objects.list.items = ap (λ (t : Record). t.objects) (sym c.self.view_is) in
    let frames : r.frames ≡ c.as_slice-2.result.now =
    sym (c.as_slice-2.ensures ∙ ap (λ (t : Record). t.frames) c.self.view_is) in
    let is : save_as r c.args.frame c.args.name ≡ named r c.args.frame c.args.name c.index.result.now =
    ap (save_as_at r c.args.frame c.args.name) (found.found ∙ here) ∙ save_as_is r c.args.frame c.args.name
    c.index.result.now ∙ c.in-Ok.ensures.may r (named r c.args.frame c.args.name c.index.result.now) same in
    let session : r.session ≡ c.self.inside.session = ap (λ (t : Record). t.session) (sym c.self.view_is) in
    let told = c.in-Err-may_bear.ensures.refused r session frames in
    subst (λ t. Refuses t c.in-Err-may_bear.fault) (sym (is ∙ ap (named r c.args.frame c.args.name) one))
    (subst (λ (n : List ℕ). Refuses (named r c.args.frame n c.index-2.result.now) c.in-Err-may_bear.fault)
    c.as_slice.ensures told)
