use Rattle.std.proofs.Common.{◌≡◌, ◌∙◌, IfSome, None, Ok, Some, ap, refl, slice_get, subst, sym}
use Rattle.std.proofs.lemmas.Result.{IfErr-weaker, IfOk-weaker}
use Rattle.container_model.specs.Commands.{save_numbered, session, session_at}
use Rattle.container_model.specs.Numbered.{IsNth}
use Rattle.container_model.specs.Record.{Record, Refuses, counts_none}
use Rattle.container_commands.specs.Saving.{raising}
use Rattle.container_commands.proofs.VerbsPlaced.{frame_here}
use Rattle.container_commands.proofs.InsertsMade.{no_such}
use Rattle.container_state.proofs.state.State.begin_session.Goals as goal

pub returns-in_default-clause-refused : goal.returns-in_default-clause-refused
returns-in_default-clause-refused c =
    let r : Record = c.args.self.now in
    no_such _ r (session_at r) 1 _ c.self.view_is refl c.in_default.ensures

pub returns-in-Err-clause-refused : goal.returns-in-Err-clause-refused
returns-in-Err-clause-refused c =
    let r : Record = c.args.self.now in
    let found : IsNth 1 r.frames c.in-Some.at = subst (λ (t : Record). IsNth 1 t.frames c.in-Some.at) c.self.view_is
    c.in-Some.ensures in
    let here : slice_get r.frames c.in-Some.at ≡ Some c.index.result.now =
    frame_here _ r c.in-Some.at c.index.result.now c.self.view_is found.fits c.index.ensures in
    let same : r.objects ≡ c.self.inside.objects.list.items = ap (λ (t : Record). t.objects) (sym c.self.view_is) in
    subst (λ t. Refuses t c.in-Err.fault) (sym (ap (session_at r) (found.found ∙ here)))
    (c.in-Err.ensures.refused r (raising r c.index.result.now) same)

pub returns-in-Err-may_raise-clause-refused : goal.returns-in-Err-may_raise-clause-refused
returns-in-Err-may_raise-clause-refused c =
    let r : Record = c.args.self.now in
    let found : IsNth 1 r.frames c.in-Some.at = subst (λ (t : Record). IsNth 1 t.frames c.in-Some.at) c.self.view_is
    c.in-Some.ensures in
    let here : slice_get r.frames c.in-Some.at ≡ Some c.index.result.now =
    frame_here _ r c.in-Some.at c.index.result.now c.self.view_is found.fits c.index.ensures in
    let same : r.objects ≡ c.self.inside.objects.list.items = ap (λ (t : Record). t.objects) (sym c.self.view_is) in
    let later : slice_get r.frames c.in-Some.at ≡ Some c.index-2.result.now =
    frame_here _ r c.in-Some.at c.index-2.result.now c.self.view_is found.fits c.index-2.ensures in
    let both = sym here ∙ later in
    let one : c.index.result.now ≡ c.index-2.result.now = cc in
    let same_session : r.session ≡ c.self.inside.session = ap (λ (t : Record). t.session) (sym c.self.view_is) in
    let numbers : r.numbers ≡ c.self.inside.numbers = ap (λ (t : Record). t.numbers) (sym c.self.view_is) in
    let is : session r ≡ raising r c.index-2.result.now =
    ap (session_at r) (found.found ∙ here) ∙ c.in-Ok.ensures.may r (raising r c.index.result.now) same
    ∙ ap (raising r) one in
    subst (λ t. Refuses t c.in-Err-may_raise.fault) (sym is) (c.in-Err-may_raise.ensures.refused r same_session numbers)

pub returns-in-Ok-may_raise-clause-taken : goal.returns-in-Ok-may_raise-clause-taken
returns-in-Ok-may_raise-clause-taken c =
    let r : Record = c.args.self.now in
    let found : IsNth 1 r.frames c.in-Some.at = subst (λ (t : Record). IsNth 1 t.frames c.in-Some.at) c.self.view_is
    c.in-Some.ensures in
    let here : slice_get r.frames c.in-Some.at ≡ Some c.index.result.now =
    frame_here _ r c.in-Some.at c.index.result.now c.self.view_is found.fits c.index.ensures in
    let same : r.objects ≡ c.self.inside.objects.list.items = ap (λ (t : Record). t.objects) (sym c.self.view_is) in
    let later : slice_get r.frames c.in-Some.at ≡ Some c.index-2.result.now =
    frame_here _ r c.in-Some.at c.index-2.result.now c.self.view_is found.fits c.index-2.ensures in
    let both = sym here ∙ later in
    let one : c.index.result.now ≡ c.index-2.result.now = cc in
    let same_session : r.session ≡ c.self.inside.session = ap (λ (t : Record). t.session) (sym c.self.view_is) in
    let numbers : r.numbers ≡ c.self.inside.numbers = ap (λ (t : Record). t.numbers) (sym c.self.view_is) in
    let is : session r ≡ raising r c.index-2.result.now =
    ap (session_at r) (found.found ∙ here) ∙ c.in-Ok.ensures.may r (raising r c.index.result.now) same
    ∙ ap (raising r) one in
    let made = is ∙ c.in-Ok-may_raise.ensures.may r same_session numbers in
    IfOk-weaker c.save_numbered.result _ _
    (λ a taken. made
    ∙ subst (λ t. IfSome t (λ x. save_numbered r 1 x (Some c.in-Ok-may_raise.raised) None
    ≡ Ok (counts_none c.save_numbered.new.self a))) later taken) c.save_numbered.ensures.taken

pub returns-in-Ok-may_raise-clause-refused : goal.returns-in-Ok-may_raise-clause-refused
returns-in-Ok-may_raise-clause-refused c =
    let r : Record = c.args.self.now in
    let found : IsNth 1 r.frames c.in-Some.at = subst (λ (t : Record). IsNth 1 t.frames c.in-Some.at) c.self.view_is
    c.in-Some.ensures in
    let here : slice_get r.frames c.in-Some.at ≡ Some c.index.result.now =
    frame_here _ r c.in-Some.at c.index.result.now c.self.view_is found.fits c.index.ensures in
    let same : r.objects ≡ c.self.inside.objects.list.items = ap (λ (t : Record). t.objects) (sym c.self.view_is) in
    let later : slice_get r.frames c.in-Some.at ≡ Some c.index-2.result.now =
    frame_here _ r c.in-Some.at c.index-2.result.now c.self.view_is found.fits c.index-2.ensures in
    let both = sym here ∙ later in
    let one : c.index.result.now ≡ c.index-2.result.now = cc in
    let same_session : r.session ≡ c.self.inside.session = ap (λ (t : Record). t.session) (sym c.self.view_is) in
    let numbers : r.numbers ≡ c.self.inside.numbers = ap (λ (t : Record). t.numbers) (sym c.self.view_is) in
    let is : session r ≡ raising r c.index-2.result.now =
    ap (session_at r) (found.found ∙ here) ∙ c.in-Ok.ensures.may r (raising r c.index.result.now) same
    ∙ ap (raising r) one in
    let made = is ∙ c.in-Ok-may_raise.ensures.may r same_session numbers in
    IfErr-weaker c.save_numbered.result _ _
    (λ e told. subst (λ t. Refuses t e) (sym made)
    (subst (λ t. IfSome t (λ x. Refuses (save_numbered r 1 x (Some c.in-Ok-may_raise.raised) None) e)) later
    told)) c.save_numbered.ensures.refused
