use Rattle.std.proofs.Common.{◌≤◌, ◌≡◌, ◌≢◌, ◌∷◌, ℕ, List, IfErr, IfOk, Result, Some, length, refl, subst, sym, ap, ◌∙◌}
use Rattle.container_model.specs.Opens.{Given as Read, IsReadAs, opened}
use Rattle.container_model.specs.declared.answer.Answer.{Answer}
use Rattle.container_model.specs.declared.fault.ContainerFault.{ContainerFault}
use Rattle.container_model.specs.declared.fault.ContainerFault.TheVariants as fault
use Rattle.ole_model.specs.Documents.{Doc}
use Rattle.script_model.specs.Answers.{opened_by as answer_opened, told_opened}
use Rattle.script_model.specs.Courses.{course}
use Rattle.script_model.specs.Events.{Stepped}
use Rattle.script_model.specs.Saved.{IsOpened}
use Rattle.script_model.specs.declared.answer.Told.TheVariants as told
use Rattle.script_model.specs.declared.step.Step.TheVariants as step
use Rattle.script_container.proofs.Answered.{file_made, file_refused}
use Rattle.script_container.proofs.Opened.{few_given, file_told, one_name, opened_by}
use Rattle.script_container.specs.Servers.{servers, turned}
use Rattle.script_container.proofs.container.opened.Goals as goal

pub returns-clause-told : goal.returns-clause-told
returns-clause-told g c =
    let made : Doc = record { session = c.session-session.result; objects = c.from_vec-objects.result } in
    let same : c.args.document ≡ made = λ i. record {
      session = sym c.session-session.ensures i;
      objects = sym (c.from_vec-objects.ensures ∙ c.into_vec.ensures.objects) i;
    } in
    let gives = subst (λ (d : Doc). IsReadAs (Some c.args.file.now) (Read.Holding d)) same c.requires.gives in
    let named : c.in-Some.name ≡ c.args.name = one_name c.name_of.result c.args.name c.in-Some.name
    (c.name_of.ensures c.args.name c.args.width c.args.height c.session-session.result c.from_vec-objects.result
    refl) c.in-Some.is in
    let read : g.H.Disk.Disk.follows_model → IsOpened g.H.Disk.Disk (g.H.Host.told c.args.host.now) c.in-Some.name
    made =
    λ m. subst (λ (name : List ℕ). IsOpened g.H.Disk.Disk (g.H.Host.told c.args.host.now) name made) (sym named)
    (opened_by g.H.Disk.Disk (g.H.Host.told c.args.host.now) c.args.name c.args.file.now made
    (c.requires.read m) gives) in
    let noted = c.note.ensures
    ∙ ap (λ (name : List ℕ). Stepped (step.Open name c.args.width c.args.height c.session-session.result
    c.from_vec-objects.result) ∷ g.H.Host.told c.args.host.now) (sym named) in
    file_told c.files_give_one.ensures c.in-Some.name c.args.width c.args.height made (Some c.args.file.now)
    c.open_file-told.result _ _ _ _ _ read gives noted c.noted.ensures.noted c.open_file-told.ensures.taken
    c.open_file-told.ensures.refused c.open_file-told.ensures.kept c.requires.told

pub returns-clause-few : goal.returns-clause-few
returns-clause-few g c =
    subst (λ (told : Result Answer ContainerFault). IfOk told (λ a. length a.objects ≤ 64)) (sym c.noted.ensures.same)
    (few_given c.args.core.now c.in-Some.name c.args.width c.args.height (Some c.args.file.now)
    c.open_file-told.new.self c.open_file-told.result c.open_file-told.ensures.taken)

pub returns-clause-ordered : goal.returns-clause-ordered
returns-clause-ordered g c =
    let made : Doc = record { session = c.session-session.result; objects = c.from_vec-objects.result } in
    let same : c.args.document ≡ made = λ i. record {
      session = sym c.session-session.ensures i;
      objects = sym (c.from_vec-objects.ensures ∙ c.into_vec.ensures.objects) i;
    } in
    c.noted.ensures.ordered ∙ ap course c.note.ensures
    ∙ ap (λ (d : Doc). course (Stepped (step.Open c.args.name c.args.width c.args.height d.session d.objects)
    ∷ g.H.Host.told c.args.host.now)) (sym same)

pub returns-clause-answered : goal.returns-clause-answered
returns-clause-answered g c =
    let named : c.in-Some.name ≡ c.args.name = one_name c.name_of.result c.args.name c.in-Some.name
    (c.name_of.ensures c.args.name c.args.width c.args.height c.session-session.result c.from_vec-objects.result
    refl) c.in-Some.is in
    subst (λ (name : List ℕ). IfOk c.noted.result
    (λ a. told_opened (opened c.args.core.now name c.args.width c.args.height (Read.Holding c.args.document))
    ≡ answer_opened a)) named
    (file_made c.files_give_one.ensures c.args.core.now c.in-Some.name c.args.width c.args.height c.args.document
    (Some c.args.file.now) c.requires.gives c.open_file-told.new.self c.noted.result c.open_file-told.result
    c.noted.ensures.same c.open_file-told.ensures.taken)

pub returns-clause-refused : goal.returns-clause-refused
returns-clause-refused g c =
    let named : c.in-Some.name ≡ c.args.name = one_name c.name_of.result c.args.name c.in-Some.name
    (c.name_of.ensures c.args.name c.args.width c.args.height c.session-session.result c.from_vec-objects.result
    refl) c.in-Some.is in
    subst (λ (name : List ℕ). IfErr c.noted.result (λ e. e ≢ fault.NoMemory
    → told_opened (opened c.args.core.now name c.args.width c.args.height (Read.Holding c.args.document))
    ≡ told.Fault e)) named
    (file_refused c.files_give_one.ensures c.args.core.now c.in-Some.name c.args.width c.args.height c.args.document
    (Some c.args.file.now) c.requires.gives c.noted.result c.open_file-told.result c.noted.ensures.same
    c.open_file-told.ensures.refused)

pub returns-clause-serving : goal.returns-clause-serving
unfolding servers turned
returns-clause-serving g c = c.noted.ensures.serving ∙ ap servers c.note.ensures
