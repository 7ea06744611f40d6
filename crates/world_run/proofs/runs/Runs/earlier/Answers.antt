use Rattle.std.proofs.Common.{ap, subst, sym, ◌∙◌}
use Rattle.message_values.specs.Found.{IsPlace}
use Rattle.world_model.specs.Story.{is_session}
use Rattle.world_run.specs.Names.{document_of}
use Rattle.world_run.specs.Told.{seen_pasts, told}
use Rattle.world_run.proofs.Passing.{session_seen}
use Rattle.world_run.proofs.Results.{if_err, on_err, on_ok}
use Rattle.world_run.proofs.Swapping.{goes_kept, goes_refused, goes_taken}
use Rattle.world_state.specs.View.{seen}
use Rattle.world_run.proofs.runs.Runs.earlier.Goals as goal

pub returns-clause-taken : goal.returns-clause-taken
returns-clause-taken g c =
    let s = told (λ s. (goal.Embedded-dyn g (s.boxed.vtable, s.boxed.value)).content s.boxed.value) c.args.self.now in
    let p : IsPlace (is_session c.args.session) s.past c.in-Some.i =
    subst (λ xs. IsPlace (is_session c.args.session)
    (seen_pasts (λ s. (goal.Embedded-dyn g (s.boxed.vtable, s.boxed.value)).content s.boxed.value) xs)
    c.in-Some.i) c.deref.ensures.value c.in-Some.ensures in
    let v = seen (λ s. (goal.Embedded-dyn g (s.boxed.vtable, s.boxed.value)).content s.boxed.value)
    c.go_on-outcome.new.state in
    on_ok c.go_on-outcome.result (goes_taken s c.args.session c.in-Some.i c.args.event.now p
    (told (λ s. (goal.Embedded-dyn g (s.boxed.vtable, s.boxed.value)).content s.boxed.value) c.swap.new.self)
    c.swap.ensures v _ (told (λ s. (goal.Embedded-dyn g (s.boxed.vtable, s.boxed.value)).content s.boxed.value)
    c.swap-2.new.self)
    (λ same. ap
    (λ r. record (told (λ s. (goal.Embedded-dyn g (s.boxed.vtable, s.boxed.value)).content s.boxed.value)
    c.swap.new.self) {
      now = v;
      document = document_of r c.swap.new.self.has_document
          c.swap.new.self.document;
    }) same)
    c.swap-2.ensures (session_seen c.args.self.now.state.host s.now.instances s.now.stock c.args.event.now
    ∙ sym c.requires.session) c.requires.earlier)
    c.go_on-outcome.ensures.taken

pub returns-clause-refused : goal.returns-clause-refused
returns-clause-refused g c =
    let s = told (λ s. (goal.Embedded-dyn g (s.boxed.vtable, s.boxed.value)).content s.boxed.value) c.args.self.now in
    let p : IsPlace (is_session c.args.session) s.past c.in-Some.i =
    subst (λ xs. IsPlace (is_session c.args.session)
    (seen_pasts (λ s. (goal.Embedded-dyn g (s.boxed.vtable, s.boxed.value)).content s.boxed.value) xs)
    c.in-Some.i) c.deref.ensures.value c.in-Some.ensures in
    if_err _ _ c.go_on-outcome.result (goes_refused s c.args.session c.in-Some.i c.args.event.now p
    (told (λ s. (goal.Embedded-dyn g (s.boxed.vtable, s.boxed.value)).content s.boxed.value) c.swap.new.self)
    c.swap.ensures) c.go_on-outcome.ensures.refused

pub returns-clause-kept : goal.returns-clause-kept
returns-clause-kept g c =
    let s = told (λ s. (goal.Embedded-dyn g (s.boxed.vtable, s.boxed.value)).content s.boxed.value) c.args.self.now in
    let p : IsPlace (is_session c.args.session) s.past c.in-Some.i =
    subst (λ xs. IsPlace (is_session c.args.session)
    (seen_pasts (λ s. (goal.Embedded-dyn g (s.boxed.vtable, s.boxed.value)).content s.boxed.value) xs)
    c.in-Some.i) c.deref.ensures.value c.in-Some.ensures in
    let v = seen (λ s. (goal.Embedded-dyn g (s.boxed.vtable, s.boxed.value)).content s.boxed.value)
    c.go_on-outcome.new.state in
    on_err c.go_on-outcome.result (goes_kept s c.args.session c.in-Some.i c.args.event.now p
    (told (λ s. (goal.Embedded-dyn g (s.boxed.vtable, s.boxed.value)).content s.boxed.value) c.swap.new.self)
    c.swap.ensures v _ (told (λ s. (goal.Embedded-dyn g (s.boxed.vtable, s.boxed.value)).content s.boxed.value)
    c.swap-2.new.self)
    (λ same. ap
    (λ r. record (told (λ s. (goal.Embedded-dyn g (s.boxed.vtable, s.boxed.value)).content s.boxed.value)
    c.swap.new.self) {
      now = v;
      document = document_of r c.swap.new.self.has_document
          c.swap.new.self.document;
    }) same)
    c.swap-2.ensures) c.go_on-outcome.ensures.kept
