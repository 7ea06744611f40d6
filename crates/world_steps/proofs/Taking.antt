-- Contents that the container takes: a write under the grant that it holds open, or the answer to a close.
use Rattle.std.proofs.Common.{◌≡◌, ◌&&◌, ◌==◌, ℕ, Bool, true, false, not, nat_lt, [], Option, Some, None, is_some}
use Rattle.std.proofs.Common.{Result, Ok, Err, refl, sym, ap, ◌∙◌, inl, inr, subst, if◌then◌else◌}
use Rattle.std.proofs.lemmas.Bool.{eqb-true}
use Rattle.std.proofs.lemmas.Bool.Decides.{eqb_tells}
use Rattle.message_values.specs.Found.{find, put}
use Rattle.message_values.specs.Operations.{op_of}
use Rattle.message_values.specs.declared.message.Said.TheVariants.{Write}
use Rattle.message_values.specs.declared.operation.Operation.{Operation}
use Rattle.message_values.specs.declared.operation.Operation.TheVariants.{InitNew, Load, InPlace, UiActivate}
use Rattle.message_values.specs.declared.operation.Operation.TheVariants.{UiDeactivate, InPlaceDeactivate, OpenWindow}
use Rattle.message_values.specs.declared.operation.Operation.TheVariants.{Edit, Save, HandsOff, SaveCompleted}
use Rattle.message_values.specs.declared.operation.Operation.TheVariants.{SaveDropped, Close}
use Rattle.message_values.specs.declared.answer.Answer.{Answer}
use Rattle.message_values.specs.declared.answer.Answer.TheVariants as told
use Rattle.tree_streams.specs.Limits.{is_within}
use Rattle.object_state.specs.Both as both
use Rattle.object_state.specs.Persists.{may_write}
use Rattle.object_state.specs.declared.both_states.States.{States}
use Rattle.object_state.specs.declared.faults.StateFault.{StateFault}
use Rattle.object_state.specs.declared.operations.CloseOption.TheVariants.{SaveIfDirty, NoSave}
use Rattle.object_state.specs.declared.persist_states.PersistState.{PersistState}
use Rattle.object_state.specs.declared.persist_states.PersistState.TheVariants.{Unset, Normal, NoScribble}
use Rattle.object_state.specs.declared.persist_states.PersistState.TheVariants as state
use Rattle.tree_streams.specs.declared.stored.Stored.{Stored}
use Rattle.container_model.specs.declared.grants.Tells.{Tells}
use Rattle.container_model.specs.declared.grants.Tells.TheVariants.{Gets, GivesUp}
use Rattle.container_model.specs.declared.record.Link.{Link}
use Rattle.container_model.specs.declared.record.Object.{Object}
use Rattle.container_model.specs.declared.fault.ContainerFault.{ContainerFault}
use Rattle.container_model.specs.declared.fault.ContainerFault.TheVariants.{Stale, WrongLink, BadAnswer}
use Rattle.container_model.specs.Record.{Record, Took, is_linked, is_alive}
use Rattle.container_model.specs.Messages.{Replied, replied, done, done_link, saved_link, granted_link, closed_with}
use Rattle.container_model.specs.Messages.{next_s, awaits_save, is_open_to, written_object, write_made, write_link}
use Rattle.container_model.specs.Messages.{write_found}
use Rattle.container_model.proofs.SaidOn.{said_on}
use Rattle.container_queues.specs.Steady.{Steady}
use Rattle.world_model.specs.Safe.{links_of}
use Rattle.world_facts.specs.Shapes.{AskedAt, stays, AsksAll, IsQuiet}
use Rattle.world_facts.specs.Words.{sayings_of}
use Rattle.world_steps.specs.Steps.{IsPlain}
use Rattle.world_steps.proofs.Objects.{link_was, put_here, put_there}
use Rattle.world_steps.proofs.Asking.{unasked_as}

-- a storage that may be written into
pub normal_of : (s : PersistState) → may_write s ≡ true → s ≡ Normal
normal_of Unset e = cc
normal_of Normal e = refl
normal_of NoScribble e = cc
normal_of state.HandsOff e = cc

-- Which answers bring a content: that to a close alone.
done_none : (l : Link) (s : ℕ) (x : Result States StateFault) (p : Replied) → done_link l s x ≡ Ok p → p.taken ≡ None
done_none l s (Err fault) p e = cc
done_none l s (Ok v) p e =
    (let q : record {
      link = Some (record l { pending = None; states = v; s = s });
      taken = None;
      refused = None;
      grant = None;
    } ≡ p = cc in ap (λ (x : Replied). x.taken) (sym q))

saved_none : (l : Link) (s : ℕ) (content : Stored) (x : Result States StateFault) (p : Replied)
    → saved_link content (done_link l s x) ≡ Ok p → p.taken ≡ None
saved_none l s content (Err fault) p e = cc
saved_none l s content (Ok v) p e =
    (let q : record {
      link = Some (record l { pending = None; states = v; s = s; saved = Some content });
      taken = None;
      refused = None;
      grant = None;
    } ≡ p = cc in ap (λ (x : Replied). x.taken) (sym q))

abbrev Brought : Operation → Answer → Replied → Type 0
Brought op answer p = is_some p.taken ≡ true → (c : Stored) × (op ≡ Close SaveIfDirty) × (answer ≡ told.Content c)

none_brought : (op : Operation) (answer : Answer) (p : Replied) → p.taken ≡ None → Brought op answer p
none_brought op answer p e h = absurd (let z : false ≡ true = ap is_some (sym e) ∙ h in cc)

done_brought : (l : Link) (op o : Operation) (answer : Answer) (p : Replied) → done l o ≡ Ok p → Brought op answer p
done_brought l op o answer p e = none_brought op answer p
    (done_none l (next_s o l.s) (both.step l.states (op_of o)) p e)

granted_none : (l : Link) (s : ℕ) (tells : Tells) (x : Result States StateFault) (p : Replied)
    → granted_link tells (done_link l s x) ≡ Ok p → p.taken ≡ None
granted_none l s tells (Err fault) p e = cc
granted_none l s tells (Ok v) p e =
    (let q : record {
      link = Some (record l { pending = None; states = v; s = s });
      taken = None;
      refused = None;
      grant = Some tells;
    } ≡ p = cc in ap (λ (x : Replied). x.taken) (sym q))

granted_brought : (l : Link) (op : Operation) (tells : Tells) (answer : Answer) (p : Replied)
    → granted_link tells (done l op) ≡ Ok p → Brought op answer p
granted_brought l op tells answer p e = none_brought op answer p
    (granted_none l (next_s op l.s) tells (both.step l.states (op_of op)) p e)

closed_none : (l : Link) (p : Replied) (x : Result States StateFault) → closed_with None x ≡ Ok p → p.taken ≡ None
closed_none l p (Err fault) e = cc
closed_none l p (Ok v) e = (let q : record { link = None; taken = None; refused = None; grant = None } ≡ p = cc in
    ap (λ (x : Replied). x.taken) (sym q))

pub brought : (l : Link) (op : Operation) (answer : Answer) (p : Replied) → replied l op answer ≡ Ok p
    → Brought op answer p
brought l (InitNew class) told.Done p e = done_brought l (InitNew class) (InitNew class) told.Done p e
brought l (InitNew class) (told.Refused why) p e = none_brought (InitNew class) (told.Refused why) p
    (let q : record { link = None; taken = None; refused = Some why; grant = None } ≡ p = cc in
    ap (λ (x : Replied). x.taken) (sym q))
brought l (InitNew class) (told.Content c) p e = cc
brought l (InitNew class) (told.Tools menus border) p e = cc
brought l (Load class content) told.Done p e = done_brought l (Load class content) (Load class content) told.Done p e
brought l (Load class content) (told.Refused why) p e = none_brought (Load class content) (told.Refused why) p
    (let q : record { link = None; taken = None; refused = Some why; grant = None } ≡ p = cc in
    ap (λ (x : Replied). x.taken) (sym q))
brought l (Load class content) (told.Content c) p e = cc
brought l (Load class content) (told.Tools menus border) p e = cc
brought l InPlace told.Done p e = done_brought l InPlace InPlace told.Done p e
brought l InPlace (told.Refused why) p e = cc
brought l InPlace (told.Content c) p e = cc
brought l InPlace (told.Tools menus border) p e = cc
brought l (UiActivate g) told.Done p e = cc
brought l (UiActivate g) (told.Refused why) p e = cc
brought l (UiActivate g) (told.Content c) p e = cc
brought l (UiActivate g) (told.Tools menus border) p e = granted_brought l (UiActivate g)
    (Gets g (record { menus = menus; border = border })) (told.Tools menus border) p e
brought l UiDeactivate told.Done p e = granted_brought l UiDeactivate (GivesUp l.act) told.Done p e
brought l UiDeactivate (told.Refused why) p e = cc
brought l UiDeactivate (told.Content c) p e = cc
brought l UiDeactivate (told.Tools menus border) p e = cc
brought l InPlaceDeactivate told.Done p e = done_brought l InPlaceDeactivate InPlaceDeactivate told.Done p e
brought l InPlaceDeactivate (told.Refused why) p e = cc
brought l InPlaceDeactivate (told.Content c) p e = cc
brought l InPlaceDeactivate (told.Tools menus border) p e = cc
brought l OpenWindow told.Done p e = done_brought l OpenWindow OpenWindow told.Done p e
brought l OpenWindow (told.Refused why) p e = cc
brought l OpenWindow (told.Content c) p e = cc
brought l OpenWindow (told.Tools menus border) p e = cc
brought l (Edit bytes) told.Done p e = done_brought l (Edit bytes) (Edit bytes) told.Done p e
brought l (Edit bytes) (told.Refused why) p e = none_brought (Edit bytes) (told.Refused why) p
    (let q : record { link = Some (record l { pending = None }); taken = None; refused = Some why; grant = None }
    ≡ p = cc in ap (λ (x : Replied). x.taken) (sym q))
brought l (Edit bytes) (told.Content c) p e = cc
brought l (Edit bytes) (told.Tools menus border) p e = cc
brought l (Save k) told.Done p e = cc
brought l (Save k) (told.Refused why) p e = cc
brought l (Save k) (told.Content c) p e = none_brought (Save k) (told.Content c) p
    (saved_none l (next_s (Save k) l.s) c (both.step l.states (op_of (Save k))) p e)
brought l (Save k) (told.Tools menus border) p e = cc
brought l HandsOff told.Done p e = done_brought l HandsOff HandsOff told.Done p e
brought l HandsOff (told.Refused why) p e = cc
brought l HandsOff (told.Content c) p e = cc
brought l HandsOff (told.Tools menus border) p e = cc
brought l (SaveCompleted k storage) told.Done p e = done_brought l (SaveCompleted k storage)
    (SaveCompleted k storage) told.Done p e
brought l (SaveCompleted k storage) (told.Refused why) p e = cc
brought l (SaveCompleted k storage) (told.Content c) p e = cc
brought l (SaveCompleted k storage) (told.Tools menus border) p e = cc
brought l (SaveDropped k) told.Done p e = done_brought l (SaveDropped k) (SaveDropped k) told.Done p e
brought l (SaveDropped k) (told.Refused why) p e = cc
brought l (SaveDropped k) (told.Content c) p e = cc
brought l (SaveDropped k) (told.Tools menus border) p e = cc
brought l (Close SaveIfDirty) told.Done p e = cc
brought l (Close SaveIfDirty) (told.Refused why) p e = cc
brought l (Close SaveIfDirty) (told.Content c) p e = λ h. (c, refl, refl)
brought l (Close SaveIfDirty) (told.Tools menus border) p e = cc
brought l (Close NoSave) told.Done p e = none_brought (Close NoSave) told.Done p
    (closed_none l p (both.step l.states (op_of (Close NoSave))) e)
brought l (Close NoSave) (told.Refused why) p e = cc
brought l (Close NoSave) (told.Content c) p e = cc
brought l (Close NoSave) (told.Tools menus border) p e = cc

-- A write that is taken: its object, and the grant that the record holds open.
pub record IsWrite (r : Record) (inc act s w : ℕ) (content : Stored) (t : Took) : Type 0 where
  pub object : Object
  pub link : Link
  pub found : find (is_linked inc act) r.objects ≡ Some object
  pub linked : object.link ≡ Some link
  pub granted : is_open_to link s w ≡ true
  pub made : write_made r inc act object link w content ≡ t

module _ (r : Record) (inc act s w : ℕ) (content : Stored) (t : Took) where
  write_linked : (o : Object) (l : Option Link) → find (is_linked inc act) r.objects ≡ Some o → o.link ≡ l
      → write_link r inc act s w content o l ≡ Ok t → IsWrite r inc act s w content t
  write_linked o None f q e = cc
  write_linked o (Some l) f q e = at (is_open_to l s w) (is_within content) refl e
    where
      at : (b c : Bool) → is_open_to l s w ≡ b → ◌≡◌ {A = Result Took ContainerFault}
          (if b then (if c then Ok (write_made r inc act o l w content) else Err BadAnswer) else Err Stale) (Ok t)
          → IsWrite r inc act s w content t
      at true true u g = record { object = o; link = l; found = f; linked = q; granted = u; made = cc }
      at true false u g = cc
      at false c u g = cc

  write_at : (o : Option Object) → find (is_linked inc act) r.objects ≡ o → write_found r inc act s w content o
      ≡ Ok t → IsWrite r inc act s w content t
  write_at None f e = cc
  write_at (Some o) f e = write_linked o o.link f refl e

  pub write_is : said_on r inc (Write inc act s w content) ≡ Ok t → IsWrite r inc act s w content t
  write_is e = at (inc == inc) (is_alive r inc) e
    where
      at : (a b : Bool) → ◌≡◌ {A = Result Took ContainerFault}
          (if a then (if b then write_found r inc act s w content (find (is_linked inc act) r.objects)
          else Err Stale) else Err WrongLink) (Ok t) → IsWrite r inc act s w content t
      at true true g = write_at (find (is_linked inc act) r.objects) refl g
      at true false g = cc
      at false b g = cc

-- under which grant it is taken
pub record IsHeldOpen (l : Link) (s : ℕ) : Type 0 where
  pub grant : l.s ≡ s
  pub storage : l.states.persist.state ≡ Normal
  pub unasked : awaits_save l ≡ false

pub held_open : (l : Link) (s w : ℕ) → is_open_to l s w ≡ true → IsHeldOpen l s
held_open l s w e = at (l.s == s) (may_write l.states.persist.state) (awaits_save l) (nat_lt l.w w) refl refl refl e
  where
    at : (a b c d : Bool) → (l.s == s) ≡ a → may_write l.states.persist.state ≡ b → awaits_save l ≡ c
        → (a && b && not c && d) ≡ true → IsHeldOpen l s
    at true true false true p q u g = record {
      grant = eqb-true l.s s p;
      storage = normal_of l.states.persist.state q;
      unasked = u;
    }
    at true true false false p q u g = cc
    at true true true d p q u g = cc
    at true false c d p q u g = cc
    at false b c d p q u g = cc

-- the link is as it was, but for the number of its last write
write_asks_made : (r : Record) (inc act w : ℕ) (content : Stored) (x : Object) (l : Link) → Steady r
    → find (is_linked inc act) r.objects ≡ Some x → x.link ≡ Some l
    → AsksAll (λ o op. IsQuiet op) (links_of r.objects)
    (links_of (put (is_linked inc act) (written_object x l w content) r.objects)) []
write_asks_made r inc act w content x l s found xl =
    let test = is_linked inc act in
    let a = written_object x l w content in
    let m : Link = record l { w = w } in
    let here : AskedAt IsQuiet (Some l) (Some m) [] =
    stays l m refl refl (record {
      session = refl;
      inc = refl;
      act = refl;
      last = refl;
      pending = refl;
      states = refl;
      s = refl;
      saved = inl refl;
    }) refl refl in
    record {
      news = λ n. [];
      each = λ n. elim (eqb_tells n x.number) [
        | inl q ↦ subst (λ k. AskedAt IsQuiet (links_of r.objects k) (links_of (put test a r.objects) k) []) (sym q.1)
            (subst (λ z. AskedAt IsQuiet z (links_of (put test a r.objects) x.number) [])
            (sym (link_was r.objects test x a s.order found refl ∙ xl))
            (subst (λ z. AskedAt IsQuiet (Some l) z []) (sym (put_here r.objects test x a s.order found refl)) here))
        | inr q ↦ unasked_as IsQuiet (links_of r.objects n) (links_of (put test a r.objects) n)
            (put_there r.objects test x a s.order found refl n q.1)
      ];
      from = λ m h. absurd h;
    }

pub write_asks : (r : Record) (inc act s w : ℕ) (content : Stored) (t : Took) → Steady r
    → said_on r inc (Write inc act s w content) ≡ Ok t
    → AsksAll (λ o op. IsQuiet op) (links_of r.objects) (links_of t.rec.objects) (sayings_of t.answer.actions)
    × IsPlain r t
write_asks r inc act s w content t steady e =
    let h = write_is r inc act s w content t e in
    subst (λ (v : Took). AsksAll (λ o op. IsQuiet op) (links_of r.objects) (links_of v.rec.objects)
    (sayings_of v.answer.actions) × IsPlain r v) h.made (
      write_asks_made r inc act w content h.object h.link steady h.found h.linked,
      record { last_act = refl; servers = refl; starts = λ session numbers. refl; ends = λ is. refl },
    )
