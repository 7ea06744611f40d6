-- What a server makes of a call: one activation, after the call that was answered again or acted on.
use Rattle.std.proofs.Common.{◌≡◌, ◌⊎◌, ◌==◌, ℕ, ◌+◌, Bool, true, false, List, [], ◌∷◌, ◌++◌, length, Option, Some}
use Rattle.std.proofs.Common.{None, Result, Ok, Err, refl, sym, ap, ◌∙◌, inl, inr, subst, nat_eq, nat_le, if◌then◌else◌}
use Rattle.std.proofs.Common.{eq-eqb}
use Rattle.std.specs.Prelude.{cond}
use Rattle.std.proofs.lemmas.Bool.{eqb-true, ne_eqb}
use Rattle.std.proofs.lemmas.Bool.Decides.{eqb_tells}
use Rattle.message_values.specs.Found.{find, put, nth, set_nth}
use Rattle.message_values.specs.Operations.{op_of}
use Rattle.message_values.specs.declared.message.Said.TheVariants.{Call}
use Rattle.message_values.specs.declared.operation.Operation.{Operation}
use Rattle.message_values.specs.declared.operation.Operation.TheVariants.{InitNew, Load, InPlace, UiActivate}
use Rattle.message_values.specs.declared.operation.Operation.TheVariants.{UiDeactivate, InPlaceDeactivate, OpenWindow}
use Rattle.message_values.specs.declared.operation.Operation.TheVariants.{Edit, Save, HandsOff, SaveCompleted}
use Rattle.message_values.specs.declared.operation.Operation.TheVariants.{SaveDropped, Close}
use Rattle.message_values.specs.declared.answer.Answer.{Answer}
use Rattle.message_values.specs.declared.answer.Answer.TheVariants as told
use Rattle.message_values.specs.declared.refusal.Refusal.{Refusal}
use Rattle.message_values.specs.Refusals.{of_state}
use Rattle.object_state.specs.Both as both
use Rattle.object_state.specs.Persists as persist
use Rattle.object_state.specs.Objects as window
use Rattle.object_state.specs.declared.both_states.States.{States}
use Rattle.object_state.specs.declared.persist_states.PersistState.{PersistState}
use Rattle.object_state.specs.declared.persist_states.PersistState.TheVariants.{Unset, Normal, NoScribble}
use Rattle.object_state.specs.declared.persist_states.PersistState.TheVariants as state
use Rattle.object_state.specs.declared.object_states.ObjectState.{ObjectState}
use Rattle.object_state.specs.declared.object_states.ObjectState.TheVariants.{Passive, Loaded, Running, InPlaceActive}
use Rattle.object_state.specs.declared.object_states.ObjectState.TheVariants.{UiActive, Open}
use Rattle.object_state.specs.declared.operations.Op.TheVariants as ops
use Rattle.object_state.specs.declared.operations.CloseOption.{CloseOption}
use Rattle.object_state.specs.declared.operations.CloseOption.TheVariants.{SaveIfDirty, NoSave}
use Rattle.object_state.specs.declared.faults.StateFault.{StateFault}
use Rattle.tree_streams.specs.declared.stored.Stored.{Stored}
use Rattle.object_core.specs.Content.{Content}
use Rattle.object_core.specs.Kinds.{Kind}
use Rattle.object_core.specs.Objects as object
use Rattle.object_core.specs.declared.fault.EmbedFault.{EmbedFault}
use Rattle.server_model.specs.declared.fault.ServerFault.{ServerFault}
use Rattle.server_model.specs.declared.fault.ServerFault.TheVariants.{WrongIncarnation, Ignored, NumbersSpent}
use Rattle.server_model.specs.declared.fault.ServerFault.TheVariants.{WrongClass}
use Rattle.server_model.specs.Server.{stored_of, Server, Activation, Acted, Served, is_act, answers, counts, refuses}
use Rattle.server_model.specs.Server.{edits, closes, does, acted, next_call, known_call, begun_class, begun_content}
use Rattle.server_model.specs.Server.{begins, after_known, after_begun, is_class, offered, unknown_call, called, is_for}
use Rattle.server_model.specs.Server.{on_call}
use Rattle.server_model.specs.declared.counted.Counted.{Counted}
use Rattle.world_model.specs.World.{Instance, in_session}
use Rattle.world_model.specs.Safe.{act_at, acts_of}
use Rattle.world_facts.specs.Facts.{Did}
use Rattle.world_facts.specs.Shapes.{IsFirst, MovesGrant, IsChanged, Makes, ActsOn, again, next, makes}
use Rattle.world_facts.proofs.Lookups.{find_passes}
use Rattle.world_steps.proofs.Instances.{find_act_put, find_act_more, nth_same, nth_other}

-- an edit leaves the states
edit_states : (v : States) (p : PersistState) (o : ObjectState) (u : States) → v.persist.state ≡ p → v.object ≡ o
    → both.joined (persist.numbered v.persist ops.Edit (persist.table ops.Edit p)) (window.table ops.Edit o) ≡ Ok u
    → u ≡ v
edit_states v Unset o u e f g = cc
edit_states v Normal Passive u e f g = cc
edit_states v Normal Loaded u e f g = cc
edit_states v Normal Running u e f g =
    (let q : record { persist = record { state = Normal; last_save = v.persist.last_save }; object = Running } ≡ u =
    cc in sym q ∙ rw (e, f) refl)
edit_states v Normal InPlaceActive u e f g =
    (let q : record { persist = record { state = Normal; last_save = v.persist.last_save }; object = InPlaceActive }
    ≡ u = cc in sym q ∙ rw (e, f) refl)
edit_states v Normal UiActive u e f g =
    (let q : record { persist = record { state = Normal; last_save = v.persist.last_save }; object = UiActive }
    ≡ u = cc in sym q ∙ rw (e, f) refl)
edit_states v Normal Open u e f g =
    (let q : record { persist = record { state = Normal; last_save = v.persist.last_save }; object = Open } ≡ u =
    cc in sym q ∙ rw (e, f) refl)
edit_states v NoScribble Passive u e f g = cc
edit_states v NoScribble Loaded u e f g = cc
edit_states v NoScribble Running u e f g =
    (let q : record { persist = record { state = NoScribble; last_save = v.persist.last_save }; object = Running }
    ≡ u = cc in sym q ∙ rw (e, f) refl)
edit_states v NoScribble InPlaceActive u e f g =
    (let q : record {
      persist = record { state = NoScribble; last_save = v.persist.last_save };
      object = InPlaceActive;
    } ≡ u = cc in sym q ∙ rw (e, f) refl)
edit_states v NoScribble UiActive u e f g =
    (let q : record { persist = record { state = NoScribble; last_save = v.persist.last_save }; object = UiActive }
    ≡ u = cc in sym q ∙ rw (e, f) refl)
edit_states v NoScribble Open u e f g =
    (let q : record { persist = record { state = NoScribble; last_save = v.persist.last_save }; object = Open }
    ≡ u = cc in sym q ∙ rw (e, f) refl)
edit_states v state.HandsOff Passive u e f g = cc
edit_states v state.HandsOff Loaded u e f g = cc
edit_states v state.HandsOff Running u e f g =
    (let q : record {
      persist = record { state = state.HandsOff; last_save = v.persist.last_save };
      object = Running;
    } ≡ u = cc in sym q ∙ rw (e, f) refl)
edit_states v state.HandsOff InPlaceActive u e f g =
    (let q : record {
      persist = record { state = state.HandsOff; last_save = v.persist.last_save };
      object = InPlaceActive;
    } ≡ u = cc in sym q ∙ rw (e, f) refl)
edit_states v state.HandsOff UiActive u e f g =
    (let q : record {
      persist = record { state = state.HandsOff; last_save = v.persist.last_save };
      object = UiActive;
    } ≡ u = cc in sym q ∙ rw (e, f) refl)
edit_states v state.HandsOff Open u e f g =
    (let q : record { persist = record { state = state.HandsOff; last_save = v.persist.last_save }; object = Open }
    ≡ u = cc in sym q ∙ rw (e, f) refl)

-- what an operation makes of an open activation, and whose save it counts
pub record IsMade (a : Activation) (op : Operation) (b : Acted) : Type 0 where
  pub makes : Makes a op b.activation b.answer b.counted
  pub act : b.activation.act ≡ a.act
  pub of : (v : Counted) → b.counted ≡ Some v → v.act ≡ a.act

-- what it did, where the tables take it
abbrev DidIf : Activation → Operation → Activation → Answer → Type 0
DidIf a op after r = (v : States) → both.step a.states (op_of op) ≡ Ok v → (IsFirst op → ⊥)
    → Did a.states a.s op after r

no_counts : (a : Activation) (op : Operation) (v : Counted) → None ≡ Some v → (storage : Bool)
    × (op ≡ SaveCompleted v.k storage) × (a.saved ≡ Some v.content)
no_counts a op v e = cc

no_act : (a : Activation) (v : Counted) → None ≡ Some v → v.act ≡ a.act
no_act a v e = cc

-- an answer that counts nothing
plain : (a c : Activation) (op : Operation) (told : Answer) → c.last ≡ a.last → c.act ≡ a.act
    → DidIf a op (answers c told).activation told → (((k : ℕ) × (op ≡ Save k)) ⊎ (c.saved ≡ a.saved))
    → (MovesGrant op ⊎ (c.g ≡ a.g)) → IsMade a op (answers c told)
plain a c op told el ea did sv gr =
    record {
      makes = record {
        last = ap (λ n. n + 1) el;
        reply = refl;
        did = did;
        saved = sv;
        counts = no_counts a op;
        grant = gr;
      };
      act = ea;
      of = no_act a;
    }

-- the tables refuse the operation
refused : (a : Activation) (op : Operation) (v : States) (fault : StateFault)
    → both.step a.states (op_of op) ≡ Err fault → both.step a.states (op_of op) ≡ Ok v → ⊥
refused a op v fault e g = (let z : ◌≡◌ {A = Result States StateFault} (Err fault) (Ok v) = sym e ∙ g in cc)

refuses_made : (a : Activation) (op : Operation) (fault : StateFault) (why : Refusal)
    → both.step a.states (op_of op) ≡ Err fault → IsMade a op (refuses a op why)
refuses_made a (InitNew class) fault why e = plain a (record a { content = None }) (InitNew class) _ refl refl
    (λ v g nf. absurd (refused a (InitNew class) v fault e g)) (inr refl) (inr refl)
refuses_made a (Load class content) fault why e = plain a (record a { content = None }) (Load class content) _ refl
    refl (λ v g nf. absurd (refused a (Load class content) v fault e g)) (inr refl) (inr refl)
refuses_made a InPlace fault why e = plain a a InPlace _ refl refl
    (λ v g nf. absurd (refused a InPlace v fault e g)) (inr refl) (inr refl)
refuses_made a (UiActivate n) fault why e = plain a a (UiActivate n) _ refl refl
    (λ v g nf. absurd (refused a (UiActivate n) v fault e g)) (inr refl) (inr refl)
refuses_made a UiDeactivate fault why e = plain a a UiDeactivate _ refl refl
    (λ v g nf. absurd (refused a UiDeactivate v fault e g)) (inr refl) (inr refl)
refuses_made a InPlaceDeactivate fault why e = plain a a InPlaceDeactivate _ refl refl
    (λ v g nf. absurd (refused a InPlaceDeactivate v fault e g)) (inr refl) (inr refl)
refuses_made a OpenWindow fault why e = plain a a OpenWindow _ refl refl
    (λ v g nf. absurd (refused a OpenWindow v fault e g)) (inr refl) (inr refl)
refuses_made a (Edit bytes) fault why e = plain a a (Edit bytes) _ refl refl
    (λ v g nf. absurd (refused a (Edit bytes) v fault e g)) (inr refl) (inr refl)
refuses_made a (Save k) fault why e = plain a a (Save k) _ refl refl
    (λ v g nf. absurd (refused a (Save k) v fault e g)) (inr refl) (inr refl)
refuses_made a HandsOff fault why e = plain a a HandsOff _ refl refl
    (λ v g nf. absurd (refused a HandsOff v fault e g)) (inr refl) (inr refl)
refuses_made a (SaveCompleted k storage) fault why e = plain a a (SaveCompleted k storage) _ refl refl
    (λ v g nf. absurd (refused a (SaveCompleted k storage) v fault e g)) (inr refl) (inr refl)
refuses_made a (SaveDropped k) fault why e = plain a a (SaveDropped k) _ refl refl
    (λ v g nf. absurd (refused a (SaveDropped k) v fault e g)) (inr refl) (inr refl)
refuses_made a (Close option) fault why e = plain a a (Close option) _ refl refl
    (λ v g nf. absurd (refused a (Close option) v fault e g)) (inr refl) (inr refl)

-- the tables take the operation, whose content the activation has
module _ (a : Activation) (c : Content) (v : States) (open_by : a.content ≡ Some c) where
  edits_made : (bytes : List ℕ) (r : Result Content EmbedFault) → both.step a.states (op_of (Edit bytes)) ≡ Ok v
      → IsMade a (Edit bytes) (edits a v r)
  edits_made bytes (Ok d) e = plain a (record a { states = v; content = Some d }) (Edit bytes) _ refl refl
      (λ w g nf. ((d, refl), record { states = e; grant = refl })) (inr refl) (inr refl)
  edits_made bytes (Err fault) e = plain a (record a { states = v }) (Edit bytes) _ refl refl
      (λ w g nf. record {
        opened = (c, open_by);
        states = edit_states a.states a.states.persist.state
            a.states.object v refl refl e;
        grant = refl;
      }) (inr refl) (inr refl)

  closes_made : (option : CloseOption) → both.step a.states (op_of (Close option)) ≡ Ok v
      → IsMade a (Close option) (closes a v c option)
  closes_made SaveIfDirty e = plain a (record a { states = v; content = None }) (Close SaveIfDirty) _ refl refl
      (λ w g nf. (refl, record { states = e; grant = refl })) (inr refl) (inr refl)
  closes_made NoSave e = plain a (record a { states = v; content = None }) (Close NoSave) _ refl refl
      (λ w g nf. (refl, record { states = e; grant = refl })) (inr refl) (inr refl)

  counts_made : (k : ℕ) (storage : Bool) (saved : Option Stored) → a.saved ≡ saved
      → both.step a.states (op_of (SaveCompleted k storage)) ≡ Ok v
      → IsMade a (SaveCompleted k storage) (counts a k (answers (record a { states = v; s = a.s + 1 }) told.Done) saved)
  counts_made k storage None e f = plain a (record a { states = v; s = a.s + 1 }) (SaveCompleted k storage)
      told.Done refl refl (λ w g nf. ((c, open_by), record { states = f; grant = refl })) (inr refl) (inr refl)
  counts_made k storage (Some d) e f = record {
    makes = record {
      last = refl;
      reply = refl;
      did = λ w g nf. ((c, open_by), record { states = f; grant = refl });
      saved = inr refl;
      grant = inr refl;
      counts = λ w g. (let q : record { act = a.act; k = k; content = d } ≡ w = cc in
          (storage, ap (λ (x : Counted). SaveCompleted x.k storage) q, e ∙ ap (λ (x : Counted). Some x.content) q));
    };
    act = refl;
    of = λ w g. (let q : record { act = a.act; k = k; content = d } ≡ w = cc in ap (λ (x : Counted). x.act) (sym q));
  }

  does_made : (op : Operation) → both.step a.states (op_of op) ≡ Ok v → IsMade a op (does a c v op)
  does_made (InitNew class) e = plain a (record a { states = v }) (InitNew class) _ refl refl
      (λ w g nf. absurd (nf tt)) (inr refl) (inr refl)
  does_made (Load class content) e = plain a (record a { states = v }) (Load class content) _ refl refl
      (λ w g nf. absurd (nf tt)) (inr refl) (inr refl)
  does_made InPlace e = plain a (record a { states = v }) InPlace _ refl refl
      (λ w g nf. ((c, open_by), record { states = e; grant = refl })) (inr refl) (inr refl)
  does_made (UiActivate g) e = plain a (record a { states = v; g = Some g }) (UiActivate g) _ refl refl
      (λ w h nf. (((c, open_by), record { states = e; grant = refl }), refl)) (inr refl) (inl tt)
  does_made UiDeactivate e = plain a (record a { states = v; g = None }) UiDeactivate _ refl refl
      (λ w h nf. (((c, open_by), record { states = e; grant = refl }), refl)) (inr refl) (inl tt)
  does_made InPlaceDeactivate e = plain a (record a { states = v }) InPlaceDeactivate _ refl refl
      (λ w g nf. ((c, open_by), record { states = e; grant = refl })) (inr refl) (inr refl)
  does_made OpenWindow e = plain a (record a { states = v }) OpenWindow _ refl refl
      (λ w g nf. ((c, open_by), record { states = e; grant = refl })) (inr refl) (inr refl)
  does_made (Edit bytes) e = edits_made bytes (object.edit c bytes) e
  does_made (Save k) e = plain a (record a { states = v; saved = Some (stored_of c) }) (Save k) _ refl refl
      (λ w g nf. (((c, open_by), record { states = e; grant = refl }), refl)) (inl (k, refl)) (inr refl)
  does_made HandsOff e = plain a (record a { states = v }) HandsOff _ refl refl
      (λ w g nf. ((c, open_by), record { states = e; grant = refl })) (inr refl) (inr refl)
  does_made (SaveCompleted k storage) e = counts_made k storage a.saved refl e
  does_made (SaveDropped k) e = plain a (record a { states = v; s = a.s + 1 }) (SaveDropped k) _ refl refl
      (λ w g nf. ((c, open_by), record { states = e; grant = refl })) (inr refl) (inr refl)
  does_made (Close option) e = closes_made option e

acted_made : (a : Activation) (c : Content) (op : Operation) (r : Result States StateFault) → a.content ≡ Some c
    → both.step a.states (op_of op) ≡ r → IsMade a op (acted a c op r)
acted_made a c op (Err fault) o e = refuses_made a op fault (of_state fault) e
acted_made a c op (Ok v) o e = does_made a c v o op e

-- What a call that is taken does: one activation changed, and how.
pub record IsTaken (is : List Instance) (inc act m : ℕ) (op : Operation) (i : Instance) (told : Served) : Type 0 where
  pub after : Activation
  pub changed : IsChanged (acts_of is) (acts_of (set_nth is inc (record i { core = told.server }))) inc act after
  pub how : ActsOn (acts_of is) inc act m op after told.answer told.counted
  pub of : (v : Counted) → told.counted ≡ Some v → v.act ≡ act

module _ (is : List Instance) (session inc act m : ℕ) (op : Operation) (i : Instance) (at : nth is inc ≡ Some i) where
  -- one activation of the instance changed
  changes : (v : Server) (b : Activation)
      → ((x : ℕ) → find (is_act x) v.acts ≡ (if act == x then Some b else find (is_act x) i.core.acts))
      → IsChanged (acts_of is) (acts_of (set_nth is inc (record i { core = v }))) inc act b
  changes v b f = record {
    here = ap (act_at act) (nth_same is inc i (record i { core = v }) at) ∙ (f act ∙ rw (eq-eqb act act refl) refl);
    others = λ k x ne. elim (eqb_tells k inc) [
      | inl s ↦ (let nx : (act == x) ≡ false = ne_eqb act x (λ q. ne s.1 (sym q)) in
          ap (act_at x) (ap (nth (set_nth is inc (record i { core = v }))) s.1
          ∙ nth_same is inc i (record i { core = v }) at)
          ∙ ((f x ∙ rw nx refl) ∙ sym (ap (act_at x) (ap (nth is) s.1 ∙ at))))
      | inr s ↦ ap (act_at x) (nth_other is inc k (record i { core = v }) s.1)
    ];
  }

  known : (a : Activation) (r : Result Acted ServerFault) (told : Served) → find (is_act act) i.core.acts ≡ Some a
      → known_call a m op ≡ r → after_known i.core act r ≡ Ok told → IsTaken is inc act m op i told
  known a (Err fault) told f k e = cc
  known a (Ok b) told f k e =
      let made : Served = record {
        server = record i.core { acts = put (is_act act) b.activation i.core.acts };
        answer = b.answer;
        counted = b.counted;
        used = false;
      } in
      let isd : made ≡ told = cc in
      let here : acts_of is inc act ≡ Some a = ap (act_at act) at ∙ f in
      let aa : a.act ≡ act = eqb-true a.act act (find_passes (is_act act) i.core.acts a f) in
      let h = how_of here aa (nat_eq m a.last) refl k in
      subst (IsTaken is inc act m op i) isd (record {
        after = b.activation;
        changed = changes (record i.core { acts = put (is_act act) b.activation i.core.acts }) b.activation
            (λ x. find_act_put i.core.acts act x a b.activation f h.1);
        how = h.0;
        of = h.2;
      })
    where
      how_of : acts_of is inc act ≡ Some a → a.act ≡ act → (t : Bool) → nat_eq m a.last ≡ t
          → cond t (Ok (record { activation = a; answer = a.reply; counted = None }))
          (cond (nat_eq m (a.last + 1)) (next_call a op a.content) (Err Ignored)) ≡ Ok b
          → ActsOn (acts_of is) inc act m op b.activation b.answer b.counted × (b.activation.act ≡ act)
          × ((v : Counted) → b.counted ≡ Some v → v.act ≡ act)
      how_of here aa true t g =
          let q : record { activation = a; answer = a.reply; counted = None } ≡ b = cc in
          subst (λ (y : Acted). ActsOn (acts_of is) inc act m op y.activation y.answer y.counted
          × (y.activation.act ≡ act) × ((v : Counted) → y.counted ≡ Some v → v.act ≡ act)) q
          (again here (eqb-true m a.last t) refl refl, aa, (λ v z. cc))
      how_of here aa false t g = next_of (nat_eq m (a.last + 1)) refl g
        where
          next_of : (u : Bool) → nat_eq m (a.last + 1) ≡ u → cond u (next_call a op a.content) (Err Ignored) ≡ Ok b
              → ActsOn (acts_of is) inc act m op b.activation b.answer b.counted × (b.activation.act ≡ act)
              × ((v : Counted) → b.counted ≡ Some v → v.act ≡ act)
          next_of false u g = cc
          next_of true u g = open_of a.content refl g
            where
              open_of : (c : Option Content) → a.content ≡ c → next_call a op c ≡ Ok b
                  → ActsOn (acts_of is) inc act m op b.activation b.answer b.counted × (b.activation.act ≡ act)
                  × ((v : Counted) → b.counted ≡ Some v → v.act ≡ act)
              open_of None q g = cc
              open_of (Some c) q g =
                  let y = acted_made a c op (both.step a.states (op_of op)) q refl in
                  let z : acted a c op (both.step a.states (op_of op)) ≡ b = cc in
                  let mb : IsMade a op b = subst (IsMade a op) z y in
                  (next a here (eqb-true m (a.last + 1) u) (c, q) mb.makes, mb.act ∙ aa, (λ v e. mb.of v e ∙ aa))

  -- a first call
  first_op : (class : List ℕ) (o : Operation) → begun_class m o ≡ Some class → (m ≡ 1)
      × ((o ≡ InitNew class) ⊎ ((content : Stored) × (o ≡ Load class content)))
  first_op class (InitNew c) e = at_one (nat_eq m 1) refl e
    where
      at_one : (t : Bool) → nat_eq m 1 ≡ t → cond t (Some c) None ≡ Some class → (m ≡ 1)
          × ((InitNew c ≡ InitNew class) ⊎ ((content : Stored) × (InitNew c ≡ Load class content)))
      at_one true t g = (eqb-true m 1 t, inl (let q : c ≡ class = cc in ap InitNew q))
      at_one false t g = cc
  first_op class (Load c content) e = at_one (nat_eq m 1) refl e
    where
      at_one : (t : Bool) → nat_eq m 1 ≡ t → cond t (Some c) None ≡ Some class → (m ≡ 1)
          × ((Load c content ≡ InitNew class) ⊎ ((d : Stored) × (Load c content ≡ Load class d)))
      at_one true t g = (eqb-true m 1 t, inr (content, (let q : c ≡ class = cc in ap (λ x. Load x content) q)))
      at_one false t g = cc
  first_op class InPlace e = cc
  first_op class (UiActivate g) e = cc
  first_op class UiDeactivate e = cc
  first_op class InPlaceDeactivate e = cc
  first_op class OpenWindow e = cc
  first_op class (Edit bytes) e = cc
  first_op class (Save k) e = cc
  first_op class HandsOff e = cc
  first_op class (SaveCompleted k storage) e = cc
  first_op class (SaveDropped k) e = cc
  first_op class (Close option) e = cc

  -- what a first call made
  record Begun (o : Operation) (after : Activation) (r : Answer) : Type 0 where
    pub is_first : IsFirst o
    pub last : after.last ≡ 1
    pub reply : after.reply ≡ r
    pub did : Did both.loaded 0 o after r
    pub grant : after.g ≡ None

  begins_init : (class : List ℕ) (r : Result Content EmbedFault)
      → Begun (InitNew class) (begins act class (InitNew class) r).activation
      (begins act class (InitNew class) r).answer
  begins_init class (Err fault) = record { is_first = tt; last = refl; reply = refl; did = refl; grant = refl }
  begins_init class (Ok c) = record {
    is_first = tt;
    last = refl;
    reply = refl;
    did = ((c, refl), record { states = refl; grant = refl });
    grant = refl;
  }

  begins_load : (class : List ℕ) (content : Stored) (r : Result Content EmbedFault)
      → Begun (Load class content) (begins act class (Load class content) r).activation
      (begins act class (Load class content) r).answer
  begins_load class content (Err fault) = record { is_first = tt; last = refl; reply = refl; did = refl; grant = refl }
  begins_load class content (Ok c) = record {
    is_first = tt;
    last = refl;
    reply = refl;
    did = ((c, refl), record { states = refl; grant = refl });
    grant = refl;
  }

  begins_act : (class : List ℕ) (o : Operation) (r : Result Content EmbedFault)
      → ((begins act class o r).activation.act ≡ act) × ((begins act class o r).counted ≡ None)
  begins_act class o (Err fault) = (refl, refl)
  begins_act class o (Ok c) = (refl, refl)

  begun_as : (class : List ℕ) (r : Result Content EmbedFault)
      → ((op ≡ InitNew class) ⊎ ((content : Stored) × (op ≡ Load class content)))
      → Begun op (begins act class op r).activation (begins act class op r).answer
  begun_as class r (inl e) = subst (λ o. Begun o (begins act class o r).activation (begins act class o r).answer)
      (sym e) (begins_init class r)
  begun_as class r (inr e) = subst (λ o. Begun o (begins act class o r).activation (begins act class o r).answer)
      (sym e.1) (begins_load class e.0 r)

  added : (class : List ℕ) (r : Result Content EmbedFault) (told : Served) → find (is_act act) i.core.acts ≡ None
      → begun_class m op ≡ Some class → after_begun i.core (begins act class op r) ≡ Ok told
      → IsTaken is inc act m op i told
  added class r told f bc e =
      let b = begins act class op r in
      let made : Served = record {
        server = record i.core { acts = i.core.acts ++ b.activation ∷ [] };
        answer = b.answer;
        counted = None;
        used = true;
      } in
      let isd : made ≡ told = cc in
      let o = first_op class op bc in
      let ba = begins_act class op r in
      let g = begun_as class r o.1 in
      subst (IsTaken is inc act m op i) isd (record {
        after = b.activation;
        changed = changes (record i.core { acts = i.core.acts ++ b.activation ∷ [] }) b.activation
            (λ x. find_act_more i.core.acts act x b.activation f ba.0);
        how = makes (ap (act_at act) at ∙ f) o.0 g.is_first g.last g.reply g.did refl g.grant;
        of = λ v z. cc;
      })

  unknown : (box : Option Kind) (class : Option (List ℕ)) (told : Served) → find (is_act act) i.core.acts ≡ None
      → begun_class m op ≡ class → unknown_call i.core act op box class ≡ Ok told → IsTaken is inc act m op i told
  unknown box None told f bc e = cc
  unknown box (Some class) told f bc e = room (nat_le i.core.numbers (length i.core.acts)) box e
    where
      room : (t : Bool) (b : Option Kind) → cond t (Err NumbersSpent) (offered i.core act class op b) ≡ Ok told
          → IsTaken is inc act m op i told
      room true b g = cc
      room false None g = cc
      room false (Some kind) g = kind_of (is_class kind class) g
        where
          kind_of : (u : Bool) → cond u (after_begun i.core (begins act class op (begun_content kind op)))
              (Err WrongClass) ≡ Ok told → IsTaken is inc act m op i told
          kind_of true h = added class (begun_content kind op) told f bc h
          kind_of false h = cc

  called_taken : (box : Option Kind) (a : Option Activation) (told : Served) → find (is_act act) i.core.acts ≡ a
      → called i.core act m op box a ≡ Ok told → IsTaken is inc act m op i told
  called_taken box None told f e = unknown box (begun_class m op) told f refl e
  called_taken box (Some a) told f e = known a (known_call a m op) told f refl e

  pub call_taken : (box : Option Kind) (told : Served) → on_call i.core (in_session session (Call inc act m op)) box
      ≡ Ok told → IsTaken is inc act m op i told
  call_taken box told e = mine (is_for i.core session inc) e
    where
      mine : (t : Bool) → cond t (called i.core act m op box (find (is_act act) i.core.acts)) (Err WrongIncarnation)
          ≡ Ok told → IsTaken is inc act m op i told
      mine true g = called_taken box (find (is_act act) i.core.acts) told refl g
      mine false g = cc
