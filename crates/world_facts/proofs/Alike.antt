-- Activations that differ in their contents alone, and in the last content that was written: each fact stays.
use Rattle.std.proofs.Common.{◌≡◌, ◌<◌, ◌≤◌, ◌+◌, ℕ, List, Option, Some, None, Ok, refl, sym, ap, ◌∙◌, inl, inr, subst}
use Rattle.message_values.specs.declared.message.Said.{Said}
use Rattle.message_values.specs.declared.message.Said.TheVariants.{Reply}
use Rattle.message_values.specs.declared.operation.Operation.{Operation}
use Rattle.message_values.specs.declared.operation.Operation.TheVariants.{InitNew, Load, InPlace, UiActivate}
use Rattle.message_values.specs.declared.operation.Operation.TheVariants.{UiDeactivate, InPlaceDeactivate, OpenWindow}
use Rattle.message_values.specs.declared.operation.Operation.TheVariants.{Edit, Save, HandsOff, SaveCompleted}
use Rattle.message_values.specs.declared.operation.Operation.TheVariants.{SaveDropped, Close}
use Rattle.message_values.specs.declared.answer.Answer.{Answer}
use Rattle.message_values.specs.declared.answer.Answer.TheVariants as told
use Rattle.object_state.specs.declared.both_states.States.{States}
use Rattle.object_state.specs.declared.operations.CloseOption.TheVariants.{SaveIfDirty, NoSave}
use Rattle.tree_streams.specs.declared.stored.Stored.{Stored}
use Rattle.server_model.specs.Server.{Activation}
use Rattle.container_model.specs.declared.record.Link.{Link}
use Rattle.container_model.specs.declared.answer.Done.{Done}
use Rattle.world_model.specs.declared.logs.ServerDone.{ServerDone}
use Rattle.world_model.specs.Safe.{Among}
use Rattle.world_facts.specs.Words.{Links, Acts, Lives, IsClosed}
use Rattle.world_facts.specs.Facts.{IsEven, HasStepped, HasDone, Did, InStep, not_begun, level, behind, ahead}
use Rattle.world_facts.specs.Facts.{last_acted, HasSaved, Facts}
use Rattle.world_facts.specs.Shapes.{IsAlike, Alike}

-- the other one, where one is there
pub before_of : (x : Option Activation) (b : Activation) → Alike x (Some b) → (a : Activation) × (x ≡ Some a)
    × IsAlike a b
before_of None b h = absurd h
before_of (Some a) b h = (a, refl, h)

after_of : (a : Activation) (y : Option Activation) → Alike (Some a) y → (b : Activation) × (y ≡ Some b) × IsAlike a b
after_of a None h = absurd h
after_of a (Some b) h = (b, refl, h)

module _ (v : States) (s : ℕ) (a b : Activation) (k : IsAlike a b) where
  even_alike : IsEven v s a → IsEven v s b
  even_alike e = record { opened = k.opened e.opened; states = k.states ∙ e.states; grant = k.s ∙ e.grant }

  stepped_alike : (op : Operation) → HasStepped v s op a → HasStepped v s op b
  stepped_alike op d = record { states = d.states ∙ ap Ok (sym k.states); grant = k.s ∙ d.grant }

  done_alike : (op : Operation) → HasDone v s op a → HasDone v s op b
  done_alike op d = (k.opened d.0, stepped_alike op d.1)

  did_alike : (op : Operation) (r : Answer) → Did v s op a r → Did v s op b r
  did_alike (InitNew class) told.Done h = done_alike (InitNew class) h
  did_alike (InitNew class) (told.Refused why) h = k.closed h
  did_alike (InitNew class) (told.Content c) h = absurd h
  did_alike (InitNew class) (told.Tools x y) h = absurd h
  did_alike (Load class content) told.Done h = done_alike (Load class content) h
  did_alike (Load class content) (told.Refused why) h = k.closed h
  did_alike (Load class content) (told.Content c) h = absurd h
  did_alike (Load class content) (told.Tools x y) h = absurd h
  did_alike (Edit bytes) told.Done h = done_alike (Edit bytes) h
  did_alike (Edit bytes) (told.Refused why) h = even_alike h
  did_alike (Edit bytes) (told.Content c) h = absurd h
  did_alike (Edit bytes) (told.Tools x y) h = absurd h
  did_alike (Save n) told.Done h = absurd h
  did_alike (Save n) (told.Refused why) h = absurd h
  did_alike (Save n) (told.Content c) h = (done_alike (Save n) h.0, k.saved ∙ h.1)
  did_alike (Save n) (told.Tools x y) h = absurd h
  did_alike InPlace told.Done h = done_alike InPlace h
  did_alike InPlace (told.Refused why) h = absurd h
  did_alike InPlace (told.Content c) h = absurd h
  did_alike InPlace (told.Tools x y) h = absurd h
  did_alike (UiActivate n) told.Done h = absurd h
  did_alike (UiActivate n) (told.Refused why) h = absurd h
  did_alike (UiActivate n) (told.Content c) h = absurd h
  did_alike (UiActivate n) (told.Tools x y) h = (done_alike (UiActivate n) h.0, k.g ∙ h.1)
  did_alike UiDeactivate told.Done h = (done_alike UiDeactivate h.0, k.g ∙ h.1)
  did_alike UiDeactivate (told.Refused why) h = absurd h
  did_alike UiDeactivate (told.Content c) h = absurd h
  did_alike UiDeactivate (told.Tools x y) h = absurd h
  did_alike InPlaceDeactivate told.Done h = done_alike InPlaceDeactivate h
  did_alike InPlaceDeactivate (told.Refused why) h = absurd h
  did_alike InPlaceDeactivate (told.Content c) h = absurd h
  did_alike InPlaceDeactivate (told.Tools x y) h = absurd h
  did_alike OpenWindow told.Done h = done_alike OpenWindow h
  did_alike OpenWindow (told.Refused why) h = absurd h
  did_alike OpenWindow (told.Content c) h = absurd h
  did_alike OpenWindow (told.Tools x y) h = absurd h
  did_alike HandsOff told.Done h = done_alike HandsOff h
  did_alike HandsOff (told.Refused why) h = absurd h
  did_alike HandsOff (told.Content c) h = absurd h
  did_alike HandsOff (told.Tools x y) h = absurd h
  did_alike (SaveCompleted n storage) told.Done h = done_alike (SaveCompleted n storage) h
  did_alike (SaveCompleted n storage) (told.Refused why) h = absurd h
  did_alike (SaveCompleted n storage) (told.Content c) h = absurd h
  did_alike (SaveCompleted n storage) (told.Tools x y) h = absurd h
  did_alike (SaveDropped n) told.Done h = done_alike (SaveDropped n) h
  did_alike (SaveDropped n) (told.Refused why) h = absurd h
  did_alike (SaveDropped n) (told.Content c) h = absurd h
  did_alike (SaveDropped n) (told.Tools x y) h = absurd h
  did_alike (Close SaveIfDirty) told.Done h = absurd h
  did_alike (Close SaveIfDirty) (told.Refused why) h = absurd h
  did_alike (Close SaveIfDirty) (told.Content c) h = (k.closed h.0, stepped_alike (Close SaveIfDirty) h.1)
  did_alike (Close SaveIfDirty) (told.Tools x y) h = absurd h
  did_alike (Close NoSave) told.Done h = (k.closed h.0, stepped_alike (Close NoSave) h.1)
  did_alike (Close NoSave) (told.Refused why) h = absurd h
  did_alike (Close NoSave) (told.Content c) h = absurd h
  did_alike (Close NoSave) (told.Tools x y) h = absurd h

step_alike : (l : Link) (x y : Option Activation) → Alike x y → InStep l x → InStep l y
step_alike l _ None k (not_begun op one v s p) = not_begun op one v s p
step_alike l _ (Some b) k (not_begun op one v s p) = absurd k
step_alike l _ None k (level a p n v) = absurd k
step_alike l _ (Some b) k (level a p n v) = level b p (k.last ∙ n) (even_alike l.states l.s a b k v)
step_alike l _ None k (behind a op p n v) = absurd k
step_alike l _ (Some b) k (behind a op p n v) = behind b op p (ap (λ m. m + 1) k.last ∙ n)
    (even_alike l.states l.s a b k v)
step_alike l _ None k (ahead a op p n d) = absurd k
step_alike l _ (Some b) k (ahead a op p n d) = ahead b op p (k.last ∙ n)
    (subst (Did l.states l.s op b) (sym k.reply) (did_alike l.states l.s a b k op a.reply d))

last_alike : (x y : Option Activation) → Alike x y → last_acted y ≡ last_acted x
last_alike None None k = refl
last_alike None (Some b) k = absurd k
last_alike (Some a) None k = absurd k
last_alike (Some a) (Some b) k = k.last

saved_alike : (c : Stored) (x y : Option Activation) → Alike x y → HasSaved c x → HasSaved c y
saved_alike c None y k h = absurd h
saved_alike c (Some a) None k h = absurd k
saved_alike c (Some a) (Some b) k h = k.saved ∙ h

closed_alike : (x y : Option Activation) → Alike x y → IsClosed x → IsClosed y
closed_alike None y k h = absurd h
closed_alike (Some a) None k h = absurd k
closed_alike (Some a) (Some b) k h = k.closed h

module _ {hostile : List ℕ} (links : Links) (acts after : Acts) (lives now : Lives) (sent : List Said)
    (owners : List ℕ) (last : ℕ) (counted : List Done) (served : List ServerDone)
    (same : (inc act : ℕ) → Alike (acts inc act) (after inc act)) (still : (inc : ℕ) → now inc ≡ lives inc)
    (f : Facts hostile links acts lives sent owners last counted served) where
  was : (inc act : ℕ) (b : Activation) → after inc act ≡ Some b → (a : Activation) × (acts inc act ≡ Some a)
      × IsAlike a b
  was inc act b e = before_of (acts inc act) b (subst (Alike (acts inc act)) e (same inc act))

  is : (inc act : ℕ) (a : Activation) → acts inc act ≡ Some a → (b : Activation) × (after inc act ≡ Some b)
      × IsAlike a b
  is inc act a e = after_of a (after inc act) (subst (λ x. Alike x (after inc act)) e (same inc act))

  pub facts_alike : Facts hostile links after now sent owners last counted served
  facts_alike = record {
    drawn = record {
      many = f.drawn.many;
      acts_drawn = λ inc act b e. (let p = was inc act b e in f.drawn.acts_drawn inc act p.0 p.1);
      acts_called = λ inc act b e. (let p = was inc act b e in let k = p.2 in
          subst (λ n. 1 ≤ n) (sym k.last) (f.drawn.acts_called inc act p.0 p.1));
      calls_drawn = f.drawn.calls_drawn;
      calls_named = f.drawn.calls_named;
      servers_told = λ o l e. (let p = f.drawn.servers_told o l e in (p.0, still l.inc ∙ p.1));
      calls_told = λ inc act n op g. (let p = f.drawn.calls_told inc act n op g in (p.0, still inc ∙ p.1));
    };
    calls = f.calls;
    in_step = λ o l e honest. step_alike l (acts l.inc l.act) (after l.inc l.act) (same l.inc l.act)
        (f.in_step o l e honest);
    one_ahead = λ inc act n op honest g. subst (λ m. n ≤ m + 1)
        (sym (last_alike (acts inc act) (after inc act) (same inc act))) (f.one_ahead inc act n op honest g);
    unlinked = record {
      called = λ inc act n op honest lv g. elim (f.unlinked.called inc act n op honest (sym (still inc) ∙ lv) g) [
        | inl k ↦ inl k
        | inr c ↦ inr (closed_alike (acts inc act) (after inc act) (same inc act) c)
      ];
      known = λ inc act b honest lv e. (let p = was inc act b e in let k = p.2 in
          elim (f.unlinked.known inc act p.0 honest (sym (still inc) ∙ lv) p.1) [
            | inl x ↦ inl x
            | inr c ↦
                inr (k.closed c)
          ]);
    };
    replies = record {
      reply_numbered = λ inc act b e. (let p = was inc act b e in let k = p.2 in
          subst (λ r. Among sent (Reply inc act b.last r)) (sym k.reply)
          (subst (λ n. Among sent (Reply inc act n p.0.reply)) (sym k.last)
          (f.replies.reply_numbered inc act p.0 p.1)));
      replies_kept = λ inc act n r g. (let c = f.replies.replies_kept inc act n r g in
          let p = is inc act c.0 c.1 in let k = p.2 in
          (p.0, p.1, subst (λ m. n ≤ m) (sym k.last) c.2, (λ z. c.3 (z ∙ k.last) ∙ sym k.reply)));
      one_reply = f.replies.one_reply;
    };
    saved_same = λ o l c e honest g. saved_alike c (acts l.inc l.act) (after l.inc l.act) (same l.inc l.act)
        (f.saved_same o l c e honest g);
    counts = record {
      completed_counted = f.counts.completed_counted;
      completed_once = f.counts.completed_once;
      completed_content = λ inc act n k o s b i honest e opened lt q. (let p = was inc act b e in let m = p.2 in
          let c = f.counts.completed_content inc act n k o s p.0 i honest p.1 (m.was_open opened)
          (subst (λ x. x < n) m.last lt) q in
          (c.0, m.saved ∙ c.1, c.2));
      server_called = λ e g. (let c = f.counts.server_called e g in
          let p = is e.inc c.0 c.3 c.6 in let m = p.2 in
          (c.0, c.1, c.2, p.0, c.4, c.5, p.1, subst (λ x. c.1 ≤ x) (sym m.last) c.7));
      server_once = f.counts.server_once;
      server_counted = f.counts.server_counted;
    };
  }
