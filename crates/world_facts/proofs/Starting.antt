-- A server starts or ends: each fact stays.
use Rattle.std.proofs.Common.{◌≡◌, ◌≤◌, ◌+◌, ℕ, List, Some, sym, ◌∙◌, inl, inr, subst}
use Rattle.message_values.specs.declared.message.Said.{Said}
use Rattle.container_model.specs.declared.answer.Done.{Done}
use Rattle.world_model.specs.declared.logs.ServerDone.{ServerDone}
use Rattle.world_facts.specs.Words.{Links, Acts, Lives, IsClosed}
use Rattle.world_facts.specs.Facts.{InStep, last_acted, HasSaved, Facts}
use Rattle.world_facts.specs.Shapes.{StartsOrEnds}

module _ {hostile : List ℕ} (links : Links) (acts after : Acts) (lives now : Lives) (sent : List Said)
    (owners : List ℕ) (last : ℕ) (counted : List Done) (served : List ServerDone)
    (h : StartsOrEnds acts after lives now) (f : Facts hostile links acts lives sent owners last counted served) where
  pub started : Facts hostile links after now sent owners last counted served
  started = record {
    drawn = record {
      many = f.drawn.many;
      acts_drawn = λ inc act a e. f.drawn.acts_drawn inc act a (sym (h.same inc act) ∙ e);
      acts_called = λ inc act a e. f.drawn.acts_called inc act a (sym (h.same inc act) ∙ e);
      calls_drawn = f.drawn.calls_drawn;
      calls_named = f.drawn.calls_named;
      servers_told = λ o l e. (let p = f.drawn.servers_told o l e in h.there l.inc p.0 p.1);
      calls_told = λ inc act n op g. (let p = f.drawn.calls_told inc act n op g in h.there inc p.0 p.1);
    };
    calls = f.calls;
    in_step = λ o l e honest. subst (InStep l) (sym (h.same l.inc l.act)) (f.in_step o l e honest);
    one_ahead = λ inc act n op honest g. subst (λ x. n ≤ last_acted x + 1) (sym (h.same inc act))
        (f.one_ahead inc act n op honest g);
    unlinked = record {
      called = λ inc act n op honest lv g. (let p = f.drawn.calls_told inc act n op g in
          elim (f.unlinked.called inc act n op honest (h.runs inc p.0 p.1 lv) g) [
            | inl x ↦ inl x
            | inr c ↦
                inr (subst IsClosed (sym (h.same inc act)) c)
          ]);
      known = λ inc act a honest lv e. (let was : acts inc act ≡ Some a = sym (h.same inc act) ∙ e in
          let p = h.hosted inc act a was in
          f.unlinked.known inc act a honest (h.runs inc p.0 p.1 lv) was);
    };
    replies = record {
      reply_numbered = λ inc act a e. f.replies.reply_numbered inc act a (sym (h.same inc act) ∙ e);
      replies_kept = λ inc act n r g. (let k = f.replies.replies_kept inc act n r g in
          (k.0, h.same inc act ∙ k.1, k.2, k.3));
      one_reply = f.replies.one_reply;
    };
    saved_same = λ o l c e honest g. subst (HasSaved c) (sym (h.same l.inc l.act)) (f.saved_same o l c e honest g);
    counts = record {
      completed_counted = f.counts.completed_counted;
      completed_once = f.counts.completed_once;
      completed_content = λ inc act n k o s a i honest e. f.counts.completed_content inc act n k o s a i honest
          (sym (h.same inc act) ∙ e);
      server_called = λ e g. (let c = f.counts.server_called e g in
          (c.0, c.1, c.2, c.3, c.4, c.5, h.same e.inc c.0 ∙ c.6, c.7));
      server_once = f.counts.server_once;
      server_counted = f.counts.server_counted;
    };
  }
