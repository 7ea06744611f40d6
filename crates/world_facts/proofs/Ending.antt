-- Links go whose activation is closed, or whose server doesn't run or is hostile: each fact stays.
use Rattle.std.proofs.Common.{◌≡◌, ◌⊎◌, ℕ, true, false, List, Some, None, sym, ap, ◌∙◌, inl, inr, subst}
use Rattle.message_values.specs.declared.message.Said.{Said}
use Rattle.server_model.specs.Server.{Activation}
use Rattle.container_model.specs.declared.record.Link.{Link}
use Rattle.world_model.specs.declared.life.Life.TheVariants.{Running}
use Rattle.container_model.specs.declared.answer.Done.{Done}
use Rattle.world_model.specs.declared.logs.ServerDone.{ServerDone}
use Rattle.world_model.specs.Safe.{is_hostile}
use Rattle.world_facts.specs.Words.{Links, Acts, Lives, IsHonest, IsLinked, IsClosed, called, waits}
use Rattle.world_facts.specs.Facts.{Facts}
use Rattle.world_facts.specs.Shapes.{MayGo, is_closed, is_over, of_hostile, EndsSome}
use Rattle.world_facts.proofs.Issuing.{NoMoreEnds, counts_kept}

module _ {hostile : List ℕ} (links after : Links) (acts : Acts) (lives : Lives) (sent : List Said) (owners : List ℕ)
    (last : ℕ) (counted : List Done) (served : List ServerDone)
    (h : EndsSome hostile links after acts lives)
    (f : Facts hostile links acts lives sent owners last counted served) where
  old : (k : ℕ) (l : Link) → after k ≡ Some l → links k ≡ Some l
  old k l e = elim (h.each k) [ inl s ↦ sym s ∙ e | inr g ↦ absurd (let z : None ≡ Some l = sym g.0 ∙ e in cc) ]

  -- a linked activation of an honest server that runs is linked still, or closed
  linked : (inc act : ℕ) → IsHonest hostile inc → lives inc ≡ Some Running → IsLinked links inc act
      → IsLinked after inc act ⊎ IsClosed (acts inc act)
  linked inc act honest lv g = elim (h.each g.0) [
    | inl s ↦ inl (g.0, g.1, s ∙ g.2, g.3, g.4)
    | inr e ↦
        inr (gone (e.1 g.1 g.2))
  ]
    where
      gone : MayGo hostile acts lives g.1 → IsClosed (acts inc act)
      gone (is_closed c) = subst (λ x. IsClosed (acts inc x)) g.4 (subst (λ x. IsClosed (acts x g.1.act)) g.3 c)
      gone (is_over n) = absurd (n (ap lives g.3 ∙ lv))
      gone (of_hostile e) = absurd (let z : true ≡ false = sym e ∙ (ap (is_hostile hostile) g.3 ∙ honest) in cc)

  closed : (inc act : ℕ) (a : Activation) → acts inc act ≡ Some a → IsClosed (acts inc act) → a.content ≡ None
  closed inc act a e c = subst IsClosed e c

  ends_back : NoMoreEnds links after sent sent
  ends_back inc act n k s (called g) = called g
  ends_back inc act n k s (waits x l i e ei ea at en) = waits x l i (old x l e) ei ea at en

  pub some_ended : Facts hostile after acts lives sent owners last counted served
  some_ended = record {
    drawn = record {
      many = f.drawn.many;
      acts_drawn = f.drawn.acts_drawn;
      acts_called = f.drawn.acts_called;
      calls_drawn = f.drawn.calls_drawn;
      calls_named = λ k l e. f.drawn.calls_named k l (old k l e);
      servers_told = λ k l e. f.drawn.servers_told k l (old k l e);
      calls_told = f.drawn.calls_told;
    };
    calls = record {
      bounded = λ k inc n op l e. f.calls.bounded k inc n op l (old k l e);
      pending = λ k inc op asked l e. f.calls.pending k inc op asked l (old k l e);
    };
    in_step = λ k l e. f.in_step k l (old k l e);
    one_ahead = f.one_ahead;
    unlinked = record {
      called = λ inc act n op honest lv g. elim (f.unlinked.called inc act n op honest lv g) [
        | inl x ↦
            linked inc act honest lv x
        | inr x ↦ inr x
      ];
      known = λ inc act a honest lv e. elim (f.unlinked.known inc act a honest lv e) [
        | inl x ↦ elim (linked inc act honest lv x) [ inl y ↦ inl y | inr y ↦ inr (closed inc act a e y) ]
        | inr x ↦ inr x
      ];
    };
    replies = f.replies;
    saved_same = λ k l c e. f.saved_same k l c (old k l e);
    counts = counts_kept links after acts sent sent owners counted served ends_back (λ m g. g) f.counts;
  }
