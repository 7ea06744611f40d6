-- What lists of shapes keep: the facts, and what senders saw, of a log that grows by the messages that are sent.
use Rattle.std.proofs.Common.{◌≡◌, ℕ, List, [], ◌++◌, map, refl, sym, ap, ◌∙◌, inl, inr, subst, append_assoc}
use Rattle.std.proofs.lemmas.List.{append-nil}
use Rattle.message_values.specs.declared.message.Message.{Message}
use Rattle.message_values.specs.declared.message.Said.{Said}
use Rattle.container_model.specs.declared.answer.Done.{Done}
use Rattle.world_model.specs.declared.logs.Sent.{Sent}
use Rattle.world_model.specs.declared.logs.ServerDone.{ServerDone}
use Rattle.world_model.specs.World.{of_container}
use Rattle.world_model.specs.Safe.{Among, sayings}
use Rattle.world_facts.specs.Words.{Links, Acts, Lives, all_said}
use Rattle.world_facts.specs.Facts.{Facts}
use Rattle.world_facts.specs.Shapes.{AsksAll, IsQuiet, Settles, SendsNext, EndsSome}
use Rattle.world_facts.specs.Views.{Views}
use Rattle.world_facts.proofs.Asking.{asked_quietly}
use Rattle.world_facts.proofs.Ending.{some_ended}
use Rattle.world_facts.proofs.Leaving.{AreCalls, asks_calls, asks_leave, ends_leave, grows_calls, grows_none}
use Rattle.world_facts.proofs.Leaving.{next_calls, next_leaves, settles_leave, views_kept}
use Rattle.world_facts.proofs.Lookups.{among_join}
use Rattle.world_facts.proofs.Sending.{sent_next}
use Rattle.world_facts.proofs.Settled as settling
use Rattle.world_steps.specs.Steps.{IsAnswered, settled, goes_on, ended, AsksInTurn, asks_none, asks_first, IsReplied}
use Rattle.world_steps.specs.Steps.{IsReaped}
use Rattle.world_steps.proofs.Objects.{messages_of_log, messages_told}
use Rattle.world_steps.proofs.Asking.{none_asked}

-- a log that grew by the container's messages
abbrev pub longer : List Sent → List Message → List Sent
longer log more = log ++ map of_container more

pub messages_longer : (log : List Sent) (more : List Message) → sayings (longer log more) ≡ sayings log ++ all_said more
messages_longer log more = messages_of_log log (map of_container more) ∙ ap (λ v. sayings log ++ v) (messages_told more)

-- what a container says is calls alone
no_calls : (xs : List Said) → xs ≡ [] → AreCalls xs
no_calls xs e m h = absurd (subst (λ ys. Among ys m) e h)

join_calls : (xs ys zs : List Said) → zs ≡ xs ++ ys → AreCalls xs → AreCalls ys → AreCalls zs
join_calls xs ys zs e f g m h = elim (among_join xs ys m (subst (λ ws. Among ws m) e h)) [
  | inl k ↦ f m k
  | inr k ↦
      g m k
]

turns_calls : (links after : Links) (more : List Said) → AsksInTurn links after more → AreCalls more
turns_calls _ _ _ (asks_none links after more same e) = no_calls more e
turns_calls _ _ _ (asks_first links between after first rest more h t e) =
    join_calls first rest more e (asks_calls (λ o op. IsQuiet op) links between first h)
    (turns_calls between after rest t)

answered_calls : (hostile : List ℕ) (links after : Links) (acts : Acts) (lives : Lives) (more : List Said)
    → IsAnswered hostile links after acts lives more → AreCalls more
answered_calls hostile links after acts lives more (settled o s e) = no_calls more e
answered_calls hostile links after acts lives more (goes_on o between s n) = next_calls between after o more n
answered_calls hostile links after acts lives more (ended s e) = no_calls more e

module _ (hostile : List ℕ) (acts : Acts) (lives : Lives) (owners : List ℕ) (last : ℕ) (counted : List Done)
    (served : List ServerDone) where
  -- the facts of what was said, and what senders saw of a log, which is behind while shapes are counted
  record AreBoth (links : Links) (said : List Said) (log : List Sent) : Type 0 where
    facts : Facts hostile links acts lives said owners last counted served
    views : Views hostile links acts log

  pub record AreKept (links : Links) (log : List Sent) : Type 0 where
    pub facts : Facts hostile links acts lives (sayings log) owners last counted served
    pub views : Views hostile links acts log

  -- one shape
  asked_both : (links after : Links) (said more : List Said) (log : List Sent)
      → AsksAll (λ o op. IsQuiet op) links after more → AreBoth links said log → AreBoth after (said ++ more) log
  asked_both links after said more log m k = record {
    facts = asked_quietly (λ o op. IsQuiet op) links after acts lives said more owners last counted served m k.facts
        (λ o op q. q);
    views = views_kept links after acts acts log log
        (asks_leave hostile (λ o op. IsQuiet op) links after acts more m k.facts.in_step) (grows_none log) k.views;
  }

  settled_both : (links after : Links) (said : List Said) (log : List Sent) (o : ℕ)
      → Settles hostile links after acts o → AreBoth links said log → AreBoth after said log
  settled_both links after said log o s k = record {
    facts = settling.settled links after acts lives said owners last counted served o s k.facts;
    views = views_kept links after acts acts log log (settles_leave hostile links after acts o s) (grows_none log)
        k.views;
  }

  next_both : (links after : Links) (said more : List Said) (log : List Sent) (o : ℕ) → SendsNext links after o more
      → AreBoth links said log → AreBoth after (said ++ more) log
  next_both links after said more log o n k = record {
    facts = sent_next links after acts lives said more owners last counted served o n k.facts;
    views = views_kept links after acts acts log log (next_leaves hostile links after acts o more n k.facts.in_step)
        (grows_none log) k.views;
  }

  ended_both : (links after : Links) (said : List Said) (log : List Sent) → EndsSome hostile links after acts lives
      → AreBoth links said log → AreBoth after said log
  ended_both links after said log e k = record {
    facts = some_ended links after acts lives said owners last counted served e k.facts;
    views = views_kept links after acts acts log log (ends_leave hostile links after acts lives e) (grows_none log)
        k.views;
  }

  -- lists of them
  none_more : (said more : List Said) → more ≡ [] → said ≡ said ++ more
  none_more said more e = sym (ap (λ v. said ++ v) e ∙ append-nil said)

  both_joined : (after : Links) (said first rest more : List Said) (log : List Sent) → more ≡ first ++ rest
      → AreBoth after ((said ++ first) ++ rest) log → AreBoth after (said ++ more) log
  both_joined after said first rest more log e k = subst (λ v. AreBoth after v log)
      (append_assoc said first rest ∙ ap (λ v. said ++ v) (sym e)) k

  answered_both : (links after : Links) (said more : List Said) (log : List Sent)
      → IsAnswered hostile links after acts lives more → AreBoth links said log → AreBoth after (said ++ more) log
  answered_both links after said more log (settled o s e) k =
      subst (λ v. AreBoth after v log) (none_more said more e) (settled_both links after said log o s k)
  answered_both links after said more log (goes_on o between s n) k =
      next_both between after said more log o n (settled_both links between said log o s k)
  answered_both links after said more log (ended s e) k = subst (λ v. AreBoth after v log) (none_more said more e)
      (ended_both links after said log s k)

  turned_both : (links after : Links) (said more : List Said) (log : List Sent) → AsksInTurn links after more
      → AreBoth links said log → AreBoth after (said ++ more) log
  turned_both _ _ said _ log (asks_none links after more same e) k =
      subst (λ ms. AreBoth after (said ++ ms) log) (sym e)
      (asked_both links after said [] log (none_asked links after same) k)
  turned_both _ _ said _ log (asks_first links between after first rest more m t e) k =
      both_joined after said first rest more log e
      (turned_both between after (said ++ first) rest log t (asked_both links between said first log m k))

  -- and then the log grows by what was sent
  both_of : (links : Links) (log : List Sent) → AreKept links log → AreBoth links (sayings log) log
  both_of links log k = record { facts = k.facts; views = k.views }

  log_grown : (links : Links) (log : List Sent) (more : List Message) → AreCalls (all_said more)
      → AreBoth links (sayings log ++ all_said more) log → AreKept links (longer log more)
  log_grown links log more calls k = record {
    facts = subst (λ s. Facts hostile links acts lives s owners last counted served)
        (sym (messages_longer log more)) k.facts;
    views = views_kept links links acts acts log (longer log more)
        (ends_leave hostile links links acts lives (record { each = λ o. inl refl })) (grows_calls log more calls)
        k.views;
  }

  pub asked_kept : (links after : Links) (log : List Sent) (more : List Message)
      → AsksAll (λ o op. IsQuiet op) links after (all_said more) → AreKept links log
      → AreKept after (longer log more)
  asked_kept links after log more m k = log_grown after log more
      (asks_calls (λ o op. IsQuiet op) links after (all_said more) m)
      (asked_both links after (sayings log) (all_said more) log m (both_of links log k))

  pub answered_kept : (links after : Links) (log : List Sent) (more : List Message)
      → IsAnswered hostile links after acts lives (all_said more) → AreKept links log
      → AreKept after (longer log more)
  answered_kept links after log more h k = log_grown after log more
      (answered_calls hostile links after acts lives (all_said more) h)
      (answered_both links after (sayings log) (all_said more) log h (both_of links log k))

  pub turned_kept : (links after : Links) (log : List Sent) (more : List Message)
      → AsksInTurn links after (all_said more) → AreKept links log → AreKept after (longer log more)
  turned_kept links after log more h k = log_grown after log more (turns_calls links after (all_said more) h)
      (turned_both links after (sayings log) (all_said more) log h (both_of links log k))

  pub replied_kept : (links after : Links) (log : List Sent) (more : List Message)
      → IsReplied hostile links after acts lives (all_said more) → AreKept links log
      → AreKept after (longer log more)
  replied_kept links after log more h k =
      log_grown after log more (join_calls h.first h.rest (all_said more) h.joined
      (answered_calls hostile links h.between acts lives h.first h.answered)
      (turns_calls h.between after h.rest h.asked))
      (both_joined after (sayings log) h.first h.rest (all_said more) log h.joined
      (turned_both h.between after (sayings log ++ h.first) h.rest log h.asked
      (answered_both links h.between (sayings log) h.first log h.answered (both_of links log k))))

  pub reaped_kept : (links after : Links) (log : List Sent) (more : List Message)
      → IsReaped hostile links after acts lives (all_said more) → AreKept links log
      → AreKept after (longer log more)
  reaped_kept links after log more h k =
      log_grown after log more (turns_calls h.between after (all_said more) h.asked)
      (turned_both h.between after (sayings log) (all_said more) log h.asked
      (ended_both links h.between (sayings log) log h.ends (both_of links log k)))
