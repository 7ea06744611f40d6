-- A server is hostile from now on: what holds of the honest ones holds of fewer.
use Rattle.std.proofs.Common.{◌≡◌, ◌⊎◌, ◌==◌, ℕ, true, false, List, [], ◌∷◌, ◌++◌, refl, inl, inr, eq-eqb}
use Rattle.std.proofs.Common.{if◌then◌else◌}
use Rattle.message_values.specs.declared.message.Said.{Said}
use Rattle.container_model.specs.declared.answer.Done.{Done}
use Rattle.world_model.specs.declared.logs.Sent.{Sent}
use Rattle.world_model.specs.declared.logs.ServerDone.{ServerDone}
use Rattle.world_model.specs.Safe.{is_hostile}
use Rattle.world_facts.specs.Words.{Links, Acts, Lives, IsHonest}
use Rattle.world_facts.specs.Facts.{Facts}
use Rattle.world_facts.specs.Views.{Views}

pub honest_before : (hostile : List ℕ) (inc i : ℕ) → IsHonest (hostile ++ inc ∷ []) i → IsHonest hostile i
honest_before [] inc i h = refl
honest_before (x ∷ xs) inc i h =
    elim (x == i) as (λ b. (if b then true else is_hostile (xs ++ inc ∷ []) i) ≡ false
    → (if b then true else is_hostile xs i) ≡ false) [
      | true ↦ (λ g. g)
      | false ↦ (λ g. honest_before xs inc i g)
    ] h

pub just_hostile : (hostile : List ℕ) (inc : ℕ) → is_hostile (hostile ++ inc ∷ []) inc ≡ true
just_hostile [] inc = rw (eq-eqb inc inc refl) refl
just_hostile (x ∷ xs) inc = elim (x == inc) as (λ b. (if b then true else is_hostile (xs ++ inc ∷ []) inc) ≡ true) [
  | true ↦ refl
  | false ↦ just_hostile xs inc
]

pub honest_or_hostile : (hostile : List ℕ) (inc : ℕ) → IsHonest hostile inc ⊎ (is_hostile hostile inc ≡ true)
honest_or_hostile hostile inc = elim (is_hostile hostile inc) as (λ b. (b ≡ false) ⊎ (b ≡ true)) [
  | true ↦
      inr refl
  | false ↦ inl refl
]

-- the honest ones of the second list are honest by the first
abbrev pub Fewer : List ℕ → List ℕ → Type 0
Fewer hostile more = (inc : ℕ) → IsHonest more inc → IsHonest hostile inc

pub fewer_honest : (hostile more : List ℕ) (links : Links) (acts : Acts) (lives : Lives) (sent : List Said)
    (owners : List ℕ) (last : ℕ) (counted : List Done) (served : List ServerDone)
    → Fewer hostile more → Facts hostile links acts lives sent owners last counted served
    → Facts more links acts lives sent owners last counted served
fewer_honest hostile more links acts lives sent owners last counted served fewer f = record {
  drawn = f.drawn;
  calls = f.calls;
  in_step = λ o l e honest. f.in_step o l e (fewer l.inc honest);
  one_ahead = λ inc act n op honest. f.one_ahead inc act n op (fewer inc honest);
  unlinked = record {
    called = λ inc act n op honest. f.unlinked.called inc act n op (fewer inc honest);
    known = λ inc act a honest. f.unlinked.known inc act a (fewer inc honest);
  };
  replies = f.replies;
  saved_same = λ o l c e honest. f.saved_same o l c e (fewer l.inc honest);
  counts = record {
    completed_counted = f.counts.completed_counted;
    completed_once = f.counts.completed_once;
    completed_content = λ inc act n k o s a i honest. f.counts.completed_content inc act n k o s a i (fewer inc honest);
    server_called = f.counts.server_called;
    server_once = f.counts.server_once;
    server_counted = λ e g honest. f.counts.server_counted e g (fewer e.inc honest);
  };
}

pub fewer_views : (hostile more : List ℕ) (links : Links) (acts : Acts) (log : List Sent) → Fewer hostile more
    → Views hostile links acts log → Views more links acts log
fewer_views hostile more links acts log fewer v = record {
  writes_sent = v.writes_sent;
  closes_sent = λ o l a option e honest. v.closes_sent o l a option e (fewer l.inc honest);
}

pub turned_facts : (hostile : List ℕ) (inc : ℕ) (links : Links) (acts : Acts) (lives : Lives) (sent : List Said)
    (owners : List ℕ) (last : ℕ) (counted : List Done) (served : List ServerDone)
    → Facts hostile links acts lives sent owners last counted served
    → Facts (hostile ++ inc ∷ []) links acts lives sent owners last counted served
turned_facts hostile inc links acts lives sent owners last counted served f =
    fewer_honest hostile (hostile ++ inc ∷ []) links acts lives sent owners last counted served
    (honest_before hostile inc) f

pub turned_views : (hostile : List ℕ) (inc : ℕ) (links : Links) (acts : Acts) (log : List Sent)
    → Views hostile links acts log → Views (hostile ++ inc ∷ []) links acts log
turned_views hostile inc links acts log v = fewer_views hostile (hostile ++ inc ∷ []) links acts log
    (honest_before hostile inc) v
