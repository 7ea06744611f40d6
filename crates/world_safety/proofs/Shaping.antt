-- What lists of shapes send, and which links they leave.
use Rattle.std.proofs.Common.{◌≡◌, ℕ, List, [], ◌++◌, inl, inr, subst}
use Rattle.message_values.specs.declared.message.Said.{Said}
use Rattle.message_values.specs.declared.operation.Operation.{Operation}
use Rattle.world_model.specs.Safe.{Among}
use Rattle.world_facts.specs.Words.{Links, Acts, Lives}
use Rattle.world_facts.specs.Shapes.{AsksAll, IsQuiet}
use Rattle.world_facts.proofs.Leaving.{AreCalls, asks_calls, next_calls}
use Rattle.world_facts.proofs.Lookups.{among_join}
use Rattle.world_grants.specs.Grants.{Follows}
use Rattle.world_grants.proofs.Following.{same_follow, follows_further, asks_follow, settles_follow, next_follows}
use Rattle.world_grants.proofs.Following.{ends_follow}
use Rattle.world_steps.specs.Steps.{IsAnswered, settled, goes_on, ended, AsksInTurn, asks_none, asks_first, IsReplied}
use Rattle.world_steps.specs.Steps.{IsReaped}

-- links that follow those before, and calls alone that are sent
pub record IsFollowed (links after : Links) (more : List Said) : Type 0 where
  pub follows : Follows links after
  pub calls : AreCalls more

pub no_calls : (more : List Said) → more ≡ [] → AreCalls more
no_calls more e m g = absurd (subst (λ ms. Among ms m) e g)

calls_join : (first rest more : List Said) → more ≡ first ++ rest → AreCalls first → AreCalls rest → AreCalls more
calls_join first rest more e h k m g = elim (among_join first rest m (subst (λ ms. Among ms m) e g)) [
  | inl a ↦
      h m a
  | inr a ↦ k m a
]

followed_further : (links between after : Links) (first rest more : List Said) → more ≡ first ++ rest
    → IsFollowed links between first → IsFollowed between after rest → IsFollowed links after more
followed_further links between after first rest more e h k =
    record {
      follows = follows_further links between after h.follows k.follows;
      calls = calls_join first rest more e h.calls k.calls;
    }

pub asks_followed : (Asks : ℕ → Operation → Type 0) (links after : Links) (more : List Said)
    → AsksAll Asks links after more → IsFollowed links after more
asks_followed Asks links after more h = record {
  follows = asks_follow Asks links after more h;
  calls = asks_calls Asks links after more h;
}

pub turned_followed : (links after : Links) (more : List Said) → AsksInTurn links after more
    → IsFollowed links after more
turned_followed _ _ _ (asks_none links after more same e) =
    record { follows = same_follow links after same; calls = no_calls more e }
turned_followed _ _ _ (asks_first links between after first rest more m t e) =
    followed_further links between after first rest more e
    (asks_followed (λ o op. IsQuiet op) links between first m) (turned_followed between after rest t)

answered_followed : (hostile : List ℕ) (links after : Links) (acts : Acts) (lives : Lives) (more : List Said)
    → IsAnswered hostile links after acts lives more → IsFollowed links after more
answered_followed hostile links after acts lives more (settled o s e) =
    record { follows = settles_follow hostile links after acts o s; calls = no_calls more e }
answered_followed hostile links after acts lives more (goes_on o between s n) =
    record {
      follows = follows_further links between after (settles_follow hostile links between acts o s)
          (next_follows between after o more n);
      calls = next_calls between after o more n;
    }
answered_followed hostile links after acts lives more (ended s e) =
    record { follows = ends_follow hostile links after acts lives s; calls = no_calls more e }

pub replied_followed : (hostile : List ℕ) (links after : Links) (acts : Acts) (lives : Lives) (more : List Said)
    → IsReplied hostile links after acts lives more → IsFollowed links after more
replied_followed hostile links after acts lives more h = followed_further links h.between after h.first h.rest more
    h.joined (answered_followed hostile links h.between acts lives h.first h.answered)
    (turned_followed h.between after h.rest h.asked)

pub reaped_followed : (hostile : List ℕ) (links after : Links) (acts : Acts) (lives : Lives) (more : List Said)
    → IsReaped hostile links after acts lives more → IsFollowed links after more
reaped_followed hostile links after acts lives more h = (let k = turned_followed h.between after more h.asked in
    record {
      follows = follows_further links h.between after (ends_follow hostile links h.between acts lives h.ends)
          k.follows;
      calls = k.calls;
    })
