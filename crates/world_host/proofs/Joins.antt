-- What a step of the container gives, put together from its parts.
use Rattle.std.proofs.Common.{◌≡◌, ℕ, zero, suc, ◌+◌, ◌≤◌, List, Option, [], ◌∷◌, ◌++◌, length, map, refl, ap, ◌∙◌}
use Rattle.std.proofs.Common.{arith}
use Rattle.std.specs.List.{range_with_len}
use Rattle.message_values.specs.Found.{nth}
use Rattle.container_model.specs.declared.answer.Action.{Action}
use Rattle.container_model.specs.declared.answer.Action.TheVariants.{Send, Start, End, Commit}
use Rattle.container_model.specs.declared.answer.Answer.{Answer}
use Rattle.container_model.specs.Record.{counts_none}
use Rattle.world_model.specs.declared.logs.Sent.{Sent}
use Rattle.world_model.specs.declared.logs.Document.{Document}
use Rattle.world_model.specs.declared.logs.EventAnswer.{EventAnswer}
use Rattle.world_model.specs.declared.logs.EventAnswer.TheVariants as told
use Rattle.world_model.specs.World.{World, Instance, joined, started_by, ended_by, ended_at, messages_of, commits_of}
use Rattle.world_model.specs.World.{of_container, uncounted, started_instance}
use Rattle.world_host.specs.Servers.{starts_of, ends_of, ends_by}
use Rattle.world_host.specs.View.{started}

pub started_starts : (s n : ℕ) (actions : List Action)
    → started_by s n actions ≡ map (started_instance s n) (starts_of actions)
started_starts s n [] = refl
started_starts s n (Send m ∷ rest) = started_starts s n rest
started_starts s n (Start inc ∷ rest) = ap (λ xs. started_instance s n inc ∷ xs) (started_starts s n rest)
started_starts s n (End inc ∷ rest) = started_starts s n rest
started_starts s n (Commit f ∷ rest) = started_starts s n rest

pub starts_few : (actions : List Action) → length (starts_of actions) ≤ length actions
starts_few [] = omega arith
starts_few (Send m ∷ rest) = omega (arith, starts_few rest)
starts_few (Start inc ∷ rest) = omega (arith, starts_few rest)
starts_few (End inc ∷ rest) = omega (arith, starts_few rest)
starts_few (Commit f ∷ rest) = omega (arith, starts_few rest)

-- servers end one after the other
pub ends_same : (actions : List Action) (is : List Instance) → ended_by actions is ≡ ends_by (ends_of actions) is
ends_same [] is = refl
ends_same (Send m ∷ rest) is = ends_same rest is
ends_same (Start inc ∷ rest) is = ends_same rest is
ends_same (End inc ∷ rest) is = ends_same rest (ended_at inc is (nth is inc))
ends_same (Commit f ∷ rest) is = ends_same rest is

none_at : (inc : ℕ) → ended_at inc [] (nth [] inc) ≡ []
none_at zero = refl
none_at (suc i) = refl

-- where there are none, none ends
pub none_ended : (actions : List Action) → ended_by actions [] ≡ []
none_ended [] = refl
none_ended (Send m ∷ rest) = none_ended rest
none_ended (Start inc ∷ rest) = none_ended rest
none_ended (End inc ∷ rest) = ap (ended_by rest) (none_at inc) ∙ none_ended rest
none_ended (Commit f ∷ rest) = none_ended rest

pub joins : (w : World) (a : Answer) (sent : List Sent) (starts places commits : List ℕ)
    (answers : List EventAnswer) (counted : List (Option Document))
    → sent ≡ w.sent ++ map of_container (messages_of a.actions)
    → starts ≡ starts_of a.actions
    → places ≡ range_with_len (length w.sent + 1) (length (messages_of a.actions))
    → commits ≡ commits_of a.actions
    → answers ≡ w.answers ++ told.Took
    (record {
      frame = a.frame;
      objects = a.objects;
      server = a.server;
      taken = a.taken;
      refused = a.refused;
      no_tools = a.no_tools;
      sent = places;
      commits = commits;
    }) ∷ []
    → counted ≡ w.counted ++ uncounted a.frame
    → joined (record w { instances = [] }) (counts_none w.rec a)
    ≡ started (record w { sent = sent; answers = answers; counted = counted }) starts
joins w a sent starts places commits answers counted es et ep ec ea en =
    rw (none_ended a.actions, started_starts w.rec.session w.rec.numbers a.actions, es, ea, et, ep, ec, en) refl
