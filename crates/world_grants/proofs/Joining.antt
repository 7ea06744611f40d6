-- What an event makes of a world's numbers.
use Rattle.std.proofs.Common.{◌≡◌, ◌≤◌, ℕ, List, [], ◌∷◌, ◌++◌, length, map, Option, Some, None, refl, sym, ap, ◌∙◌}
use Rattle.std.proofs.Common.{inl, inr, arith, subst}
use Rattle.std.specs.List.{AllByRecursion}
use Rattle.message_values.specs.Found.{nth, set_nth}
use Rattle.message_values.specs.declared.message.Message.{Message}
use Rattle.container_model.specs.Record.{Record, Took}
use Rattle.container_model.specs.declared.answer.Action.{Action}
use Rattle.container_model.specs.declared.answer.Action.TheVariants.{Send, Start, End, Commit}
use Rattle.container_queues.proofs.SteadyLookups.{each_nth, each_set}
use Rattle.container_numbers.specs.Sound.{IsNumbered}
use Rattle.world_model.specs.declared.logs.Sent.{Sent}
use Rattle.world_model.specs.World.{World, Instance, end_of, ended_at, ended_by, started_instance, joined, messages_of}
use Rattle.world_model.specs.World.{of_container, started_by}
use Rattle.world_model.specs.Safe.{Among, IsWithin, WasSent, links_of, messages}
use Rattle.world_facts.specs.Words.{all_said, sayings_of}
use Rattle.world_facts.proofs.Lookups.{among_join}
use Rattle.world_grants.specs.Numbers.{ArePending, Follow, IsServerWithin, Numbers, RunsWithin}

each_joined : {A : Type 0} (P : A → Type 0) (xs ys : List A) → AllByRecursion P xs → AllByRecursion P ys
    → AllByRecursion P (xs ++ ys)
each_joined P [] ys h k = k
each_joined P (x ∷ xs) ys h k = (h.0, each_joined P xs ys h.1 k)

-- a server takes another's place, by its number
pub hosted_within : (limit : ℕ) (is : List Instance) (inc : ℕ) (i : Instance) → AllByRecursion (RunsWithin limit) is
    → nth is inc ≡ Some i → IsServerWithin limit i.core
hosted_within limit is inc i h at = each_nth (RunsWithin limit) is inc i h at

pub set_within : (limit : ℕ) (is : List Instance) (inc : ℕ) (i : Instance) → AllByRecursion (RunsWithin limit) is
    → IsServerWithin limit i.core → AllByRecursion (RunsWithin limit) (set_nth is inc i)
set_within limit is inc i h k = each_set (RunsWithin limit) is inc i h k

-- servers that are ended
at_within : (limit inc : ℕ) (is : List Instance) (i : Option Instance) → AllByRecursion (RunsWithin limit) is
    → nth is inc ≡ i → AllByRecursion (RunsWithin limit) (ended_at inc is i)
at_within limit inc is None h at = h
at_within limit inc is (Some i) h at = set_within limit is inc (record i { life = end_of i.life }) h
    (hosted_within limit is inc i h at)

ended_within : (limit : ℕ) (actions : List Action) (is : List Instance) → AllByRecursion (RunsWithin limit) is
    → AllByRecursion (RunsWithin limit) (ended_by actions is)
ended_within limit [] is h = h
ended_within limit (Send m ∷ rest) is h = ended_within limit rest is h
ended_within limit (Start inc ∷ rest) is h = ended_within limit rest is h
ended_within limit (End inc ∷ rest) is h = ended_within limit rest (ended_at inc is (nth is inc))
    (at_within limit inc is (nth is inc) h refl)
ended_within limit (Commit f ∷ rest) is h = ended_within limit rest is h

-- a step of the container sends what is pending then, and starts servers within the limit
pub record IsTaken (limit : ℕ) (t : Took) : Type 0 where
  pub recorded : IsNumbered limit t.rec
  pub pending : ArePending (links_of t.rec.objects) (sayings_of t.answer.actions)
  pub starts : AllByRecursion (RunsWithin limit) (started_by t.rec.session t.rec.numbers t.answer.actions)

-- a log that grew has the messages of both
log_joined : (xs ys : List Sent) → messages (xs ++ ys) ≡ messages xs ++ messages ys
log_joined [] ys = refl
log_joined (x ∷ xs) ys = ap (λ v. x.message ∷ v) (log_joined xs ys)

log_told : (ms : List Message) → messages (map of_container ms) ≡ ms
log_told [] = refl
log_told (m ∷ ms) = ap (λ v. m ∷ v) (log_told ms)

log_longer : (log : List Sent) (more : List Message) → messages (log ++ map of_container more) ≡ messages log ++ more
log_longer log more = log_joined log (map of_container more) ∙ ap (λ ms. messages log ++ ms) (log_told more)

-- what a message of a list says is said by the list
among_said : (ms : List Message) (m : Message) → Among ms m → Among (all_said ms) m.said
among_said [] m h = absurd h
among_said (x ∷ xs) m (inl e) = inl (ap (λ (y : Message). y.said) e)
among_said (x ∷ xs) m (inr h) = inr (among_said xs m h)

pub joined_follows : (limit : ℕ) (w : World) (t : Took) → Numbers limit w → IsTaken limit t → Follow limit (joined w t)
joined_follows limit w t h k within = record {
  recorded = k.recorded;
  sent = all_sent;
  servers = each_joined (RunsWithin limit) (ended_by t.answer.actions w.instances)
      (started_by t.rec.session t.rec.numbers t.answer.actions)
      (ended_within limit t.answer.actions w.instances h.servers) k.starts;
}
  where
    all_sent : (m : Message) → WasSent (joined w t) m → IsWithin limit m
    all_sent m g = elim (among_join (messages w.sent) (messages_of t.answer.actions) m
        (subst (λ ms. Among ms m) (log_longer w.sent (messages_of t.answer.actions)) g)) [
          | inl old ↦ h.sent m old
          | inr new ↦ within m k.recorded (k.pending m.said (among_said (messages_of t.answer.actions) m new)) g
        ]

-- one message more
pub sent_one : (limit : ℕ) (w : World) (x : Sent) → ((m : Message) → WasSent w m → IsWithin limit m)
    → IsWithin limit x.message → (m : Message) → Among (messages (w.sent ++ x ∷ [])) m → IsWithin limit m
sent_one limit w x h k m g =
    elim (among_join (messages w.sent) (x.message ∷ []) m
    (subst (λ ms. Among ms m) (log_joined w.sent (x ∷ [])) g)) [
      | inl old ↦ h m old
      | inr new ↦ at new
    ]
  where
    at : Among (x.message ∷ []) m → IsWithin limit m
    at (inl e) = subst (IsWithin limit) (sym e) k
    at (inr z) = absurd z

-- a new server is numbered by the record
pub fresh_within : (limit : ℕ) (r : Record) (inc : ℕ) → IsNumbered limit r → inc ≤ length r.servers
    → IsServerWithin limit (started_instance r.session r.numbers inc).core
fresh_within limit r inc h le = record {
  inc = (let most = h.servers in let e = h.limit in omega arith);
  numbers = (let e = h.limit in omega arith);
  acts = tt;
}
