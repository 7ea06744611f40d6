-- The record after the end of a server.
use Rattle.std.proofs.Common.{◌+◌, ◌≤◌, arith, length, subst, ◌≡◌, ℕ, Bool, true, List, ◌++◌, map, Ok, ap, sym, ◌∙◌}
use Rattle.std.proofs.lemmas.List.{length-map, map-append}
use Rattle.message_values.specs.declared.message.Message.{Message}
use Rattle.message_values.specs.Found.{set_nth}
use Rattle.object_state.specs.declared.grant_states.Claim.{Claim}
use Rattle.container_model.specs.declared.answer.Action.{Action}
use Rattle.container_model.specs.declared.answer.Action.TheVariants.{Send}
use Rattle.container_model.specs.declared.answer.Answer.{Answer}
use Rattle.container_model.specs.declared.record.Frame.{Frame}
use Rattle.container_model.specs.declared.record.Object.{Object}
use Rattle.container_model.specs.Grants.{Requested, freed_claims, freed_frame}
use Rattle.container_model.specs.HandOffs.{hand_off}
use Rattle.container_model.specs.Messages.{on_reap, reap_made, reaped, reaped_grants, reaped_object}
use Rattle.container_model.specs.Record.{Record, Took, acts, counts_none, is_alive, sends}
use Rattle.container_model.specs.Saves.{settle, settle_actions, settled_actions, settled_frames}
use Rattle.container_grants.specs.Granted.{actions_of, installed_each, ready}
use Rattle.container_grants.specs.Places.{AllHavePlaces, free}
use Rattle.container_grants.specs.declared.rooms.FrameRooms.{FrameRooms}
use Rattle.container_grants.proofs.AskedAway.{free_few}
use Rattle.container_queues.specs.Steady.{Steady}
use Rattle.container_grants.proofs.GrantsEach.{Agrees, Differ, actions_are, grant_each_is, granted_objects}
use Rattle.container_grants.proofs.GrantsEach.{granted_sent, installed_each_is}
use Rattle.container_grants.proofs.GrantsRooms.{free_granted, rooms_left}
use Rattle.container_grants.proofs.GrantsWaiting.{freed_agrees, freed_all}

module _ (r : Record) (inc : ℕ) (s : Steady r) where
  abbrev claims : List Claim
  claims = freed_claims inc r.objects r.frames

  abbrev left : List Object
  left = map (λ o. reaped_object inc o o.link) r.objects

  agrees : Agrees r.objects left claims
  agrees = freed_agrees inc r.objects 1 claims (freed_all inc r s)

  differ : Differ claims
  differ = (freed_all inc r s).differ

  pub granted_at : (installed : List Object) → installed ≡ installed_each (map (ready r.objects) claims) left
      → installed ≡ granted_objects left claims
  granted_at installed e = e ∙ installed_each_is r.objects claims left agrees differ

  pub sent_at : (actions : List Action) → actions ≡ actions_of (map (ready r.objects) claims)
      → actions ≡ sends (granted_sent left claims)
  sent_at actions e = e ∙ actions_are r.objects claims left agrees differ

  -- the room that was taken serves, and no more is sent than there are objects
  pub rooms_at : (n : ℕ) (frames : List Frame) (installed : List Object) (rooms : List FrameRooms)
      → n ≡ length claims → frames ≡ map (freed_frame inc r.objects) r.frames
      → installed ≡ installed_each (map (ready r.objects) claims) left
      → AllHavePlaces n 1 r.frames r.objects rooms → AllHavePlaces 0 1 frames installed rooms
  rooms_at n frames installed rooms many freed objects h =
      subst (λ fs. AllHavePlaces 0 1 fs installed rooms) (sym freed)
      (subst (λ os. AllHavePlaces 0 1 (map (freed_frame inc r.objects) r.frames) os rooms)
      (sym (granted_at installed objects))
      (rooms_left 1 inc r.objects r.objects claims r.frames rooms
      (subst (λ k. AllHavePlaces k 1 r.frames r.objects rooms) many h)))

  pub few_at : (installed : List Object) (actions : List Action)
      → installed ≡ installed_each (map (ready r.objects) claims) left
      → actions ≡ actions_of (map (ready r.objects) claims) → length actions + free installed ≤ length r.objects
  few_at installed actions objects sent =
      let those : free installed ≡ free (granted_objects left claims) = ap free (granted_at installed objects) in
      let said : length actions ≡ length (granted_sent left claims) = ap length (sent_at actions sent)
      ∙ length-map (granted_sent left claims) Send in
      let same : length left ≡ length r.objects = length-map r.objects (λ o. reaped_object inc o o.link) in
      omega (arith, those, said, same, free_granted claims left, free_few left)

  -- the record once frames are freed and granted, and how a reap goes on from it
  abbrev left_in : List Frame → List Object → List Bool → Record
  left_in frames objects servers = record r { frames = frames; objects = objects; servers = servers }

  granted_is : (frames : List Frame) (servers : List Bool) (installed : List Object)
      → frames ≡ map (freed_frame inc r.objects) r.frames → servers ≡ set_nth r.servers inc true
      → installed ≡ granted_objects left claims
      → ◌≡◌ {A = Requested} (reaped_grants r inc)
      (record { rec = left_in frames installed servers; sent = granted_sent left claims })
  granted_is frames servers installed freed reaps granted =
      grant_each_is claims (record (reaped r inc) { frames = map (freed_frame inc r.objects) r.frames })
      ∙ (λ t. record { rec = left_in (sym freed t) (sym granted t) (sym reaps t); sent = granted_sent left claims })

  abbrev goes_on : List Message → List Message → Record → Took
  goes_on sent more q = counts_none (settle q) (acts (sends (sent ++ more) ++ settle_actions q))

  pub reap_is : (frames handed last : List Frame) (servers : List Bool) (installed asked : List Object)
      (actions more all : List Action) (told : Answer)
      → is_alive r inc ≡ true
      → frames ≡ map (freed_frame inc r.objects) r.frames
      → servers ≡ set_nth r.servers inc true
      → installed ≡ installed_each (map (ready r.objects) claims) left
      → actions ≡ actions_of (map (ready r.objects) claims)
      → (hand_off (left_in frames installed servers)).rec ≡ left_in handed asked servers
      → more ≡ actions ++ sends (hand_off (left_in frames installed servers)).sent
      → last ≡ settled_frames 1 asked handed
      → all ≡ more ++ settled_actions 1 asked handed
      → told ≡ acts all
      → on_reap r inc ≡ Ok (counts_none (left_in last asked servers) told)
  reap_is frames handed last servers installed asked actions more all told alive freed reaps objects sent hands also
      settled commits answered =
      let granted : installed ≡ granted_objects left claims = granted_at installed objects in
      let sends_is : actions ≡ sends (granted_sent left claims) = sent_at actions sent in
      let q : Record = left_in frames installed servers in
      let own : List Message = granted_sent left claims in
      let others : List Message = (hand_off q).sent in
      let said : all ≡ sends (own ++ others) ++ settled_actions 1 asked handed =
      commits ∙ ap (λ xs. xs ++ settled_actions 1 asked handed)
      (also ∙ (ap (λ xs. xs ++ sends others) sends_is ∙ sym (map-append Send own others))) in
      let made : reap_made r inc ≡ counts_none (left_in last asked servers) told =
      ap (λ (g : Requested). goes_on g.sent (hand_off g.rec).sent (hand_off g.rec).rec)
      (granted_is frames servers installed freed reaps granted)
      ∙ (ap (goes_on own others) hands
      ∙ (ap (λ fs. counts_none (left_in fs asked servers)
      (acts (sends (own ++ others) ++ settled_actions 1 asked handed))) (sym settled)
      ∙ ap (counts_none (left_in last asked servers)) (ap acts (sym said) ∙ sym answered))) in
      rw alive (ap {A = Took} Ok made)
