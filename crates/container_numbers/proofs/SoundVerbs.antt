-- Verbs and closes leave a record sound.
use Rattle.std.proofs.Common.{◌≡◌, ◌≤◌, ◌<◌, ◌+◌, ◌==◌, ℕ, suc, true, false, List, [], ◌∷◌, length, map, Option, Some}
use Rattle.std.proofs.Common.{None, refl, sym, ◌∙◌, ap, subst, arith, if◌then◌else◌}
use Rattle.std.proofs.lemmas.Bool.{eqb-true, eqb-false}
use Rattle.message_values.specs.Found.{find, nth, put, set_nth}
use Rattle.message_values.specs.declared.operation.Operation.TheVariants.{UiDeactivate}
use Rattle.object_state.specs.Verbs.{close_steps, columns, steps}
use Rattle.object_state.specs.declared.operations.CloseOption.{CloseOption}
use Rattle.object_state.specs.declared.object_states.ObjectState.{ObjectState}
use Rattle.object_state.specs.declared.object_states.ObjectState.TheVariants as state
use Rattle.object_state.specs.declared.verbs.Verb.{Verb}
use Rattle.object_state.specs.declared.verbs.Verb.TheVariants as verb
use Rattle.object_state.specs.declared.verbs.Step.{Step}
use Rattle.object_state.specs.declared.verbs.Step.TheVariants as step
use Rattle.object_state.specs.declared.grant_states.GrantState.{GrantState}
use Rattle.object_state.specs.declared.grant_states.GrantState.TheVariants.{Free, Granting, Held, Revoking}
use Rattle.object_state.specs.Grants.{Ask}
use Rattle.container_model.specs.declared.record.Link.{Link}
use Rattle.container_model.specs.declared.record.Object.{Object}
use Rattle.container_model.specs.declared.record.Frame.{Frame}
use Rattle.container_model.specs.Grants.{grant_of, moved, requested}
use Rattle.container_model.specs.Record.{Record, asked_link, has_numbers, is_object, with_frame, with_object}
use Rattle.container_model.specs.Room.{HasNumbers, IfLinked, IsRoomy}
use Rattle.container_model.specs.Verbs.{before_taking, claim_of, claimed, gives_up, holder_has_numbers, holder_of}
use Rattle.container_model.specs.Verbs.{leaving_made, object_has_numbers, operation_of, revoked, revoked_at}
use Rattle.container_model.specs.Verbs.{stepped_link, steps_now, taking_made}
use Rattle.container_steady.specs.Made.{IsRow, IsTaking, row_of_close, row_of_verb}
use Rattle.container_steady.proofs.SteadyFinds.{find-put_other, find-put_same}
use Rattle.container_queues.proofs.SteadyLookups.{each_found, each_nth}
use Rattle.container_steady.proofs.SteadyTells.{if_told}
use Rattle.container_steady.proofs.SteadyTests.{found_numbered}
use Rattle.container_numbers.proofs.SoundAsking.{asked_checked, asks_debts, debts_few, one_asked}
use Rattle.container_numbers.proofs.SoundMoves.{one_framed}
use Rattle.container_numbers.proofs.SoundRooms.{IsSaved, Owing, Within, debts, put_within, sound_of, within_less}

-- ---- the tables ask for at most three steps
abbrev pub IsFew : Option (List Step) → Type 0
IsFew None = Unit {0}
IsFew (Some ts) = length ts ≤ 3

columns_few : (a b c d : Option (List Step)) → IsFew a → IsFew b → IsFew c → IsFew d → (s : ObjectState)
    → IsFew (columns a b c d s)
columns_few a b c d p q r t state.Passive = tt
columns_few a b c d p q r t state.Loaded = tt
columns_few a b c d p q r t state.Running = p
columns_few a b c d p q r t state.InPlaceActive = q
columns_few a b c d p q r t state.UiActive = r
columns_few a b c d p q r t state.Open = t

few_steps : (v : Verb) (s : ObjectState) → IsFew (steps v s)
few_steps verb.Primary s = columns_few _ _ _ _ (omega arith) (omega arith) (omega arith) tt s
few_steps verb.Show s = columns_few _ _ _ _ (omega arith) (omega arith) (omega arith) tt s
few_steps verb.UiActivate s = columns_few _ _ _ _ (omega arith) (omega arith) (omega arith) tt s
few_steps verb.Open s = columns_few _ _ _ _ (omega arith) (omega arith) (omega arith) (omega arith) s
few_steps verb.Hide s = columns_few _ _ _ _ (omega arith) (omega arith) (omega arith) (omega arith) s
few_steps verb.InPlaceActivate s = columns_few _ _ _ _ (omega arith) (omega arith) (omega arith) tt s

few_closes : (option : CloseOption) (s : ObjectState) → IsFew (close_steps option s)
few_closes option state.Passive = tt
few_closes option state.Loaded = tt
few_closes option state.Running = omega arith
few_closes option state.InPlaceActive = omega arith
few_closes option state.UiActive = omega arith
few_closes option state.Open = omega arith

few_row : (s : ObjectState) (ts : List Step) → IsRow s ts → length ts ≤ 3
few_row s ts (row_of_verb v row leaves) = subst IsFew row (few_steps v s)
few_row s ts (row_of_close option row) = subst IsFew row (few_closes option s)

few_operations : (g : ℕ) (ts : List Step) → length (map (operation_of g) ts) ≡ length ts
few_operations g [] = refl
few_operations g (t ∷ ts) = ap suc (few_operations g ts)

fewer_before : (ts : List Step) → length (before_taking ts) ≤ length ts
fewer_before [] = omega arith
fewer_before (step.UiActivate ∷ ts) = omega arith
fewer_before (step.InPlace ∷ ts) = (let h = fewer_before ts in omega arith)
fewer_before (step.UiDeactivate ∷ ts) = (let h = fewer_before ts in omega arith)
fewer_before (step.InPlaceDeactivate ∷ ts) = (let h = fewer_before ts in omega arith)
fewer_before (step.OpenWindow ∷ ts) = (let h = fewer_before ts in omega arith)
fewer_before (step.Close option ∷ ts) = (let h = fewer_before ts in omega arith)

fewer_now : (s : GrantState) (ts : List Step) → length (steps_now s ts) ≤ length ts
fewer_now Free ts = omega arith
fewer_now (Granting c) ts = fewer_before ts
fewer_now (Held c tools) ts = fewer_before ts
fewer_now (Revoking c next) ts = fewer_before ts

-- ---- an object that takes its steps
module _ {Greatest : ℕ → Type 0} (r : Record) (o : Object) (frame : Frame) (l : Link)
    (h : Within Greatest (debts r.frames) r) (found : find (is_object o.number) r.objects ≡ Some o)
    (at : nth r.frames o.frame ≡ Some frame) (is : o.link ≡ Some l) (has : has_numbers r.numbers l ≡ true) where
  old : IsRoomy r.numbers (debts r.frames o.number o.frame) l
  old = subst (IfLinked (IsRoomy r.numbers (debts r.frames o.number o.frame))) is
      (each_found (Owing r.numbers (debts r.frames)) (is_object o.number) r.objects o h.room found)

  stepped : (frames : List Frame) (g : ℕ) (ts : List Step) → length ts ≤ 3
      → IsRoomy r.numbers (debts frames o.number o.frame) (stepped_link g l ts).link
  stepped frames g ts few =
      let most = debts_few frames o.number o.frame in
      let same = few_operations g ts in
      asked_checked r.numbers (debts r.frames o.number o.frame) (debts frames o.number o.frame) l
      (map (operation_of g) ts) has (omega arith) old

  saved : frame.k ≤ r.numbers
  saved = each_nth (IsSaved r.numbers) r.frames o.frame frame h.saves at

  asks : (g : ℕ) → Within Greatest (debts r.frames) (with_frame r o.frame (moved frame (Ask (claim_of o l g))))
  asks g = one_framed r (debts r.frames) o.frame (moved frame (Ask (claim_of o l g))) h saved

  leaving_sound : (ts : List Step) → length ts ≤ 3 → HasNumbers Greatest (leaving_made r frame o l ts).rec
  leaving_sound ts few =
      let x : Object = record o { link = Some (stepped_link 0 l ts).link } in
      let next = moved frame (Ask (claim_of o l (grant_of frame.ui.state))) in
      if_told (λ (u : Record). HasNumbers Greatest (with_object u x)) (gives_up ts) (with_frame r o.frame next) r
      (λ t. sound_of (with_object (with_frame r o.frame next) x)
      (put_within (with_frame r o.frame next) (debts r.frames) (debts (set_nth r.frames o.frame next)) x o
      (asks (grant_of frame.ui.state)) found
      (λ m f ne. asks_debts r.frames o.frame frame (claim_of o l (grant_of frame.ui.state)) at m f (λ q. ne (sym q)))
      (stepped (set_nth r.frames o.frame next) 0 ts few) refl))
      (λ t. sound_of (with_object r x) (put_within r (debts r.frames) (debts r.frames) x o h found
      (λ m f ne. omega arith) (stepped r.frames 0 ts few) refl))

  -- one that takes the frame: meanwhile it owes nothing, and its holder is asked
  abbrev next : Frame
  next = moved frame (Ask (claim_of o l (r.last_g + 1)))

  abbrev after : List Frame
  after = set_nth r.frames o.frame next

  abbrev but : ℕ → ℕ → ℕ
  but m f = if o.number == m then 0 else debts after m f

  but_less : (m f : ℕ) → but m f ≤ debts r.frames m f
  but_less m f = if_told (λ (x : ℕ). x ≤ debts r.frames m f) (o.number == m) 0 (debts after m f) (λ t. omega arith)
      (λ t. asks_debts r.frames o.frame frame (claim_of o l (r.last_g + 1)) at m f (eqb-false o.number m t))

  but_few : (m f : ℕ) → but m f ≤ 4
  but_few m f = if_told (λ (x : ℕ). x ≤ 4) (o.number == m) 0 (debts after m f) (λ t. omega arith)
      (λ t. debts_few after m f)

  but_others : (m f : ℕ) → (m ≡ o.number → ⊥) → debts after m f ≤ but m f
  but_others m f ne = if_told (λ (x : ℕ). debts after m f ≤ x) (o.number == m) 0 (debts after m f)
      (λ t. absurd (ne (sym (eqb-true o.number m t)))) (λ t. omega arith)

  claimed_within : r.last_g < r.numbers → Within Greatest but (claimed r frame o l)
  claimed_within lt =
      let w : Within Greatest but (with_frame r o.frame next) = within_less (with_frame r o.frame next)
      (debts r.frames) but but_less (asks (r.last_g + 1)) in
      record {
        limit = w.limit;
        room = w.room;
        saves = w.saves;
        frames = w.frames;
        servers = w.servers;
        objects = w.objects;
        acts = w.acts;
        grants = (omega arith);
        apart = w.apart;
      }

  -- what the holder leaves to whoever is put then
  pub record Left (u : Record) : Type 0 where
    pub within : Within Greatest but u
    pub frames : u.frames ≡ after
    pub numbers : u.numbers ≡ r.numbers
    pub x : Object
    pub number : x.number ≡ o.number
    pub here : find (is_object o.number) u.objects ≡ Some x

  requested_left : (n : ℕ) (p : Option Object) → r.last_g < r.numbers → find (is_object n) r.objects ≡ p
      → object_has_numbers r.numbers p ≡ true → Left (requested (claimed r frame o l) UiDeactivate p).rec
  requested_left n None lt e c = record {
    within = claimed_within lt;
    frames = refl;
    numbers = refl;
    x = o;
    number = refl;
    here = found;
  }
  requested_left n (Some p) lt e c =
      let own = found_numbered n r.objects p e in
      let w = one_asked (claimed r frame o l) but p UiDeactivate (claimed_within lt) own c (but_few p.number p.frame) in
      let q : Object = record p { link = asked_link UiDeactivate p.link } in
      elim (p.number == o.number) as (λ b. (p.number == o.number) ≡ b → Left (with_object (claimed r frame o l) q)) [
        | true ↦ (λ t. let same = eqb-true p.number o.number t in
            record {
              within = w;
              frames = refl;
              numbers = refl;
              x = q;
              number = same;
              here = subst (λ (m : ℕ). find (is_object m) (put (is_object p.number) q r.objects) ≡ Some q) same
                  (find-put_same p.number q p r.objects own refl);
            })
        | false ↦ (λ t. record {
          within = w;
          frames = refl;
          numbers = refl;
          x = o;
          number = refl;
          here = find-put_other p.number o.number q r.objects refl (eqb-false p.number o.number t) ∙ found;
        })
      ] refl

  revoked_left : (holder : Option ℕ) → r.last_g < r.numbers → holder_has_numbers r holder ≡ true
      → Left (revoked_at (claimed r frame o l) holder).rec
  revoked_left None lt c = record {
    within = claimed_within lt;
    frames = refl;
    numbers = refl;
    x = o;
    number = refl;
    here = found;
  }
  revoked_left (Some n) lt c = requested_left n (find (is_object n) r.objects) lt refl c

  put_left : (u : Record) (m : Link) → Left u → IsRoomy r.numbers (debts after o.number o.frame) m
      → HasNumbers Greatest (with_object u (record o { link = Some m }))
  put_left u m k room =
      let a : Object = record o { link = Some m } in
      let owing : Owing u.numbers (debts after) a = subst (λ (z : ℕ). IsRoomy z (debts after o.number o.frame) m)
      (sym k.numbers) room in
      let w : Within Greatest (debts after) (with_object u a) = put_within u but (debts after) a k.x k.within k.here
      but_others owing k.number in
      sound_of (with_object u a) (subst (λ (fs : List Frame). Within Greatest (debts fs) (with_object u a))
      (sym k.frames) w)

  taking_sound : (ts : List Step) → length ts ≤ 3 → r.last_g < r.numbers
      → holder_has_numbers r (holder_of frame.ui.state) ≡ true
      → HasNumbers Greatest (taking_made r frame o l ts).rec
  taking_sound ts few lt c =
      let fewer = fewer_now frame.ui.state ts in
      put_left (revoked r frame o l).rec (stepped_link (r.last_g + 1) l (steps_now frame.ui.state ts)).link
      (revoked_left (holder_of frame.ui.state) lt c)
      (stepped after (r.last_g + 1) (steps_now frame.ui.state ts) (omega arith))

  -- what a row makes: of steps that leave the frame, and of steps that take it
  pub row_sound : (ts : List Step) → IsRow l.states.object ts → HasNumbers Greatest (leaving_made r frame o l ts).rec
  row_sound ts row = leaving_sound ts (few_row l.states.object ts row)

  pub claiming_sound : (ts : List Step) → IsTaking r frame o l ts → HasNumbers Greatest (taking_made r frame o l ts).rec
  claiming_sound ts k = taking_sound ts (subst IsFew k.row (few_steps k.verb l.states.object)) k.grants k.holder
