-- Servers seen in two ways are alike but for what the objects in their boxes are said to contain.
use Rattle.std.proofs.Common.{◌≡◌, ℕ, zero, suc, true, false, List, [], ◌∷◌, length, map, Option, Some, None}
use Rattle.std.proofs.Common.{option_map, refl, ap, nat_eq, slice_get, if◌then◌else◌, subst}
use Rattle.std.specs.List.{AllByRecursion}
use Rattle.message_values.specs.Found.{find, nth}
use Rattle.object_core.specs.Content.{Content}
use Rattle.server_model.specs.Server.{is_act}
use Rattle.server_core.specs.View.{seat_at, seen_activation}
use Rattle.server_core.specs.declared.seats.Owned.{Owned}
use Rattle.server_core.specs.declared.server.Seat.{Seat}
use Rattle.server_core.specs.declared.server.Activation as code
use Rattle.world_state.specs.declared.instance.Instance as held
use Rattle.world_state.specs.View.{seen_instance}
use Rattle.world_model.specs.Safe.{act_at, acts_of}
use Rattle.world_facts.specs.Words.{life_at, lives_of}
use Rattle.world_grants.specs.Numbers.{IsActivationWithin, RunsWithin}
use Rattle.world_safety.proofs.Alike.{Alike}
use Rattle.world_model.specs.World.{Instance}

-- the same servers, whatever their objects are said to contain
module _ {X : Type 0} {V : X → Type 0} (c d : Seat X V → Content) where
  closed_seen : (s : Option (Seat X V)) → option_map c s ≡ None → option_map d s ≡ None
  closed_seen None e = refl
  closed_seen (Some s) e = cc

  open_seen : (s : Option (Seat X V)) → (k : Content) × (option_map c s ≡ Some k) → (k : Content)
      × (option_map d s ≡ Some k)
  open_seen None h = absurd (let e = h.1 in cc)
  open_seen (Some s) h = (d s, refl)

  was_seen : (s : Option (Seat X V)) → (k : Content) × (option_map d s ≡ Some k) → (k : Content)
      × (option_map c s ≡ Some k)
  was_seen None h = absurd (let e = h.1 in cc)
  was_seen (Some s) h = (c s, refl)

  found_alike : (act : ℕ) (slots : List (Option (Owned X V))) (xs : List (ℕ × code.Activation))
      → Alike (find (is_act act) (map (seen_activation c slots) xs))
      (find (is_act act) (map (seen_activation d slots) xs))
  found_alike act slots [] = tt
  found_alike act slots (x ∷ xs) =
      elim (nat_eq x.0 act) as (λ t. Alike (if t then Some (seen_activation c slots x)
      else find (is_act act) (map (seen_activation c slots) xs)) (if t then Some (seen_activation d slots x)
      else find (is_act act) (map (seen_activation d slots) xs))) [
        | true ↦
            (let seat = seat_at slots x.0 x.1.key in
            record {
              last = refl;
              reply = refl;
              states = refl;
              saved = refl;
              s = refl;
              g = refl;
              closed = closed_seen seat;
              opened = open_seen seat;
              was_open = was_seen seat;
            })
        | false ↦ found_alike act slots xs
      ]

  pub acts_alike : (xs : List (held.Instance X V)) (inc act : ℕ)
      → Alike (acts_of (map (seen_instance c) xs) inc act) (acts_of (map (seen_instance d) xs) inc act)
  acts_alike xs zero act = tt
  acts_alike xs (suc k) act = at xs k
    where
      at : (xs : List (held.Instance X V)) (k : ℕ) → Alike (act_at act (slice_get (map (seen_instance c) xs) k))
          (act_at act (slice_get (map (seen_instance d) xs) k))
      at [] k = tt
      at (x ∷ xs) zero = found_alike act x.core.seats.slab.slots x.core.acts.entries
      at (x ∷ xs) (suc k) = at xs k

  pub lives_alike : (xs : List (held.Instance X V)) (inc : ℕ) → lives_of (map (seen_instance d) xs) inc
      ≡ lives_of (map (seen_instance c) xs) inc
  lives_alike xs zero = refl
  lives_alike xs (suc k) = at xs k
    where
      at : (xs : List (held.Instance X V)) (k : ℕ) → life_at (slice_get (map (seen_instance d) xs) k)
          ≡ life_at (slice_get (map (seen_instance c) xs) k)
      at [] k = refl
      at (x ∷ xs) zero = refl
      at (x ∷ xs) (suc k) = at xs k

  pub many_alike : (xs : List (held.Instance X V)) → length (map (seen_instance d) xs)
      ≡ length (map (seen_instance c) xs)
  many_alike [] = refl
  many_alike (x ∷ xs) = ap suc (many_alike xs)

  -- their sessions
  pub sessions_alike : (Holds : ℕ → Type 0) (xs : List (held.Instance X V))
      → ((inc : ℕ) (i : Instance) → nth (map (seen_instance c) xs) inc ≡ Some i → Holds i.core.session)
      → (inc : ℕ) (i : Instance) → nth (map (seen_instance d) xs) inc ≡ Some i → Holds i.core.session
  sessions_alike Holds xs h zero i e = cc
  sessions_alike Holds xs h (suc k) i e = at xs (λ j y g. h (suc j) y g) k e
    where
      at : (ys : List (held.Instance X V))
          → ((j : ℕ) (y : Instance) → slice_get (map (seen_instance c) ys) j ≡ Some y → Holds y.core.session)
          → (k : ℕ) → slice_get (map (seen_instance d) ys) k ≡ Some i → Holds i.core.session
      at [] g k f = cc
      at (y ∷ ys) g zero f = (let q : seen_instance d y ≡ i = cc in
          subst (λ (z : Instance). Holds z.core.session) q (g zero (seen_instance c y) refl))
      at (y ∷ ys) g (suc k) f = at ys (λ j z r. g (suc j) z r) k f

  -- their numbers
  activations_alike : (limit : ℕ) (slots : List (Option (Owned X V))) (xs : List (ℕ × code.Activation))
      → AllByRecursion (IsActivationWithin limit) (map (seen_activation c slots) xs)
      → AllByRecursion (IsActivationWithin limit) (map (seen_activation d slots) xs)
  activations_alike limit slots [] h = tt
  activations_alike limit slots (x ∷ xs) h = (
    record { act = h.0.act; last = h.0.last; s = h.0.s; granted = h.0.granted },
    activations_alike limit slots xs
        h.1,
  )

  pub servers_alike : (limit : ℕ) (xs : List (held.Instance X V))
      → AllByRecursion (RunsWithin limit) (map (seen_instance c) xs)
      → AllByRecursion (RunsWithin limit) (map (seen_instance d) xs)
  servers_alike limit [] h = tt
  servers_alike limit (x ∷ xs) h = (
    record {
      inc = h.0.inc;
      numbers = h.0.numbers;
      acts = activations_alike limit x.core.seats.slab.slots
          x.core.acts.entries h.0.acts;
    },
    servers_alike limit xs h.1,
  )
