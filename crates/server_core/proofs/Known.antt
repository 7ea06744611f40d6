-- What a server does for the activation that stands at a place, and for one that is new.
use Rattle.std.proofs.Common.{◌≡◌, ℕ, Bool, false, List, [], ◌∷◌, ◌++◌, map, slice_get, nat_eq, refl, ap, sym, subst}
use Rattle.std.proofs.Common.{◌∙◌, Option, Some, None, option_map, option_copied, is_some, Result, Ok, Err, Bor}
use Rattle.std.specs.Map.{lookup, values_of}
use Rattle.indexmap.specs.IndexMap.{set_value_at}
use Rattle.message_values.specs.Found.{find, put, IsPlace}
use Rattle.message_values.specs.declared.operation.Operation.{Operation}
use Rattle.message_values.specs.declared.answer.Answer.{Answer}
use Rattle.message_values.specs.declared.message.Said.{Said}
use Rattle.message_values.specs.declared.message.Said.TheVariants.{Ask}
use Rattle.object_core.specs.Content.{Content}
use Rattle.object_core.specs.Kinds.{Kind}
use Rattle.server_model.specs.declared.activation_view.ActivationView.{ActivationView}
use Rattle.server_model.specs.declared.counted.Counted.{Counted}
use Rattle.server_model.specs.declared.fault.ServerFault.{ServerFault}
use Rattle.server_model.specs.declared.fault.ServerFault.TheVariants.{Ignored}
use Rattle.server_model.specs.Server.{Activation, Server, Served, Refuses, Tells, after_known, asks, called}
use Rattle.server_model.specs.Server.{from_server, is_act, known_call, scribbled, view_of}
use Rattle.server_model.specs.Opened.{Acts, Writes, write_open}
use Rattle.server_model.proofs.Finding.{put-found}
use Rattle.server_model.proofs.Known.{known_refuses, server}
use Rattle.server_model.proofs.Places.{seen_at, seen_push}
use Rattle.server_model.proofs.Writing.{write_refuses, write_told}
use Rattle.server_core.specs.Places.{IsAt}
use Rattle.server_core.specs.View.{KeepsOthers, seat_at, seen_activation}
use Rattle.server_core.specs.declared.seats.Owned.{Owned}
use Rattle.server_core.specs.declared.server.Activation as code
use Rattle.server_core.specs.declared.server.Seat.{Seat}
use Rattle.server_core.proofs.Standing.{absent, all_kept, get_at, item_at, one_changed, placed, set_pair, unfound}

abbrev taken : ℕ → ℕ → ℕ → Answer → Option Counted → List Activation → Result Served ServerFault
taken session inc numbers answer counted acts =
    Ok (record { server = server session inc numbers acts; answer = answer; counted = counted; used = false })

module _ {X : Type 0} {V : X → Type 0} (content : Seat X V → Content) where
  -- what is in an activation's seat
  abbrev inside : List (Option (Owned X V)) → ℕ × code.Activation → Option Content
  inside slots e = option_map content (seat_at slots e.0 e.1.key)

  opened_is : (r : Option (Bor (Seat X V))) (s : Option (Seat X V)) → option_copied r ≡ s
      → is_some r ≡ is_some (option_map content s)
  opened_is None s e = ap (λ o. is_some (option_map content o)) e
  opened_is (Some x) s e = ap (λ o. is_some (option_map content o)) e

  module _ (slots : List (Option (Owned X V))) (es : List (ℕ × code.Activation)) (act : ℕ) where
    pub unknown_if : lookup (nat_eq act) es ≡ None → find (is_act act) (map (seen_activation content slots) es) ≡ None
    unknown_if h = unfound (λ (a : code.Activation). a.facts) (inside slots) act es h

    pub new_if : find (is_act act) (map (seen_activation content slots) es) ≡ None → lookup (nat_eq act) es ≡ None
    new_if h = absent (λ (a : code.Activation). a.facts) (inside slots) act es h

    module _ (i : ℕ) (at : IsAt es act i) where
      place_at : (b : code.Activation) → slice_get es i ≡ Some (act, b)
          → IsPlace (is_act act) (map (seen_activation content slots) es) i
      place_at b h = placed (λ (a : code.Activation). a.facts) (inside slots) act es i b h at.distinct

      pub place : IsPlace (is_act act) (map (seen_activation content slots) es) i
      place = place_at at.item at.stands

      found_at : (b : code.Activation) → slice_get es i ≡ Some (act, b)
          → find (is_act act) (map (seen_activation content slots) es)
          ≡ Some (seen_activation content slots (act, b))
      found_at b h = seen_at (is_act act) (seen_activation content slots) es i (act, b) (place_at b h)
          (get_at es i (act, b) h)

      pub is_known : find (is_act act) (map (seen_activation content slots) es)
          ≡ Some (seen_activation content slots (act, at.item))
      is_known = found_at at.item at.stands

      module _ (b : code.Activation) (h : slice_get (values_of es) i ≡ Some b) where
        pub found : find (is_act act) (map (seen_activation content slots) es)
            ≡ Some (seen_activation content slots (act, b))
        found = found_at b (item_at es act i b at h)

        -- it changes to w, where others keep their seats
        puts : (w : code.Activation) (new : List (Option (Owned X V))) → KeepsOthers act slots new
            → put (is_act act) (seen_activation content new (act, w)) (map (seen_activation content slots) es)
            ≡ map (seen_activation content new) (set_value_at es i w)
        puts w new others =
            let stands : slice_get es i ≡ Some (act, b) = item_at es act i b at h in
            place.puts (seen_activation content new (act, w))
            ∙ sym (one_changed (λ (a : code.Activation). a.facts) (inside slots) act (inside new)
            (λ e differ. ap (option_map content) (others e.0 e.1.key differ)) es i b w stands at.distinct)

        pub keeps : (w : code.Activation) (new : List (Option (Owned X V))) → KeepsOthers act slots new
            → seen_activation content new (act, w) ≡ seen_activation content slots (act, b)
            → map (seen_activation content new) (set_value_at es i w) ≡ map (seen_activation content slots) es
        keeps w new others same =
            sym (puts w new others)
            ∙ (ap (λ y. put (is_act act) y (map (seen_activation content slots) es)) same
            ∙ put-found (is_act act) (map (seen_activation content slots) es)
            (seen_activation content slots (act, b)) found)

        module _ (session inc numbers : ℕ) where
          pub acts : (n : ℕ) (op : Operation) (w : code.Activation) (new : List (Option (Owned X V)))
              (answer : Answer) (counted : Option Counted)
              → KeepsOthers act slots new → Acts (known_call (seen_activation content slots (act, b)) n op)
              (seen_activation content new (act, w)) answer counted → (box : Option Kind)
              → called (server session inc numbers (map (seen_activation content slots) es)) act n op box
              (find (is_act act) (map (seen_activation content slots) es))
              ≡ Ok
              (record {
                server = server session inc numbers
                    (map (seen_activation content new) (set_value_at es i w));
                answer = answer;
                counted = counted;
                used = false;
              })
          acts n op w new answer counted others told box =
              let v = server session inc numbers (map (seen_activation content slots) es) in
              ap (called v act n op box) found
              ∙ (ap (after_known v act) told
              ∙ ap (taken session inc numbers answer counted) (puts w new others))

          pub refuses : (n : ℕ) (op : Operation) (fault : ServerFault)
              → Refuses (known_call (seen_activation content slots (act, b)) n op) fault → (box : Option Kind)
              → Refuses (called (server session inc numbers (map (seen_activation content slots) es)) act n op box
              (find (is_act act) (map (seen_activation content slots) es))) fault
          refuses n op fault told box =
              known_refuses session inc numbers (seen_activation content slots) es i act n op (act, b) fault place
              (get_at es i (act, b) (item_at es act i b at h)) told box

          pub tells : (w : code.Activation) (said : Said)
              → Writes (write_open inc numbers (seen_activation content slots (act, b))
              (seen_activation content slots (act, b)).content) (seen_activation content slots (act, w)) said
              → Tells (scribbled (server session inc numbers (map (seen_activation content slots) es))
              (find (is_act act) (map (seen_activation content slots) es)))
              (server session inc numbers (map (seen_activation content slots) (set_value_at es i w)))
              (record { session = session; said = said })
          tells w said told =
              let stands : slice_get es i ≡ Some (act, b) = item_at es act i b at h in
              let v = server session inc numbers (map (seen_activation content slots) es) in
              subst (λ (l : List (ℕ × code.Activation)). Tells
              (scribbled v (find (is_act act) (map (seen_activation content slots) es)))
              (server session inc numbers (map (seen_activation content slots) l))
              (record { session = session; said = said }))
              (set_pair es act i b w stands)
              (write_told session inc numbers (seen_activation content slots) es i act (act, b) (act, w) said place
              (get_at es i (act, b) stands) told)

          pub untold : (fault : ServerFault)
              → Refuses (write_open inc numbers (seen_activation content slots (act, b))
              (seen_activation content slots (act, b)).content) fault
              → Refuses (scribbled (server session inc numbers (map (seen_activation content slots) es))
              (find (is_act act) (map (seen_activation content slots) es))) fault
          untold fault told =
              write_refuses session inc numbers (seen_activation content slots) es i act (act, b) fault place
              (get_at es i (act, b) (item_at es act i b at h)) told

        -- what is seen of it
        pub viewed : (v : ActivationView) (opened : Bool) (r : Option (Bor (Seat X V)))
            → v ≡ record {
              class = b.facts.class;
              opened = opened;
              states = b.facts.states;
              s = b.facts.s;
              last = b.facts.last;
              g = b.facts.g;
              w = b.facts.w;
            }
            → opened ≡ is_some r → option_copied r ≡ seat_at slots act b.key
            → Some v ≡ option_map view_of (find (is_act act) (map (seen_activation content slots) es))
        viewed v opened r e o s =
            let shows : Bool → ActivationView = λ x. record {
              class = b.facts.class;
              opened = x;
              states = b.facts.states;
              s = b.facts.s;
              last = b.facts.last;
              g = b.facts.g;
              w = b.facts.w;
            } in
            ap Some (e ∙ ap shows (o ∙ opened_is r (seat_at slots act b.key) s)) ∙ ap (option_map view_of) (sym found)

    -- one that is new goes last
    pub pushes : (w : code.Activation) (new : List (Option (Owned X V))) → KeepsOthers act slots new
        → find (is_act act) (map (seen_activation content slots) es) ≡ None
        → map (seen_activation content new) (es ++ (act, w) ∷ []) ≡ map (seen_activation content slots) es
        ++ seen_activation content new (act, w) ∷ []
    pushes w new others unknown =
        seen_push (seen_activation content new) es (act, w)
        ∙ ap (λ l. l ++ seen_activation content new (act, w) ∷ [])
        (all_kept (λ (a : code.Activation). a.facts) (inside slots) act (inside new)
        (λ e differ. ap (option_map content) (others e.0 e.1.key differ)) es unknown)

pub asks_told : (v : Server) (a : Activation) (g : Option ℕ) (said : Said)
    → Some said ≡ option_map (Ask v.inc a.act) g
    → asks v a g ≡ Ok (record { server = v; message = from_server v said })
asks_told v a None said e = cc
asks_told v a (Some g) said e = ap (λ (s : Said). Ok (record { server = v; message = from_server v s }))
    (let same : Ask v.inc a.act g ≡ said = cc in same)

pub asks_refused : (v : Server) (a : Activation) (g : Option ℕ) → None ≡ option_map (Ask v.inc a.act) g
    → asks v a g ≡ Err Ignored
asks_refused v a None e = refl
asks_refused v a (Some g) e = cc
