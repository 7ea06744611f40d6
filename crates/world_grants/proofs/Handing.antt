-- Saves that go on: frames stay with whoever has them, objects in their frames, and who is passive stays so.
use Rattle.std.proofs.Common.{◌≡◌, ◌==◌, ◌+◌, ℕ, Bool, true, false, List, [], ◌∷◌, map, Option, Some, None, option_map}
use Rattle.std.proofs.Common.{refl, sym, ap, ◌∙◌, inl, inr, subst, if◌then◌else◌}
use Rattle.std.proofs.lemmas.Bool.Decides.{eqb_tells}
use Rattle.message_values.specs.Found.{find, nth, set_nth}
use Rattle.message_values.specs.declared.operation.Operation.{Operation}
use Rattle.message_values.specs.declared.operation.Operation.TheVariants.{HandsOff}
use Rattle.object_state.specs.Frames.{Ui}
use Rattle.object_state.specs.declared.grant_states.Claim.{Claim}
use Rattle.object_state.specs.declared.grant_states.Tools.{Tools}
use Rattle.container_model.specs.declared.record.Frame.{Frame}
use Rattle.container_model.specs.declared.record.Object.{Object}
use Rattle.container_model.specs.Record.{Record, asked_link, asked_object, is_object}
use Rattle.container_model.specs.HandOffs.{hand_off, hand_off_at, hand_off_each, hand_off_in, handed_off, handing_frame}
use Rattle.container_model.specs.HandOffs.{hands_off, unasked as not_handed}
use Rattle.container_steady.proofs.SteadyFinds.{find-map}
use Rattle.container_queues.proofs.SteadyLookups.{nth-set_same, nth-set_other}
use Rattle.world_model.specs.Safe.{link_at, links_of}
use Rattle.world_grants.specs.Grants.{Moves}
use Rattle.world_grants.proofs.Objects.{AreKept, Keeps, all_kept, kept_further, map_kept}
use Rattle.world_grants.proofs.Frames.{AllMove}

-- a whole frame is asked
pub asked_keeps : (f : ℕ) (op : Operation) (o : Object) → Keeps o (asked_object f op o)
asked_keeps f op o = at (o.frame == f)
  where
    at : (b : Bool) → Keeps o (if b then record o { link = asked_link op o.link } else o)
    at true = record { number = refl; frame = refl }
    at false = record { number = refl; frame = refl }

passive_as : (b : Bool) (op : Operation) (o : Object) → o.link ≡ None
    → (if b then record o { link = asked_link op o.link } else o).link ≡ None
passive_as true op o e = ap (asked_link op) e
passive_as false op o e = e

passive_in : (f : ℕ) (op : Operation) (x : Option Object) → link_at x ≡ None
    → link_at (option_map (asked_object f op) x) ≡ None
passive_in f op None e = refl
passive_in f op (Some o) e = passive_as (o.frame == f) op o e

asked_passive : (f : ℕ) (op : Operation) (os : List Object) (n : ℕ) → links_of os n ≡ None
    → links_of (map (asked_object f op) os) n ≡ None
asked_passive f op os n e = ap link_at (find-map n (asked_object f op) os (λ o. (asked_keeps f op o).number))
    ∙ passive_in f op (find (is_object n) os) e

-- one frame of those that moved is another one, with the same grant
set_move : (Gone : Claim → Type 0) (New : Claim → Tools → Type 0) (fs gs : List Frame) (n : ℕ)
    (before after : Frame) → AllMove Gone New fs gs → nth gs n ≡ Some before → after.ui ≡ before.ui
    → AllMove Gone New fs (set_nth gs n after)
set_move Gone New fs gs n before after h at same f frame e = (let p = h f frame e in elim (eqb_tells n f) [
  | inl s ↦ (let is : before ≡ p.0 = (let z : Some before ≡ Some p.0 = sym at ∙ (ap (nth gs) s.1 ∙ p.1) in cc) in (
    after,
    ap (nth (set_nth gs n after)) (sym s.1) ∙ nth-set_same gs n before after at,
    subst (λ (u : Ui). Moves Gone New frame.ui.state u.state) (sym (same ∙ ap (λ (x : Frame). x.ui) is)) p.2,
  ))
  | inr s ↦ (p.0, nth-set_other gs n f after s.1 ∙ p.1, p.2)
])

-- what a record that goes on with saves keeps
pub record IsKeptOn (Gone : Claim → Type 0) (New : Claim → Tools → Type 0) (r v : Record) : Type 0 where
  pub objects : AreKept r.objects v.objects
  pub frames : (fs : List Frame) → AllMove Gone New fs r.frames → AllMove Gone New fs v.frames
  pub passive : (n : ℕ) → links_of r.objects n ≡ None → links_of v.objects n ≡ None

module _ (Gone : Claim → Type 0) (New : Claim → Tools → Type 0) where
  stays_on : (r : Record) → IsKeptOn Gone New r r
  stays_on r = record { objects = all_kept r.objects; frames = λ fs h. h; passive = λ n e. e }

  goes_further : (r v u : Record) → IsKeptOn Gone New r v → IsKeptOn Gone New v u → IsKeptOn Gone New r u
  goes_further r v u h k = record {
    objects = kept_further r.objects v.objects u.objects h.objects k.objects;
    frames = λ fs m. k.frames fs (h.frames fs m);
    passive = λ n e. k.passive n (h.passive n e);
  }

  handed_on_at : (r : Record) (f : ℕ) (frame : Option Frame) → nth r.frames f ≡ frame
      → IsKeptOn Gone New r (hand_off_at r f frame).rec
  handed_on_at r f None at = stays_on r
  handed_on_at r f (Some frame) at =
      elim (hands_off f r.objects frame) as (λ b. IsKeptOn Gone New r (if b then handed_off r f frame
      else not_handed r).rec) [
        | true ↦ record {
          objects = map_kept (asked_object f HandsOff) r.objects (asked_keeps f HandsOff);
          frames = λ fs h. set_move Gone New fs r.frames f frame (handing_frame frame) h at refl;
          passive = λ n e. asked_passive f HandsOff r.objects n e;
        }
        | false ↦ stays_on r
      ]

  pub handed_on : (r : Record) (f : ℕ) → IsKeptOn Gone New r (hand_off_in r f).rec
  handed_on r f = handed_on_at r f (nth r.frames f) refl

  pub handed_on_if : (b : Bool) (r : Record) (f : ℕ)
      → IsKeptOn Gone New r (if b then hand_off_in r f else not_handed r).rec
  handed_on_if true r f = handed_on r f
  handed_on_if false r f = stays_on r

  handed_on_each : (f : ℕ) (frames : List Frame) (r : Record) → IsKeptOn Gone New r (hand_off_each f frames r).rec
  handed_on_each f [] r = stays_on r
  handed_on_each f (frame ∷ frames) r = (let v = (hand_off_in r f).rec in
      goes_further r v (hand_off_each (f + 1) frames v).rec (handed_on r f) (handed_on_each (f + 1) frames v))

  pub all_handed_on : (r : Record) → IsKeptOn Gone New r (hand_off r).rec
  all_handed_on r = handed_on_each 1 r.frames r
