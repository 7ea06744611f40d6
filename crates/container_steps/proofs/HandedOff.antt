-- What is made of each object where frames hand off, and of each frame.
use Rattle.std.proofs.Common.{◌≡◌, ◌<◌, ◌⊎◌, inl, inr, ℕ, zero, suc, ◌+◌, ◌==◌, true, false, List, [], ◌∷◌, map, Option}
use Rattle.std.proofs.Common.{Some, None, refl, sym, ap, ◌∙◌, arith, subst, slice_get}
use Rattle.std.proofs.lemmas.Bool.{eqb-true, eqb-false}
use Rattle.std.specs.Prelude.{is_some}
use Rattle.message_values.specs.Found.{nth}
use Rattle.message_values.specs.declared.operation.Operation.TheVariants.{HandsOff}
use Rattle.container_model.specs.declared.record.Object.{Object}
use Rattle.container_model.specs.declared.record.Frame.{Frame}
use Rattle.container_model.specs.declared.record.Phase.TheVariants.{Saving}
use Rattle.container_model.specs.Record.{Record, asked_link, asked_object}
use Rattle.container_model.specs.Grants.{Requested}
use Rattle.container_model.specs.HandOffs.{hand_off_at, hand_off_each, hand_off_in, handed_off, handing_frame}
use Rattle.container_model.specs.HandOffs.{hands_off, unasked}
use Rattle.container_model.specs.Saves.{awaits}
use Rattle.container_queues.proofs.SteadyLookups.{nth-set_other, nth-set_same}
use Rattle.container_steady.proofs.SteadyRecords.{if_told}
use Rattle.container_commands.proofs.SteadyHandOffs.{handing_at}

-- an object whose frame hands off is asked for its storage
pub record Handed (frames : List Frame) (o later : Object) : Type 0 where
  pub frame : Frame
  pub inside : nth frames o.frame ≡ Some frame
  pub saving : frame.phase ≡ Saving
  pub named : is_some frame.asked ≡ true
  pub asked : later ≡ record o { link = asked_link HandsOff o.link }

abbrev pub StaysOrHanded : List Frame → Object → Object → Type 0
StaysOrHanded frames o later = (later ≡ o) ⊎ Handed frames o later

handed_frame : (frames : List Frame) (o later : Object) → StaysOrHanded frames o later → later.frame ≡ o.frame
handed_frame frames o later (inl e) = ap (λ (z : Object). z.frame) e
handed_frame frames o later (inr h) = ap (λ (z : Object). z.frame) h.asked

get_map : (g : Object → Object) (os : List Object) (i : ℕ) (o : Object) → slice_get os i ≡ Some o
    → slice_get (map g os) i ≡ Some (g o)
get_map g [] i o e = cc
get_map g (y ∷ ys) zero o e = (let same : y ≡ o = cc in ap (λ z. Some (g z)) same)
get_map g (y ∷ ys) (suc i) o e = get_map g ys i o e

-- one frame
abbrev Tells : Record → ℕ → ℕ → Object → Requested → Type 0
Tells r f i o z = (later : Object) × (slice_get z.rec.objects i ≡ Some later) × StaysOrHanded r.frames o later
    × ((o.frame ≡ f → ⊥) → later ≡ o)

hands_tell : (r : Record) (f : ℕ) (frame : Frame) (i : ℕ) (o : Object) → nth r.frames f ≡ Some frame
    → slice_get r.objects i ≡ Some o → hands_off f r.objects frame ≡ true → Tells r f i o (handed_off r f frame)
hands_tell r f frame i o there at e =
    let known = handing_at frame.phase frame.asked (awaits f r.objects) e in
    let told = if_told (λ (z : Object). StaysOrHanded r.frames o z × ((o.frame ≡ f → ⊥) → z ≡ o)) (o.frame == f)
    (record o { link = asked_link HandsOff o.link }) o
    (λ t. (
      inr (record {
        frame = frame;
        inside = ap (nth r.frames) (eqb-true o.frame f t) ∙ there;
        saving = known.0;
        named = known.1;
        asked = refl;
      }),
      λ ne. absurd (ne (eqb-true o.frame f t)),
    ))
    (λ t. (inl refl, λ ne. refl)) in
    (asked_object f HandsOff o, get_map (asked_object f HandsOff) r.objects i o at, told.0, told.1)

in_tells_at : (r : Record) (f : ℕ) (frame : Option Frame) (i : ℕ) (o : Object) → nth r.frames f ≡ frame
    → slice_get r.objects i ≡ Some o → Tells r f i o (hand_off_at r f frame)
in_tells_at r f None i o there at = (o, at, inl refl, λ ne. refl)
in_tells_at r f (Some frame) i o there at = if_told (Tells r f i o) (hands_off f r.objects frame)
    (handed_off r f frame) (unasked r)
    (λ e. hands_tell r f frame i o there at e)
    (λ e. (o, at, inl refl, λ ne. refl))

pub in_tells : (r : Record) (f i : ℕ) (o : Object) → slice_get r.objects i ≡ Some o → Tells r f i o (hand_off_in r f)
in_tells r f i o at = in_tells_at r f (nth r.frames f) i o refl at

-- its frame
others_at : (r : Record) (f : ℕ) (frame : Option Frame) (g : ℕ) → (g ≡ f → ⊥)
    → nth (hand_off_at r f frame).rec.frames g ≡ nth r.frames g
others_at r f None g ne = refl
others_at r f (Some frame) g ne = if_told (λ (z : Requested). nth z.rec.frames g ≡ nth r.frames g)
    (hands_off f r.objects frame) (handed_off r f frame) (unasked r)
    (λ e. nth-set_other r.frames f g (handing_frame frame) (λ q. ne (sym q)))
    (λ e. refl)

pub in_others : (r : Record) (f g : ℕ) → (g ≡ f → ⊥) → nth (hand_off_in r f).rec.frames g ≡ nth r.frames g
in_others r f g ne = others_at r f (nth r.frames f) g ne

abbrev SameUi : Frame → ℕ → Requested → Type 0
SameUi x g z = (y : Frame) × (nth z.rec.frames g ≡ Some y) × (y.ui ≡ x.ui)

ui_at : (r : Record) (f : ℕ) (frame : Option Frame) (x : Frame) → nth r.frames f ≡ frame → nth r.frames f ≡ Some x
    → SameUi x f (hand_off_at r f frame)
ui_at r f None x there at = (x, at, refl)
ui_at r f (Some frame) x there at = if_told (SameUi x f) (hands_off f r.objects frame) (handed_off r f frame)
    (unasked r)
    (λ e. let both = sym there ∙ at in
    let same : frame ≡ x = cc in
    (handing_frame frame, nth-set_same r.frames f frame (handing_frame frame) there, ap (λ (z : Frame). z.ui) same))
    (λ e. (x, at, refl))

pub in_ui : (r : Record) (f g : ℕ) (x : Frame) → nth r.frames g ≡ Some x → (y : Frame)
    × (nth (hand_off_in r f).rec.frames g ≡ Some y) × (y.ui ≡ x.ui)
in_ui r f g x at = elim (g == f) as (λ b. (g == f) ≡ b → SameUi x g (hand_off_in r f)) [
  | true ↦ (λ t. let same = eqb-true g f t in subst (λ (n : ℕ). SameUi x n (hand_off_in r f)) (sym same)
      (ui_at r f (nth r.frames f) x refl (ap (nth r.frames) (sym same) ∙ at)))
  | false ↦ (λ t. (x, in_others r f g (eqb-false g f t) ∙ at, refl))
] refl

-- all of them, the first of number f: an object of an earlier frame stays
abbrev TellsAll : Record → ℕ → ℕ → Object → Requested → Type 0
TellsAll r f i o z = (later : Object) × (slice_get z.rec.objects i ≡ Some later) × StaysOrHanded r.frames o later
    × (o.frame < f → later ≡ o)

moved_handed : (frames others : List Frame) (o later : Object) → nth others o.frame ≡ nth frames o.frame
    → StaysOrHanded others o later → StaysOrHanded frames o later
moved_handed frames others o later e (inl h) = inl h
moved_handed frames others o later e (inr h) =
    inr (record { frame = h.frame; inside = sym e ∙ h.inside; saving = h.saving; named = h.named; asked = h.asked })

pub each_tells : (f : ℕ) (xs : List Frame) (r : Record) (i : ℕ) (o : Object) → slice_get r.objects i ≡ Some o
    → TellsAll r f i o (hand_off_each f xs r)
each_tells f [] r i o at = (o, at, inl refl, λ lt. refl)
each_tells f (x ∷ xs) r i o at =
    let u = (hand_off_in r f).rec in
    let one = in_tells r f i o at in
    let mid = one.0 in
    let rest = each_tells (f + 1) xs u i mid one.1 in
    let placed = handed_frame r.frames o mid one.2 in
    elim (o.frame == f) as (λ b. (o.frame == f) ≡ b → TellsAll r f i o (hand_off_each f (x ∷ xs) r)) [
      | true ↦ (λ t.
          let here = eqb-true o.frame f t in
          let same : rest.0 ≡ mid = rest.3 (omega arith) in
          (rest.0, rest.1, subst (StaysOrHanded r.frames o) (sym same) one.2, λ lt. absurd (omega arith)))
      | false ↦ (λ t.
          let ne = eqb-false o.frame f t in
          let stays : mid ≡ o = one.3 ne in
          let told : StaysOrHanded u.frames o rest.0 = subst (λ (z : Object). StaysOrHanded u.frames z rest.0) stays
          rest.2 in (
            rest.0,
            rest.1,
            moved_handed r.frames u.frames o rest.0 (in_others r f o.frame ne) told,
            λ lt.
                rest.3 (omega arith) ∙ stays,
          ))
    ] refl
