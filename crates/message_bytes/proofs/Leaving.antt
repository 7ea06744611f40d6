-- Frames at the front of bytes, and what is kept of the bytes behind them.
use Rattle.std.proofs.Common.{◌≡◌, ℕ, suc, zero, ◌+◌, ◌-◌, ◌<◌, ◌≤◌, List, [], ◌∷◌, ◌++◌, length, take, drop, Option}
use Rattle.std.proofs.Common.{Some, None, Result, Ok, Err, refl, sym, ap, subst, ◌∙◌, append_assoc, arith, slice_set}
use Rattle.std.proofs.Common.{inl, inr}
use Rattle.std.specs.Prelude.{IfOk, OnErr}
use Rattle.std.specs.List.{AllByRecursion}
use Rattle.std.proofs.lemmas.Bool.{cases_lt}
use Rattle.std.proofs.lemmas.List.{append-nil, take-append-drop, take-append-le, take-take, take_all, take_at}
use Rattle.std.proofs.lemmas.List.{length-append, length-take, length-drop}
use Rattle.message_model.specs.declared.fault.WireFault.{WireFault}
use Rattle.message_model.specs.declared.fault.WireFault.TheVariants.{BadField}
use Rattle.message_model.specs.declared.frame.Frame.{Frame}
use Rattle.message_model.specs.Frames.{IsFrame, shown}
use Rattle.message_model.specs.Spelling.{spell, joined}
use Rattle.message_drafts.specs.Opens.{Form}
use Rattle.message_drafts.proofs.Plans.{take_over}
use Rattle.message_bytes.specs.Fronts.{IsFaulty, IsWhole, Ends, Grows, Keeps, Leaves, Took}
use Rattle.message_bytes.specs.Holding.{Holds, IsBody, Rest}
use Rattle.message_bytes.proofs.Fronts.{begun, faulty_more}

pub leaves_took : (old new : List Frame) (bytes : List ℕ) (used : ℕ) (kept : Rest) (fault : Option WireFault)
    → Took old new bytes used → Keeps fault kept (drop used bytes) → Leaves old new bytes kept fault
leaves_took old new bytes used kept fault t k = record {
  added = t.added;
  grew = t.grew;
  each = t.each;
  rest = drop used bytes;
  parts = t.parts;
  keeps = k;
}

-- bytes that have no frame
pub leaves_none : (old new : List Frame) (bytes : List ℕ) (kept : Rest) (fault : Option WireFault) → new ≡ old
    → Keeps fault kept bytes → Leaves old new bytes kept fault
leaves_none old new bytes kept fault same k = record {
  added = [];
  grew = same ∙ sym (append-nil old);
  each = tt;
  rest = bytes;
  parts = refl;
  keeps = k;
}

-- a frame, and what stands behind it
leaves_behind : (old new added : List Frame) (f : Frame) (whole behind : List ℕ) (kept : Rest)
    (fault : Option WireFault) (rest : List ℕ) → IsFrame f → whole ≡ spell f → AllByRecursion IsFrame added
    → behind ≡ joined added ++ rest
    → Keeps fault kept rest → new ≡ old ++ f ∷ added → Leaves old new (whole ++ behind) kept fault
leaves_behind old new added f whole behind kept fault rest frame spelled each parts keeps grew = record {
  added = f ∷ added;
  grew = grew;
  each = (frame, each);
  rest = rest;
  parts = (λ i. spelled i ++ parts i) ∙ sym (append_assoc (spell f) (joined added) rest);
  keeps = keeps;
}

spelled_whole : (f : Frame) (whole : List ℕ) → IsWhole f (length whole) whole → whole ≡ spell f
spelled_whole f whole w = sym (take_all (length whole) whole (omega arith)) ∙ w.spelled

pub leaves_pushed : (old new : List Frame) (f : Frame) (whole behind : List ℕ) (kept : Rest)
    (fault : Option WireFault) → IsFrame f → whole ≡ spell f → Leaves (old ++ f ∷ []) new behind kept fault
    → Leaves old new (whole ++ behind) kept fault
leaves_pushed old new f whole behind kept fault frame spelled l =
    leaves_behind old new l.added f whole behind kept fault l.rest frame spelled l.each l.parts l.keeps
    (l.grew ∙ append_assoc old (f ∷ []) l.added)

set_at : (old added : List Frame) (g f : Frame) → slice_set (old ++ g ∷ added) (length old) f ≡ old ++ f ∷ added
set_at [] added g f = refl
set_at (h ∷ old) added g f = ap (λ (fs : List Frame). h ∷ fs) (set_at old added g f)

-- a frame that is put into its place
pub leaves_put : (old mid new : List Frame) (g f : Frame) (at : ℕ) (whole behind : List ℕ) (kept : Rest)
    (fault : Option WireFault) → IsWhole f (length whole) whole → Leaves (old ++ g ∷ []) mid behind kept fault
    → at ≡ length old
    → new ≡ slice_set mid at f → Leaves old new (whole ++ behind) kept fault
leaves_put old mid new g f at whole behind kept fault w l at_is set =
    leaves_behind old new l.added f whole behind kept fault l.rest w.frame (spelled_whole f whole w) l.each l.parts
    l.keeps
    (set ∙ (λ i. slice_set ((l.grew ∙ append_assoc old (g ∷ []) l.added) i) (at_is i) f) ∙ set_at old l.added g f)

pub place_there : (old mid : List Frame) (g : Frame) (behind : List ℕ) (kept : Rest) (fault : Option WireFault)
    → Leaves (old ++ g ∷ []) mid behind kept fault → length old < length mid
place_there old mid g behind kept fault l =
    omega (arith, ap length l.grew, length-append (old ++ g ∷ []) l.added, length-append old (g ∷ []))

-- bytes that show a fault
pub leaves_faulty : (old new : List Frame) (bytes behind : List ℕ) (kept : Rest) → new ≡ old
    → IsFaulty BadField bytes → Leaves old new (bytes ++ behind) kept (Some BadField)
leaves_faulty old new bytes behind kept same faulty = leaves_none old new (bytes ++ behind) kept (Some BadField)
    same (faulty_more BadField bytes behind faulty)

pub taken_back : (old mid : List Frame) (g : Frame) → take (length (old ++ g ∷ [])) mid ≡ old ++ g ∷ []
    → take (length old) mid ≡ old
taken_back old mid g e =
    sym (take-take (length old) (length (old ++ g ∷ [])) mid (omega (arith, length-append old (g ∷ []))))
    ∙ ap (take (length old)) e ∙ take-append-le (length old) old (g ∷ []) (omega arith)
    ∙ take_all (length old) old (omega arith)

-- ---- a frame whose first bytes were held

-- it has at least the bytes that were held, which show no fault
held_within : (held more : List ℕ) (f : Frame) (used : ℕ) → shown held ≡ None → IsWhole f used (held ++ more)
    → length held ≤ used
held_within held more f used none w =
    elim (cases_lt used (length held)) [
      | inl lt ↦ (let front : take used held ≡ spell f = sym (take-append-le used held more (omega arith))
          ∙ w.spelled in
          let all : held ≡ spell f ++ drop used held = sym (take-append-drop used held)
          ∙ ap (λ (x : List ℕ). x ++ drop used held) front in
          let told : None ≡ Some BadField = sym none ∙ ap shown all ∙ begun f (drop used held) w.frame in
          absurd cc)
      | inr le ↦ le
    ]

pub held_parts : (held piece : List ℕ) (f : Frame) (n used : ℕ) → shown held ≡ None → n ≤ length piece
    → IsWhole f used (held ++ take n piece)
    → (at : ℕ) → at ≡ used - length held → held ++ piece ≡ spell f ++ drop at piece
held_parts held piece f n used none within w at at_is =
    let le : length held ≤ used = held_within held (take n piece) f used none w in
    let few : used ≤ length (held ++ take n piece) = w.within in
    let front : take used (held ++ take n piece) ≡ held ++ take at piece =
    take_over held (take n piece) used le ∙ ap (λ (m : ℕ). held ++ take m (take n piece)) (sym at_is)
    ∙ ap (λ (x : List ℕ). held ++ x)
    (take-take at n piece
    (omega (arith, few, at_is, length-append held (take n piece), length-take n piece))) in
    ap (λ (x : List ℕ). held ++ x) (sym (take-append-drop at piece))
    ∙ sym (append_assoc held (take at piece) (drop at piece))
    ∙ ap (λ (x : List ℕ). x ++ drop at piece) (sym front ∙ w.spelled)

pub held_few : (held piece : List ℕ) (n used : ℕ) (f : Frame) → n ≤ length piece
    → IsWhole f used (held ++ take n piece) → used - length held ≤ length piece
held_few held piece n used f within w =
    let few : used ≤ length (held ++ take n piece) = w.within in
    omega (arith, few, length-append held (take n piece), length-take n piece)

pub cut_place : (old mid : List Frame) (g : Frame) (behind : List ℕ) (kept : Rest) (fault : Option WireFault)
    → Leaves (old ++ g ∷ []) mid behind kept fault → take (length old) mid ≡ old
cut_place old mid g behind kept fault l = ap (take (length old)) (l.grew ∙ append_assoc old (g ∷ []) l.added)
    ∙ take_at old (g ∷ l.added) (length old) refl

pub holds_body : (u : Rest) (b : Form) (bytes : List ℕ) → u ≡ record { front = []; body = Some b } → IsBody b bytes
    → Holds u bytes
holds_body u b bytes e h = subst (λ (r : Rest). Holds r bytes) (sym e) h

pub few_parts : (held piece front behind : List ℕ) (n : ℕ) → front ≡ held ++ take n piece → behind ≡ drop n piece
    → front ++ behind ≡ held ++ piece
few_parts held piece front behind n e d = (λ i. e i ++ d i) ∙ append_assoc held (take n piece) (drop n piece)
    ∙ ap (λ (x : List ℕ). held ++ x) (take-append-drop n piece)

pub on_ok : {A B : Type 0} {P Q : A → Type 0} (r : Result A B) → ((x : A) → P x → Q x) → IfOk r P → IfOk r Q
on_ok (Ok x) f p = f x p
on_ok (Err e) f p = p

pub on_err : {A B P Q : Type 0} (r : Result A B) → (P → Q) → OnErr r P → OnErr r Q
on_err (Ok x) f p = p
on_err (Err e) f p = f p

-- a body that goes on behind bytes that were held
pub leaves_on : (old new : List Frame) (bytes all : List ℕ) (u : Rest) (b : Form) → new ≡ old
    → u ≡ record { front = []; body = Some b } → all ≡ bytes → IsBody b all → shown all ≡ None
    → Leaves old new bytes u None
leaves_on old new bytes all u b same e is h none = leaves_none old new bytes u None same
    (subst (λ (x : List ℕ). Holds u x × (shown x ≡ None)) is (holds_body u b all e h, none))
