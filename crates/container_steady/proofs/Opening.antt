-- A file that is opened, as it is taken, and its objects as they come one by one.
use Rattle.std.proofs.Common.{◌≡◌, ◌+◌, ◌++◌, ℕ, suc, true, false, not, List, [], ◌∷◌, length, Some, None, Ok, refl}
use Rattle.std.proofs.Common.{sym, ◌∙◌, ap, arith, subst}
use Rattle.std.proofs.lemmas.Bool.{leb-false, leb-true, ltb-false}
use Rattle.std.proofs.lemmas.List.{append_assoc, append-nil}
use Rattle.std.specs.Prelude.{◌||◌, nat_le, nat_lt, slice_get}
use Rattle.message_values.specs.Found.{nth}
use Rattle.ole_model.specs.DocOf.{is_object}
use Rattle.ole_model.specs.declared.object.DocObject.{DocObject}
use Rattle.container_model.specs.declared.record.Frame.{Frame}
use Rattle.container_model.specs.declared.fault.ContainerFault.TheVariants.{BadFile, Busy, Full, NumbersSpent}
use Rattle.container_model.specs.declared.fault.ContainerFault.TheVariants.{WrongState}
use Rattle.container_model.specs.Record.{Record, Took, MOST_FRAMES, MOST_OBJECTS}
use Rattle.container_model.specs.Saves.{are_objects, is_document}
use Rattle.container_model.specs.Commands.{is_named, is_size}
use Rattle.container_model.specs.Opens.{Given, opened_given, opened_made, opened_object, opened_objects}
use Rattle.container_steady.specs.Opened.{FilesAreOpenedSo, IsOpened}
use Rattle.container_steady.proofs.SteadyTells.{and_both, or_false, unless_ok}
use Rattle.container_steady.proofs.SteadyTests.{not_false}

held_opened : (r : Record) (name : List ℕ) (w h : ℕ) (given : Given) (t : Took) → is_named name r.frames ≡ false
    → is_size w h ≡ true → opened_given r name w h given ≡ Ok t → IsOpened r name w h given t
held_opened r name w h Given.Missing t unnamed size e = cc
held_opened r name w h Given.Broken t unnamed size e = cc
held_opened r name w h (Given.Holding d) t unnamed size e =
    let ds = d.objects in
    let a = unless_ok (not (is_document ds)) BadFile _ t e in
    let b = unless_ok (nat_le MOST_FRAMES (length r.frames)) Full _ t a.1 in
    let c = unless_ok (nat_le r.numbers (length r.frames) || nat_lt r.numbers (r.last_object + length ds))
    NumbersSpent _ t b.1 in
    let held = and_both (nat_le (length ds) MOST_OBJECTS) (are_objects ds) (not_false (is_document ds) a.0) in
    let drawn = or_false (nat_le r.numbers (length r.frames)) (nat_lt r.numbers (r.last_object + length ds)) c.0 in
    let made = c.1 in
    let is : opened_made r name w h d ≡ t = cc in
    record {
      d = d;
      holds = refl;
      unnamed = unnamed;
      size = size;
      most = leb-true (length ds) MOST_OBJECTS held.0;
      within = held.1;
      few = leb-false MOST_FRAMES (length r.frames) b.0;
      numbers = leb-false r.numbers (length r.frames) drawn.0;
      objects = ltb-false r.numbers (r.last_object + length ds) drawn.1;
      made = is;
    }

pub is_opened : FilesAreOpenedSo
is_opened r name w h given t e =
    let a = unless_ok (is_named name r.frames) Busy _ t e in
    let b = unless_ok (not (is_size w h)) WrongState _ t a.1 in
    held_opened r name w h given t a.0 (not_false (is_size w h) b.0) b.1

-- the frame comes first, then the objects one after another
abbrev pub framed : Record → Frame → Record
framed r frame = record r { frames = r.frames ++ frame ∷ [] }

abbrev pub one_opened : Record → ℕ → DocObject → Record
one_opened r f d = record r {
  objects = r.objects ++ opened_object (r.last_object + 1) f d ∷ [];
  last_object = r.last_object + 1;
}

abbrev pub all_opened : Record → ℕ → List DocObject → Record
all_opened r f ds = record r {
  objects = r.objects ++ opened_objects r.last_object f ds;
  last_object = r.last_object + length ds;
}

-- What is kept by each object that comes, while so many are still to come, is kept by all of them.
pub each_opened : (P : ℕ → Record → Type 0) (f : ℕ)
    → ((n : ℕ) (r : Record) (d : DocObject) → is_object d ≡ true → P (suc n) r → P n (one_opened r f d))
    → (ds : List DocObject) (r : Record) → are_objects ds ≡ true → P (length ds) r → P 0 (all_opened r f ds)
each_opened P f step [] r h p =
    subst (λ (u : Record). P 0 u)
    (sym (ap (λ os. record r { objects = os; last_object = r.last_object + 0 }) (append-nil r.objects)
    ∙ ap (λ n. record r { last_object = n }) (let e : r.last_object + 0 ≡ r.last_object = omega arith in e))) p
each_opened P f step (d ∷ ds) r h p =
    let held = and_both (is_object d) (are_objects ds) h in
    let a = opened_object (r.last_object + 1) f d in
    let more : (r.last_object + 1) + length ds ≡ r.last_object + suc (length ds) = omega arith in
    subst (λ (u : Record). P 0 u)
    (ap (λ os. record r { objects = os; last_object = (r.last_object + 1) + length ds })
    (append_assoc r.objects (a ∷ []) (opened_objects (r.last_object + 1) f ds))
    ∙ ap (λ n. record r { objects = r.objects ++ a ∷ opened_objects (r.last_object + 1) f ds; last_object = n }) more)
    (each_opened P f step ds (one_opened r f d) held.1 (step (length ds) r d held.0 p))

-- the new frame is the last one, and no frame stood there before
get_last : {A : Type 0} (xs : List A) (a : A) → slice_get (xs ++ a ∷ []) (length xs) ≡ Some a
get_last [] a = refl
get_last (x ∷ xs) a = get_last xs a

pub nth_last : {A : Type 0} (xs : List A) (a : A) → nth (xs ++ a ∷ []) (length xs + 1) ≡ Some a
nth_last xs a = (let up : suc (length xs) ≡ length xs + 1 = omega arith in
    subst (λ n. nth (xs ++ a ∷ []) n ≡ Some a) up (get_last xs a))

get_past : {A : Type 0} (xs : List A) → slice_get xs (length xs) ≡ None
get_past [] = refl
get_past (x ∷ xs) = get_past xs

pub nth_past : {A : Type 0} (xs : List A) → nth xs (length xs + 1) ≡ None
nth_past xs = (let up : suc (length xs) ≡ length xs + 1 = omega arith in subst (λ n. nth xs n ≡ None) up (get_past xs))
