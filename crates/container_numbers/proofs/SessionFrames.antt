-- Frames whose saves raise a session: only where the container has none, only the first frame, and only by one.
use Rattle.std.proofs.Common.{◌≡◌, ◌<◌, ◌+◌, ◌++◌, ℕ, zero, suc, List, [], ◌∷◌, map, Option, Some, None, slice_get}
use Rattle.std.proofs.Common.{refl, sym, subst, arith}
use Rattle.std.specs.Prelude.{IfSome, slice_set}
use Rattle.message_values.specs.Found.{nth, set_nth}
use Rattle.container_model.specs.declared.record.Frame.{Frame}
use Rattle.container_model.specs.declared.record.Object.{Object}
use Rattle.container_model.specs.declared.record.Phase.TheVariants.{Committing}
use Rattle.container_model.specs.Saves.{committed_frame, is_ready, session_after, settled_frames}
use Rattle.container_steady.proofs.SteadyTells.{if_told}
use Rattle.container_numbers.specs.Sessions.{MayRaise}

-- ---- a frame of this number, and frames, the first of them of number f
abbrev pub RaisesIn : ℕ → ℕ → Frame → Type 0
RaisesIn s f frame = MayRaise s f frame frame.raised

abbrev pub AllRaiseFrom : ℕ → ℕ → List Frame → Type 0
AllRaiseFrom s f [] = Unit {0}
AllRaiseFrom s f (x ∷ xs) = RaisesIn s f x × AllRaiseFrom s (f + 1) xs

abbrev pub AllRaise : ℕ → List Frame → Type 0
AllRaise s frames = AllRaiseFrom s 1 frames

-- ---- by their numbers
from_at : (s f : ℕ) (xs : List Frame) → ((i : ℕ) (x : Frame) → slice_get xs i ≡ Some x → RaisesIn s (f + i) x)
    → AllRaiseFrom s f xs
from_at s f [] k = tt
from_at s f (x ∷ xs) k =
    let here : f + 0 ≡ f = omega arith in (
      subst (λ (n : ℕ). RaisesIn s n x) here (k 0 x refl),
      from_at s (f + 1) xs (λ i y e. let there : f + suc i ≡ f + 1 + i = omega arith in
          subst (λ (n : ℕ). RaisesIn s n y) there (k (suc i) y e)),
    )

pub all_raise : (s : ℕ) (xs : List Frame) → ((f : ℕ) (x : Frame) → nth xs f ≡ Some x → RaisesIn s f x) → AllRaise s xs
all_raise s xs k = from_at s 1 xs (λ i x e. let up : suc i ≡ 1 + i = omega arith in
    subst (λ (n : ℕ). RaisesIn s n x) up (k (suc i) x e))

if_from : (s f : ℕ) (xs : List Frame) (i : ℕ) → AllRaiseFrom s f xs → IfSome (slice_get xs i) (RaisesIn s (f + i))
if_from s f [] i h = tt
if_from s f (x ∷ xs) zero h = (let here : f ≡ f + 0 = omega arith in subst (λ (n : ℕ). RaisesIn s n x) here h.0)
if_from s f (x ∷ xs) (suc i) h = (let there : f + 1 + i ≡ f + suc i = omega arith in
    subst (λ (n : ℕ). IfSome (slice_get xs i) (RaisesIn s n)) there (if_from s (f + 1) xs i h.1))

pub if_raises : (s : ℕ) (xs : List Frame) (f : ℕ) → AllRaise s xs → IfSome (nth xs f) (RaisesIn s f)
if_raises s xs zero h = tt
if_raises s xs (suc i) h = (let up : 1 + i ≡ suc i = omega arith in
    subst (λ (n : ℕ). IfSome (slice_get xs i) (RaisesIn s n)) up (if_from s 1 xs i h))

pub raises_at : (s : ℕ) (xs : List Frame) (f : ℕ) (x : Frame) → AllRaise s xs → nth xs f ≡ Some x → RaisesIn s f x
raises_at s xs f x h e = subst (λ z. IfSome z (RaisesIn s f)) e (if_raises s xs f h)

-- ---- frames that change
set_from : (s f : ℕ) (xs : List Frame) (i : ℕ) (a : Frame) → AllRaiseFrom s f xs → RaisesIn s (f + i) a
    → AllRaiseFrom s f (slice_set xs i a)
set_from s f [] i a h k = tt
set_from s f (x ∷ xs) zero a h k = (let here : f + 0 ≡ f = omega arith in
    (subst (λ (n : ℕ). RaisesIn s n a) here k, h.1))
set_from s f (x ∷ xs) (suc i) a h k = (let there : f + suc i ≡ f + 1 + i = omega arith in
    (h.0, set_from s (f + 1) xs i a h.1 (subst (λ (n : ℕ). RaisesIn s n a) there k)))

pub raise_set : (s : ℕ) (xs : List Frame) (f : ℕ) (a : Frame) → AllRaise s xs → RaisesIn s f a
    → AllRaise s (set_nth xs f a)
raise_set s xs zero a h k = h
raise_set s xs (suc i) a h k = (let up : suc i ≡ 1 + i = omega arith in
    set_from s 1 xs i a h (subst (λ (n : ℕ). RaisesIn s n a) up k))

-- one more, which is no save's
append_from : (s f : ℕ) (xs : List Frame) (a : Frame) → a.raised ≡ None → AllRaiseFrom s f xs
    → AllRaiseFrom s f (xs ++ a ∷ [])
append_from s f [] a none h = (subst (MayRaise s f a) (sym none) tt, tt)
append_from s f (x ∷ xs) a none h = (h.0, append_from s (f + 1) xs a none h.1)

pub raise_append : (s : ℕ) (xs : List Frame) (a : Frame) → a.raised ≡ None → AllRaise s xs → AllRaise s (xs ++ a ∷ [])
raise_append s xs a none h = append_from s 1 xs a none h

map_from : (s f : ℕ) (g : Frame → Frame) (xs : List Frame)
    → ((n : ℕ) (x : Frame) → RaisesIn s n x → RaisesIn s n (g x)) → AllRaiseFrom s f xs
    → AllRaiseFrom s f (map g xs)
map_from s f g [] k h = tt
map_from s f g (x ∷ xs) k h = (k f x h.0, map_from s (f + 1) g xs k h.1)

pub raise_map : (s : ℕ) (g : Frame → Frame) (xs : List Frame)
    → ((n : ℕ) (x : Frame) → RaisesIn s n x → RaisesIn s n (g x)) → AllRaise s xs → AllRaise s (map g xs)
raise_map s g xs k h = map_from s 1 g xs k h

settle_from : (s f : ℕ) (os : List Object) (xs : List Frame) → AllRaiseFrom s f xs
    → AllRaiseFrom s f (settled_frames f os xs)
settle_from s f os [] h = tt
settle_from s f os (x ∷ xs) h = (
  if_told (RaisesIn s f) (is_ready f os x) (record x { phase = Committing }) x (λ t. h.0) (λ t. h.0),
  settle_from s (f + 1) os xs h.1,
)

pub raise_settle : (s : ℕ) (os : List Object) (xs : List Frame) → AllRaise s xs → AllRaise s (settled_frames 1 os xs)
raise_settle s os xs h = settle_from s 1 os xs h

-- ---- a commit is counted: behind the first frame none raises, and so none is left that does
none_behind : (s after f : ℕ) (x : Frame) (raised : Option ℕ) → 1 < f → MayRaise s f x raised
    → MayRaise after f x raised
none_behind s after f x None lt h = tt
none_behind s after f x (Some n) lt h = (let first : f ≡ 1 = h.1 in absurd (omega arith))

behind : (s after f : ℕ) (xs : List Frame) → 1 < f → AllRaiseFrom s f xs → AllRaiseFrom after f xs
behind s after f [] lt h = tt
behind s after f (x ∷ xs) lt h = (none_behind s after f x x.raised lt h.0, behind s after (f + 1) xs (omega arith) h.1)

first_counted : (s after : ℕ) (xs : List Frame) (frame : Frame) → AllRaise s xs
    → AllRaise after (set_nth xs 1 (committed_frame frame))
first_counted s after [] frame h = tt
first_counted s after (x ∷ xs) frame h = (tt, behind s after (1 + 1) xs (omega arith) h.1)

counted_by : (s f : ℕ) (xs : List Frame) (frame : Frame) (raised : Option ℕ) → AllRaise s xs
    → MayRaise s f frame raised → AllRaise (session_after s raised) (set_nth xs f (committed_frame frame))
counted_by s f xs frame None h k = raise_set s xs f (committed_frame frame) h tt
counted_by s f xs frame (Some n) h k = subst (λ (m : ℕ). AllRaise n (set_nth xs m (committed_frame frame)))
    (sym k.1) (first_counted s n xs frame h)

pub raise_counted : (s f : ℕ) (xs : List Frame) (frame : Frame) → AllRaise s xs → RaisesIn s f frame
    → AllRaise (session_after s frame.raised) (set_nth xs f (committed_frame frame))
raise_counted s f xs frame h k = counted_by s f xs frame frame.raised h k
