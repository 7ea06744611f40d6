-- An earlier run in the place of the present one, an event at a server of it, and back.
use Rattle.std.proofs.Common.{◌≡◌, ◌<◌, ℕ, zero, suc, true, false, List, [], ◌∷◌, map, Option, Some, None, Result, Ok}
use Rattle.std.proofs.Common.{length, get_or, set, refl, ap, sym, ◌∙◌, subst, arith, if◌then◌else◌}
use Rattle.std.specs.Prelude.{IfSome, slice_get}
use Rattle.std.proofs.lemmas.Bool.{eqb-true}
use Rattle.std.proofs.lemmas.List.{map-set, set-set}
use Rattle.message_values.specs.Found.{IsPlace, find, put}
use Rattle.world_model.specs.declared.event.Event.{Event}
use Rattle.world_model.specs.declared.event.Stop.{Stop}
use Rattle.world_model.specs.declared.event.Stop.TheVariants.{NotEnabled}
use Rattle.world_model.specs.World.{StopsFor, World, limited}
use Rattle.world_model.specs.Story.{Epoch, Story, as_of, earlier, goes_on, is_session, session_of}
use Rattle.world_model.specs.Story.{within}
use Rattle.world_stories.proofs.GoingOn.{goes_left}
use Rattle.world_run.specs.Passes.{left_at, swapped}
use Rattle.world_run.proofs.Passing.{left, left_refused, left_taken, limited_ok}
use Rattle.world_state.proofs.Servers.{seen_at}

-- ---- places in lists
set_here : {A : Type 0} (xs : List A) (i : ℕ) (a : A) → i < length xs → slice_get (set xs i a) i ≡ Some a
set_here [] i a lt = absurd (omega arith)
set_here (x ∷ xs) zero a lt = refl
set_here (x ∷ xs) (suc i) a lt = set_here xs i a (omega arith)

set_same : {A : Type 0} (xs : List A) (i : ℕ) (a : A) → slice_get xs i ≡ Some a → set xs i a ≡ xs
set_same [] i a e = refl
set_same (x ∷ xs) zero a e = (let is : x ≡ a = cc in ap (λ y. y ∷ xs) (sym is))
set_same (x ∷ xs) (suc i) a e = ap (λ ys. x ∷ ys) (set_same xs i a e)

there : {A : Type 0} (xs : List A) (i : ℕ) → i < length xs → (a : A) × (slice_get xs i ≡ Some a)
there [] i lt = absurd (omega arith)
there (x ∷ xs) zero lt = (x, refl)
there (x ∷ xs) (suc i) lt = there xs i (omega arith)

if_some : {A : Type 0} (P : A → Type 0) (o : Option A) (a : A) → o ≡ Some a → IfSome o P → P a
if_some P None a e h = cc
if_some P (Some b) a e h = (let is : b ≡ a = cc in subst P is h)

some_if : {A : Type 0} (P : A → Type 0) (o : Option A) (a : A) → o ≡ Some a → P a → IfSome o P
some_if P o a e h = subst (λ x. IfSome x P) (sym e) h

found_passes : (n : ℕ) (xs : List Epoch) (x : Epoch) → find (is_session n) xs ≡ Some x → x.session ≡ n
found_passes n [] x e = cc
found_passes n (y ∷ ys) x e = elim (is_session n y) as (λ b. is_session n y ≡ b
    → (if b then Some y else find (is_session n) ys) ≡ Some x → x.session ≡ n) [
      | true ↦ (λ t g. (let is : y ≡ x = cc in ap (λ (z : Epoch). z.session) (sym is) ∙ eqb-true y.session n t))
      | false ↦ (λ t g. found_passes n ys x g)
    ] refl e

-- the run that stands at a place, in a list and as it is seen
pub swaps : {A : Type 0} (see : A → Epoch) (xs : List A) (i : ℕ) (x y : A) (s after : Story) → s.past ≡ map see xs
    → i < length xs → x ≡ get_or xs i x
    → after.now ≡ as_of s.now (see x) → see y ≡ left_at (see x).session s.now → after.past ≡ map see (set xs i y)
    → after.document ≡ s.document → after.kept ≡ s.kept
    → IfSome (slice_get s.past i) (λ e. after ≡ swapped s e i)
swaps see xs i x y s after past lt is now left stands document kept =
    some_if (λ e. after ≡ swapped s e i) (slice_get s.past i) (see x)
    (ap (λ es. slice_get es i) past ∙ seen_at see xs i x lt is)
    (let set_past : after.past ≡ set s.past i (left_at (see x).session s.now) = stands
    ∙ (map-set see xs i y ∙ (ap (set (map see xs) i) left ∙ ap (λ es. set es i (left_at (see x).session s.now))
    (sym past))) in
    ap (λ w. record { now = w; past = after.past; document = after.document; kept = after.kept }) now
    ∙ (ap (λ es. record { now = as_of s.now (see x); past = es; document = after.document; kept = after.kept }) set_past
    ∙ (ap (λ d. record {
      now = as_of s.now (see x);
      past = set s.past i (left_at (see x).session s.now);
      document = d;
      kept = after.kept;
    }) document
    ∙ ap (λ ks. record {
      now = as_of s.now (see x);
      past = set s.past i (left_at (see x).session s.now);
      document = s.document;
      kept = ks;
    }) kept)))

-- ---- there and back
module _ (s : Story) (n i : ℕ) (e : Event) (p : IsPlace (is_session n) s.past i) (first : Story)
    (to : IfSome (slice_get s.past i) (λ x. first ≡ swapped s x i)) where
  abbrev x : Epoch
  x = (there s.past i p.fits).0

  at : slice_get s.past i ≡ Some x
  at = (there s.past i p.fits).1

  found : find (is_session n) s.past ≡ Some x
  found = p.found ∙ at

  is_first : first ≡ swapped s x i
  is_first = if_some (λ y. first ≡ swapped s y i) (slice_get s.past i) x at to

  -- what stands there meanwhile
  abbrev away : Epoch
  away = left_at x.session s.now

  module _ (v : World) (second third : Story) (went : v.rec ≡ first.now.rec → second ≡ record first { now = v })
      (back : IfSome (slice_get second.past i) (λ y. third ≡ swapped second y i)) where
    is_second : v.rec ≡ first.now.rec → second ≡ record s { now = v; past = set s.past i away }
    is_second same = went same ∙ ap (λ (y : Story). record y { now = v }) is_first

    is_away : v.rec ≡ first.now.rec → slice_get second.past i ≡ Some away
    is_away same = ap (λ (y : Story). slice_get y.past i) (is_second same) ∙ set_here s.past i away p.fits

    is_third : v.rec ≡ first.now.rec → third ≡ record s {
      now = as_of v away;
      past = set s.past i (left_at x.session v);
    }
    is_third same = if_some (λ y. third ≡ swapped second y i) (slice_get second.past i) away (is_away same) back
        ∙ (ap (λ (y : Story). swapped y away i) (is_second same)
        ∙ ap (λ es. record s { now = as_of v away; past = es }) (set-set s.past i away (left_at x.session v)))

    pub goes_taken : session_of s.now e ≡ n → (n ≡ s.now.rec.session → ⊥) → limited first.now (goes_on first.now e)
        ≡ Ok v
        → within s (earlier s e (find (is_session n) s.past)) ≡ Ok third
    goes_taken is apart h =
        let own = found_passes n s.past x found in
        let after = left_at x.session v in
        let gone : limited (as_of s.now x) (goes_on (as_of s.now x) e) ≡ Ok v =
        subst (λ (y : Story). limited y.now (goes_on y.now e) ≡ Ok v) is_first h in
        let k = goes_left s.now x e v (is ∙ sym own) (λ q. apart (sym own ∙ q))
        (limited_ok (as_of s.now x) (goes_on (as_of s.now x) e) v gone) in
        let same : v.rec ≡ first.now.rec = ap (λ (y : World). y.rec) (sym k)
        ∙ sym (ap (λ (y : Story). y.now.rec) is_first) in
        let now : as_of v away ≡ record s.now { stock = v.stock; sent = v.sent; answers = v.answers } =
        ap (λ (y : World). as_of y away) (sym k) in
        let past : set s.past i after ≡ put (is_session x.session) after s.past = sym (p.puts after)
        ∙ ap (λ m. put (is_session m) after s.past) (sym own) in
        ap (λ o. within s (earlier s e o)) found
        ∙ (left_taken s x (goes_on (as_of s.now x) e) v gone
        ∙ ap Ok (sym (is_third same
        ∙ (ap (λ w. record s { now = w; past = set s.past i after }) now
        ∙ ap (λ es. record s {
          now = record s.now { stock = v.stock; sent = v.sent; answers = v.answers };
          past = es;
        }) past))))

    pub goes_kept : v ≡ first.now → third ≡ s
    goes_kept h =
        let same : v ≡ as_of s.now x = h ∙ ap (λ (y : Story). y.now) is_first in
        is_third (ap (λ (w : World). w.rec) h)
        ∙ (ap (λ w. record s { now = as_of w away; past = set s.past i (left_at x.session w) }) same
        ∙ ap (λ es. record s { past = es }) (set_same s.past i x at))

  pub goes_refused : (stop : Stop) → StopsFor (limited first.now (goes_on first.now e)) stop
      → StopsFor (within s (earlier s e (find (is_session n) s.past))) stop
  goes_refused stop h =
      subst (λ o. StopsFor (within s (earlier s e o)) stop) (sym found)
      (left_refused s x (goes_on (as_of s.now x) e) stop
      (subst (λ (y : Story). StopsFor (limited y.now (goes_on y.now e)) stop) is_first h))

-- there is no run of this session
pub goes_nowhere : (s : Story) (n : ℕ) (e : Event) → find (is_session n) s.past ≡ None
    → StopsFor (within s (earlier s e (find (is_session n) s.past))) NotEnabled
goes_nowhere s n e none = ap (λ o. within s (earlier s e o)) none
