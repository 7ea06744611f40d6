-- Stories go on by one moment.
use Rattle.std.proofs.Common.{◌≡◌, ℕ, ◌+◌, ◌<◌, List, [], ◌∷◌, ◌++◌, length, get_or, take, refl, ap, sym, ◌∙◌, subst}
use Rattle.std.proofs.Common.{Some, Ok}
use Rattle.std.specs.Prelude.{slice_get}
use Rattle.std.proofs.lemmas.List.{take_more}
use Rattle.std.proofs.lemmas.Option.{slice_get-get_or}
use Rattle.world_model.specs.declared.event.Stop.{Stop}
use Rattle.world_model.specs.declared.moment.Moment.{Moment}
use Rattle.world_model.specs.Story.{Chosen, EndsAt, MayChooseAt, Story, Tells, pass}
use Rattle.world_run.specs.Passes.{Passes}

tells_last : (s : Story) (ms : List Moment) (m : Moment) (u v : Story) → Tells s ms u → Passes u m v
    → Tells s (ms ++ m ∷ []) v
tells_last s [] m u v t p = subst (λ x. (choice : Chosen) × (next : Story) × MayChooseAt x choice m
    × (pass x choice m ≡ Ok next) × (v ≡ next)) t (p.0, v, p.1, p.2, refl)
tells_last s (x ∷ ms) m u v t p = (t.0, t.1, t.2, t.3, tells_last t.1 ms m u v t.4 p)

-- a story goes on by one moment
pub tells_more : (s : Story) (ms : List Moment) (i : ℕ) (m : Moment) (u v : Story) → Tells s (take i ms) u
    → i < length ms → m ≡ get_or ms i m → Passes u m v → Tells s (take (i + 1) ms) v
tells_more s ms i m u v t lt eq p = rw (take_more ms i m lt)
    (tells_last s (take i ms) (get_or ms i m) u v t (subst (λ x. Passes u x v) eq p))

-- a story stops before a moment
pub stops : (ms : List Moment) (i : ℕ) (m : Moment) (u v : Story) (stop : Stop) → i < length ms → m ≡ get_or ms i m
    → EndsAt u m stop → v ≡ u → (x : Moment) × (slice_get ms i ≡ Some x) × EndsAt v x stop
stops ms i m u v stop lt eq s k =
    (m, slice_get-get_or ms i m lt ∙ ap Some (sym eq), subst (λ y. EndsAt y m stop) (sym k) s)
