-- Stops as they are read word by word.
use Rattle.std.proofs.Common.{◌≡◌, ◌++◌, ◌||◌, ℕ, Bool, true, List, [], ◌∷◌, Option, Some, None, IsSome, IsTrue}
use Rattle.std.proofs.Common.{is_some, option_map, refl, sym, ap, ◌∙◌, append_assoc}
use Rattle.world_model.specs.declared.event.Event.{Event}
use Rattle.world_model.specs.declared.moment.Moment.{Moment}
use Rattle.text_worlds.specs.Moments.{moment_by, or_else, put_number, stop_of}

pub spelled : {A : Type 0} (o : Option A) → true ≡ is_some o → IsSome o
spelled None t = absurd (cc)
spelled (Some a) t = refl

pub stop_spells : (ns : Option (List ℕ)) → IsSome ns → IsSome (option_map stop_of ns)
stop_spells None t = absurd (cc)
stop_spells (Some ns) t = refl

-- one more word is a number
pub one_is : (n : Option ℕ) (k : ℕ) (others : Option (List ℕ)) → n ≡ Some k
    → is_some (put_number n others) ≡ is_some others
one_is None k others is = absurd (cc)
one_is (Some n) k None is = refl
one_is (Some n) k (Some ns) is = refl

-- numbers behind those that were read
abbrev pub behind : List ℕ → Option (List ℕ) → Option (List ℕ)
behind front None = None
behind front (Some ns) = Some (front ++ ns)

pub behind_none : (ns : Option (List ℕ)) → behind [] ns ≡ ns
behind_none None = refl
behind_none (Some ns) = refl

pub one_more : (front : List ℕ) (n : Option ℕ) (k : ℕ) (others : Option (List ℕ)) → n ≡ Some k
    → behind front (put_number n others) ≡ behind (front ++ k ∷ []) others
one_more front None k others is = absurd (cc)
one_more front (Some n) k None is = refl
one_more front (Some n) k (Some ns) is =
    let same : n ≡ k = cc in
    ap (λ m. Some (front ++ m ∷ ns)) same ∙ ap (λ l. Some l) (sym (append_assoc front (k ∷ []) ns))

-- whichever of the two ways of reading a line takes memory
pub stop_wants : (o : Option Moment) (b : Bool) → IsSome o → IsTrue (is_some o || b)
stop_wants None b t = absurd (cc)
stop_wants (Some m) b t = refl

pub event_wants : (o : Option Moment) (b : Bool) → IsTrue b → IsTrue (is_some o || b)
event_wants None b t = t
event_wants (Some m) b t = refl

-- a line that spells a moment may want memory
pub moment_wants : (o : Option Moment) (e : Option Event) (b : Bool) (m : Moment)
    → Some m ≡ or_else o (option_map moment_by e) → IsTrue (is_some o || (is_some e || b))
moment_wants (Some x) e b m is = refl
moment_wants None (Some x) b m is = refl
moment_wants None None b m is = absurd (cc)
