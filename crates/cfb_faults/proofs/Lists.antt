-- Elements of lists, and numbers that differ.
use Rattle.std.proofs.Common.{◌≢◌, ℕ, suc, List, [], ◌∷◌, get_or, sym, subst, arith}
use Rattle.std.proofs.lemmas.List.Elements.{Contains-get_or}
use Rattle.std.proofs.lemmas.List.Kept.{AllPairs-cons}
use Rattle.std.specs.List.{All, Contains}
use Rattle.cfb_chains.specs.Chain.{AreDistinct}

pub contains-none : {X : Type 0} (x : X) → Contains [] x → ⊥
contains-none x (k, lt, is) = omega arith

pub all-from : {X : Type 0} (P : X → Type 0) (xs : List X) → ((x : X) → Contains xs x → P x) → All P xs
all-from P xs f k d lt = f (get_or xs k d) (Contains-get_or xs k d lt)

pub distinct-cons : (n : ℕ) (ns : List ℕ) → (Contains ns n → ⊥) → AreDistinct ns → AreDistinct (n ∷ ns)
distinct-cons n ns h d = AllPairs-cons (λ a b. a ≢ b) n ns
    (all-from (λ m. n ≢ m) ns (λ m c e. h (subst (Contains ns) (sym e) c))) d

pub distinct-head : (n : ℕ) (ns : List ℕ) → AreDistinct (n ∷ ns) → Contains ns n → ⊥
distinct-head n ns d (k, lt, is) = d 0 (suc k) n (omega arith) (omega arith) (sym is)
