-- What an answer holds that is there, and what holds where it isn't.
use Rattle.std.proofs.Common.{◌≡◌, IfNone, IfSome, None, Option, Some, subst}

pub some_gives : {A : Type 0} (P : A → Type 0) (v : Option A) (a : A) → v ≡ Some a → IfSome v P → P a
some_gives P v a is h = subst (λ (x : Option _). IfSome x P) is h

pub none_gives : {A : Type 0} (P : Type 0) (v : Option A) → v ≡ None → IfNone v P → P
none_gives P v is h = subst (λ (x : Option _). IfNone x P) is h
