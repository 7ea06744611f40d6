-- Where the item of a number stands, and the first item that passes a test.
use Rattle.std.specs.Prelude.{IfSome, ◌≡◌, ◌+◌, ◌<◌, ◌++◌, ℕ, Bool, List, length, slice_get, remove, slice_set, take}
use Rattle.std.specs.Prelude.{drop}
use Rattle.message_values.specs.Found.{find, put, nth, set_nth, IsPlace}
use Rattle.container_model.specs.declared.record.Object.{Object}
use Rattle.container_model.specs.Record.{is_object, without_first}

-- the item of number n stands at i
pub record IsNth {A : Type 0} (n : ℕ) (xs : List A) (i : ℕ) : Type 0 where
  pub fits : i < length xs
  pub number : n ≡ i + 1
  pub found : nth xs n ≡ slice_get xs i
  pub puts : (a : A) → set_nth xs n a ≡ slice_set xs i a

-- no item before i passes
pub record IsPast {A : Type 0} (test : A → Bool) (xs : List A) (i : ℕ) : Type 0 where
  pub found : find test xs ≡ find test (drop i xs)
  pub puts : (a : A) → put test a xs ≡ take i xs ++ put test a (drop i xs)
  pub without : without_first test xs ≡ take i xs ++ without_first test (drop i xs)

-- an object stands at i, and no object of its number before it
pub record IsObjectAt (os : List Object) (i : ℕ) : Type 0 where
  pub fits : i < length os
  pub own : IfSome (slice_get os i) (λ o. IsPlace (is_object o.number) os i)
  pub without : IfSome (slice_get os i) (λ o. without_first (is_object o.number) os ≡ remove os i)
