-- Where a file stands, found by a walk.
use Rattle.std.proofs.Common.{◌≡◌, ℕ, ◌+◌, ◌<◌, ◌≤◌, List, [], ◌∷◌, ◌++◌, length, get_or, take, drop, refl, ap, sym}
use Rattle.std.proofs.Common.{◌∙◌, append_assoc, Some, true, false, add-one}
use Rattle.std.proofs.lemmas.List.{drop_more, take_all, take_more, set_split}
use Rattle.std.proofs.lemmas.Option.{slice_get-get_or}
use Rattle.std.proofs.Math.ListN.{drop_of_length-le}
use Rattle.message_values.specs.Found.{find}
use Rattle.world_model.specs.declared.logs.File.{File}
use Rattle.world_model.specs.World.{is_file, put_file}
use Rattle.world_host.specs.Files.{IsFileAt, IsNoFile}

-- the file stands nowhere before i
pub record IsPast (name : List ℕ) (xs : List File) (i : ℕ) : Type 0 where
  pub found : find (is_file name) xs ≡ find (is_file name) (drop i xs)
  pub puts : (a : List ℕ) → put_file name a xs ≡ take i xs ++ put_file name a (drop i xs)

pub past_none : (name : List ℕ) (xs : List File) → IsPast name xs 0
past_none name xs = record { found = refl; puts = λ a. refl }

pub past_more : (name : List ℕ) (xs : List File) (i : ℕ) (x : File) → IsPast name xs i → i < length xs
    → x ≡ get_or xs i x → is_file name x ≡ false → IsPast name xs (i + 1)
past_more name xs i x p lt e t =
    let split : drop i xs ≡ x ∷ drop (i + 1) xs = drop_more xs i x lt ∙ ap (λ y. y ∷ drop (i + 1) xs) (sym e) in
    let tk : take (i + 1) xs ≡ take i xs ++ x ∷ [] = take_more xs i x lt ∙ ap (λ y. take i xs ++ y ∷ []) (sym e) in
    record {
      found = p.found ∙ (ap (find (is_file name)) split ∙ rw t refl);
      puts = λ a. p.puts a ∙ (ap (λ ys. take i xs ++ put_file name a ys) split
          ∙ (rw t (rw tk (sym (append_assoc (take i xs) (x ∷ []) (put_file name a (drop (i + 1) xs)))))));
    }

pub past_here : (name : List ℕ) (xs : List File) (i : ℕ) (x : File) → IsPast name xs i → i < length xs
    → x ≡ get_or xs i x → is_file name x ≡ true → IsFileAt name xs i
past_here name xs i x p lt e t =
    let split : drop i xs ≡ x ∷ drop (i + 1) xs = drop_more xs i x lt ∙ ap (λ y. y ∷ drop (i + 1) xs) (sym e) in
    record {
      found = p.found ∙ (ap (find (is_file name)) split ∙ (rw t (ap Some e ∙ sym (slice_get-get_or xs i x lt))));
      puts = λ a. p.puts a ∙ (ap (λ ys. take i xs ++ put_file name a ys) split
          ∙ (rw t (sym (rw add-one (set_split xs i (record { name = name; bytes = a }) lt)))));
    }

pub past_all : (name : List ℕ) (xs : List File) (i : ℕ) → IsPast name xs i → length xs ≤ i → IsNoFile name xs
past_all name xs i p h =
    let none : drop i xs ≡ [] = drop_of_length-le xs h in
    record {
      found = p.found ∙ ap (find (is_file name)) none;
      puts = λ a. p.puts a ∙ (ap (λ ys. take i xs ++ put_file name a ys) none
          ∙ ap (λ ys. ys ++ record { name = name; bytes = a } ∷ []) (take_all i xs h));
    }
