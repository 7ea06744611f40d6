-- Files that are checked, one more each time.
use Rattle.std.proofs.Common.{◌≡◌, ◌++◌, ◌&&◌, ◌∷◌, [], ◌∙◌, ◌<◌, ◌+◌, ℕ, Bool, true, false, List, Option, Some, None}
use Rattle.std.proofs.Common.{refl, ap, subst, sym, append_assoc, get_or, length, map, take}
use Rattle.std.proofs.lemmas.List.{append-nil, map_more}
use Rattle.std.specs.List.{list_all}
use Rattle.tell_files.specs.Many.{AreChecked, Notes}

notes_none : (told : Option (List (List ℕ × Bool))) → Notes told told []
notes_none None = tt
notes_none (Some vs) = sym (append-nil vs)

notes_more : (old mid new : Option (List (List ℕ × Bool))) (a b : List (List ℕ × Bool)) → Notes old mid a
    → Notes mid new b → Notes old new (a ++ b)
notes_more None mid new a b p q = tt
notes_more (Some vs) None new a b p q = absurd p
notes_more (Some vs) (Some ws) None a b p q = absurd q
notes_more (Some vs) (Some ws) (Some us) a b p q = q ∙ ap (λ x. x ++ b) p ∙ append_assoc vs a b

names_more : (a b : List (List ℕ × Bool)) → map (λ v. v.0) (a ++ b) ≡ map (λ v. v.0) a ++ map (λ v. v.0) b
names_more [] b = refl
names_more (v ∷ a) b = ap (λ x. v.0 ∷ x) (names_more a b)

and_true : (a : Bool) → (a && true) ≡ a
and_true true = refl
and_true false = refl

and_assoc : (a b c : Bool) → ((a && b) && c) ≡ (a && (b && c))
and_assoc true b c = refl
and_assoc false b c = refl

all_more : (a : List (List ℕ × Bool)) (v : List ℕ × Bool) → list_all (λ v. v.1) (a ++ v ∷ [])
    ≡ (list_all (λ v. v.1) a && v.1)
all_more [] v = and_true v.1
all_more (w ∷ a) v = ap (λ x. w.1 && x) (all_more a v) ∙ sym (and_assoc w.1 (list_all (λ v. v.1) a) v.1)

-- none yet
pub checked_none : (told : Option (List (List ℕ × Bool))) → AreChecked [] told told true
checked_none told = record { verdicts = []; each = refl; noted = notes_none told; all = refl }

-- one more
checked_more : (names : List (List ℕ)) (name : List ℕ) (old mid new : Option (List (List ℕ × Bool)))
    (are is both : Bool) → both ≡ (are && is)
    → AreChecked names old mid are → Notes mid new ((name, is) ∷ []) → AreChecked (names ++ name ∷ []) old new both
checked_more names name old mid new are is both joined so one = record {
  verdicts = so.verdicts ++ (name, is) ∷ [];
  each = names_more so.verdicts ((name, is) ∷ []) ∙ ap (λ x. x ++ name ∷ []) so.each;
  noted = notes_more old mid new so.verdicts ((name, is) ∷ []) so.noted one;
  all = joined ∙ ap (λ x. x && is) so.all ∙ sym (all_more so.verdicts (name, is));
}

-- the one at a place of a list
pub checked_next : {X : Type 0} (f : X → List ℕ) (names : List X) (k : ℕ) (d : X)
    (old mid new : Option (List (List ℕ × Bool))) (are is both : Bool) → k < length names → both ≡ (are && is)
    → AreChecked (map f (take k names)) old mid are → Notes mid new ((f (get_or names k d), is) ∷ [])
    → AreChecked (map f (take (k + 1) names)) old new both
checked_next f names k d old mid new are is both less joined so one =
    subst (λ ns. AreChecked ns old new both) (sym (map_more f names k d less))
    (checked_more (map f (take k names)) (f (get_or names k d)) old mid new are is both joined so one)
