-- The names on a way.
use Rattle.std.proofs.Common.{◌≡◌, ◌<◌, ◌+◌, ◌++◌, ◌∷◌, [], ◌∙◌, inl, inr, ℕ, List, arith, length, length-append}
use Rattle.std.proofs.Common.{get_or, refl, sym, ap, subst, append_assoc}
use Rattle.cfb_entries.specs.Entries.{IsNamed, entry_at}
use Rattle.text_words.specs.Spelled.{name_text}
use Rattle.tell_checks.specs.Spots.{AreNamesOf, IsPathIn, within}

-- one name more
names_more : (dir way : List ℕ) (names : List (List ℕ)) (name : List ℕ) → AreNamesOf dir way names
    → length names < length way → IsNamed (entry_at dir (get_or way (length names) 0)) name
    → AreNamesOf dir way (names ++ name ∷ [])
names_more dir [] names name h lt n = absurd (omega (arith, lt))
names_more dir (id ∷ way) [] name h lt n = (n, tt)
names_more dir (id ∷ way) (first ∷ names) name h lt n = (h.0, names_more dir way names name h.1 (omega (arith, lt)) n)

-- names with a slash behind each
within_more : (names : List (List ℕ)) (name : List ℕ) → within (names ++ name ∷ []) ≡ within names
    ++ (name_text name ++ 47 ∷ [])
within_more [] name = refl
within_more (first ∷ names) name =
    ap (λ (t : List ℕ). name_text first ++ 47 ∷ t) (within_more names name)
    ∙ sym (append_assoc (name_text first) (47 ∷ within names) (name_text name ++ 47 ∷ []))

-- so many names on a way, each read
pub record IsFront (dir way : List ℕ) (k : ℕ) (path : List ℕ) : Type 0 where
  pub names : List (List ℕ)
  pub are : AreNamesOf dir way names
  pub counted : length names ≡ k
  pub spelled : path ≡ within names

pub front_none : (dir way path : List ℕ) → path ≡ [] → IsFront dir way 0 path
front_none dir way path e = record { names = []; are = tt; counted = refl; spelled = e }

pub front_more : (dir way : List ℕ) (k : ℕ) (path named slashed name : List ℕ) → IsFront dir way k path
    → k < length way → IsNamed (entry_at dir (get_or way k 0)) name
    → named ≡ path ++ name_text name → slashed ≡ named ++ 47 ∷ [] → IsFront dir way (k + 1) slashed
front_more dir way k path named slashed name f lt n e s =
    let at : IsNamed (entry_at dir (get_or way (length f.names) 0)) name =
    subst (λ (x : ℕ). IsNamed (entry_at dir (get_or way x 0)) name) (sym f.counted) n in
    record {
      names = f.names ++ name ∷ [];
      are = names_more dir way f.names name f.are (omega (arith, lt, f.counted)) at;
      counted = omega (arith, length-append f.names (name ∷ []), f.counted);
      spelled = s ∙ ap (λ (t : List ℕ). t ++ 47 ∷ []) (e ∙ ap (λ (t : List ℕ). t ++ name_text name) f.spelled)
          ∙ append_assoc (within f.names) (name_text name) (47 ∷ [])
          ∙ sym (within_more f.names name);
    }

-- the path where no further name is read, and where all are
pub path_cut : (dir way : List ℕ) (k : ℕ) (path : List ℕ) → IsFront dir way k path → k < length way
    → IsPathIn dir way path
path_cut dir way k path f lt = inl (f.names, f.are, omega (arith, lt, f.counted), f.spelled)

pub path_whole : (dir way : List ℕ) (k : ℕ) (path named name : List ℕ) → IsFront dir way k path → k + 1 ≡ length way
    → IsNamed (entry_at dir (get_or way k 0)) name
    → named ≡ path ++ name_text name → IsPathIn dir way named
path_whole dir way k path named name f all n e =
    let at : IsNamed (entry_at dir (get_or way (length f.names) 0)) name =
    subst (λ (x : ℕ). IsNamed (entry_at dir (get_or way x 0)) name) (sym f.counted) n in
    inr (
      f.names,
      name,
      names_more dir way f.names name f.are (omega (arith, all, f.counted)) at,
      omega (arith, all, f.counted),
      e ∙ ap (λ (t : List ℕ). t ++ name_text name) f.spelled,
    )
