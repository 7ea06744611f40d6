-- Lists of names, forwards and backwards.
use Rattle.std.proofs.Common.{◌≡◌, ◌+◌, ℕ, Bool, true, false, not, cond, List, [], ◌∷◌, ◌++◌, refl, ap, sym, ◌∙◌}
use Rattle.std.proofs.Common.{append_assoc, append-nil, if◌then◌else◌}
use Rattle.std.specs.Prelude.{reverse}
use Rattle.std.specs.Str.{bytes_eq}
use Rattle.std.proofs.lemmas.List.{reverse-append}
use Rattle.std.proofs.lemmas.List.Elements.{filter-append}
use Rattle.container_model.specs.declared.record.Frame.{Frame}
use Rattle.world_model.specs.Story.{is_among, made_name, names_kept, without}
use Rattle.world_host.specs.Stops.{made_names}
use Rattle.world_run.specs.Names.{struck}

without_filter : (name : List ℕ) (xs : List (List ℕ)) → without name xs ≡ struck name xs
without_filter name [] = refl
without_filter name (x ∷ xs) = elim (bytes_eq x name) as (λ b. (if b then without name xs else x ∷ without name xs)
    ≡ cond (not b) (x ∷ struck name xs) (struck name xs)) [
      | true ↦ without_filter name xs
      | false ↦ ap (λ ys. x ∷ ys) (without_filter name xs)
    ]

struck_reverse : (name : List ℕ) (xs : List (List ℕ)) → struck name (reverse xs) ≡ reverse (struck name xs)
struck_reverse name [] = refl
struck_reverse name (x ∷ xs) =
    ap (struck name) (reverse-append (x ∷ []) xs)
    ∙ (filter-append (λ (y : List ℕ). not (bytes_eq y name)) (reverse xs) (x ∷ [])
    ∙ (ap (λ ys. ys ++ struck name (x ∷ [])) (struck_reverse name xs)
    ∙ elim (bytes_eq x name) as (λ b. reverse (struck name xs) ++ cond (not b) (x ∷ []) []
    ≡ reverse (cond (not b) (x ∷ struck name xs) (struck name xs))) [
      | true ↦ append-nil (reverse (struck name xs))
      | false ↦ sym (reverse-append (x ∷ []) (struck name xs))
    ]))

-- a name that is struck off
pub without_reverse : (name : List ℕ) (xs : List (List ℕ)) → without name (reverse xs) ≡ reverse (struck name xs)
without_reverse name xs = without_filter name (reverse xs) ∙ struck_reverse name xs

-- the names of the files that a stop makes
abbrev Kept : List ℕ → ℕ → Frame → List Frame → List (List ℕ) → Bool → Type 0
Kept fs f frame frames kept b = names_kept fs (f + 1) frames (if b then made_name frame ∷ kept else kept)
    ≡ reverse (if b then made_name frame ∷ made_names fs (f + 1) frames else made_names fs (f + 1) frames) ++ kept

kept_front : (fs : List ℕ) (f : ℕ) (frames : List Frame) (kept : List (List ℕ))
    → names_kept fs f frames kept ≡ reverse (made_names fs f frames) ++ kept
kept_front fs f [] kept = refl
kept_front fs f (frame ∷ frames) kept = elim (is_among fs f) as (Kept fs f frame frames kept) [
  | true ↦ (kept_front fs (f + 1) frames (made_name frame ∷ kept)
      ∙ (sym (append_assoc (reverse (made_names fs (f + 1) frames)) (made_name frame ∷ []) kept)
      ∙ ap (λ xs. xs ++ kept) (sym (reverse-append (made_name frame ∷ []) (made_names fs (f + 1) frames)))))
  | false ↦ kept_front fs (f + 1) frames kept
]

pub kept_reverse : (fs : List ℕ) (frames : List Frame) (kept : List (List ℕ))
    → names_kept fs 1 frames (reverse kept) ≡ reverse (kept ++ made_names fs 1 frames)
kept_reverse fs frames kept = kept_front fs 1 frames (reverse kept) ∙ sym (reverse-append kept (made_names fs 1 frames))
