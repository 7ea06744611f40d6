-- What a commit makes of the objects of its frame.
use Rattle.std.proofs.Common.{◌≡◌, ◌==◌, ℕ, true, false, List, [], ◌∷◌, map, Option, Some, None, inl, inr, refl, sym}
use Rattle.std.proofs.Common.{◌∙◌, ap}
use Rattle.std.proofs.lemmas.Bool.Decides.{eqb_tells}
use Rattle.message_values.specs.declared.operation.Operation.{Operation}
use Rattle.container_model.specs.declared.record.Link.{Link}
use Rattle.container_model.specs.declared.record.Object.{Object}
use Rattle.container_links.specs.declared.asking.Prepared.{Prepared}
use Rattle.container_links.specs.Asking.{prepared, prepared_at, prepared_link}
use Rattle.container_model.specs.Record.{asked_object}
use Rattle.container_model.specs.Saves.{cleared, counted_object, forgotten_object, kept}

-- what is counted leaves what is asked
pub counted_in : (f : ℕ) (o : Object) → (o.frame == f) ≡ true → counted_object f o
    ≡ record o { work = kept o; link = cleared o.link }
counted_in f o e = rw e refl

pub counted_out : (f : ℕ) (o : Object) → (o.frame == f) ≡ false → counted_object f o ≡ o
counted_out f o e = rw e refl

prepared_cleared : (op : Operation) (link : Option Link) → prepared_link op (cleared link) ≡ prepared_link op link
prepared_cleared op None = refl
prepared_cleared op (Some l) = elim l.pending as (λ p. prepared_at op (record l { saved = None }) p
    ≡ prepared_at op l p) [ None ↦ refl | Some before ↦ refl ]

pub prepared_counted : (f : ℕ) (op : Operation) (o : Object) → prepared f op (counted_object f o) ≡ prepared f op o
prepared_counted f op o =
    elim (eqb_tells o.frame f) [
      | inl p ↦ ap (prepared f op) (counted_in f o p.0) ∙ rw p.0 (prepared_cleared op o.link)
      | inr p ↦ ap (prepared f op) (counted_out f o p.0)
    ]

-- what is forgotten too
forgotten_in : (f : ℕ) (o : Object) → (o.frame == f) ≡ true → forgotten_object f o ≡ record o { link = cleared o.link }
forgotten_in f o e = rw e refl

forgotten_out : (f : ℕ) (o : Object) → (o.frame == f) ≡ false → forgotten_object f o ≡ o
forgotten_out f o e = rw e refl

pub prepared_forgotten : (f : ℕ) (op : Operation) (o : Object) → prepared f op (forgotten_object f o) ≡ prepared f op o
prepared_forgotten f op o =
    elim (eqb_tells o.frame f) [
      | inl p ↦ ap (prepared f op) (forgotten_in f o p.0) ∙ rw p.0 (prepared_cleared op o.link)
      | inr p ↦ ap (prepared f op) (forgotten_out f o p.0)
    ]

-- so what was prepared before is what the objects take up then
module _ (told : Object → Object) (f : ℕ) (op : Operation) (same : (o : Object)
    → prepared f op (told o) ≡ prepared f op o) where
  pub prepared_all : (os : List Object) → map (prepared f op) (map told os) ≡ map (prepared f op) os
  prepared_all [] = refl
  prepared_all (o ∷ os) = cc (same o, prepared_all os)

  pub completed_all : (os : List Object) → map (asked_object f op) (map told os)
      ≡ map (λ o. asked_object f op (told o)) os
  completed_all [] = refl
  completed_all (o ∷ os) = ap (λ xs. asked_object f op (told o) ∷ xs) (completed_all os)

  pub taken_up : (before between after : List Object) (takes : List Prepared) → between ≡ map told before
      → (takes ≡ map (prepared f op) between → after ≡ map (asked_object f op) between)
      → takes ≡ map (prepared f op) before → after ≡ map (λ o. asked_object f op (told o)) before
  taken_up before between after takes e h t =
      h (t ∙ sym (prepared_all before) ∙ sym (ap (map (prepared f op)) e)) ∙ ap (map (asked_object f op)) e
      ∙ completed_all before
