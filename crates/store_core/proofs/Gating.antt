-- What an image stands for while its gate is written.
use Rattle.std.proofs.Common.{◌≡◌, ◌≢◌, ◌<◌, ◌⊎◌, inl, inr, ⊎_elim, ℕ, List, [], ◌∷◌, length, get_or, drop, true, false}
use Rattle.std.proofs.Common.{Some, sym, ◌∙◌, ap, subst, arith}
use Rattle.std.proofs.lemmas.Bool.{cases_eq}
use Rattle.std.proofs.lemmas.Bool.Decides.{nat_tests}
use Rattle.store_model.specs.Crash.{Torn}
use Rattle.store_model.specs.Image.{Image, changed}
use Rattle.store_model.specs.Journal.{changed_document, is_open, is_whole, restored}
use Rattle.store_model.specs.Store.{StandsFor}
use Rattle.store_model.specs.declared.area.Area.TheVariants.{Document}
use Rattle.store_model.proofs.Installed.{restores}
use Rattle.store_core.specs.Resting.{IsShut}
use Rattle.store_core.specs.Steps.{IsGating}

-- a gate that isn't open leaves the document area
pub shut_stands : (image : Image) → is_open image.journal ≡ false → StandsFor image.document image
shut_stands image shut = grind (arith, nat_tests, shut)

closed_is_shut : (journal : List ℕ) → get_or journal 0 0 ≢ 1 → is_open journal ≡ false
closed_is_shut journal shut = grind (arith, nat_tests)

short_is_shut : (journal : List ℕ) → length journal < 9 → is_open journal ≡ false
short_is_shut journal short = grind (arith, nat_tests)

pub closed_stands : (image : Image) → IsShut image.journal → StandsFor image.document image
closed_stands image shut = shut_stands image (closed_is_shut image.journal shut)

short_stands : (image : Image) → length image.journal < 9 → StandsFor image.document image
short_stands image short = shut_stands image (short_is_shut image.journal short)

-- while a gate is written where there was none
pub gate_short : (old image : Image) → length old.journal < 9 → IsGating old image → restored image ≡ restored old
gate_short old image short gating =
    let longer = gating.1.no_longer in
    short_stands image (omega (arith, short, longer)) ∙ ap (λ (d : List ℕ). Some d) gating.0
    ∙ sym (short_stands old short)

-- any byte may stand where the gate is written, and all behind it stays
pub torn_gate : (old new : List ℕ) → 0 < length old → Torn 0 1 old new → (x : ℕ) × (new ≡ x ∷ drop 1 old)
torn_gate old [] there torn = let longer = torn.no_shorter in absurd (omega (arith, there, longer))
torn_gate old (x ∷ rest) there torn = (x, ap (λ (l : List ℕ). x ∷ l) torn.after)

open_there : (journal : List ℕ) → is_open journal ≡ true → (0 < length journal) × (get_or journal 0 0 ≡ 1)
open_there journal gate = grind (arith, nat_tests, gate)

open_is : (journal : List ℕ) → is_open journal ≡ true → journal ≡ 1 ∷ drop 1 journal
open_is [] gate = absurd (omega (arith, (open_there [] gate).0))
open_is (x ∷ rest) gate = ap (λ (g : ℕ). g ∷ rest) (open_there (x ∷ rest) gate).1

-- with a gate that is open, or isn't
pub gate_or_not : (x : ℕ) (rest : List ℕ) (image : Image) → image.journal ≡ x ∷ rest → (image.journal ≡ 1 ∷ rest)
    ⊎ StandsFor image.document image
gate_or_not x rest image is = elim (cases_eq x 1) [
  | inl opens ↦ inl (is ∙ ap (λ (g : ℕ). g ∷ rest) opens)
  | inr shut ↦
      inr
      (shut_stands image
      (closed_is_shut image.journal (λ one. shut (sym (ap (λ (l : List ℕ). get_or l 0 0) is) ∙ one))))
]

-- while the gate is closed, once the document area is what the journal made of it
pub gate_closes : (old at image : Image) → is_open old.journal ≡ true → is_whole old ≡ true
    → at ≡ changed Document (changed_document old) old → restored at ≡ restored old → IsGating at image
    → restored image ≡ restored old
gate_closes old at image gate whole written stands gating =
    let journal : at.journal ≡ old.journal = ap (λ (i : Image). i.journal) written in
    let from = torn_gate at.journal image.journal
    (subst (λ (j : List ℕ). 0 < length j) (sym journal) (open_there old.journal gate).0) gating.1 in
    let same : 1 ∷ drop 1 at.journal ≡ at.journal = sym (open_is at.journal (ap is_open journal ∙ gate)) in
    ⊎_elim
    (λ opens. ap restored (both image at gating.0 (opens ∙ same)) ∙ stands)
    (λ shut. shut ∙ ap (λ (d : List ℕ). Some d) (gating.0 ∙ ap (λ (i : Image). i.document) written)
    ∙ sym (restores old gate whole))
    (gate_or_not from.0 (drop 1 at.journal) image from.1)
  where
    both : (a b : Image) → a.document ≡ b.document → a.journal ≡ b.journal → a ≡ b
    both a b document journal = ap (λ (d : List ℕ). record { document = d; journal = a.journal }) document
        ∙ ap (λ (j : List ℕ). record { document = b.document; journal = j }) journal

-- a journal that is shut isn't open
pub shut_not_open : (journal : List ℕ) → IsShut journal → is_open journal ≡ true → ⊥
shut_not_open journal shut gate = shut (open_there journal gate).1
