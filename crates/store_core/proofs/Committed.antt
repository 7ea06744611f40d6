-- The journal of a commit, once its gate is open.
use Rattle.std.proofs.Common.{◌≡◌, ◌<◌, ◌≤◌, inl, inr, ⊎_elim, ℕ, List, ◌∷◌, length, drop, Some, refl, sym, ◌∙◌, ap}
use Rattle.std.proofs.Common.{subst, arith}
use Rattle.store_model.specs.Changes.{changes, journal_from}
use Rattle.store_model.specs.Image.{Image}
use Rattle.store_model.specs.Journal.{restored}
use Rattle.store_model.specs.Store.{IsBeforeOrAfter}
use Rattle.store_model.specs.declared.limit.TheConstants.{MAX_DOCUMENT}
use Rattle.store_model.proofs.Installed.{blocks_are_whole}
use Rattle.store_model.proofs.Opening.{count_is, gate, opened, opened_stands, parts, size_is}
use Rattle.store_core.specs.Steps.{IsGating, IsOpenWith, IsStaging}
use Rattle.store_core.specs.declared.found.Change.TheVariants.{Blocks}
use Rattle.store_core.proofs.Gating.{closed_stands, gate_or_not, torn_gate}

module _ (old new : List ℕ) (small : length new ≤ MAX_DOCUMENT) where
  pub opened_with : (count size : ℕ) → count ≡ length (changes old new) → size ≡ length new
      → IsOpenWith (Blocks count size) (opened old new)
  opened_with count size is_count is_size =
      record {
        gate = gate old new small;
        whole = blocks_are_whole (opened old new) (parts old new small);
        holds = (refl, is_count ∙ sym (count_is old new small), is_size ∙ sym (size_is old new small));
      }

  -- while the gate is opened
  pub gate_opens : (before image : Image) (g : ℕ)
      → before ≡ record { document = old; journal = journal_from g old new } → IsGating before image
      → IsBeforeOrAfter old new image
  gate_opens before image g is gating =
      let document : image.document ≡ old = gating.0 ∙ ap (λ (i : Image). i.document) is in
      let journal : before.journal ≡ journal_from g old new = ap (λ (i : Image). i.journal) is in
      let from = torn_gate before.journal image.journal
      (subst (λ (j : List ℕ). 0 < length j) (sym journal) (omega arith)) gating.1 in
      let rest : drop 1 before.journal ≡ drop 1 (journal_from g old new) = ap (λ (j : List ℕ). drop 1 j) journal in
      ⊎_elim
      (λ opens. inr (ap restored (both image document (opens ∙ ap (λ (l : List ℕ). 1 ∷ l) rest))
      ∙ opened_stands old new small))
      (λ shut. inl (shut ∙ ap (λ (d : List ℕ). Some d) document))
      (gate_or_not from.0 (drop 1 before.journal) image from.1)
    where
      both : (image : Image) → image.document ≡ old → image.journal ≡ journal_from 1 old new → image ≡ opened old new
      both image document journal = ap (λ (d : List ℕ). record { document = d; journal = image.journal }) document
          ∙ ap (λ (j : List ℕ). record { document = old; journal = j }) journal

-- while the document is staged
pub staging : (old new : List ℕ) (before image : Image) → before.document ≡ old → IsStaging before image
    → IsBeforeOrAfter old new image
staging old new before image is staged =
    inl (closed_stands image staged.1.shut ∙ ap (λ (d : List ℕ). Some d) (staged.0 ∙ is))
