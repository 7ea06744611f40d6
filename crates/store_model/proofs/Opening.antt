-- The journal of a commit, once its gate is open.
use Rattle.std.proofs.Common.{◌≡◌, ◌<◌, ◌≤◌, ◌+◌, ◌^◌, ◌/◌, ℕ, List, length, take, true, Some, refl, ◌∙◌, ap, arith}
use Rattle.std.proofs.lemmas.Bool.Decides.{nat_tests}
use Rattle.store_model.specs.Changes.{block_count, changes, journal_from}
use Rattle.store_model.specs.Image.{Image}
use Rattle.store_model.specs.Journal.{blocks_in, changed_document, count_in, fit, is_open, patched, restored, size_in}
use Rattle.store_model.specs.Patches.{AreWhole}
use Rattle.store_model.specs.declared.limit.TheConstants.{MAX_DOCUMENT}
use Rattle.store_model.proofs.Changed.{changes_few, changes_fit, changes_make, changes_whole}
use Rattle.store_model.proofs.Installed.{IsBlocksImage, blocks_are_whole, blocks_changed, restores}
use Rattle.store_model.proofs.Patched.{makes_is}
use Rattle.store_model.proofs.Spelled.{AreNumbered, changes_numbered, length_journal, says_blocks, says_count}
use Rattle.store_model.proofs.Spelled.{says_size}

abbrev pub opened : List ℕ → List ℕ → Image
opened old new = record { document = old; journal = journal_from 1 old new }

counted : (size : ℕ) → size ≤ MAX_DOCUMENT → (size + 511) / 512 < 2 ^ 30
counted size small = omega (arith, small)

module _ (old new : List ℕ) (small : length new ≤ MAX_DOCUMENT) where
  few : length (changes old new) < 2 ^ 30
  few = let most = changes_few 0 (block_count new) old new in let count = counted (length new) small in
      omega (arith, most, count)

  whole : AreWhole (changes old new)
  whole = changes_whole 0 (block_count new) old new

  numbered : AreNumbered (changes old new)
  numbered = changes_numbered 0 (block_count new) old new (let count = counted (length new) small in
      omega (arith, count))

  pub size_is : size_in (journal_from 1 old new) ≡ length new
  size_is = says_size 1 (length new) (changes old new) (omega (arith, small))

  pub count_is : count_in (journal_from 1 old new) ≡ length (changes old new)
  count_is = says_count 1 (length new) (changes old new) (let f = few in omega (arith, f))

  blocks_are : blocks_in (journal_from 1 old new) ≡ changes old new
  blocks_are = says_blocks 1 (length new) (changes old new) (let f = few in omega (arith, f)) whole numbered

  pub parts : IsBlocksImage (opened old new)
  parts = record {
    form = refl;
    small = let is = size_is in omega (arith, is, small);
    head = let long = length_journal 1 (length new) (changes old new) whole in omega (arith, long);
    room = let long = length_journal 1 (length new) (changes old new) whole in let is = count_is in
        omega (arith, long, is);
    fits = ap (λ (n : ℕ). fit n 0 (length old) (blocks_in (journal_from 1 old new))) size_is
        ∙ ap (λ bs. fit (length new) 0 (length old) bs) blocks_are ∙ changes_fit old new;
  }

  pub gate : is_open (journal_from 1 old new) ≡ true
  gate = let long = length_journal 1 (length new) (changes old new) whole in grind (arith, nat_tests, long)

  pub opened_changed : changed_document (opened old new) ≡ new
  opened_changed =
      blocks_changed (opened old new) refl
      ∙ ap (λ (n : ℕ). take n (patched old (blocks_in (journal_from 1 old new)))) size_is
      ∙ ap (λ bs. take (length new) (patched old bs)) blocks_are
      ∙ makes_is new (length new) (changes old new) old (changes_fit old new) whole (changes_make old new)

  pub opened_stands : restored (opened old new) ≡ Some new
  opened_stands = restores (opened old new) gate (blocks_are_whole (opened old new) parts)
      ∙ ap (λ (d : List ℕ). Some d) opened_changed
