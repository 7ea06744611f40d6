-- What calls answer, told otherwise.
use Rattle.std.proofs.Common.{◌≡◌, ◌∙◌, ℕ, List, Result, Ok, Err, IfErr, ap, inl, inr, refl, subst}
use Rattle.std.proofs.Math.Decide.{ℕ_discrete}
use Rattle.std.proofs.Math.Logic.{∥∥₁_elim, ∥∥₁_map}
use mathlib.Core.List.{List-discrete}
use Rattle.cfb_header.specs.Header.{header_read}
use Rattle.cfb_header.specs.declared.fault.ChainFault.{ChainFault}
use Rattle.tree_storage.specs.Kept.{Kept}
use Rattle.cfb_entries.specs.Tree.{Tree}
use Rattle.tree_storage.specs.declared.tree.Tree.{Tree as BuiltTree}
use Rattle.cfb_file.specs.Denotes.{Denotes}
use Rattle.tell_forms.specs.Lines.{listed, listing}
use Rattle.tell_forms.specs.Listings.{told}
use Rattle.tell_forms.specs.declared.asked_listings.Listing.TheVariants.{Lines}
use Rattle.tree_descriptions.specs.Description.{described}
use Rattle.program_calls.specs.Answers.{Answers, AnswersAt}
use Rattle.cfb_file.specs.declared.fault.WriteFault.TheVariants.{TooBig}
use Rattle.read_files.proofs.ReadingTold.{read_refused}
use Rattle.read_files.specs.Reads.{MayRefuseFile, chain_fault}
use Rattle.read_files.specs.declared.fault.ReadFault.{ReadFault}
use Rattle.read_files.specs.declared.fault.ReadFault.TheVariants.{NoMemory}
use Rattle.tree_descriptions.proofs.Room.{too_large}
use Rattle.tree_descriptions.specs.Texts.{Describes}
use Rattle.tree_descriptions.specs.declared.building.Described.{Described}
use Rattle.tree_descriptions.specs.declared.building.Described.TheVariants.{Outline}
use Rattle.program_calls.specs.Calls.{IsCleanOf, IsFileOf, IsListed, IsListedAs, IsMadeOf, IsRefusedClean}
use Rattle.program_calls.specs.Calls.{IsRefusedMake, IsUnread, IsUnwritten}
use Rattle.program_calls.specs.Numbers.{read_number}

⊥_prop : (a b : ⊥) → a ≡ b
⊥_prop a b = absurd a

-- a file that isn't read
pub unread : {A : Type 0} (file : List ℕ) (r : Result A ReadFault) (fault : ReadFault) (number : ℕ) → r ≡ Err fault
    → number ≡ read_number fault
    → ((e : ChainFault) → header_read file ≡ Err e → r ≡ Err (chain_fault e))
    → ((t : Tree) → Denotes file t → IfErr r (λ e. e ≡ NoMemory))
    → IfErr r (MayRefuseFile file)
    → IsUnread file number
unread file r fault number is told header reads refused =
    inr (fault, told, read_refused file r fault is header reads refused)

-- the lines of an outline that is the tree's are the tree's
settled : (xs ys : List ℕ) → Dec (xs ≡ ys) → ∥ xs ≡ ys ∥₁ → xs ≡ ys
settled xs ys (yes p) h = p
settled xs ys (no n) h = absurd (∥∥₁_elim h ⊥_prop n)

pub in_lines : (file bytes : List ℕ) → IsListedAs (told Lines) file bytes → IsListed file bytes
in_lines file bytes l =
    let is : ∥ bytes ≡ listing l.0 ∥₁ = ∥∥₁_map l.2 (λ p. l.3 ∙ ap listed p.outlined) in
    (l.0, ∥∥₁_map l.2 (λ p. p.denotes), settled bytes (listing l.0) (List-discrete ℕ_discrete bytes (listing l.0)) is)

-- a described tree whose streams have more bytes than a file
pub outlined : (text : List ℕ) (d : Described) (t : BuiltTree) → d ≡ Outline t → Describes text d
    → IsRefusedMake text 0 3
outlined text d t is made =
    let told : Describes text (Outline t) = subst (Describes text) is made in
    inr (refl, told.1.0, told.1.1, (TooBig, refl, too_large told.1.0.now told.1.2.1))

module _ (result : ℕ) (old new : List ℕ) (needed : ℕ) where
  -- what is put is told otherwise, and what a fault means
  pub answers_of : (P Q : List ℕ → Type 0) (F G : ℕ → Type 0) → ((bytes : List ℕ) → P bytes → Q bytes)
      → (F result → G result)
      → Answers P F result old new needed → Answers Q G result old new needed
  answers_of P Q F G is fault (inl (bytes, told, put, count)) = inl (bytes, is bytes told, put, count)
  answers_of P Q F G is fault (inr (above, told, same, none)) = inr (above, fault told, same, none)

  -- no line is told
  pub without_line : (P : List ℕ → Type 0) (F : ℕ → ℕ → Type 0) (line : ℕ) → AnswersAt P F result old new needed line
      → Answers P (λ number. (n : ℕ) × F n number) result old new needed
  without_line P F line (inl (bytes, told, put, count, none)) = inl (bytes, told, put, count)
  without_line P F line (inr (above, told, same, none)) = inr (above, (line, told), same, none)

  -- the file of a described tree
  pub made_of : (text : List ℕ) (k : Kept) → described text ≡ Ok k
      → Answers (IsFileOf k.now) (IsUnwritten k.now) result old new needed
      → AnswersAt (IsMadeOf text) (IsRefusedMake text) result old new needed 0
  made_of text k is (inl (bytes, file, put, count)) =
      inl (bytes, record { k = k; describes = is; denotes = file.0; laid_out = file.1 }, put, count, refl)
  made_of text k is (inr (above, fault, same, none)) = inr (above, inr (refl, k, is, fault), same, none)

  -- the file of a tree that was read
  pub clean_of : (file : List ℕ) (t : Tree) → ∥ Denotes file t ∥₁
      → Answers (IsFileOf t) (IsUnwritten t) result old new needed
      → Answers (IsCleanOf file) (IsRefusedClean file) result old new needed
  clean_of file t is = answers_of (IsFileOf t) (IsCleanOf file) (IsUnwritten t) (IsRefusedClean file)
      (λ bytes told. (t, is, told)) (λ fault. inr (t, is, fault))
