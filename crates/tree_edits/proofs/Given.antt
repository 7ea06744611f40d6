-- Lines whose files are read, one after another.
use Rattle.std.proofs.Common.{◌≡◌, ◌++◌, ℕ, List, [], ◌∷◌, refl, sym}
use Rattle.tree_edits.specs.declared.change.Change.{Change}
use Rattle.tree_edits.specs.declared.change.Line.{Line}
use Rattle.tree_edits.specs.Given.{AreGiven, IsGiven, IsNamed, NamesFile}

module _ (gives : List ℕ → List ℕ → Type 0) where
  pub given_more : (lines : List (ℕ × Line)) (changes : List (ℕ × Change)) (n : ℕ) (line : Line) (change : Change)
      → AreGiven gives lines changes → IsGiven gives line change
      → AreGiven gives (lines ++ (n, line) ∷ []) (changes ++ (n, change) ∷ [])
  given_more [] [] n line change are is = (refl, is, tt)
  given_more [] (c ∷ changes) n line change are is = absurd are
  given_more (l ∷ lines) [] n line change are is = absurd are
  given_more ((m, l) ∷ lines) ((q, c) ∷ changes) n line change are is =
      (are.0, are.1, given_more lines changes n line change are.2 is)

pub named_at : (lines before behind : List (ℕ × Line)) (n : ℕ) (line : Line) (name : List ℕ)
    → before ++ (n, line) ∷ behind ≡ lines → NamesFile line name → IsNamed lines name
named_at lines before behind n line name all is = record {
  n = n;
  before = before;
  line = line;
  behind = behind;
  all = sym all;
  names = is;
}
