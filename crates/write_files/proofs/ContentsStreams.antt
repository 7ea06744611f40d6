-- A step of a walk over the streams of a storage, whose runs are put into the tables.
use Rattle.std.proofs.Common.{◌≡◌, ◌+◌, ℕ, Bool, true, false, List, [], ◌∷◌, ◌++◌, length, if◌then◌else◌, nat_lt, refl}
use Rattle.std.proofs.Common.{sym, ◌∙◌, ap, append_assoc, arith}
use Rattle.std.specs.List.{sum}
use Rattle.std.proofs.lemmas.List.{map-append}
use Rattle.cfb_entries.specs.Tree.{Tree, Children}
use Rattle.tree_storage.specs.Child.{Seen, bytes, inner, child}
use Rattle.cfb_file.specs.Limits.{CUTOFF}
use Rattle.cfb_layout.specs.Image.{pieces_of, run, runs}
use Rattle.cfb_layout.proofs.ContentsNext.{longs-sum, shorts-sum}
use Rattle.cfb_layout.proofs.ContentsPieces.{sum-cons}
use Rattle.cfb_file.specs.Need.{pieces}
use Rattle.cfb_layout.specs.Directory.{short_streams_of, long_streams_of}
use Rattle.write_parts.specs.Streams.{long_within, minis_with, sectors_with, short_within}
use Rattle.write_parts.proofs.Children.{longs-child, shorts-child}
use Rattle.write_files.specs.Siblings.{past}
use Rattle.write_files.specs.declared.entries.Cursor.{Cursor}
use Rattle.write_files.specs.Walks.{Steps}
use Rattle.write_files.specs.declared.walks.What.{What}

-- runs of some streams behind those of others
runs-append : (at : ℕ) (xs ys : List ℕ) → runs at (xs ++ ys) ≡ runs at xs ++ runs (at + sum xs) ys
runs-append at [] ys =
    let e : at ≡ at + sum [] = omega arith in
    ap (λ n. runs n ys) e
runs-append at (x ∷ xs) ys =
    let e : at + x + sum xs ≡ at + sum (x ∷ xs) = omega (arith, sum-cons x xs) in
    ap (λ r. run at x ++ r) (runs-append (at + x) xs ys)
    ∙ sym (append_assoc (run at x) (runs (at + x) xs) (runs (at + x + sum xs) ys))
    ∙ ap (λ n. (run at x ++ runs (at + x) xs) ++ runs n ys) e

runs-step : (w : ℕ) (of : Children → List (List ℕ)) (within : Seen → List (List ℕ))
    → ((k n : List ℕ) (s : Seen) (cs : Children) → of (child k (n, s) cs) ≡ within s ++ of cs)
    → (at next : ℕ) (old new : Children) (k n : List ℕ) (s : Seen) (out more whole : List ℕ)
    → old ≡ child k (n, s) new → next ≡ at + sum (pieces_of w (within s))
    → more ≡ out ++ runs at (pieces_of w (within s)) → out ++ runs at (pieces_of w (of old)) ≡ whole
    → more ++ runs next (pieces_of w (of new)) ≡ whole
runs-step w of within first at next old new k n s out more whole steps after pushed h =
    let xs : List ℕ = pieces_of w (within s) in
    let ys : List ℕ = pieces_of w (of new) in
    let split : pieces_of w (of old) ≡ xs ++ ys =
    ap (λ cs. pieces_of w (of cs)) steps ∙ ap (pieces_of w) (first k n s new)
    ∙ map-append (λ (b : List ℕ). pieces w (length b)) (within s) (of new) in
    (λ i. pushed i ++ runs (after i) ys) ∙ append_assoc out (runs at xs) (runs (at + sum xs) ys)
    ∙ ap (λ r. out ++ r) (sym (runs-append at xs ys)) ∙ ap (λ ns. out ++ runs at ns) (sym split) ∙ h

short-one : (t : Bool) (b : List ℕ) → sum (pieces_of 64 (if t then b ∷ [] else []))
    ≡ (if t then pieces 64 (length b) else 0)
short-one true b = omega (arith, sum-cons (pieces 64 (length b)) [])
short-one false b = refl

short-sum : (s : Seen) → sum (pieces_of 64 (short_within s)) ≡ minis_with s
short-sum (bytes b) = short-one (nat_lt (length b) CUTOFF) b
short-sum (inner t) = shorts-sum t

long-one : (t : Bool) (b : List ℕ) → sum (pieces_of 512 (if t then [] else b ∷ []))
    ≡ (if t then 0 else pieces 512 (length b))
long-one true b = refl
long-one false b = omega (arith, sum-cons (pieces 512 (length b)) [])

long-sum : (s : Seen) → sum (pieces_of 512 (long_within s)) ≡ sectors_with s
long-sum (bytes b) = long-one (nat_lt (length b) CUTOFF) b
long-sum (inner t) = longs-sum t

-- one more child, of which the runs of the streams were put
module _ {B : Type 0} {stands : B → Tree} {old new : Children} {name : List ℕ} {what : What B}
    (step : Steps stands old name what new)
    (at next : Cursor) (after : next ≡ past at step.seen) (out more whole : List ℕ) where
  pub short-runs-more : more ≡ out ++ runs at.mini (pieces_of 64 (short_within step.seen))
      → out ++ runs at.mini (pieces_of 64 (short_streams_of old)) ≡ whole
      → more ++ runs next.mini (pieces_of 64 (short_streams_of new)) ≡ whole
  short-runs-more =
      runs-step 64 short_streams_of short_within (shorts-child child (λ k n b cs. refl) (λ k n t cs. refl)) at.mini
      next.mini old new step.key name step.seen out more whole step.first
      (ap (λ (c : Cursor). c.mini) after ∙ ap (λ n. at.mini + n) (sym (short-sum step.seen)))

  pub long-runs-more : more ≡ out ++ runs at.sector (pieces_of 512 (long_within step.seen))
      → out ++ runs at.sector (pieces_of 512 (long_streams_of old)) ≡ whole
      → more ++ runs next.sector (pieces_of 512 (long_streams_of new)) ≡ whole
  long-runs-more =
      runs-step 512 long_streams_of long_within (longs-child child (λ k n b cs. refl) (λ k n t cs. refl)) at.sector
      next.sector old new step.key name step.seen out more whole step.first
      (ap (λ (c : Cursor). c.sector) after ∙ ap (λ n. at.sector + n) (sym (long-sum step.seen)))
