-- The blocks that differ are what makes the new document of the old one.
use Rattle.std.proofs.Common.{◌≡◌, ◌<◌, ◌≤◌, ◌+◌, ◌-◌, ◌*◌, ◌/◌, ⊎_elim, max, ℕ, zero, suc, List, [], ◌∷◌, ◌++◌, length}
use Rattle.std.proofs.Common.{get_or, drop, replicate, true, false, if◌then◌else◌, refl, sym, ◌∙◌, ap, subst, arith}
use Rattle.std.proofs.Common.{length-append, length-drop, length-take}
use Rattle.std.specs.Str.{bytes_eq}
use Rattle.std.proofs.lemmas.Bool.{cases_Bool, cases_lt}
use Rattle.std.proofs.lemmas.List.{append_assoc, get_or-drop, get_or-take, get_or_append_left, length-replicate}
use Rattle.std.proofs.lemmas.Slice.Eq.{bytes_eq-Decides}
use Rattle.store_model.specs.Changes.{block_count, block_of, bytes_in, change_at, changes, changes_from}
use Rattle.store_model.specs.Journal.{Block, fit}
use Rattle.store_model.specs.Patches.{AreWhole, Misses, Tell}
use Rattle.store_model.proofs.Patched.{Makes, fits_first, fits_none, refitted}

-- the change at a block, by cases
pub at_block : (P : List Block → Type 0) (n : ℕ) (old new : List ℕ) → (bytes_in n old ≡ bytes_in n new → P [])
    → (bytes_eq (bytes_in n old) (bytes_in n new) ≡ false → P (block_of n new ∷ [])) → P (change_at n old new)
at_block P n old new same other = ⊎_elim
    (λ is. subst (λ t. P (if t then [] else block_of n new ∷ [])) (sym is)
    (same ((bytes_eq-Decides (bytes_in n old) (bytes_in n new)).0 is)))
    (λ is. subst (λ t. P (if t then [] else block_of n new ∷ [])) (sym is) (other is))
    (cases_Bool (bytes_eq (bytes_in n old) (bytes_in n new)))

whole_block : (n : ℕ) (document : List ℕ) → length (block_of n document).bytes ≡ 512
whole_block n document =
    omega (
      arith,
      length-append (bytes_in n document) (replicate (512 - length (bytes_in n document)) 0),
      length-replicate {A = ℕ} (512 - length (bytes_in n document)) 0,
      length-take 512 (drop (512 * n) document),
    )

pub changes_whole : (n k : ℕ) (old new : List ℕ) → AreWhole (changes_from n k old new)
changes_whole n zero old new = tt
changes_whole n (suc k) old new = at_block (λ bs. AreWhole (bs ++ changes_from (n + 1) k old new)) n old new
    (λ same. changes_whole (n + 1) k old new) (λ other. (whole_block n new, changes_whole (n + 1) k old new))

-- a byte of a block
block_byte : (n q : ℕ) (document : List ℕ) → q < 512 → 512 * n + q < length document
    → get_or (block_of n document).bytes q 0 ≡ get_or document (512 * n + q) 0
block_byte n q document within small =
    get_or_append_left (bytes_in n document) (replicate (512 - length (bytes_in n document)) 0) 0 q
    (omega (arith, within, small, length-take 512 (drop (512 * n) document), length-drop (512 * n) document))
    ∙ get_or-take 512 (drop (512 * n) document) q 0 within
    ∙ get_or-drop (512 * n) document q 0

pub changes_tell : (n k : ℕ) (old new : List ℕ) → Tell new (length new) (changes_from n k old new)
changes_tell n zero old new = tt
changes_tell n (suc k) old new = at_block (λ bs. Tell new (length new) (bs ++ changes_from (n + 1) k old new)) n old new
    (λ same. changes_tell (n + 1) k old new)
    (λ other. ((λ q within small. block_byte n q new within small), changes_tell (n + 1) k old new))

-- the numbers rise, and each block begins below the new length
pub changes_rise : (n k least end : ℕ) (old new : List ℕ) → least ≤ n → length new ≤ end
    → 512 * (n + k) < length new + 512 → fit (length new) least end (changes_from n k old new) ≡ true
changes_rise n zero least end old new rises enough below = fits_none (length new) least end enough
changes_rise n (suc k) least end old new rises enough below =
    at_block (λ bs. fit (length new) least end (bs ++ changes_from (n + 1) k old new) ≡ true) n old new
    (λ same. changes_rise (n + 1) k least end old new (omega (arith, rises)) enough (omega (arith, below)))
    (λ other. fits_first (length new) least end (block_of n new) (changes_from (n + 1) k old new) (record {
      rises = rises;
      below = omega (arith, below);
      reached = omega (arith, below, enough);
      rest = changes_rise (n + 1) k (n + 1) (max end (512 * (n + 1))) old new (omega arith) (omega (arith, enough))
          (omega (arith, below));
    }))

-- where a block has the same bytes, and as many
same_byte : (n p : ℕ) (old new : List ℕ) → bytes_in n old ≡ bytes_in n new → 512 * n ≤ p → p < 512 * n + 512
    → p < length new → (p < length old) × (get_or old p 0 ≡ get_or new p 0)
same_byte n p old new same from to small =
    let here : 512 * n + (p - 512 * n) ≡ p = omega (arith, from) in
    let long : length (bytes_in n old) ≡ length (bytes_in n new) = ap length same in
    let byte : (document : List ℕ) → get_or (bytes_in n document) (p - 512 * n) 0 ≡ get_or document p 0 = λ document.
    get_or-take 512 (drop (512 * n) document) (p - 512 * n) 0 (omega (arith, from, to))
    ∙ get_or-drop (512 * n) document (p - 512 * n) 0 ∙ ap (λ (m : ℕ). get_or document m 0) here in (
      omega (
        arith,
        long,
        from,
        to,
        small,
        length-take 512 (drop (512 * n) old),
        length-drop (512 * n) old,
        length-take 512 (drop (512 * n) new),
        length-drop (512 * n) new,
      ),
      sym (byte old) ∙ ap (λ (l : List ℕ). get_or l (p - 512 * n) 0) same ∙ byte new,
    )

pub changes_agree : (n k : ℕ) (old new : List ℕ) (p : ℕ) → 512 * n ≤ p → p < 512 * (n + k) → p < length new
    → Misses p (changes_from n k old new) → (p < length old) × (get_or old p 0 ≡ get_or new p 0)
changes_agree n zero old new p from to small misses = absurd (omega (arith, from, to))
changes_agree n (suc k) old new p from to small missed =
    at_block (λ bs. Misses p (bs ++ changes_from (n + 1) k old new) → (p < length old)
    × (get_or old p 0 ≡ get_or new p 0)) n old new
    (λ same misses. ⊎_elim (λ inside. same_byte n p old new same from (omega (arith, inside)) small)
    (λ after. changes_agree (n + 1) k old new p (omega (arith, after)) (omega (arith, to)) small misses)
    (cases_lt p (512 * (n + 1))))
    (λ other misses. ⊎_elim (λ before. let none : ⊥ = omega (arith, before, from) in absurd none)
    (λ after. changes_agree (n + 1) k old new p (omega (arith, after)) (omega (arith, to)) small misses.1)
    misses.0)
    missed

count_bounds : (size : ℕ) → (size ≤ 512 * ((size + 511) / 512)) × (512 * ((size + 511) / 512) < size + 512)
count_bounds size = (omega arith, omega arith)

pub changes_make : (old new : List ℕ) → Makes new (length new) (changes old new) old
changes_make old new = record {
  tells = changes_tell 0 (block_count new) old new;
  agrees = λ p small misses. changes_agree 0 (block_count new) old new p (omega arith)
      (let most = (count_bounds (length new)).0 in omega (arith, small, most)) small misses;
  long = refl;
}

pub changes_fit : (old new : List ℕ) → fit (length new) 0 (length old) (changes old new) ≡ true
changes_fit old new =
    let most = (count_bounds (length new)).1 in
    let makes = changes_make old new in
    refitted (length new) 0 (length new) (length old) (changes old new)
    (changes_rise 0 (block_count new) 0 (length new) old new (omega arith) (omega arith) (omega (arith, most)))
    (λ p small misses. (makes.agrees p small misses).0)

-- at most one for each block
pub changes_few : (n k : ℕ) (old new : List ℕ) → length (changes_from n k old new) ≤ k
changes_few n zero old new = omega arith
changes_few n (suc k) old new = at_block (λ bs. length (bs ++ changes_from (n + 1) k old new) ≤ suc k) n old new
    (λ same. let few = changes_few (n + 1) k old new in omega (arith, few))
    (λ other. let few = changes_few (n + 1) k old new in omega (arith, few))

-- more blocks behind so many
pub changes_more : (n k more : ℕ) (old new : List ℕ) → changes_from n (k + more) old new ≡ changes_from n k old new
    ++ changes_from (n + k) more old new
changes_more n zero more old new = let none : n + 0 ≡ n = omega arith in let all : 0 + more ≡ more = omega arith in
    ap (λ (k : ℕ). changes_from n k old new) all ∙ ap (λ (m : ℕ). changes_from m more old new) (sym none)
changes_more n (suc k) more old new =
    let next : n + 1 + k ≡ n + suc k = omega arith in
    let sum : suc k + more ≡ suc (k + more) = omega arith in
    ap (λ (m : ℕ). changes_from n m old new) sum
    ∙ ap (λ bs. change_at n old new ++ bs) (changes_more (n + 1) k more old new)
    ∙ sym (append_assoc (change_at n old new) (changes_from (n + 1) k old new) (changes_from (n + 1 + k) more old new))
    ∙ ap (λ (m : ℕ). change_at n old new ++ changes_from (n + 1) k old new ++ changes_from m more old new) next
