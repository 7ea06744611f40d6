-- Lines of texts that were cut at line feeds.
use Rattle.std.proofs.Common.{◌≡◌, ◌<◌, ℕ, zero, suc, Bool, true, false, cond, List, [], ◌∷◌, length, ap, sym, subst}
use Rattle.std.proofs.Common.{◌∙◌, arith, nat_eq}
use Rattle.std.proofs.lemmas.Bool.{ne_eqb}
use Rattle.std.specs.List.{join_with_byte}
use Rattle.std.proofs.lemmas.List.Splits.{join_with_byte-slice_split}
use Rattle.text_words.specs.Words.{pieces}
use Rattle.text_words.proofs.Cuts.{pieces-known}
use Rattle.object_core.specs.Pictures.{ended, text_lines}

-- The lines of a text whose first one was cut off.
pub text_lines-cut : (xs l rest : List ℕ) → pieces 10 xs ≡ l ∷ pieces 10 rest → text_lines xs ≡ l ∷ text_lines rest
text_lines-cut xs l rest cut =
    ap ended cut ∙ pieces-known 10 rest (λ ls. ended (l ∷ ls)) (l ∷ text_lines rest)
    (λ p ps e. ap (λ ls. l ∷ ended ls) (sym e))

some_line : (l : List ℕ) → 0 < length l → ended (l ∷ []) ≡ l ∷ []
some_line [] h = absurd (omega arith)
some_line (x ∷ l) h = ap (λ b. cond b [] ((x ∷ l) ∷ [])) (ne_eqb (suc (length l)) 0 (λ e. omega arith))

-- The lines of a text that has something, but no line feed.
pub text_lines-last : (xs l : List ℕ) → 0 < length xs → pieces 10 xs ≡ l ∷ [] → text_lines xs ≡ l ∷ []
text_lines-last xs l h cut =
    let whole : l ≡ xs = sym (ap (join_with_byte 10) cut) ∙ join_with_byte-slice_split 10 xs in
    let P : List ℕ → Type 0 = λ t. 0 < length t in
    ap ended cut ∙ some_line l (subst P (sym whole) h)
