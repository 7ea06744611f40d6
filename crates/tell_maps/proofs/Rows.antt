-- Rows and texts that are written one after another.
use Rattle.std.proofs.Common.{◌≡◌, ◌<◌, ◌≤◌, ◌+◌, ◌-◌, ◌*◌, ◌/◌, ◌++◌, ◌∷◌, [], ◌∙◌, ℕ, List, length, drop, take, map}
use Rattle.std.proofs.Common.{min, refl, sym, ap, append_assoc, arith}
use Rattle.std.proofs.lemmas.List.{append-nil, length-drop, map-id, take_all, take_min}
use Rattle.std.proofs.lemmas.List.Concat.{flat_map-append}
use Rattle.std.proofs.lemmas.List.FromFn.{map-range_with_len_more}
use Rattle.std.specs.List.{flat_map, range_with_len}
use Rattle.std.specs.Prelude.{codes}
use Rattle.tell_maps.specs.Maps.{counted, right_text, row, said}

pub behind : {A : Type 0} (before after more rest : List A) → after ≡ before ++ more
    → after ++ rest ≡ before ++ (more ++ rest)
behind before after more rest is = ap (λ t. t ++ rest) is ∙ append_assoc before more rest

rest_is : (cs : List ℕ) (n : ℕ) → take (length cs - n) (drop n cs) ≡ drop n cs
rest_is cs n = take_all (length cs - n) (drop n cs) (let e : length (drop n cs) ≡ length cs - n =
    length-drop n cs in omega (arith, e))

cut_is : (cs : List ℕ) (n m : ℕ) → m ≡ min 64 (length cs - n) → take m (take (length cs - n) (drop n cs))
    ≡ take 64 (drop n cs)
cut_is cs n m is =
    let e : length (drop n cs) ≡ length cs - n = length-drop n cs in
    ap (λ xs. take m xs) (rest_is cs n) ∙ ap (λ j. take j (drop n cs)) (is ∙ ap (min 64) (sym e))
    ∙ take_min 64 (drop n cs)

pub row_pushed : (t u v w x cs two cut end : List ℕ) (k m : ℕ) → m ≡ min 64 (length cs - 64 * k)
    → u ≡ t ++ right_text (64 * k) → two ≡ codes "  " → v ≡ u ++ two
    → cut ≡ take m (take (length cs - 64 * k) (drop (64 * k) cs)) → w ≡ v ++ cut → end ≡ 10 ∷ [] → x ≡ w ++ end
    → x ≡ t ++ row cs k
row_pushed t u v w x cs two cut end k m least number spaces p is q line r =
    r ∙ behind v w cut end q ∙ behind u v two (cut ++ end) p ∙ behind t u (right_text (64 * k))
    (two ++ (cut ++ end)) number
    ∙ ap (λ s. t ++ (right_text (64 * k) ++ (s ++ (cut ++ end)))) spaces
    ∙ ap (λ s. t ++ (right_text (64 * k) ++ (codes "  " ++ (s ++ end)))) (is ∙ cut_is cs (64 * k) m least)
    ∙ ap (λ s. t ++ (right_text (64 * k) ++ (codes "  " ++ (take 64 (drop (64 * k) cs) ++ s)))) line

range_more : (n : ℕ) → range_with_len 0 (n + 1) ≡ range_with_len 0 n ++ n ∷ []
range_more n = sym (map-id (range_with_len 0 (n + 1))) ∙ map-range_with_len_more (λ x. x) 0 n n (omega arith)
    ∙ ap (λ xs. xs ++ n ∷ []) (map-id (range_with_len 0 n))

pub rows_more : (f : ℕ → List ℕ) (n : ℕ) (t u v : List ℕ) → u ≡ t ++ flat_map f (range_with_len 0 n) → v ≡ u ++ f n
    → v ≡ t ++ flat_map f (range_with_len 0 (n + 1))
rows_more f n t u v h is =
    is ∙ behind t u (flat_map f (range_with_len 0 n)) (f n) h
    ∙ ap (λ x. t ++ (flat_map f (range_with_len 0 n) ++ x)) (sym (append-nil (f n)))
    ∙ ap (λ x. t ++ x) (sym (flat_map-append f (range_with_len 0 n) (n ∷ [])))
    ∙ ap (λ xs. t ++ flat_map f xs) (sym (range_more n))

-- ---- the legend and the sums
pub three_counted : (cs t u v w a b d a' b' d' : List ℕ) (m n o : ℕ) → a ≡ a' → b ≡ b' → d ≡ d'
    → u ≡ t ++ counted a cs m → v ≡ u ++ counted b cs n → w ≡ v ++ counted d cs o
    → w ≡ t ++ (counted a' cs m ++ (counted b' cs n ++ counted d' cs o))
three_counted cs t u v w a b d a' b' d' m n o e f g p q r =
    r ∙ behind u v (counted b cs n) (counted d cs o) q ∙ behind t u (counted a cs m)
    (counted b cs n ++ counted d cs o) p
    ∙ ap (λ x. t ++ (counted x cs m ++ (counted b cs n ++ counted d cs o))) e
    ∙ ap (λ x. t ++ (counted a' cs m ++ (counted x cs n ++ counted d cs o))) f
    ∙ ap (λ x. t ++ (counted a' cs m ++ (counted b' cs n ++ counted x cs o))) g

pub three_said : (t u v w x a b d a' b' d' last : List ℕ) (i j k i' j' k' : ℕ) → a ≡ a' → b ≡ b' → d ≡ d' → i ≡ i'
    → j ≡ j' → k ≡ k'
    → u ≡ t ++ said a i → v ≡ u ++ said b j → w ≡ v ++ said d k → x ≡ w ++ last
    → x ≡ t ++ (said a' i' ++ (said b' j' ++ (said d' k' ++ last)))
three_said t u v w x a b d a' b' d' last i j k i' j' k' e f g ei ej ek p q r s =
    s ∙ behind v w (said d k) last r ∙ behind u v (said b j) (said d k ++ last) q
    ∙ behind t u (said a i) (said b j ++ (said d k ++ last)) p
    ∙ ap (λ y. t ++ (y ++ (said b j ++ (said d k ++ last)))) (λ z. said (e z) (ei z))
    ∙ ap (λ y. t ++ (said a' i' ++ (y ++ (said d k ++ last)))) (λ z. said (f z) (ej z))
    ∙ ap (λ y. t ++ (said a' i' ++ (said b' j' ++ (y ++ last)))) (λ z. said (g z) (ek z))
