-- Pieces that are written one after another.
use Rattle.std.proofs.Common.{◌≡◌, ◌++◌, ◌∙◌, List, Result, Ok, Err, OnOk, ap, append_assoc}

behind : {A : Type 0} (before after more rest : List A) → after ≡ before ++ more
    → after ++ rest ≡ before ++ (more ++ rest)
behind before after more rest is = ap (λ t. t ++ rest) is ∙ append_assoc before more rest

pub four : {A : Type 0} (t u v w x a b c d : List A) → u ≡ t ++ a → v ≡ u ++ b → w ≡ v ++ c → x ≡ w ++ d
    → x ≡ t ++ (a ++ (b ++ (c ++ d)))
four t u v w x a b c d p q r s = s ∙ behind v w c d r ∙ behind u v b (c ++ d) q ∙ behind t u a (b ++ (c ++ d)) p

pub six : {A : Type 0} (t u v w x y z a b c d e f : List A) → u ≡ t ++ a → v ≡ u ++ b → w ≡ v ++ c → x ≡ w ++ d
    → y ≡ x ++ e → z ≡ y ++ f
    → z ≡ t ++ (a ++ (b ++ (c ++ (d ++ (e ++ f)))))
six t u v w x y z a b c d e f p q r s m n =
    n ∙ behind x y e f m ∙ behind w x d (e ++ f) s ∙ behind v w c (d ++ (e ++ f)) r
    ∙ behind u v b (c ++ (d ++ (e ++ f))) q ∙ behind t u a (b ++ (c ++ (d ++ (e ++ f)))) p

-- what a call that was done promises, carried on
pub ok_map : {A E : Type 0} (r : Result A E) (P Q : Type 0) → (P → Q) → OnOk r P → OnOk r Q
ok_map (Ok x) P Q f h = f h
ok_map (Err e) P Q f h = tt
