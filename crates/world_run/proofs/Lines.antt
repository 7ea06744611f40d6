-- Lines that are written in pieces.
use Rattle.std.proofs.Common.{◌≡◌, ◌++◌, ℕ, List, [], ◌∷◌, refl, sym, ◌∙◌, append_assoc, append-nil}
use Rattle.std.specs.Prelude.{codes}
use Rattle.text_words.specs.Spelled.{line}

-- a text that is continued by four pieces, one after the other
pub continued : (s u v w x y b c d e : List ℕ) → u ≡ s → v ≡ u ++ b → w ≡ v ++ c → x ≡ w ++ d → y ≡ x ++ e
    → y ≡ s ++ b ++ c ++ d ++ e
continued s u v w x y b c d e p q r t o = rw o (rw t (rw r (rw q (rw p refl))))

-- pieces at a text's end, and the pieces by themselves
abbrev onto : List ℕ → List (List ℕ) → List ℕ
onto text [] = text
onto text (p ∷ ps) = onto (text ++ p) ps

abbrev together : List (List ℕ) → List ℕ
together [] = []
together (p ∷ ps) = p ++ together ps

gathered : (text : List ℕ) (ps : List (List ℕ)) → onto text ps ≡ text ++ together ps
gathered text [] = sym (append-nil text)
gathered text (p ∷ ps) = gathered (text ++ p) ps ∙ append_assoc text p (together ps)

pub frame_pieces : (text number name grant k word : List ℕ)
    → text ++ codes "frame " ++ number ++ 32 ∷ name ++ 32 ∷ [] ++ grant ++ (codes " k " ++ k) ++ 32 ∷ word ++ 10 ∷ []
    ≡ text ++ line (codes "frame" ∷ number ∷ name ∷ grant ∷ codes "k" ∷ k ∷ word ∷ [])
frame_pieces text number name grant k word =
    gathered text (codes "frame " ∷ number ∷ (32 ∷ name) ∷ (32 ∷ []) ∷ grant ∷ (codes " k " ++ k) ∷ (32 ∷ word)
    ∷ (10 ∷ []) ∷ [])

pub object_pieces : (text number frame type state content : List ℕ)
    → text ++ codes "object " ++ number ++ codes " frame " ++ frame ++ 32 ∷ type ++ 32 ∷ [] ++ state ++ 32 ∷ []
    ++ content ++ 10 ∷ []
    ≡ text ++ line (codes "object" ∷ number ∷ codes "frame" ∷ frame ∷ type ∷ state ∷ content ∷ [])
object_pieces text number frame type state content =
    gathered text (codes "object " ∷ number ∷ codes " frame " ∷ frame ∷ (32 ∷ type) ∷ (32 ∷ []) ∷ state ∷ (32 ∷ [])
    ∷ content ∷ (10 ∷ []) ∷ [])
