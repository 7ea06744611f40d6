-- How a menu text lies in its 16 bytes: first the text, then zeros.
use Rattle.std.specs.Prelude.{◌≡◌, ℕ, ◌-◌, ◌≤◌, List, ◌++◌, length, take, drop, replicate, IsTrue}
use Rattle.std.proofs.Common.{ap, sym, subst, ◌∙◌, take-append-drop, length-take-le}
use Rattle.object_state.specs.declared.menu_texts.MenuText.TheInside.{Inside}
use Rattle.object_state.specs.MenuTexts.{is_menu_text}

pub record IsInline (t : Inside) : Type 0 where
  pub fits : t.len ≤ 16
  pub whole : length t.bytes ≡ 16
  pub text : IsTrue (is_menu_text (take t.len t.bytes))
  pub zeros : drop t.len t.bytes ≡ replicate (16 - t.len) 0

abbrev pub padded : List ℕ → Inside
padded text = record { bytes = text ++ replicate (16 - length text) 0; len = length text }

-- so the text gives the bytes back
pub padded-take : (t : Inside) → IsInline t → padded (take t.len t.bytes) ≡ t
padded-take t h =
    let AtMost : ℕ → Type 0 = λ n. t.len ≤ n in
    let within : t.len ≤ length t.bytes = subst AtMost (sym h.whole) h.fits in
    let text : List ℕ = take t.len t.bytes in
    let len : length text ≡ t.len = length-take-le t.len t.bytes within in
    let rest : replicate (16 - length text) 0 ≡ drop t.len t.bytes =
    ap (λ n. replicate (16 - n) 0) len ∙ sym h.zeros in
    let bytes : text ++ replicate (16 - length text) 0 ≡ t.bytes =
    ap (λ r. text ++ r) rest ∙ take-append-drop t.len t.bytes in
    λ i. record { bytes = bytes i; len = len i }
