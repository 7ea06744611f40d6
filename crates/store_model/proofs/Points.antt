-- Writes and cuts, byte by byte.
use Rattle.std.proofs.Common.{◌≡◌, ◌<◌, ◌≤◌, ◌+◌, ◌-◌, ◌⊎◌, ⊎_elim, min, max, ℕ, List, ◌++◌, length, get_or, take, drop}
use Rattle.std.proofs.Common.{sym, ◌∙◌, ap, arith, length-append, length-take, length-drop}
use Rattle.std.proofs.lemmas.List.{get_or-append_right, get_or-drop, get_or-take, get_or_append_left}
use Rattle.store_model.specs.Crash.{CutShort, Torn}
use Rattle.store_model.specs.Image.{put}

length_front : (old bytes : List ℕ) (at : ℕ) → at ≤ length old → length (take at old ++ bytes) ≡ at + length bytes
length_front old bytes at le = omega (arith, le, length-append (take at old) bytes, length-take at old)

pub length_put : (old bytes : List ℕ) (at : ℕ) → at ≤ length old → length (put old at bytes)
    ≡ max (length old) (at + length bytes)
length_put old bytes at le =
    omega (
      arith,
      le,
      length_front old bytes at le,
      length-append (take at old ++ bytes)
          (drop (at + length bytes) old),
      length-drop (at + length bytes) old,
    )

pub put_inside : (old bytes : List ℕ) (at p : ℕ) → at ≤ length old → at ≤ p → p < at + length bytes
    → get_or (put old at bytes) p 0 ≡ get_or bytes (p - at) 0
put_inside old bytes at p le from to =
    get_or_append_left (take at old ++ bytes) (drop (at + length bytes) old) 0 p
    (omega (arith, to, length_front old bytes at le))
    ∙ get_or-append_right (take at old) bytes at p 0 (omega (arith, le, length-take at old)) from

pub put_before : (old bytes : List ℕ) (at p : ℕ) → at ≤ length old → p < at
    → get_or (put old at bytes) p 0 ≡ get_or old p 0
put_before old bytes at p le before =
    get_or_append_left (take at old ++ bytes) (drop (at + length bytes) old) 0 p
    (omega (arith, before, length_front old bytes at le))
    ∙ get_or_append_left (take at old) bytes 0 p (omega (arith, before, le, length-take at old))
    ∙ get_or-take at old p 0 before

pub put_after : (old bytes : List ℕ) (at p : ℕ) → at ≤ length old → at + length bytes ≤ p
    → get_or (put old at bytes) p 0 ≡ get_or old p 0
put_after old bytes at p le after =
    get_or-append_right (take at old ++ bytes) (drop (at + length bytes) old) (at + length bytes) p 0
    (length_front old bytes at le) after
    ∙ get_or-drop (at + length bytes) old (p - (at + length bytes)) 0
    ∙ ap (λ (n : ℕ). get_or old n 0) (omega (arith, after))

pub put_outside : (old bytes : List ℕ) (at p : ℕ) → at ≤ length old → p < at ⊎ at + length bytes ≤ p
    → get_or (put old at bytes) p 0 ≡ get_or old p 0
put_outside old bytes at p le out = ⊎_elim (put_before old bytes at p le) (put_after old bytes at p le) out

torn_before : (at n : ℕ) (old new : List ℕ) (p : ℕ) → Torn at n old new → p < at → p < length old
    → get_or new p 0 ≡ get_or old p 0
torn_before at n old new p torn before there =
    sym (get_or-take (min at (length old)) new p 0 (omega (arith, before, there)))
    ∙ ap (λ (l : List ℕ). get_or l p 0) torn.before
    ∙ get_or-take at old p 0 before

torn_after : (at n : ℕ) (old new : List ℕ) (p : ℕ) → Torn at n old new → at + n ≤ p → get_or new p 0 ≡ get_or old p 0
torn_after at n old new p torn after =
    let here : at + n + (p - (at + n)) ≡ p = omega (arith, after) in
    sym (ap (λ (k : ℕ). get_or new k 0) here)
    ∙ sym (get_or-drop (at + n) new (p - (at + n)) 0)
    ∙ ap (λ (l : List ℕ). get_or l (p - (at + n)) 0) torn.after
    ∙ get_or-drop (at + n) old (p - (at + n)) 0
    ∙ ap (λ (k : ℕ). get_or old k 0) here

-- a torn write keeps the bytes outside of its range
pub torn_outside : (at n : ℕ) (old new : List ℕ) (p : ℕ) → Torn at n old new → p < at ⊎ at + n ≤ p → p < length old
    → get_or new p 0 ≡ get_or old p 0
torn_outside at n old new p torn out there = ⊎_elim (λ before. torn_before at n old new p torn before there)
    (λ after. torn_after at n old new p torn after) out

-- a cut keeps the bytes that it leaves
pub cut_inside : (size : ℕ) (old new : List ℕ) (p : ℕ) → CutShort size old new → p < length new
    → get_or new p 0 ≡ get_or old p 0
cut_inside size old new p cut there = ap (λ (l : List ℕ). get_or l p 0) cut.front
    ∙ get_or-take (length new) old p 0 there
