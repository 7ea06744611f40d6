-- Parts of lists.
use Rattle.std.proofs.Common.{◌≡◌, ◌≤◌, ◌+◌, ◌-◌, min, ℕ, List, ◌++◌, length, take, drop, sym, ◌∙◌, ap, arith}
use Rattle.std.proofs.Common.{length-append, length-drop, length-take}
use Rattle.std.proofs.lemmas.List.{append_assoc, drop-drop, drop-take, drop_min, take-append-drop, take_at, take_min}
use Rattle.std.proofs.lemmas.List.{take-take}
use Rattle.store_model.specs.Image.{put}
use Rattle.store_model.proofs.Points.{length_put}

-- a part that is clipped at the end of the list
pub clipped : (xs : List ℕ) (at n from to : ℕ) → from ≡ min at (length xs) → to ≡ min (at + n) (length xs)
    → take (to - from) (drop from xs) ≡ take n (drop at xs)
clipped xs at n from to is_from is_to =
    ap (λ (m : ℕ). take (to - m) (drop m xs)) is_from
    ∙ ap (λ (l : List ℕ). take (to - min at (length xs)) l) (drop_min at xs)
    ∙ ap (λ (m : ℕ). take m (drop at xs)) (omega (arith, is_to, length-drop at xs))
    ∙ take_min n (drop at xs)

-- the first part and the next one
pub take_next : (xs : List ℕ) (m n : ℕ) → take (m + n) xs ≡ take m xs ++ take n (drop m xs)
take_next xs m n =
    sym (take-append-drop m (take (m + n) xs))
    ∙ ap (λ (l : List ℕ). l ++ drop m (take (m + n) xs)) (take-take m (m + n) xs (omega arith))
    ∙ ap (λ (l : List ℕ). take m xs ++ l) (drop-take m n xs)

-- bytes are written behind those that are there already
pub put_next : (area bytes : List ℕ) (at : ℕ) → at ≤ length area → take (at + length bytes) (put area at bytes)
    ≡ take at area ++ bytes
put_next area bytes at le = take_at (take at area ++ bytes) (drop (at + length bytes) area) (at + length bytes)
    (omega (arith, le, length-append (take at area) bytes, length-take at area))

pub copied_more : (area from : List ℕ) (skip done many : ℕ) → done ≤ length area
    → skip + (done + many) ≤ length from → take done area ≡ take done (drop skip from)
    → take (done + many) (put area done (take many (drop (skip + done) from))) ≡ take (done + many) (drop skip from)
copied_more area from skip done many reached room so_far =
    let long : length (take many (drop (skip + done) from)) ≡ many =
    omega (arith, room, length-take many (drop (skip + done) from), length-drop (skip + done) from) in
    ap (λ (n : ℕ). take (done + n) (put area done (take many (drop (skip + done) from)))) (sym long)
    ∙ put_next area (take many (drop (skip + done) from)) done reached
    ∙ ap (λ (l : List ℕ). l ++ take many (drop (skip + done) from)) so_far
    ∙ ap (λ (l : List ℕ). take done (drop skip from) ++ take many l) (sym (drop-drop done skip from))
    ∙ sym (take_next (drop skip from) done many)

pub copied_long : (area from : List ℕ) (skip done many : ℕ) → done ≤ length area
    → skip + (done + many) ≤ length from → done + many
    ≤ length (put area done (take many (drop (skip + done) from)))
copied_long area from skip done many reached room =
    omega (
      arith,
      room,
      reached,
      length_put area (take many (drop (skip + done) from)) done reached,
      length-take many (drop (skip + done) from),
      length-drop (skip + done) from,
    )

-- three pieces one behind another
pub three_put : (first second third fourth a b c : List ℕ) (at k : ℕ) → take (at + 4) second ≡ take at first ++ a
    → take (at + 4 + length b) third ≡ take (at + 4) second ++ b
    → take (at + 4 + length b + length c) fourth ≡ take (at + 4 + length b) third ++ c
    → k ≡ at + 4 + length b + length c → take k fourth ≡ take at first ++ (a ++ (b ++ c))
three_put first second third fourth a b c at k one two three is =
    ap (λ (n : ℕ). take n fourth) is ∙ three ∙ ap (λ (l : List ℕ). l ++ c) (two ∙ ap (λ (l : List ℕ). l ++ b) one)
    ∙ append_assoc (take at first ++ a) b c ∙ append_assoc (take at first) a (b ++ c)

-- one part more that two lists share
pub shared_more : (held told part : List ℕ) (done many : ℕ) → part ≡ take many (drop done told) → length part ≡ many
    → take done held ≡ take done told → take (length part) (drop done held) ≡ part
    → take (done + many) held ≡ take (done + many) told
shared_more held told part done many is long so_far here =
    take_next held done many
    ∙ ap (λ (l : List ℕ). l ++ take many (drop done held)) so_far
    ∙ ap (λ (n : ℕ). take done told ++ take n (drop done held)) (sym long)
    ∙ ap (λ (l : List ℕ). take done told ++ l) (here ∙ is)
    ∙ sym (take_next told done many)
