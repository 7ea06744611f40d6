-- Writes and cuts behind a closed gate leave it closed.
use Rattle.std.proofs.Common.{◌≡◌, ◌<◌, ◌≤◌, ℕ, List, [], ◌∷◌, length, get_or, min, sym, ◌∙◌, ap, arith}
use Rattle.std.proofs.lemmas.List.{get_or-take}
use Rattle.store_model.specs.Crash.{Torn, CutShort}
use Rattle.store_model.specs.Image.{put}
use Rattle.store_model.specs.Store.{IsClosed}

pub torn_keeps_closed : (at n : ℕ) (old new : List ℕ) → 1 ≤ at → IsClosed old → Torn at n old new → IsClosed new
torn_keeps_closed at n old new behind closed torn =
    let there = closed.there in
    let longer = torn.no_shorter in
    let front : get_or new 0 0 ≡ get_or old 0 0 =
    sym (get_or-take (min at (length old)) new 0 0 (omega (arith, behind, there)))
    ∙ ap (λ (l : List ℕ). get_or l 0 0) torn.before
    ∙ get_or-take at old 0 0 (omega (arith, behind)) in
    record { there = omega (arith, there, longer); shut = λ is. closed.shut (sym front ∙ is) }

pub cut_keeps_closed : (size : ℕ) (old new : List ℕ) → 1 ≤ size → IsClosed old → CutShort size old new → IsClosed new
cut_keeps_closed size old new behind closed cut =
    let there = closed.there in
    let longer = cut.no_shorter in
    let here : 0 < length new = omega (arith, there, longer, behind) in
    let front : get_or new 0 0 ≡ get_or old 0 0 = ap (λ (l : List ℕ). get_or l 0 0) cut.front
    ∙ get_or-take (length new) old 0 0 here in
    record { there = here; shut = λ is. closed.shut (sym front ∙ is) }

-- a gate of 0 is closed
pub gate_shut : (journal : List ℕ) → IsClosed (put journal 0 (0 ∷ []))
gate_shut journal = record { there = omega arith; shut = λ is. absurd (omega (arith, is)) }
