-- A menu text, copied to the front of sixteen zeros, lies in them as it must.
use Rattle.std.proofs.Common.{◌≡◌, ℕ, ◌-◌, ◌≤◌, List, ◌++◌, length, drop, replicate, true, IsTrue, arith, rules}
use Rattle.std.proofs.lemmas.Bool.Decides.{nat_tests}
use Rattle.std.proofs.lemmas.List.{length-append, drop-replicate, length-replicate}
use Rattle.std.proofs.Math.Seq.{take-append_seam, drop-append_seam}
use Rattle.object_state.specs.MenuTexts.{is_menu_text}
use Rattle.object_state.specs.MenuInside.{IsInline}

pub padded-inline : (text : List ℕ) → is_menu_text text ≡ true
    → IsInline (record { bytes = text ++ drop (length text) (replicate 16 0); len = length text })
padded-inline text shape =
    let short : length text ≤ 16 = grind (arith, nat_tests) in
    let told : IsTrue (is_menu_text text) = search rules in
    let rest : drop (length text) (replicate 16 0) ≡ replicate (16 - length text) 0 =
    drop-replicate (length text) 16 0 in
    record {
      fits = short;
      whole = rw (length-append, rest, length-replicate) (omega arith);
      text = rw (take-append_seam text (drop (length text) (replicate 16 0))) told;
      zeros = rw (drop-append_seam text (drop (length text) (replicate 16 0))) rest;
    }
