use Rattle.std.proofs.Common.{◌≡◌, ◌++◌, ◌∙◌, ap, arith, drop, length, refl, replicate, sym, List, ℕ}
use Rattle.std.specs.List.{flat_map}
use Rattle.read_packed.specs.Packed.{spelled, unit}
use Rattle.read_packed.proofs.Held.{block_whole, laid_from, length_spelled, pieced, place_there, placed, with_place}
use Rattle.read_packed.proofs.packed.spell.Goals as goal

pub returns : goal.returns
unfolding spelled
returns c =
    let short = c.args.short.now in
    let head : length short.head ≡ 16 = omega arith in
    let place : length short.place ≡ 7 = omega arith in
    let name : length short.name ≡ 32 = omega arith in
    let bytes : List ℕ = with_place short.place in
    let all : length bytes ≡ 128 = refl in
    let rest : List ℕ = replicate 36 0 ++ (short.place ++ replicate 5 0) in
    let from_64 : drop 64 c.put.new.entry ≡ c.piece.result ++ rest =
    laid_from bytes c.put.new.entry c.piece.result 64 80 (omega arith) (omega (arith, all)) c.put.ensures
    ∙ ap (λ xs. c.piece.result ++ xs) (place_there short.place place) in
    let from_48 : drop 48 c.put-2.new.entry ≡ c.widened.result.1 ++ (c.piece.result ++ rest) =
    laid_from c.put.new.entry c.put-2.new.entry c.widened.result.1 48 64 (omega arith) (omega arith) c.put-2.ensures
    ∙ ap (λ xs. c.widened.result.1 ++ xs) from_64 in
    let from_32 : drop 32 c.put-3.new.entry ≡ c.widened.result.0 ++ (c.widened.result.1 ++ (c.piece.result ++ rest)) =
    laid_from c.put-2.new.entry c.put-3.new.entry c.widened.result.0 32 48 (omega arith) (omega arith) c.put-3.ensures
    ∙ ap (λ xs. c.widened.result.0 ++ xs) from_48 in
    let from_16 : drop 16 c.put-4.new.entry ≡ c.widened-2.result.1
    ++ (c.widened.result.0 ++ (c.widened.result.1 ++ (c.piece.result ++ rest))) =
    laid_from c.put-3.new.entry c.put-4.new.entry c.widened-2.result.1 16 32 (omega arith) (omega arith) c.put-4.ensures
    ∙ ap (λ xs. c.widened-2.result.1 ++ xs) from_32 in
    laid_from c.put-4.new.entry c.put-5.new.entry c.widened-2.result.0 0 16 (omega arith) (omega arith) c.put-5.ensures
    ∙ ap (λ xs. c.widened-2.result.0 ++ xs) from_16
    ∙ pieced short.name short.head rest c.widened-2.result.0 c.widened-2.result.1 c.widened.result.0
    c.widened.result.1 c.piece.result name head
    (c.widened-2.ensures ∙ ap (flat_map unit) c.piece-3.ensures)
    (c.widened.ensures ∙ ap (flat_map unit) c.piece-2.ensures) c.piece.ensures
    ∙ placed short.name short.head short.place
    ∙ sym (block_whole 128 (spelled short) (length_spelled short name head place))
