use Rattle.std.proofs.Common.{◌≡◌, ◌+◌, ◌-◌, ◌*◌, ◌<◌, ◌%◌, ◌++◌, ℕ, List, length, take, drop, ◌∙◌, ap, arith}
use Rattle.std.proofs.lemmas.List.{length-drop, length-set, length-take, take_more_set, take_rest}
use Rattle.std.specs.Option.{option_map}
use Rattle.text_spelling.proofs.Hex.{hex_ill, hex_well}
use Rattle.text_spelling.specs.Words.{hex_read}
use Rattle.text_spelling.proofs.words.fill_hex.Goals as goal

pub loop-rest-init : goal.loop-rest-init
loop-rest-init c =
    let word : List ℕ = c.args.word.now in
    let n : ℕ = c.in-Some.filled in
    let more : List ℕ = take (length word - 2 * n) (drop (2 * n) word) in
    let behind : length more ≡ length word - 2 * n =
    omega (arith, length-take (length word - 2 * n) (drop (2 * n) word), length-drop (2 * n) word) in
    record {
      room = omega (arith, c.requires, behind, c.in-Some.ensures.within, c.in-Some.ensures.long);
      well = λ few. ap (λ r. option_map (λ bs. take n c.fill_blocks.new.buffer ++ bs) (hex_read r))
          (take_rest word (2 * n)) ∙ c.in-Some.ensures.read;
      ill = λ many. absurd (omega (arith, many));
    }

pub loop-rest-preserved : goal.loop-rest-preserved
loop-rest-preserved c =
    let rest : List ℕ = c.loop-rest.rest.now in
    let buffer : List ℕ = c.loop-rest.buffer in
    let n : ℕ = c.loop-rest.filled in
    let long : 2 + (length rest - 2) ≡ length rest = omega (arith, c.in-len2-up.len_at_least) in
    let room : n < length buffer = omega (arith, c.loop-rest.invariant.room, c.in-len2-up.len_at_least) in
    let more : List ℕ = take (length rest - 2) (drop 2 rest) in
    let behind : length more ≡ length rest - 2 =
    omega (arith, length-take (length rest - 2) (drop 2 rest), length-drop 2 rest) in
    let cast : c.told_pair-told.result < 256 → c.told_pair-told.result % 256 ≡ c.told_pair-told.result =
    λ low. grind (arith, low) in
    record {
      room = omega (
        arith,
        c.loop-rest.invariant.room,
        behind,
        long,
        length-set buffer n
            (c.told_pair-told.result % 256),
      );
      well = λ few.
          ap (λ xs. option_map (λ bs. xs ++ bs) (hex_read more))
          (take_more_set buffer n (c.told_pair-told.result % 256) room)
          ∙ hex_well c.args.word.now (take n buffer) rest c.loop-rest.bits c.told_pair-told.result
          (c.told_pair-told.result % 256) c.in-len2-up.len_at_least
          c.told_pair-told.ensures cast c.loop-rest.invariant.well few;
      ill = λ many.
          hex_ill c.args.word.now (take n buffer) rest c.loop-rest.bits c.told_pair-told.result
          (c.told_pair-told.result % 256) c.in-len2-up.len_at_least
          c.told_pair-told.ensures cast c.loop-rest.invariant.well c.loop-rest.invariant.ill many;
    }
