use Rattle.std.proofs.Common.{◌≡◌, ◌≤◌, ◌+◌, ◌-◌, ◌*◌, ◌++◌, ℕ, List, length, take, drop, ap, sym, ◌∙◌, arith, refl}
use Rattle.std.proofs.Common.{drop-drop}
use Rattle.std.specs.Option.{option_map}
use Rattle.std.proofs.lemmas.List.{length-drop, length-take, take_rest}
use Rattle.std.proofs.lemmas.Simd.{length-put_chunk, take_more_put_chunk}
use Rattle.text_spelling.specs.Words.{hex_read}
use Rattle.text_spelling.proofs.Blocks.{block-stops, block-turn, when-hex, when-none}
use Rattle.text_spelling.proofs.Hex.{behind-nothing}
use Rattle.text_spelling.proofs.hex_blocks.fill_blocks.Goals as goal

pub loop-rest-init : goal.loop-rest-init
loop-rest-init c = record {
  whole = omega arith;
  room = omega (arith, c.requires);
  long = refl;
  behind = refl;
  read = behind-nothing (hex_read c.args.word.now);
}

pub returns-then-not-is_hex-clause-none : goal.returns-then-not-is_hex-clause-none
returns-then-not-is_hex-clause-none c =
    block-stops c.args.word.now (take c.loop-rest.filled c.loop-rest.buffer) c.loop-rest.rest.now
    c.loop-rest-test.true c.loop-rest.invariant.read
    (when-none c.read_block-is_hex.result.1 c.read_block-is_hex.result.0 (hex_read (take 32 c.loop-rest.rest.now))
    c.if-not-is_hex.true c.read_block-is_hex.ensures.read)

pub loop-rest-preserved : goal.loop-rest-preserved
loop-rest-preserved c =
    let word : List ℕ = c.args.word.now in
    let rest : List ℕ = c.loop-rest.rest.now in
    let buffer : List ℕ = c.loop-rest.buffer in
    let n : ℕ = c.loop-rest.filled in
    let bytes : List ℕ = c.read_block-is_hex.result.0 in
    let more : List ℕ = take (length rest - 32) (drop 32 rest) in
    let long : 32 ≤ length rest = c.loop-rest-test.true in
    let behind : length more ≡ length rest - 32 =
    omega (arith, length-take (length rest - 32) (drop 32 rest), length-drop 32 rest) in
    let room : n + 16 ≤ length buffer = omega (arith, long, c.loop-rest.invariant.room) in
    record {
      whole = omega (arith, long, behind, c.loop-rest.invariant.whole);
      room = omega (arith, long, behind, c.loop-rest.invariant.room, length-put_chunk n buffer bytes);
      long = length-put_chunk n buffer bytes ∙ c.loop-rest.invariant.long;
      behind = take_rest rest 32 ∙ ap (drop 32) c.loop-rest.invariant.behind ∙ drop-drop 32 (2 * n) word
          ∙ ap (λ k. drop k word) (omega arith);
      read =
          ap (λ xs. option_map (λ bs. xs ++ bs) (hex_read more))
          (take_more_put_chunk n buffer bytes (n + 16) (omega (arith, c.read_block-is_hex.ensures.long)) room)
          ∙ block-turn word (take n buffer) rest long c.loop-rest.invariant.read bytes
          (when-hex c.read_block-is_hex.result.1 bytes (hex_read (take 32 rest)) c.if-not-is_hex.false
          c.read_block-is_hex.ensures.read);
    }

pub returns-clause-read : goal.returns-clause-read
returns-clause-read c =
    ap (λ r. option_map (λ bs. take c.loop-rest.filled c.loop-rest.buffer ++ bs) (hex_read r))
    (sym c.loop-rest.invariant.behind) ∙ c.loop-rest.invariant.read
