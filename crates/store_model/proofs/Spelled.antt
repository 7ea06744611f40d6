-- Blocks that are written into the journal are read there again.
use Rattle.std.proofs.Common.{◌≡◌, ◌<◌, ◌≤◌, ◌+◌, ◌*◌, ◌/◌, ◌%◌, ◌^◌, ℕ, zero, suc, List, [], ◌∷◌, ◌++◌, length, take}
use Rattle.std.proofs.Common.{drop, refl, sym, ◌∙◌, ap, arith, length-append, length-drop, length-take}
use Rattle.std.specs.Prelude.{⊤}
use Rattle.std.specs.Int.{w32, w64, from_le_bytes, to_le_bytes}
use Rattle.std.proofs.lemmas.List.{append_assoc, drop-drop, drop_at, take_at}
use Rattle.std.proofs.lemmas.Nat.{from_le_bytes-to_le_bytes_4, from_le_bytes-to_le_bytes_8}
use Rattle.store_model.specs.Changes.{changes_from, journal_of, spelled}
use Rattle.store_model.specs.Journal.{Block, block_at, blocks_from, blocks_in, count_in, form_in, number_at, size_in}
use Rattle.store_model.specs.Patches.{AreWhole}
use Rattle.store_model.proofs.Changed.{at_block}

-- blocks that the journal has room for are whole
pub blocks_whole : (n at : ℕ) (journal : List ℕ) → at + 516 * n ≤ length journal → AreWhole (blocks_from n at journal)
blocks_whole zero at journal room = tt
blocks_whole (suc n) at journal room = (
  omega (arith, room, length-take 512 (drop (at + 4) journal), length-drop (at + 4) journal),
  blocks_whole n (at + 516) journal (omega (arith, room)),
)

-- numbers that fit four bytes
abbrev pub AreNumbered : List Block → Type 0
AreNumbered [] = ⊤
AreNumbered (b ∷ bs) = (b.number < 2 ^ 32) × AreNumbered bs

pub changes_numbered : (n k : ℕ) (old new : List ℕ) → n + k ≤ 2 ^ 32 → AreNumbered (changes_from n k old new)
changes_numbered n zero old new small = tt
changes_numbered n (suc k) old new small = at_block (λ bs. AreNumbered (bs ++ changes_from (n + 1) k old new)) n old new
    (λ same. changes_numbered (n + 1) k old new (omega (arith, small)))
    (λ other. (omega (arith, small), changes_numbered (n + 1) k old new (omega (arith, small))))

pub length_spelled : (bs : List Block) → AreWhole bs → length (spelled bs) ≡ 516 * length bs
length_spelled [] whole = refl
length_spelled (b ∷ bs) whole = let first = whole.0 in
    omega (
      arith,
      first,
      length_spelled bs whole.1,
      length-append (to_le_bytes w32 b.number ++ b.bytes)
          (spelled bs),
      length-append (to_le_bytes w32 b.number) b.bytes,
    )

pub spelled_more : (bs cs : List Block) → spelled (bs ++ cs) ≡ spelled bs ++ spelled cs
spelled_more [] cs = refl
spelled_more (b ∷ bs) cs = ap (λ (l : List ℕ). to_le_bytes w32 b.number ++ b.bytes ++ l) (spelled_more bs cs)
    ∙ sym (append_assoc (to_le_bytes w32 b.number ++ b.bytes) (spelled bs) (spelled cs))

-- what stands in front doesn't matter
read_behind : (front rest : List ℕ) (at : ℕ) (b : Block) → length front ≡ at → length b.bytes ≡ 512
    → b.number < 2 ^ 32 → block_at at (front ++ (to_le_bytes w32 b.number ++ b.bytes ++ rest)) ≡ b
unfolding number_at
read_behind front rest at b long whole small =
    let all : List ℕ = to_le_bytes w32 b.number ++ b.bytes ++ rest in
    let begins : drop at (front ++ all) ≡ all = drop_at front all at long in
    let number : number_at at (front ++ all) ≡ b.number = ap (λ (l : List ℕ). from_le_bytes w32 (take 4 l)) begins
    ∙ from_le_bytes-to_le_bytes_4 b.number small in
    let behind : drop (at + 4) (front ++ all) ≡ b.bytes ++ rest = sym (drop-drop 4 at (front ++ all))
    ∙ ap (λ (l : List ℕ). drop 4 l) begins in
    let bytes : take 512 (drop (at + 4) (front ++ all)) ≡ b.bytes = ap (λ (l : List ℕ). take 512 l) behind
    ∙ take_at b.bytes rest 512 whole in
    ap (λ (n : ℕ). record { number = n; bytes = take 512 (drop (at + 4) (front ++ all)) }) number
    ∙ ap (λ (l : List ℕ). record { number = b.number; bytes = l }) bytes

pub read_spelled : (bs : List Block) (front : List ℕ) (at : ℕ) → length front ≡ at → AreWhole bs → AreNumbered bs
    → blocks_from (length bs) at (front ++ spelled bs) ≡ bs
read_spelled [] front at long whole small = refl
read_spelled (b ∷ bs) front at long whole small =
    let entry : List ℕ = to_le_bytes w32 b.number ++ b.bytes in
    let again : front ++ entry ++ spelled bs ≡ front ++ (entry ++ spelled bs) = append_assoc front entry (spelled bs) in
    let one = whole.0 in
    let next : blocks_from (length bs) (at + 516) (front ++ (entry ++ spelled bs)) ≡ bs =
    ap (λ (l : List ℕ). blocks_from (length bs) (at + 516) l) (sym again)
    ∙ read_spelled bs (front ++ entry) (at + 516)
    (omega (arith, long, one, length-append front entry, length-append (to_le_bytes w32 b.number) b.bytes))
    whole.1 small.1 in
    ap (λ (x : Block). x ∷ blocks_from (length bs) (at + 516) (front ++ (entry ++ spelled bs)))
    (read_behind front (spelled bs) at b long whole.0 small.0) ∙ ap (λ (l : List Block). b ∷ l) next

-- a length below 2^56 takes seven bytes
pub seven : (size : ℕ) → size < 2 ^ 56 → take 7 (to_le_bytes w64 size) ++ 0 ∷ [] ≡ to_le_bytes w64 size
seven size small = let top : size / 72057594037927936 % 256 ≡ 0 = omega (arith, small) in
    ap (λ (n : ℕ). take 7 (to_le_bytes w64 size) ++ n ∷ []) (sym top)

-- what such a journal says
pub says_size : (gate size : ℕ) (bs : List Block) → size < 2 ^ 56 → size_in (journal_of gate size bs) ≡ size
unfolding size_in
says_size gate size bs small = ap (λ (l : List ℕ). from_le_bytes w64 l) (seven size small)
    ∙ from_le_bytes-to_le_bytes_8 size (omega (arith, small))

pub says_form : (gate size : ℕ) (bs : List Block) → form_in (journal_of gate size bs) ≡ 1
says_form gate size bs = refl

pub says_count : (gate size : ℕ) (bs : List Block) → length bs < 2 ^ 32 → count_in (journal_of gate size bs) ≡ length bs
unfolding number_at
says_count gate size bs small = from_le_bytes-to_le_bytes_4 (length bs) small

pub says_blocks : (gate size : ℕ) (bs : List Block) → length bs < 2 ^ 32 → AreWhole bs → AreNumbered bs
    → blocks_in (journal_of gate size bs) ≡ bs
says_blocks gate size bs small whole numbered =
    ap (λ (n : ℕ). blocks_from n 13 (journal_of gate size bs)) (says_count gate size bs small)
    ∙ read_spelled bs (gate ∷ (take 7 (to_le_bytes w64 size) ++ 1 ∷ to_le_bytes w32 (length bs))) 13 refl whole numbered

pub length_journal : (gate size : ℕ) (bs : List Block) → AreWhole bs → length (journal_of gate size bs)
    ≡ 13 + 516 * length bs
length_journal gate size bs whole = let long = length_spelled bs whole in omega (arith, long)
