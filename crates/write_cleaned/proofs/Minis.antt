-- Streams that are added mini sector by mini sector, or as one part of the mini stream.
use Rattle.std.proofs.Common.{◌≡◌, ◌<◌, ◌≤◌, ◌+◌, ◌-◌, ◌*◌, ◌/◌, ◌∙◌, ℕ, zero, suc, List, [], ◌∷◌, ◌++◌, append_assoc}
use Rattle.std.proofs.Common.{get_or, length, take, drop, map, min, replicate, sym, ap, arith}
use Rattle.std.proofs.lemmas.List.{append-nil, take-append-le}
use Rattle.std.proofs.Math.Seq.{drop-append-add}
use Rattle.std.specs.List.{range_with_len}
use Rattle.cfb_bytes.specs.Bytes.{block}
use Rattle.cfb_chains.proofs.Blocks.{length_block}
use Rattle.cfb_header.specs.Bytes.{joined, u32_at}
use Rattle.cfb_layout.specs.Image.{padded}
use Rattle.cfb_file.specs.Limits.{CUTOFF}
use Rattle.cfb_file.specs.Need.{pieces}
use Rattle.read_outlines.specs.declared.outline.Place.{Place}
use Rattle.read_streams.specs.Chains.{walked}
use Rattle.read_streams.specs.Tables.{minis_read, read_by}
use Rattle.read_streams.specs.declared.tables.Tables.{Tables}
use Rattle.read_streams.proofs.Filled.{block_front}
use Rattle.read_streams.proofs.Joined.{take_plus}
use Rattle.write_cleaned.specs.Windows.{IsAdded, IsPartAdded, IsWindow, mini_bytes}
use Rattle.write_cleaned.specs.declared.window.Window.{Window}
use Rattle.write_cleaned.proofs.Ends.{short_padded, walked_long}
use Rattle.write_cleaned.proofs.Rows.{row_part, whole_block}

-- ---- a row
module _ (a : List ℕ) (tables : Tables) (place : Place) where
  pub row_added : (window : Window) (old new : List ℕ) (start zs : ℕ) → start ≡ 64 * place.first
      → zs ≡ 64 * pieces 64 place.size - place.size
      → place.size < CUTOFF
      → walked (λ n. u32_at tables.mini_fat.items (4 * n)) place.first ((place.size + 63) / 64)
      ≡ range_with_len place.first ((place.size + 63) / 64)
      → IsPartAdded a tables window start place.size zs old new
      → IsAdded a tables window (padded 64 (read_by a tables place)) old new
  row_added window old new start zs at is short row h =
      let all : List ℕ = mini_bytes a tables in
      let part : take place.size (drop start all) ≡ take place.size (minis_read all tables.mini_fat.items place) =
      ap (λ n. take place.size (drop n all)) at
      ∙ row_part all place.first place.size (walked (λ n. u32_at tables.mini_fat.items (4 * n)) place.first
      ((place.size + 63) / 64)) row (λ some. omega (arith, at, h.inside some)) in
      record {
        added = h.added ∙ ap (λ xs. old ++ (xs ++ replicate zs 0)) part
            ∙ ap (λ xs. old ++ xs) (short_padded a tables place zs short is);
        is_window = h.is_window;
      }

-- ---- one mini sector after another
-- the first bytes of a stream, so many mini sectors, and zeros up to whole ones where it ends
abbrev pub first_minis : List ℕ → ℕ → ℕ → List ℕ
first_minis bytes size k = take (min size (64 * k)) bytes ++ replicate (64 * k - size) 0

one_more : (bytes : List ℕ) (size k len : ℕ) → 64 * k < size → len ≡ min (size - 64 * k) 64
    → first_minis bytes size k ++ (take len (drop (64 * k) bytes) ++ replicate (64 - len) 0)
    ≡ first_minis bytes size (k + 1)
one_more bytes size k len lt is =
    let before : min size (64 * k) ≡ 64 * k = omega (arith, lt) in
    let none : 64 * k - size ≡ 0 = omega (arith, lt) in
    let after : 64 * k + len ≡ min size (64 * (k + 1)) = omega (arith, lt, is) in
    let zs : 64 - len ≡ 64 * (k + 1) - size = omega (arith, lt, is) in
    let part : List ℕ = take len (drop (64 * k) bytes) in
    (λ i. (take (before i) bytes ++ replicate (none i) 0) ++ (part ++ replicate (zs i) 0))
    ∙ ap (λ xs. xs ++ (part ++ replicate (64 * (k + 1) - size) 0)) (append-nil (take (64 * k) bytes))
    ∙ sym (append_assoc (take (64 * k) bytes) part (replicate (64 * (k + 1) - size) 0))
    ∙ ap (λ xs. xs ++ replicate (64 * (k + 1) - size) 0) (sym (take_plus (64 * k) len bytes))
    ∙ ap (λ n. take n bytes ++ replicate (64 * (k + 1) - size) 0) after

-- the bytes of a mini sector stand in its turn
mini_in_turn : (all ns : List ℕ) (k len : ℕ) → k < length ns → len ≤ 64
    → take len (drop (64 * k) (joined (block 64 all) (map (λ n. 64 * n) ns))) ≡ block len all (64 * get_or ns k 0)
mini_in_turn all [] k len lt few = absurd (omega (arith, lt))
mini_in_turn all (n ∷ ns) zero len lt few =
    let rest : List ℕ = joined (block 64 all) (map (λ n. 64 * n) ns) in
    let long : length (block 64 all (64 * n)) ≡ 64 = length_block 64 all (64 * n) in
    let e : 64 * 0 ≡ 0 = omega arith in
    ap (λ m. take len (drop m (block 64 all (64 * n) ++ rest))) e
    ∙ take-append-le len (block 64 all (64 * n)) rest (omega (arith, long, few))
    ∙ block_front len 64 all (64 * n) few
mini_in_turn all (n ∷ ns) (suc k) len lt few =
    let rest : List ℕ = joined (block 64 all) (map (λ n. 64 * n) ns) in
    let long : length (block 64 all (64 * n)) ≡ 64 = length_block 64 all (64 * n) in
    let e : 64 * suc k ≡ length (block 64 all (64 * n)) + 64 * k = omega (arith, long) in
    ap (λ m. take len (drop m (block 64 all (64 * n) ++ rest))) e
    ∙ ap (take len) (drop-append-add (block 64 all (64 * n)) rest (64 * k))
    ∙ mini_in_turn all ns k len (omega (arith, lt)) few

-- of each mini sector the stream has bytes
pub some_in_each : (f : ℕ → ℕ) (ns : List ℕ) (first size k left len : ℕ) → ns ≡ walked f first ((size + 63) / 64)
    → k < length ns → left ≡ size - 64 * k → len ≡ min left 64 → 64 - len < 64
some_in_each f ns first size k left len are lt is cut =
    let many : length ns ≡ (size + 63) / 64 = ap length are ∙ walked_long f first ((size + 63) / 64) in
    omega (arith, lt, many, is, cut)

module _ (a : List ℕ) (tables : Tables) (place : Place) where
  abbrev pub stream_bytes : List ℕ
  stream_bytes = minis_read (mini_bytes a tables) tables.mini_fat.items place

  pub no_minis : (window : Window) (old : List ℕ) → IsWindow a tables window
      → IsAdded a tables window (first_minis stream_bytes place.size 0) old old
  no_minis window old is =
      let front : min place.size (64 * 0) ≡ 0 = omega arith in
      let zs : 64 * 0 - place.size ≡ 0 = omega arith in
      record {
        added = sym ((λ i. old ++ (take (front i) stream_bytes ++ replicate (zs i) 0)) ∙ append-nil old);
        is_window = is;
      }

  pub mini_more : (ns : List ℕ) (old mid new : List ℕ) (w v : Window) (start k len zs : ℕ)
      → ns ≡ walked (λ n. u32_at tables.mini_fat.items (4 * n)) place.first ((place.size + 63) / 64)
      → k < length ns → start ≡ 64 * get_or ns k 0 → len ≡ min (place.size - 64 * k) 64 → zs ≡ 64 - len
      → IsAdded a tables w (first_minis stream_bytes place.size k) old mid → IsPartAdded a tables v start len zs mid new
      → IsAdded a tables v (first_minis stream_bytes place.size (k + 1)) old new
  mini_more ns old mid new w v start k len zs are lt at is left h p =
      let all : List ℕ = mini_bytes a tables in
      let size : ℕ = place.size in
      let many : length ns ≡ (place.size + 63) / 64 = ap length are
      ∙ walked_long (λ n. u32_at tables.mini_fat.items (4 * n)) place.first ((place.size + 63) / 64) in
      let before : 64 * k < place.size = omega (arith, lt, many) in
      let part : take len (drop start all) ≡ take len (drop (64 * k) stream_bytes) =
      sym (whole_block len all start (p.inside (omega (arith, is, before))))
      ∙ ap (block len all) at
      ∙ sym (mini_in_turn all ns k len lt (omega (arith, is)))
      ∙ ap (λ xs. take len (drop (64 * k) (joined (block 64 all) (map (λ n. 64 * n) xs)))) are in
      record {
        added =
            p.added ∙ (λ i. h.added i ++ (part i ++ replicate (left i) 0))
            ∙ append_assoc old (first_minis stream_bytes size k)
            (take len (drop (64 * k) stream_bytes) ++ replicate (64 - len) 0)
            ∙ ap (λ xs. old ++ xs) (one_more stream_bytes size k len before is);
        is_window = p.is_window;
      }

  pub all_minis : (ns : List ℕ) (window : Window) (old new : List ℕ) (k : ℕ)
      → ns ≡ walked (λ n. u32_at tables.mini_fat.items (4 * n)) place.first ((place.size + 63) / 64)
      → k ≡ length ns → place.size < CUTOFF
      → IsAdded a tables window (first_minis stream_bytes place.size k) old new
      → IsAdded a tables window (padded 64 (read_by a tables place)) old new
  all_minis ns window old new k are is short h =
      let many : k ≡ (place.size + 63) / 64 = is ∙ ap length are
      ∙ walked_long (λ n. u32_at tables.mini_fat.items (4 * n)) place.first ((place.size + 63) / 64) in
      let whole : min place.size (64 * k) ≡ place.size = omega (arith, many) in
      let zs : 64 * k - place.size ≡ 64 * pieces 64 place.size - place.size = omega (arith, many) in
      record {
        added =
            h.added
            ∙ ap (λ n. old ++ (take n stream_bytes ++ replicate (64 * k - place.size) 0)) whole
            ∙ ap (λ xs. old ++ xs) (short_padded a tables place (64 * k - place.size) short zs);
        is_window = h.is_window;
      }
