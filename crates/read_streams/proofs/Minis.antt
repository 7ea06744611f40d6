-- Where the mini sectors of a stream lie in a file.
use Rattle.std.proofs.Common.{◌≡◌, ◌<◌, ◌≤◌, ◌+◌, ◌*◌, ◌/◌, ◌%◌, ◌∙◌, ℕ, zero, suc, Bool, true, List, [], ◌∷◌, ◌++◌}
use Rattle.std.proofs.Common.{length, take, get_or, if◌then◌else◌, map, min, nat_lt, refl, rules, sym, ap, subst, arith}
use Rattle.std.proofs.Common.{append_assoc}
use Rattle.std.proofs.lemmas.List.{get_or-take, length-take}
use Rattle.std.proofs.lemmas.List.Elements.{All-take}
use Rattle.std.specs.List.{All}
use Rattle.cfb_header.specs.Bytes.{block, joined, sector, u32_at}
use Rattle.cfb_header.specs.Header.{mini_fat_count}
use Rattle.cfb_chains.specs.Chain.{END_OF_CHAIN, IsChainOf, Leads}
use Rattle.cfb_chains.specs.Fat.{mini_sectors_of, sectors_of}
use Rattle.cfb_chains.proofs.Blocks.{length_block}
use Rattle.cfb_chains.proofs.Chains.{chain_room}
use Rattle.cfb_entries.specs.Entries.{first_of, size_of}
use Rattle.cfb_file.specs.Denotes.{IsLaidOut, Layout, minis, root_of, sectors}
use Rattle.read_streams.specs.Blocks.{stream_sectors}
use Rattle.read_streams.specs.Chains.{begins_at, walked}
use Rattle.read_streams.proofs.Filled.{mini_at}
use Rattle.read_streams.proofs.Joined.{joined_cut, joined_map}

-- ---- numbers that follow one another
pub walked_push : (f : ℕ → ℕ) (xs ys : List ℕ) (at next k : ℕ) → ys ≡ xs ++ at ∷ [] → next ≡ f at
    → ys ++ walked f next k ≡ xs ++ walked f at (suc k)
walked_push f xs ys at next k e n =
    ap (λ zs. zs ++ walked f next k) e ∙ append_assoc xs (at ∷ []) (walked f next k)
    ∙ ap (λ m. xs ++ (at ∷ walked f m k)) n

walked_leads : (f : ℕ → ℕ) (at : ℕ) (ns : List ℕ) (last count : ℕ) → Leads f at ns last → count ≤ length ns
    → walked f at count ≡ take count ns
walked_leads f at ns last zero h lt = refl
walked_leads f at [] last (suc count) h lt = absurd (omega (arith, lt))
walked_leads f at (n ∷ ns) last (suc count) h lt =
    ap (λ m. m ∷ walked f (f m) count) h.0 ∙ ap (λ ys. n ∷ ys)
    (walked_leads f (f n) ns last count h.1 (omega (arith, lt)))

-- ---- a mini sector in the file
placed_by : (ms : List ℕ) (m : ℕ) → m / 8 < length ms → begins_at ms m ≡ 512 * (get_or ms (m / 8) 0 + 1) + 64 * (m % 8)
placed_by ms m lt =
    let e : nat_lt (m / 8) (length ms) ≡ true = search (rules, lt) in
    ap (λ (b : Bool). if b then 512 * (get_or ms (m / 8) 0 + 1) + 64 * (m % 8) else 0) e

mini_block : (a ms : List ℕ) (m : ℕ) → m < 8 * length ms → block 64 (joined (sector a) ms) (64 * m)
    ≡ block 64 a (begins_at ms m)
mini_block a ms m lt =
    let q : ℕ = m / 8 in
    let r : ℕ = m % 8 in
    let e : m ≡ 8 * (m / 8) + m % 8 = omega arith in
    let lq : m / 8 < length ms = omega (arith, lt) in
    let lr : m % 8 < 8 = omega arith in
    ap (λ k. block 64 (joined (sector a) ms) (64 * k)) e
    ∙ mini_at a ms (m / 8) (m % 8) lq lr
    ∙ ap (block 64 a) (sym (placed_by ms m lq))

-- and by some of the first sectors of the mini stream
placed_front : (ms : List ℕ) (count m : ℕ) → m / 8 < count → count ≤ length ms
    → begins_at (take count ms) m ≡ begins_at ms m
placed_front ms count m lt le =
    let long : length (take count ms) ≡ min count (length ms) = length-take count ms in
    placed_by (take count ms) m (omega (arith, lt, le, long))
    ∙ ap (λ n. 512 * (n + 1) + 64 * (m % 8)) (get_or-take count ms (m / 8) 0 lt)
    ∙ sym (placed_by ms m (omega (arith, lt, le)))

module _ (a : List ℕ) (l : Layout) where
  pub next_is : (n : ℕ) → (minis a l).next n ≡ u32_at (joined (sector a) (take (mini_fat_count a) l.mini_fat)) (4 * n)
  unfolding mini_sectors_of
  next_is n = refl

  wide_mini : (n : ℕ) → length ((minis a l).piece n) ≡ 64
  unfolding mini_sectors_of
  wide_mini n = length_block 64 (joined (sector a) l.mini_stream) (64 * n)

  piece_is : (n : ℕ) → (minis a l).piece n ≡ block 64 (joined (sector a) l.mini_stream) (64 * n)
  unfolding mini_sectors_of
  piece_is n = refl

  width_is : (minis a l).width ≡ 64
  unfolding mini_sectors_of
  width_is = refl

  pub sector_width : (sectors a l).width ≡ 512
  unfolding sectors_of
  sector_width = refl

  count_is : (n : ℕ) → n < (minis a l).count → n < (size_of (root_of a l) + 63) / 64
  unfolding mini_sectors_of
  count_is n lt = omega (arith, lt)

  -- the mini sectors of a stream are blocks of the file
  pub short_held : (laid : IsLaidOut a l) (first size : ℕ) (ns : List ℕ) → IsChainOf (minis a l) first size ns
      → take size (joined (minis a l).piece ns)
      ≡ take size
      (joined (block 64 a) (map (begins_at (stream_sectors a l))
      (walked (minis a l).next first ((size + 63) / 64))))
  short_held laid first zero ns chain = refl
  short_held laid first (suc k) ns chain =
      let size : ℕ = suc k in
      let count : ℕ = (suc k + 63) / 64 in
      let room : suc k ≤ 64 * length ns = subst (λ (w : ℕ). suc k ≤ w * length ns) width_is chain.enough in
      let fits : (suc k + 63) / 64 ≤ length ns = omega (arith, room) in
      let enough : suc k ≤ 64 * ((suc k + 63) / 64) = omega arith in
      let path : walked (minis a l).next first count ≡ take count ns =
      walked_leads (minis a l).next first ns END_OF_CHAIN count chain.linked fits in
      let stream_room : size_of (root_of a l) ≤ 512 * length l.mini_stream =
      subst (λ (w : ℕ). size_of (root_of a l) ≤ w * length l.mini_stream) sector_width
      (chain_room (sectors a l) (first_of (root_of a l)) (size_of (root_of a l)) l.mini_stream
      laid.mini_stream) in
      let front : ℕ = (size_of (root_of a l) + 511) / 512 in
      let each : All (λ n. (minis a l).piece n ≡ block 64 a (begins_at (stream_sectors a l) n)) ns =
      λ j d lt. let n : ℕ = get_or ns j d in
      let below : n < (size_of (root_of a l) + 63) / 64 = count_is n (chain.present j d lt).1 in
      let within : n / 8 < (size_of (root_of a l) + 511) / 512 = omega (arith, below) in
      piece_is n ∙ mini_block a l.mini_stream n (omega (arith, below, stream_room))
      ∙ ap (block 64 a) (sym (placed_front l.mini_stream front n within (omega (arith, stream_room)))) in
      joined_cut 64 (minis a l).piece wide_mini size count ns fits enough
      ∙ ap (take size) (joined_map (minis a l).piece (block 64 a) (begins_at (stream_sectors a l)) (take count ns)
      (All-take (λ n. (minis a l).piece n ≡ block 64 a (begins_at (stream_sectors a l) n)) count ns each))
      ∙ ap (λ xs. take size (joined (block 64 a) (map (begins_at (stream_sectors a l)) xs))) (sym path)

  -- the same, of the bytes of the mini stream alone
  pub short_read : (laid : IsLaidOut a l) (first size : ℕ) (ns : List ℕ) → IsChainOf (minis a l) first size ns
      → take size (joined (minis a l).piece ns)
      ≡ take size (joined (block 64 (joined (sector a) (stream_sectors a l)))
      (map (λ n. 64 * n) (walked (minis a l).next first ((size + 63) / 64))))
  short_read laid first zero ns chain = refl
  short_read laid first (suc k) ns chain =
      let size : ℕ = suc k in
      let count : ℕ = (suc k + 63) / 64 in
      let ms : List ℕ = stream_sectors a l in
      let bytes : List ℕ = joined (sector a) ms in
      let room : suc k ≤ 64 * length ns = subst (λ (w : ℕ). suc k ≤ w * length ns) width_is chain.enough in
      let fits : (suc k + 63) / 64 ≤ length ns = omega (arith, room) in
      let enough : suc k ≤ 64 * ((suc k + 63) / 64) = omega arith in
      let path : walked (minis a l).next first count ≡ take count ns =
      walked_leads (minis a l).next first ns END_OF_CHAIN count chain.linked fits in
      let stream_room : size_of (root_of a l) ≤ 512 * length l.mini_stream =
      subst (λ (w : ℕ). size_of (root_of a l) ≤ w * length l.mini_stream) sector_width
      (chain_room (sectors a l) (first_of (root_of a l)) (size_of (root_of a l)) l.mini_stream
      laid.mini_stream) in
      let front : ℕ = (size_of (root_of a l) + 511) / 512 in
      let long : length ms ≡ min ((size_of (root_of a l) + 511) / 512) (length l.mini_stream) =
      length-take front l.mini_stream in
      let each : All (λ n. (minis a l).piece n ≡ block 64 bytes (64 * n)) ns =
      λ j d lt. let n : ℕ = get_or ns j d in
      let below : n < (size_of (root_of a l) + 63) / 64 = count_is n (chain.present j d lt).1 in
      let within : n / 8 < (size_of (root_of a l) + 511) / 512 = omega (arith, below) in
      piece_is n ∙ mini_block a l.mini_stream n (omega (arith, below, stream_room))
      ∙ ap (block 64 a) (sym (placed_front l.mini_stream front n within (omega (arith, stream_room))))
      ∙ sym (mini_block a ms n (omega (arith, below, stream_room, long))) in
      joined_cut 64 (minis a l).piece wide_mini size count ns fits enough
      ∙ ap (take size) (joined_map (minis a l).piece (block 64 bytes) (λ n. 64 * n) (take count ns)
      (All-take (λ n. (minis a l).piece n ≡ block 64 bytes (64 * n)) count ns each))
      ∙ ap (λ xs. take size (joined (block 64 bytes) (map (λ n. 64 * n) xs))) (sym path)
