-- Sectors in a row hold the part of a file that stands there.
use Rattle.std.proofs.Common.{◌≡◌, ◌≤◌, ◌+◌, ◌-◌, ◌*◌, ℕ, zero, suc, List, [], ◌∷◌, ◌++◌, length, take, drop, replicate}
use Rattle.std.proofs.Common.{refl, sym, ◌∙◌, ap, arith, append_assoc, append-nil, length-append, length-drop}
use Rattle.std.proofs.Common.{drop-drop}
use Rattle.std.proofs.lemmas.List.{drop-append-le, take-append-le, take-append-drop, drop_at}
use Rattle.std.specs.List.{range_with_len}
use Rattle.cfb_header.specs.Bytes.{block, sector, joined}

-- a block of bytes of which the rest is known
block_at : (w : ℕ) (file : List ℕ) (at : ℕ) (ys : List ℕ) → drop at file ≡ ys → w ≤ length ys
    → block w file at ≡ take w ys
unfolding block
block_at w file at ys e h =
    let z : w - length ys ≡ 0 = omega arith in
    rw (e, z) (append-nil (take w ys))

pub joined_range : (file part after : List ℕ) (start count : ℕ) → length part ≡ 512 * count
    → drop (512 * (start + 1)) file ≡ part ++ after → joined (sector file) (range_with_len start count) ≡ part
joined_range file [] after start zero h e = refl
joined_range file (x ∷ part) after start zero h e = absurd (omega arith)
joined_range file part after start (suc n) h e =
    let within : 512 ≤ length part = omega arith in
    let place : 512 + 512 * start ≡ 512 * (start + 1) = omega arith in
    let first : sector file start ≡ take 512 part =
    ap (block 512 file) place ∙ block_at 512 file (512 * (start + 1)) (part ++ after) e
    (omega (arith, length-append part after)) ∙ take-append-le 512 part after within in
    let behind : drop (512 * (start + 1 + 1)) file ≡ drop 512 part ++ after =
    let q : 512 * (start + 1 + 1) ≡ 512 * (start + 1) + 512 = omega arith in
    ap (λ k. drop k file) q ∙ sym (drop-drop 512 (512 * (start + 1)) file) ∙ ap (drop 512) e
    ∙ drop-append-le 512 part after within in
    let rest : joined (sector file) (range_with_len (start + 1) n) ≡ drop 512 part =
    joined_range file (drop 512 part) after (start + 1) n (omega (arith, length-drop 512 part)) behind in
    (λ t. first t ++ rest t) ∙ take-append-drop 512 part

-- what stands behind a part
next_part : (file part after : List ℕ) (at next : ℕ) → drop at file ≡ part ++ after → at + length part ≡ next
    → drop next file ≡ after
next_part file part after at next e h =
    ap (λ k. drop k file) (sym h) ∙ sym (drop-drop (length part) at file) ∙ ap (drop (length part)) e
    ∙ drop_at part after (length part) refl

-- the blocks of a file from a place on are those of what stands there
block_from : (w : ℕ) (file part : List ℕ) (at n : ℕ) → drop at file ≡ part → block w file (at + n) ≡ block w part n
unfolding block
block_from w file part at n e =
    let d : drop (at + n) file ≡ drop n part = sym (drop-drop n at file) ∙ ap (drop n) e in
    ap (λ xs. take w xs ++ replicate (w - length xs) 0) d

-- A file of a header and six parts of whole sectors: how long it is, and what the sectors of each part hold.
pub record IsJoined (file fat difat directory mini_fat mini_stream longs : List ℕ) (f x d m s n : ℕ) : Type 0 where
  pub size : length file ≡ 512 * (1 + f + x + d + m + s + n)
  pub fat_bytes : joined (sector file) (range_with_len 0 f) ≡ fat
  pub difat_bytes : joined (sector file) (range_with_len f x) ≡ difat
  pub directory_bytes : joined (sector file) (range_with_len (f + x) d) ≡ directory
  pub mini_fat_bytes : joined (sector file) (range_with_len (f + x + d) m) ≡ mini_fat
  pub mini_stream_bytes : joined (sector file) (range_with_len (f + x + d + m) s) ≡ mini_stream
  pub long_block : (k : ℕ) → sector file (f + x + d + m + s + k) ≡ block 512 longs (512 * k)

pub joined_parts : (file header fat difat directory mini_fat mini_stream longs : List ℕ) (f x d m s n : ℕ)
    → file ≡ header ++ fat ++ difat ++ directory ++ mini_fat ++ mini_stream ++ longs → length header ≡ 512
    → length fat ≡ 512 * f → length difat ≡ 512 * x
    → length directory ≡ 512 * d → length mini_fat ≡ 512 * m → length mini_stream ≡ 512 * s → length longs ≡ 512 * n
    → IsJoined file fat difat directory mini_fat mini_stream longs f x d m s n
joined_parts file header fat difat directory mini_fat mini_stream longs f x d m s n e h1 h2 hx h3 h4 h5 h6 =
    let nested : header ++ fat ++ difat ++ directory ++ mini_fat ++ mini_stream ++ longs
    ≡ header ++ (fat ++ (difat ++ (directory ++ (mini_fat ++ (mini_stream ++ longs))))) =
    simp append_assoc in
    let long : length file ≡ 512 * (1 + f + x + d + m + s + n) =
    ap length (e ∙ nested) ∙ simp length-append (omega arith) in
    let at_header : drop 0 file ≡ header
    ++ (fat ++ (difat ++ (directory ++ (mini_fat ++ (mini_stream ++ longs))))) = e ∙ nested in
    let at_fat : drop (512 * (0 + 1)) file ≡ fat ++ (difat ++ (directory ++ (mini_fat ++ (mini_stream ++ longs)))) =
    next_part file header (fat ++ (difat ++ (directory ++ (mini_fat ++ (mini_stream ++ longs))))) 0 (512 * (0 + 1))
    at_header (omega arith) in
    let at_difat : drop (512 * (f + 1)) file ≡ difat ++ (directory ++ (mini_fat ++ (mini_stream ++ longs))) =
    next_part file fat (difat ++ (directory ++ (mini_fat ++ (mini_stream ++ longs)))) (512 * (0 + 1))
    (512 * (f + 1)) at_fat (omega arith) in
    let at_directory : drop (512 * (f + x + 1)) file ≡ directory ++ (mini_fat ++ (mini_stream ++ longs)) =
    next_part file difat (directory ++ (mini_fat ++ (mini_stream ++ longs))) (512 * (f + 1)) (512 * (f + x + 1))
    at_difat (omega arith) in
    let at_mini_fat : drop (512 * (f + x + d + 1)) file ≡ mini_fat ++ (mini_stream ++ longs) =
    next_part file directory (mini_fat ++ (mini_stream ++ longs)) (512 * (f + x + 1)) (512 * (f + x + d + 1))
    at_directory (omega arith) in
    let at_mini_stream : drop (512 * (f + x + d + m + 1)) file ≡ mini_stream ++ longs =
    next_part file mini_fat (mini_stream ++ longs) (512 * (f + x + d + 1)) (512 * (f + x + d + m + 1)) at_mini_fat
    (omega arith) in
    let at_longs : drop (512 * (f + x + d + m + s + 1)) file ≡ longs =
    next_part file mini_stream longs (512 * (f + x + d + m + 1)) (512 * (f + x + d + m + s + 1)) at_mini_stream
    (omega arith) in
    record {
      size = long;
      fat_bytes = joined_range file fat (difat ++ (directory ++ (mini_fat ++ (mini_stream ++ longs)))) 0 f h2 at_fat;
      difat_bytes = joined_range file difat (directory ++ (mini_fat ++ (mini_stream ++ longs))) f x hx at_difat;
      directory_bytes = joined_range file directory (mini_fat ++ (mini_stream ++ longs)) (f + x) d h3 at_directory;
      mini_fat_bytes = joined_range file mini_fat (mini_stream ++ longs) (f + x + d) m h4 at_mini_fat;
      mini_stream_bytes = joined_range file mini_stream longs (f + x + d + m) s h5 at_mini_stream;
      long_block = λ k. let place : 512 + 512 * (f + x + d + m + s + k) ≡ 512 * (f + x + d + m + s + 1) + 512 * k =
          omega arith in
          ap (block 512 file) place ∙ block_from 512 file longs (512 * (f + x + d + m + s + 1)) (512 * k) at_longs;
    }
