-- What a window has of a mini stream.
use Rattle.std.proofs.Common.{◌≡◌, ◌<◌, ◌≤◌, ◌+◌, ◌-◌, ◌*◌, ◌∙◌, ℕ, List, Option, Some, None, IfSome, ◌++◌, length}
use Rattle.std.proofs.Common.{length-drop, take, drop, min, replicate, sym, ap, arith}
use Rattle.std.proofs.lemmas.List.{drop-drop, length-take}
use Rattle.cfb_header.specs.Bytes.{joined, sector}
use Rattle.cfb_chains.proofs.Blocks.{length_block, length_joined}
use Rattle.read_streams.proofs.Joined.{both_cut, drop_cut, joined_dropped}
use Rattle.read_streams.specs.declared.tables.Tables.{Tables}
use Rattle.write_cleaned.specs.Windows.{IsPartAdded, IsWindow, mini_bytes}
use Rattle.write_cleaned.specs.declared.window.Window.{Window}

-- a part of a window's bytes is one of the mini stream
held_part : (bytes all : List ℕ) (begins start len : ℕ) → bytes ≡ take (length bytes) (drop begins all)
    → begins ≤ start → start + len ≤ begins + length bytes
    → take len (drop (start - begins) bytes) ≡ take len (drop start all)
held_part bytes all begins start len is before behind =
    let k : ℕ = start - begins in
    let n : ℕ = length bytes in
    let cut : min len (n - k) ≡ len = omega (arith, before, behind) in
    let at : begins + k ≡ start = omega (arith, before) in
    ap (λ xs. take len (drop k xs)) is
    ∙ ap (take len) (drop_cut k n (drop begins all))
    ∙ both_cut len (n - k) (drop k (drop begins all))
    ∙ (λ i. take (cut i) (drop-drop k begins all i))
    ∙ ap (λ m. take len (drop m all)) at

-- which is there
held_inside : (bytes all : List ℕ) (begins start len : ℕ) → bytes ≡ take (length bytes) (drop begins all)
    → begins ≤ start → start + len ≤ begins + length bytes → 0 < len
    → start + len ≤ length all
held_inside bytes all begins start len is before behind some =
    let long : length bytes ≡ min (length bytes) (length (drop begins all)) = ap length is
    ∙ length-take (length bytes) (drop begins all) in
    omega (arith, long, length-drop begins all, before, behind, some)

pub part_added : (a : List ℕ) (tables : Tables) (window : Window) (start len zs : ℕ) (old new : List ℕ)
    → IsWindow a tables window
    → 512 * window.first ≤ start → start + len ≤ 512 * window.first + length window.bytes.items
    → new ≡ old ++ (take len (drop (start - 512 * window.first) window.bytes.items) ++ replicate zs 0)
    → IsPartAdded a tables window start len zs old new
part_added a tables window start len zs old new is before behind put = record {
  inside = held_inside window.bytes.items (mini_bytes a tables) (512 * window.first) start len is before behind;
  added = put ∙ ap (λ xs. old ++ (xs ++ replicate zs 0))
      (held_part window.bytes.items (mini_bytes a tables) (512 * window.first) start len is before behind);
  is_window = is;
}

-- a window that was filled from a sector on
pub filled_window : (a ns sectors bytes : List ℕ) (first many : ℕ) → first ≤ length ns → sectors ≡ drop first ns
    → many ≤ 512 * length sectors
    → bytes ≡ take many (joined (sector a) sectors)
    → bytes ≡ take (length bytes) (drop (512 * first) (joined (sector a) ns))
filled_window a ns sectors bytes first many le are enough is =
    let wide : (n : ℕ) → length (sector a n) ≡ 512 = λ n. length_block 512 a (512 + 512 * n) in
    let long : length bytes ≡ many = ap length is ∙ length-take many (joined (sector a) sectors)
    ∙ omega (arith, length_joined (sector a) 512 sectors wide, enough) in
    is ∙ (λ i. take (sym long i) (joined (sector a) (are i))) ∙ ap (take (length bytes))
    (sym (joined_dropped 512 (sector a) wide first ns le))

-- what holds of all bytes
pub always : (known : Option (List ℕ)) (P : List ℕ → Type 0) → ((a : List ℕ) → P a) → IfSome known P
always None P f = tt
always (Some a) P f = f a
