-- The map of a compound file: a character for each sector, and what they add up to.
use Rattle.std.specs.Prelude.{◌+◌, ◌-◌, ◌*◌, ◌/◌, ◌++◌, ℕ, Bool, true, false, List, [], ◌∷◌, cond, codes, drop, length}
use Rattle.std.specs.Prelude.{map, nat_eq, replicate, take}
use Rattle.std.specs.List.{flat_map, range_with_len}
use Rattle.std.specs.Fmt.{decimal}
use Rattle.cfb_chains.specs.Chain.{END_OF_CHAIN}
use Rattle.cfb_chains.specs.Fat.{sectors_in}
use Rattle.cfb_file.specs.Denotes.{Layout, sectors}
use Rattle.cfb_file.specs.Outline.{Outline, Parts, outline, no_parts, stream_part, storage_part}

-- ---- the characters
abbrev pub FAT : ℕ
FAT = 70

abbrev pub DIFAT : ℕ
DIFAT = 88

abbrev pub DIRECTORY : ℕ
DIRECTORY = 68

abbrev pub MINI_FAT : ℕ
MINI_FAT = 77

abbrev pub MINI_STREAM : ℕ
MINI_STREAM = 109

abbrev pub STREAM : ℕ
STREAM = 115

abbrev pub LAST : ℕ
LAST = 101

abbrev pub FREE : ℕ
FREE = 46

abbrev pub BEYOND : ℕ
BEYOND = 45

-- ---- the sectors
abbrev pub is_in : List ℕ → ℕ → Bool
is_in [] n = false
is_in (m ∷ ms) n = cond (nat_eq m n) true (is_in ms n)

-- a sector of a stream, or its last one
abbrev pub stream_mark : List ℕ → Layout → ℕ → ℕ
stream_mark file l n = cond (nat_eq ((sectors file l).next n) END_OF_CHAIN) LAST STREAM

-- What a sector is, given where the system's own parts lie and which sectors the streams take. No sector stands in two
-- of these lists where the file denotes a tree.
abbrev pub mark : List ℕ → Layout → List ℕ → ℕ → ℕ
mark file l streams n =
    cond (is_in streams n) (stream_mark file l n) (
    cond (is_in l.mini_stream n) MINI_STREAM (
    cond (is_in l.directory n) DIRECTORY (
    cond (is_in l.mini_fat n) MINI_FAT (
    cond (is_in l.difat n) DIFAT (
    cond (is_in l.fat n) FAT FREE)))))

-- all sectors that begin before the end of the file: those with an entry in the FAT, and those behind them
abbrev pub cells : List ℕ → Layout → List ℕ → List ℕ
cells file l streams = map (mark file l streams) (range_with_len 0 (sectors file l).count)
    ++ replicate (sectors_in file - (sectors file l).count) BEYOND

-- ---- the text
-- a number at the right of ten columns
abbrev pub right_text : ℕ → List ℕ
right_text n = replicate (10 - length (decimal n)) 32 ++ decimal n

-- 64 sectors, behind the number of the first
abbrev pub row : List ℕ → ℕ → List ℕ
row cs k = right_text (64 * k) ++ (codes "  " ++ (take 64 (drop (64 * k) cs) ++ 10 ∷ []))

abbrev pub rows : List ℕ → List ℕ
rows cs = flat_map (row cs) (range_with_len 0 ((length cs + 63) / 64))

-- how many sectors have a character
abbrev pub count_of : ℕ → List ℕ → ℕ
count_of c [] = 0
count_of c (x ∷ xs) = cond (nat_eq x c) 1 0 + count_of c xs

abbrev pub counted : List ℕ → List ℕ → ℕ → List ℕ
counted words cs c = words ++ (right_text (count_of c cs) ++ 10 ∷ [])

-- the system's own parts
abbrev pub system_legend : List ℕ → List ℕ
system_legend cs = counted (codes "F  FAT                 ") cs FAT ++ (counted (codes "X  DIFAT               ") cs DIFAT
    ++ (counted (codes "D  directory           ") cs DIRECTORY ++ counted (codes "M  mini FAT            ") cs MINI_FAT))

-- streams
abbrev pub stream_legend : List ℕ → List ℕ
stream_legend cs = counted (codes "m  mini stream         ") cs MINI_STREAM
    ++ (counted (codes "s  streams             ") cs STREAM
    ++ counted (codes "e  ends of streams     ") cs LAST)

-- what isn't used
abbrev pub unused_legend : List ℕ → List ℕ
unused_legend cs = counted (codes ".  free                ") cs FREE ++ counted (codes "-  past the FAT        ") cs BEYOND

-- how many bytes the streams have together
abbrev mutual
  pub sizes : Outline → ℕ
  sizes (outline class state ps) = sizes_of ps

  pub sizes_of : Parts → ℕ
  sizes_of no_parts = 0
  sizes_of (stream_part name size ps) = size + sizes_of ps
  sizes_of (storage_part name o ps) = sizes o + sizes_of ps

-- the bytes in the sectors of streams and of the mini stream that are no stream's
abbrev pub behind : List ℕ → ℕ → ℕ
behind cs bytes = 512 * (count_of STREAM cs + count_of LAST cs + count_of MINI_STREAM cs) - bytes

-- a number behind words
abbrev pub said : List ℕ → ℕ → List ℕ
said words n = words ++ decimal n

abbrev pub totals : List ℕ → ℕ → List ℕ
totals cs bytes = said (codes "bytes free ") (512 * count_of FREE cs)
    ++ (said (codes ", behind the ends of streams ") (behind cs bytes)
    ++ (said (codes ", past the FAT ") (512 * count_of BEYOND cs) ++ 10 ∷ []))

-- the rows and an empty line, the legend with counts and an empty line, and what can be taken away
abbrev pub table : List ℕ → List ℕ
table cs = rows cs ++ 10 ∷ []

abbrev pub legend : List ℕ → List ℕ
legend cs = system_legend cs ++ (stream_legend cs ++ (unused_legend cs ++ 10 ∷ []))

abbrev pub map_text : List ℕ → ℕ → List ℕ
map_text cs bytes = table cs ++ (legend cs ++ totals cs bytes)

-- The map of a file whose parts lie so, whose streams take these sectors, and which has this outline.
abbrev pub mapped : List ℕ → Layout → List ℕ → Outline → List ℕ
mapped file l streams o = map_text (cells file l streams) (sizes o)
