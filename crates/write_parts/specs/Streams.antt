-- What a child of a storage takes in the mini stream and in sectors.
use Rattle.std.specs.Prelude.{ℕ, List, [], ◌∷◌, length, if◌then◌else◌, nat_lt}
use Rattle.cfb_entries.specs.Seen.{Seen, bytes, inner}
use Rattle.cfb_file.specs.Limits.{CUTOFF}
use Rattle.cfb_file.specs.Need.{mini_sectors, long_sectors, short_pieces, long_pieces}
use Rattle.cfb_layout.specs.Directory.{short_streams, long_streams}

-- the mini sectors and sectors of a child
abbrev pub minis_with : Seen → ℕ
minis_with (bytes b) = short_pieces b
minis_with (inner t) = mini_sectors t

abbrev pub sectors_with : Seen → ℕ
sectors_with (bytes b) = long_pieces b
sectors_with (inner t) = long_sectors t

-- a child's streams that lie in the mini stream, and its other ones
abbrev pub short_within : Seen → List (List ℕ)
short_within (bytes b) = if nat_lt (length b) CUTOFF then b ∷ [] else []
short_within (inner t) = short_streams t

abbrev pub long_within : Seen → List (List ℕ)
long_within (bytes b) = if nat_lt (length b) CUTOFF then [] else b ∷ []
long_within (inner t) = long_streams t
