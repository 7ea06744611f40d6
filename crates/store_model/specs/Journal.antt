-- The journal: byte 0 is the gate, which is 1 where it is open; bytes 1 to 7 are the new length, little-endian; byte 8
-- is the form. In form 0 the document follows. In form 1 bytes 9 to 12 are a number of blocks, and then come these: of
-- each its number, in four bytes, and its 512 bytes.
use Rattle.std.specs.Prelude.{◌+◌, ◌*◌, ℕ, zero, suc, max, List, [], ◌∷◌, ◌++◌, length, take, drop, get_or, Bool, ◌&&◌}
use Rattle.std.specs.Prelude.{◌==◌, nat_le, nat_lt, if◌then◌else◌, Option, Some, None}
use Rattle.std.specs.Int.{w32, w64, from_le_bytes}
use Rattle.store_model.specs.Image.{Image, put}
use Rattle.store_model.specs.declared.journal.TheConstants.{BLOCK, BLOCKS, ENTRY, FIRST_BLOCK, HEADER, OPEN, WHOLE}
use Rattle.store_model.specs.declared.limit.TheConstants.{MAX_DOCUMENT}

-- the gate is open, and there is room for a length and a form
abbrev pub is_open : List ℕ → Bool
is_open journal = nat_le HEADER (length journal) && (get_or journal 0 0 == OPEN)

-- the number in four bytes, little-endian, that stand there
unfoldable pub number_at : ℕ → List ℕ → ℕ
number_at at journal = from_le_bytes w32 (take 4 (drop at journal))

-- the new length
unfoldable pub size_in : List ℕ → ℕ
size_in journal = from_le_bytes w64 (take 7 (drop 1 journal) ++ 0 ∷ [])

abbrev pub form_in : List ℕ → ℕ
form_in journal = get_or journal 8 0

-- the number of blocks
abbrev pub count_in : List ℕ → ℕ
count_in journal = number_at HEADER journal

-- a block of the document
pub record Block : Type 0 where
  pub number : ℕ
  pub bytes : List ℕ

-- the block that begins there in the journal
abbrev pub block_at : ℕ → List ℕ → Block
block_at at journal = record { number = number_at at journal; bytes = take BLOCK (drop (at + 4) journal) }

-- so many blocks from there on
abbrev pub blocks_from : ℕ → ℕ → List ℕ → List Block
blocks_from zero at journal = []
blocks_from (suc n) at journal = block_at at journal ∷ blocks_from n (at + ENTRY) journal

-- the blocks of a journal
abbrev pub blocks_in : List ℕ → List Block
blocks_in journal = blocks_from (count_in journal) FIRST_BLOCK journal

-- The numbers of these blocks rise, from this one on, each begins below the new size, and no byte below the new size is
-- past the end of a document and in none of them.
abbrev pub fit : ℕ → ℕ → ℕ → List Block → Bool
fit size least end [] = nat_le size end
fit size least end (b ∷ bs) = nat_le least b.number && nat_lt (BLOCK * b.number) size && nat_le (BLOCK * b.number) end
    && fit size (b.number + 1) (max end (BLOCK * (b.number + 1))) bs

-- a document with these blocks in their places
abbrev pub patched : List ℕ → List Block → List ℕ
patched document [] = document
patched document (b ∷ bs) = patched (put document (BLOCK * b.number) b.bytes) bs

-- an open journal in form 0 is as long as it says
abbrev pub holds_whole : List ℕ → Bool
holds_whole journal = nat_le (HEADER + size_in journal) (length journal)

-- so is one in form 1, and its blocks fit the document
abbrev pub holds_blocks : Image → Bool
holds_blocks image = nat_le FIRST_BLOCK (length image.journal) && nat_le
    (FIRST_BLOCK + ENTRY * count_in image.journal) (length image.journal)
    && fit (size_in image.journal) 0 (length image.document) (blocks_in image.journal)

-- an open journal says at most the limit, and isn't damaged
abbrev pub is_whole : Image → Bool
is_whole image = nat_le (size_in image.journal) MAX_DOCUMENT
    && (if form_in image.journal == WHOLE then holds_whole image.journal
    else ((form_in image.journal == BLOCKS) && holds_blocks image))

-- what an open journal makes of the document
abbrev pub changed_document : Image → List ℕ
changed_document image = take (size_in image.journal) (if form_in image.journal == WHOLE
    then drop HEADER image.journal else patched image.document (blocks_in image.journal))

-- The document that an image stands for, and that the next open gives: what the journal makes of it where its gate is
-- open, else the document area's. None where an open journal is damaged.
abbrev pub restored : Image → Option (List ℕ)
restored image = if is_open image.journal
    then (if is_whole image then Some (changed_document image) else None)
    else Some image.document
