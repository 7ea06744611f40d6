-- What a commit writes into the journal: the blocks that differ.
use Rattle.std.specs.Prelude.{◌+◌, ◌-◌, ◌*◌, ◌/◌, ℕ, zero, suc, List, [], ◌∷◌, ◌++◌, length, take, drop, replicate}
use Rattle.std.specs.Prelude.{if◌then◌else◌}
use Rattle.std.specs.Int.{w32, w64, to_le_bytes}
use Rattle.std.specs.Str.{bytes_eq}
use Rattle.store_model.specs.Journal.{Block}
use Rattle.store_model.specs.declared.journal.TheConstants.{BLOCK, BLOCKS}

-- the bytes of a document in its block of this number
abbrev pub bytes_in : ℕ → List ℕ → List ℕ
bytes_in n document = take BLOCK (drop (BLOCK * n) document)

-- a block with these bytes, filled up with zeros
abbrev pub filled : ℕ → List ℕ → Block
filled n bytes = record { number = n; bytes = bytes ++ replicate (BLOCK - length bytes) 0 }

-- the block of this number, unless it had the same bytes, and as many
abbrev pub change_between : ℕ → List ℕ → List ℕ → List Block
change_between n was now = if bytes_eq was now then [] else filled n now ∷ []

-- the block of this number of a document
abbrev pub block_of : ℕ → List ℕ → Block
block_of n document = filled n (bytes_in n document)

-- that of a new document, unless the old one has the same bytes there, and as many
abbrev pub change_at : ℕ → List ℕ → List ℕ → List Block
change_at n old new = change_between n (bytes_in n old) (bytes_in n new)

-- those of so many blocks of a new document, from this number on, that differ from the old one's
abbrev pub changes_from : ℕ → ℕ → List ℕ → List ℕ → List Block
changes_from n zero old new = []
changes_from n (suc k) old new = change_at n old new ++ changes_from (n + 1) k old new

-- how many blocks a document has, a last part block counted
abbrev pub block_count : List ℕ → ℕ
block_count document = (length document + (BLOCK - 1)) / BLOCK

-- the blocks of a new document that differ from the old one's
abbrev pub changes : List ℕ → List ℕ → List Block
changes old new = changes_from 0 (block_count new) old new

-- blocks as they stand in the journal
abbrev pub spelled : List Block → List ℕ
spelled [] = []
spelled (b ∷ bs) = to_le_bytes w32 b.number ++ b.bytes ++ spelled bs

-- the first bytes of a journal in form 1: the gate, the document's length, the form, the number of blocks
abbrev pub head_of : ℕ → ℕ → ℕ → List ℕ
head_of gate size count = gate ∷ (take 7 (to_le_bytes w64 size) ++ BLOCKS ∷ to_le_bytes w32 count)

-- a journal in form 1
abbrev pub journal_of : ℕ → ℕ → List Block → List ℕ
journal_of gate size bs = head_of gate size (length bs) ++ spelled bs

-- the journal that turns one document into another, with this gate
abbrev pub journal_from : ℕ → List ℕ → List ℕ → List ℕ
journal_from gate old new = journal_of gate (length new) (changes old new)
