-- The fields of an entry that are written where they stand.
use Rattle.std.proofs.Common.{◌≡◌, ◌≤◌, ◌+◌, ◌*◌, ℕ, List, ◌++◌, length, take, drop, replicate, sym}
use Rattle.std.specs.Prelude.{slice_set}
use Rattle.std.specs.Int.{w16, w32, to_le_bytes}
use Rattle.cfb_entries.specs.Entries.{kind_number}
use Rattle.cfb_entries.specs.Written.{entry_bytes, name_bytes}
use Rattle.cfb_entries.specs.declared.entries.EntryFields.{EntryFields}
use Rattle.cfb_entries.proofs.Fields.{head, spread, tail}

-- bytes with a part written over them
abbrev pub put : ℕ → List ℕ → List ℕ → List ℕ
put at part bytes = take at bytes ++ part ++ drop (at + length part) bytes

-- zeros with the length of a name and the fields but for the class
abbrev pub numbers_placed : ℕ → EntryFields → List ℕ
numbers_placed len e =
    put 120 (to_le_bytes w32 e.size)
    (put 116 (to_le_bytes w32 e.first)
    (put 96 (to_le_bytes w32 e.state)
    (put 76 (to_le_bytes w32 e.child)
    (put 72 (to_le_bytes w32 e.right)
    (put 68 (to_le_bytes w32 e.left)
    (slice_set (slice_set (put 64 (to_le_bytes w16 (2 * len + 2)) (replicate 128 0)) 66 (kind_number e.kind)) 67 1))))))

-- with the class and the name they make the entry up
pub placed : (name : List ℕ) (e : EntryFields) → length name ≤ 31 → length e.class ≡ 16
    → name_bytes name ++ drop 64 (take 80 (numbers_placed (length name) e) ++ e.class
    ++ drop 96 (numbers_placed (length name) e)) ≡ entry_bytes name e
unfolding head tail
placed name e short class = sym (spread name e short class)
