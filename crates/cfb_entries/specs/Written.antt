-- How entries of the directory are written (MS-CFB 2.6.1, 2.6.3).
use Rattle.std.specs.Prelude.{ℕ, ◌+◌, ◌*◌, ◌-◌, List, [], ◌∷◌, ◌++◌, length, replicate}
use Rattle.std.specs.Int.{w16, w32, to_le_bytes}
use Rattle.std.specs.List.{flat_map}
use Rattle.cfb_entries.specs.Entries.{kind_number}
use Rattle.cfb_entries.specs.declared.entries.EntryFields.{EntryFields}

-- a name in UTF-16, with zeros up to 64 bytes
unfoldable pub name_bytes : List ℕ → List ℕ
name_bytes name = flat_map (λ c. c ∷ 0 ∷ []) name ++ replicate (64 - 2 * length name) 0

-- an entry: its colour is black, its times are zero
unfoldable pub entry_bytes : List ℕ → EntryFields → List ℕ
entry_bytes name e = name_bytes name
    ++ to_le_bytes w16 (2 * length name + 2)
    ++ (kind_number e.kind ∷ 1 ∷ [])
    ++ to_le_bytes w32 e.left
    ++ to_le_bytes w32 e.right
    ++ to_le_bytes w32 e.child
    ++ e.class
    ++ to_le_bytes w32 e.state
    ++ replicate 16 0
    ++ to_le_bytes w32 e.first
    ++ to_le_bytes w32 e.size
    ++ replicate 4 0

-- an entry that isn't used: zeros, but for three links to nobody
unfoldable pub free_entry_bytes : List ℕ
free_entry_bytes = replicate 68 0 ++ replicate 12 255 ++ replicate 48 0
