-- The file of a root without children, byte by byte (MS-CFB 2.2, 2.3, 2.6).
use Rattle.std.specs.Prelude.{ℕ, List, [], ◌∷◌, ◌++◌, replicate}
use Rattle.cfb_entries.specs.Tree.{Tree, tree, none}

abbrev pub empty_header : List ℕ
empty_header = (0xD0 ∷ 0xCF ∷ 0x11 ∷ 0xE0 ∷ 0xA1 ∷ 0xB1 ∷ 0x1A ∷ 0xE1 ∷ []) ++ replicate 16 0
    ++ (0x3E ∷ 0 ∷ 3 ∷ 0 ∷ 0xFE ∷ 0xFF ∷ 9 ∷ 0 ∷ 6 ∷ 0 ∷ []) ++ replicate 10 0
    ++ (1 ∷ 0 ∷ 0 ∷ 0 ∷ 1 ∷ 0 ∷ 0 ∷ 0 ∷ 0 ∷ 0 ∷ 0 ∷ 0 ∷ 0 ∷ 16 ∷ 0 ∷ 0 ∷ [])
    ++ (0xFE ∷ 0xFF ∷ 0xFF ∷ 0xFF ∷ 0 ∷ 0 ∷ 0 ∷ 0 ∷ 0xFE ∷ 0xFF ∷ 0xFF ∷ 0xFF ∷ [])
    ++ replicate 8 0 ++ replicate 432 255

-- sector 0 is the FAT's, sector 1 the directory's
abbrev pub empty_fat : List ℕ
empty_fat = (0xFD ∷ 0xFF ∷ 0xFF ∷ 0xFF ∷ 0xFE ∷ 0xFF ∷ 0xFF ∷ 0xFF ∷ []) ++ replicate 504 255

-- the root, black, without a child and without a mini stream
abbrev pub empty_root : List ℕ
empty_root = (82 ∷ 0 ∷ 111 ∷ 0 ∷ 111 ∷ 0 ∷ 116 ∷ 0 ∷ 32 ∷ 0 ∷ 69 ∷ 0 ∷ 110 ∷ 0 ∷ 116 ∷ 0 ∷ 114 ∷ 0 ∷ 121 ∷ 0 ∷ [])
    ++ replicate 44 0
    ++ (22 ∷ 0 ∷ 5 ∷ 1 ∷ []) ++ replicate 12 255 ++ replicate 36 0 ++ (0xFE ∷ 0xFF ∷ 0xFF ∷ 0xFF ∷ []) ++ replicate 8 0

abbrev pub free_entry : List ℕ
free_entry = replicate 68 0 ++ replicate 12 255 ++ replicate 48 0

unfoldable pub empty_document : List ℕ
empty_document = empty_header ++ empty_fat ++ empty_root ++ free_entry ++ free_entry ++ free_entry

abbrev pub empty_tree : Tree
empty_tree = tree (replicate 16 0) 0 none
