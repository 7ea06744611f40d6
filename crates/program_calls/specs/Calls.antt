-- What the calls put, and what their faults mean. Bytes in memory are always read, and what is put is never refused by
-- a writer, so no fault is one of reading or of writing.
use Rattle.std.specs.Prelude.{◌≡◌, ◌<◌, ◌⊎◌, ℕ, List, Some, None, Ok, Err, IsSome, length}
use Rattle.cfb_names.specs.declared.fault.DirFault.{DirFault}
use Rattle.tree_storage.specs.Kept.{Kept}
use Rattle.cfb_entries.specs.Tree.{Tree}
use Rattle.tree_storage.specs.declared.fault.TreeFault.{TreeFault}
use Rattle.cfb_file.specs.Denotes.{Denotes}
use Rattle.cfb_file.specs.Refusals.{Refuses, writable}
use Rattle.cfb_file.specs.declared.fault.WriteFault.{WriteFault}
use Rattle.read_outlines.specs.declared.outline.Outline.{Outline}
use Rattle.read_outlines.specs.Streams.{stream_at}
use Rattle.write_files.specs.Laid.{IsLaidOut}
use Rattle.read_outlines.specs.Places.{IsPlaced}
use Rattle.read_files.specs.Reads.{MayRefuseRead}
use Rattle.read_files.specs.declared.fault.ReadFault.{ReadFault}
use Rattle.text_io.specs.Input.{most}
use Rattle.text_spelling.specs.Paths.{path_read}
use Rattle.tree_descriptions.specs.Description.{RefusesDescription, described}
use Rattle.tree_descriptions.specs.declared.fault.LineFault.{LineFault}
use Rattle.tree_descriptions.specs.declared.fault.TextFault.{TextFault}
use Rattle.tree_descriptions.specs.declared.fault.TextFault.TheVariants.{Input, Line}
use Rattle.tell_forms.specs.Lines.{listing}
use Rattle.write_described.specs.Run.{IsMade}
use Rattle.program_calls.specs.Numbers.{directory_number, line_number, read_number, tree_number, write_number}

-- ---- reading
-- There are more bytes than are taken.
abbrev pub IsTooBig : List ℕ → ℕ → Type 0
IsTooBig file number = (number ≡ 3) × (most < length file)

-- No tree of a file was found: it has more bytes than are taken, or a fault. One that denotes a tree has none but want
-- of memory.
abbrev pub IsUnread : List ℕ → ℕ → Type 0
IsUnread file number = IsTooBig file number
    ⊎ ((fault : ReadFault) × (number ≡ read_number fault) × MayRefuseRead file fault)

-- the listing, in the form that `told` is, of an outline of the tree that the file denotes, which tells of each stream
-- where its entry says that it lies
abbrev pub IsListedAs : (Outline → List ℕ) → List ℕ → List ℕ → Type 0
IsListedAs told file bytes = (t : Tree) × (o : Outline) × ∥ IsPlaced file t o ∥₁ × (bytes ≡ told o)

-- the lines of the tree that the file denotes
abbrev pub IsListed : List ℕ → List ℕ → Type 0
IsListed file bytes = (t : Tree) × ∥ Denotes file t ∥₁ × (bytes ≡ listing t)

-- the file isn't read, or it is, and no memory was left for the text
abbrev pub IsRefusedList : List ℕ → ℕ → Type 0
IsRefusedList file number = IsUnread file number ⊎ ((number ≡ 2) × (t : Tree) × ∥ Denotes file t ∥₁)

-- a file of a tree, laid out of that tree alone
abbrev pub IsFileOf : Tree → List ℕ → Type 0
IsFileOf t bytes = ∥ Denotes bytes t ∥₁ × IsLaidOut t bytes

-- it isn't written: no file holds the tree, or no memory was left for one that does
abbrev pub IsUnwritten : Tree → ℕ → Type 0
IsUnwritten t number = (fault : WriteFault) × (number ≡ write_number fault) × Refuses (writable t) fault

-- a file of the same tree
abbrev pub IsCleanOf : List ℕ → List ℕ → Type 0
IsCleanOf file bytes = (t : Tree) × ∥ Denotes file t ∥₁ × IsFileOf t bytes

-- the file isn't read, or that of its tree isn't written
abbrev pub IsRefusedClean : List ℕ → ℕ → Type 0
IsRefusedClean file number = IsUnread file number ⊎ ((t : Tree) × ∥ Denotes file t ∥₁ × IsUnwritten t number)

-- the bytes of the stream at a path
abbrev pub IsGot : List ℕ → List (List ℕ) → List ℕ → Type 0
IsGot file path bytes = (t : Tree) × ∥ Denotes file t ∥₁ × (stream_at path t ≡ Ok bytes)

-- the file isn't read, or its tree has no stream at the path
abbrev pub IsRefusedGet : List ℕ → List (List ℕ) → ℕ → Type 0
IsRefusedGet file path number =
    IsUnread file number
    ⊎ ((t : Tree) × (fault : TreeFault) × ∥ Denotes file t ∥₁ × (number ≡ tree_number fault)
    × (stream_at path t ≡ Err fault))

-- the same of the path that a word spells
abbrev pub IsGotBy : List ℕ → List ℕ → List ℕ → Type 0
IsGotBy file word bytes = (names : List (List ℕ)) × (path_read word ≡ Some (Ok names)) × IsGot file names bytes

-- The word spells no path; or a name in it is one that no directory takes; or no memory was left to read it; or the
-- stream is refused.
abbrev pub IsRefusedBy : List ℕ → List ℕ → ℕ → Type 0
IsRefusedBy file word number =
    ((number ≡ 41) × (path_read word ≡ None))
    ⊎ ((fault : DirFault) × (number ≡ directory_number fault) × (path_read word ≡ Some (Err fault)))
    ⊎ ((number ≡ 2) × IsSome (path_read word))
    ⊎ ((names : List (List ℕ)) × (path_read word ≡ Some (Ok names)) × IsRefusedGet file names number)

-- ---- making
-- a file of the tree that the text describes
abbrev pub IsMadeOf : List ℕ → List ℕ → Type 0
IsMadeOf text bytes = IsMade text bytes

-- the line of a fault of a text; 0 where it is of none
abbrev pub text_line : TextFault → ℕ
text_line (Input fault) = 0
text_line (Line n fault) = n

-- The text is too big, or no memory was left for it, and no line is told; or this line of it is refused.
abbrev pub IsRefusedText : List ℕ → ℕ → ℕ → Type 0
IsRefusedText text line number =
    ((line ≡ 0) × IsTooBig text number)
    ⊎ ((line ≡ 0) × (number ≡ 2))
    ⊎ ((fault : LineFault) × (number ≡ line_number fault) × RefusesDescription text (line, fault))

-- likewise; or the file of its tree isn't written, and no line is told
abbrev pub IsRefusedMake : List ℕ → ℕ → ℕ → Type 0
IsRefusedMake text line number =
    IsRefusedText text line number
    ⊎ ((line ≡ 0) × (k : Kept) × (described text ≡ Ok k) × IsUnwritten k.now number)
