-- What is written of a stream of a file, and when none is.
use Rattle.std.specs.Prelude.{◌≡◌, ◌≤◌, ℕ, List, Option, Ok, Err, IsOk, length}
use Rattle.std.specs.Io.KnownBytes.{Appends}
use Rattle.cfb_entries.specs.Tree.{Tree}
use Rattle.cfb_file.specs.Denotes.{Denotes}
use Rattle.read_outlines.specs.Streams.{stream_at}
use Rattle.text_io.specs.Input.{MayRefuseInput, most}
use Rattle.read_files.specs.Reads.{MayRefuseRead}
use Rattle.tell_files.specs.declared.fault.GetFault.{GetFault}
use Rattle.tell_files.specs.declared.fault.GetFault.TheVariants.{Input, Read, Tree as Missing, Unwritable}

-- the bytes of the stream at a path of the tree that the file denotes were written; the file has no more bytes than
-- are taken
pub record Gets (file : List ℕ) (path : List (List ℕ)) (old new : Option (List ℕ)) : Type 0 where
  pub t : Tree
  pub denotes : ∥ Denotes file t ∥₁
  pub few : length file ≤ most
  pub content : List ℕ
  pub stands : stream_at path t ≡ Ok content
  pub written : Appends old new content

-- when the stream at a path of a file may be refused
abbrev pub MayRefuseGet : List ℕ → List (List ℕ) → GetFault → Type 0
MayRefuseGet file path (Input fault) = MayRefuseInput file fault
MayRefuseGet file path (Read fault) = MayRefuseRead file fault
MayRefuseGet file path (Missing fault) = (t : Tree) × ∥ Denotes file t ∥₁ × (stream_at path t ≡ Err fault)
MayRefuseGet file path Unwritable = (t : Tree) × ∥ Denotes file t ∥₁ × IsOk (stream_at path t)
