-- What is found of a file's parts is where they lie.
use Rattle.std.proofs.Common.{◌≡◌, ◌*◌, ◌∙◌, ℕ, List, Ok, length}
use Rattle.cfb_chains.specs.Fat.{followed}
use Rattle.cfb_entries.specs.Entries.{first_of, size_of}
use Rattle.cfb_entries.specs.Tree.{Tree}
use Rattle.cfb_file.specs.Alike.{Alike}
use Rattle.cfb_file.specs.Denotes.{Denotes, root_of}
use Rattle.cfb_header.specs.Header.{HeaderValue, header_read}
use Rattle.read_streams.specs.Chains.{IsFatOf}
use Rattle.read_streams.proofs.Placing.{directory_of_header, mini_fat_of}
use Rattle.tell_maps.specs.Streams.{chained}
use Rattle.tell_maps.proofs.Told.{chain_of_read, chain_read}

module _ (a : List ℕ) (t : Tree) (d : Denotes a t) (table : List ℕ) (o : IsFatOf a d.layout table) where
  pub mini_stream_found : (first size : ℕ) → first ≡ first_of (root_of a d.layout) → size ≡ size_of (root_of a d.layout)
      → chained table first size ≡ d.layout.mini_stream
  mini_stream_found first size f s =
      (λ i. chained table (f i) (s i))
      ∙ chain_of_read a d.layout table o (first_of (root_of a d.layout)) (size_of (root_of a d.layout))
      d.layout.mini_stream d.laid_out.mini_stream

  module _ (p : List ℕ) (h : Alike a p) (v : HeaderValue) (read : header_read p ≡ Ok v) where
    pub mini_fat_found : (first count : ℕ) → first ≡ v.first_mini_fat → count ≡ v.mini_fat_count
        → chained table first (512 * count) ≡ d.layout.mini_fat
    mini_fat_found first count f n =
        (λ i. chained table (f i) (512 * n i))
        ∙ chain_of_read a d.layout table o v.first_mini_fat (512 * v.mini_fat_count) d.layout.mini_fat
        (mini_fat_of a p h t d v read)

    pub directory_found : (first count : ℕ) → first ≡ v.first_directory → count ≡ length table
        → followed table count first ≡ d.layout.directory
    directory_found first count f n =
        (λ i. followed table (n i) (f i))
        ∙ chain_read a d.layout table o v.first_directory 0 d.layout.directory (directory_of_header a p h t d v read)
