-- Entries that are read hold the children that they are read as, and the other way round.
use Rattle.std.proofs.Common.{◌≡◌, ℕ, Bool, List, ◌++◌, take, sym, ◌∙◌, ap, subst, nat_lt, if◌then◌else◌}
use Rattle.cfb_header.specs.Bytes.{joined}
use Rattle.cfb_chains.specs.Chain.{AreDistinct, IsChainOf}
use Rattle.cfb_chains.specs.Fat.{AreFree, AreSame, IsFound, store_of}
use Rattle.cfb_chains.proofs.Marks.{Marks}
use Rattle.cfb_entries.specs.Entries.{entry_at, first_of, kind, size_of}
use Rattle.cfb_file.specs.Denotes.{HoldsBytes, Layout, directory_of, minis, sectors, taken}
use Rattle.read_files.specs.Reads.{IsStreamRead, directory_in, met, stream_after}
use Rattle.read_outlines.specs.View.{table_for}
use Rattle.read_files.specs.declared.read.Reader.{Reader}
use Rattle.cfb_faults.proofs.Tables.{chain_found, found_bytes, found_chain, free_by, marks_after, mini_marks_after}
use Rattle.cfb_faults.proofs.Tables.{same_after, same_minis_after}

-- ---- one entry's stream
module _ (file : List ℕ) (l : Layout) where
  -- the tables stand over the file, and mark just these sectors and mini sectors
  pub record Stands (r : Reader) (xs ys : List ℕ) : Type 0 where
    pub directory : directory_in r ≡ directory_of file l
    pub same : AreSame (store_of r.fat) (sectors file l)
    pub same_minis : AreSame (store_of r.mini) (minis file l)
    pub marks : Marks r.fat xs
    pub mini_marks : Marks r.mini ys

  pub stands_met : (r : Reader) (ids xs ys : List ℕ) → Stands r xs ys → Stands (met ids r) xs ys
  stands_met r ids xs ys h = record {
    directory = h.directory;
    same = h.same;
    same_minis = h.same_minis;
    marks = h.marks;
    mini_marks = h.mini_marks;
  }

  -- once its sectors are marked
  after_stands : (r : Reader) (xs ys : List ℕ) (id size : ℕ) (ns : List ℕ) → Stands r xs ys
      → AreFree (table_for size r.fat r.mini) ns
      → Stands (stream_after size ns r) (xs ++ (taken id size ns).sectors) (ys ++ (taken id size ns).minis)
  after_stands r xs ys id size ns h free =
      let test : Bool = nat_lt size 4096 in
      record {
        directory = h.directory;
        same = same_after (sectors file l) (minis file l) r.fat r.mini h.same h.same_minis test ns;
        same_minis = same_minis_after (sectors file l) (minis file l) r.fat r.mini h.same h.same_minis test ns;
        marks = marks_after (sectors file l) (minis file l) r.fat r.mini h.same h.same_minis xs ys h.marks
            h.mini_marks id test ns free;
        mini_marks = mini_marks_after (sectors file l) (minis file l) r.fat r.mini h.same h.same_minis xs ys h.marks
            h.mini_marks id test ns free;
      }

  -- what is read is held
  pub record IsStreamHeld (id : ℕ) (b : List ℕ) (new : Reader) (xs ys : List ℕ) : Type 0 where
    pub kind_is : kind (entry_at (directory_of file l) id) ≡ 2
    pub ns : List ℕ
    pub holds : HoldsBytes file l id ns b
    pub stands : Stands new (xs ++ (taken id (size_of (entry_at (directory_of file l) id)) ns).sectors)
        (ys ++ (taken id (size_of (entry_at (directory_of file l) id)) ns).minis)

  pub stream_held : (r new : Reader) (xs ys : List ℕ) (id : ℕ) (b : List ℕ) → Stands r xs ys
      → IsStreamRead id b r new → IsStreamHeld id b new xs ys
  stream_held r new xs ys id b h s =
      let size : ℕ = size_of (entry_at (directory_in r) id) in
      let first : ℕ = first_of (entry_at (directory_in r) id) in
      let test : Bool = nat_lt size 4096 in
      let chain : IsChainOf (if test then minis file l else sectors file l) first size s.ns =
      found_chain (sectors file l) (minis file l) r.fat r.mini h.same h.same_minis test first size s.ns s.found in
      let content : b ≡ take size (joined (if test then minis file l else sectors file l).piece s.ns) =
      s.content ∙ ap (take size) (found_bytes (sectors file l) (minis file l) r.fat r.mini h.same h.same_minis test
      first size s.ns s.found) in
      let P : List ℕ → Type 0 = λ dir. IsChainOf (if nat_lt (size_of (entry_at dir id)) 4096 then minis file l
      else sectors file l) (first_of (entry_at dir id)) (size_of (entry_at dir id)) s.ns in
      let Q : List ℕ → Type 0 = λ dir. b ≡ take (size_of (entry_at dir id))
      (joined (if nat_lt (size_of (entry_at dir id)) 4096 then minis file l else sectors file l).piece s.ns) in
      let S : List ℕ → Type 0 = λ dir. Stands new (xs ++ (taken id (size_of (entry_at dir id)) s.ns).sectors)
      (ys ++ (taken id (size_of (entry_at dir id)) s.ns).minis) in
      let stands : S (directory_in r) =
      subst (λ (x : Reader). Stands x (xs ++ (taken id size s.ns).sectors) (ys ++ (taken id size s.ns).minis))
      (sym s.after) (after_stands r xs ys id size s.ns h s.found.free) in
      record {
        kind_is = ap (λ (dir : List ℕ). kind (entry_at dir id)) (sym h.directory) ∙ s.kind_is;
        ns = s.ns;
        holds = record { chain = subst P h.directory chain; content = subst Q h.directory content };
        stands = subst S h.directory stands;
      }

  -- what is held can be read
  pub stream_there : (r : Reader) (xs ys : List ℕ) (id : ℕ) (b ns : List ℕ) → Stands r xs ys
      → kind (entry_at (directory_of file l) id) ≡ 2 → HoldsBytes file l id ns b
      → AreDistinct (xs ++ (taken id (size_of (entry_at (directory_of file l) id)) ns).sectors)
      → AreDistinct (ys ++ (taken id (size_of (entry_at (directory_of file l) id)) ns).minis)
      → IsStreamRead id b r (stream_after (size_of (entry_at (directory_of file l) id)) ns r)
      × Stands (stream_after (size_of (entry_at (directory_of file l) id)) ns r)
      (xs ++ (taken id (size_of (entry_at (directory_of file l) id)) ns).sectors)
      (ys ++ (taken id (size_of (entry_at (directory_of file l) id)) ns).minis)
  stream_there r xs ys id b ns h k c d d' =
      let size : ℕ = size_of (entry_at (directory_of file l) id) in
      let first : ℕ = first_of (entry_at (directory_of file l) id) in
      let test : Bool = nat_lt size 4096 in
      let free : AreFree (table_for size r.fat r.mini) ns =
      free_by (sectors file l) (minis file l) r.fat r.mini h.same h.same_minis xs ys h.marks h.mini_marks id test
      first size ns c.chain d d' in
      let found : IsFound (table_for size r.fat r.mini) first size ns =
      chain_found (sectors file l) (minis file l) r.fat r.mini h.same h.same_minis test first size ns c.chain
      free in
      let content : b ≡ take size (joined (store_of (table_for size r.fat r.mini)).piece ns) =
      c.content ∙ ap (take size)
      (sym (found_bytes (sectors file l) (minis file l) r.fat r.mini h.same h.same_minis test first size ns
      found)) in
      let back : directory_of file l ≡ directory_in r = sym h.directory in
      let is_read : IsStreamRead id b r (stream_after size ns r) = record {
        kind_is = ap (λ (dir : List ℕ). kind (entry_at dir id)) h.directory ∙ k;
        ns = ns;
        found = subst (λ (dir : List ℕ). IsFound (table_for (size_of (entry_at dir id)) r.fat r.mini)
            (first_of (entry_at dir id)) (size_of (entry_at dir id)) ns) back found;
        content = subst (λ (dir : List ℕ). b ≡ take (size_of (entry_at dir id))
            (joined (store_of (table_for (size_of (entry_at dir id)) r.fat r.mini)).piece ns)) back content;
        after = ap (λ (dir : List ℕ). stream_after (size_of (entry_at dir id)) ns r) back;
      } in
      (is_read, after_stands r xs ys id size ns h free)
