-- A file in which all parts of a tree lie denotes the tree.
use Rattle.std.proofs.Common.{◌≡◌, ◌<◌, ◌+◌, ◌-◌, ◌*◌, ◌^◌, ℕ, zero, suc, List, [], ◌∷◌, ◌++◌, length, replicate, refl}
use Rattle.std.proofs.Common.{sym, ◌∙◌, ap, subst, arith, length-append, lit<, lit≤, append-nil}
use Rattle.std.specs.List.{concat, range_with_len, sum}
use Rattle.cfb_chains.specs.Chain.{AreDistinct}
use Rattle.cfb_chains.specs.Fat.{mini_sectors_of, sectors_of}
use Rattle.cfb_entries.specs.Entries.{entry_at, root_name}
use Rattle.cfb_entries.specs.Written.{entry_bytes, free_entry_bytes}
use Rattle.cfb_entries.specs.declared.entries.EntryFields.{EntryFields}
use Rattle.cfb_entries.proofs.Fields.{length-entry_bytes, length-free_entry_bytes}
use Rattle.cfb_entries.specs.Tree.{Tree}
use Rattle.cfb_file.specs.Need.{pieces, entries, mini_sectors, long_sectors, directory_sectors, mini_fat_sectors}
use Rattle.cfb_file.specs.Need.{mini_stream_sectors, data_sectors}
use Rattle.cfb_layout.specs.Image.{Parts, behind_fat, counts, image, runs, pieces_of, whole_pieces}
use Rattle.cfb_layout.specs.Placed.{Fits, IsPlaced, ArePlaced, layout_of}
use Rattle.cfb_file.specs.Denotes.{Layout, directory_of, minis, sectors, entry, Denotes}
use Rattle.cfb_layout.specs.Directory.{Siblings, AreBalanced, entries_below, root_says, long_start, short_streams}
use Rattle.cfb_layout.specs.Directory.{long_streams, parts_of, IsCovered, PlacedDenotes, ImageDenotes, balanced}
use Rattle.cfb_layout.proofs.Placed.{placed, long-placed, sum-runs}
use Rattle.cfb_layout.proofs.ContentsBalanced.{are-balanced}
use Rattle.cfb_layout.proofs.ContentsLists.{distinct_range}
use Rattle.cfb_layout.proofs.ContentsPieces.{IsStoreFrom, width-64, width-512, length-padded, length-whole}
use Rattle.cfb_layout.proofs.ContentsNext.{AreNext, shorts-sum, longs-sum}
use Rattle.cfb_layout.proofs.ContentsRead.{FieldsFit, Says, Begins, begins-here, begins-behind, begins-front}
use Rattle.cfb_layout.proofs.ContentsRead.{length-below, said-below, SaidBelow, AreWithin, child-fits, class-spelled}
use Rattle.cfb_layout.proofs.ContentsRead.{state-spelled, start-fits}
use Rattle.cfb_layout.proofs.ContentsTree.{TreeHeld, tree-held}

length-free : (n : ℕ) → length (concat (replicate n free_entry_bytes)) ≡ 128 * n
length-free zero = refl
length-free (suc n) = omega (
  arith,
  length-append free_entry_bytes (concat (replicate n free_entry_bytes)),
  length-free_entry_bytes,
  length-free n,
)

-- the runs behind the FAT take as many sectors as the tree needs
pub counts-sum : (links : ℕ → Siblings) (f : ℕ) (t : Tree) → sum (counts (parts_of links f t)) ≡ data_sectors t
counts-sum links f t =
    sum-runs (directory_sectors t) (mini_fat_sectors t) (mini_stream_sectors t) (pieces_of 512 (long_streams t))
    ∙ ap (λ n. directory_sectors t + mini_fat_sectors t + mini_stream_sectors t + n) (longs-sum t)

module _ (links : ℕ → Siblings) (search : AreBalanced links) (f : ℕ) (t : Tree) (is : IsCovered f t) where
  -- more than any entry, mini sector or sector
  abbrev last : ℕ
  last = 2000000

  abbrev p : Parts
  p = parts_of links f t

  abbrev says : EntryFields
  says = root_says links f t

  abbrev root : List ℕ
  root = entry_bytes root_name (root_says links f t)

  abbrev below : List ℕ
  below = entries_below links 0 0 (long_start f t) t

  abbrev free : List ℕ
  free = concat (replicate (4 * directory_sectors t - (1 + entries t)) free_entry_bytes)

  small : last < 2 ^ 32
  small = lit< tt

  within : AreWithin last (0 + 1 + entries t) (0 + mini_sectors t) (long_start f t + long_sectors t)
  within = record {
    of_ids = omega (arith, is.covered, is.few);
    of_minis = omega (arith, is.covered, is.few);
    of_sectors = omega (arith, is.covered, is.few);
  }

  fit : FieldsFit root_name says
  fit = record {
    short = lit≤ tt;
    class_id = class-spelled t is.spelled;
    to_left = lit< tt;
    to_right = lit< tt;
    below = child-fits links search last small 0 t within.of_ids;
    state_bits = state-spelled t is.spelled;
    starts = start-fits (behind_fat f + directory_sectors t + mini_fat_sectors t) (mini_stream_sectors t)
        (omega (arith, is.covered, is.few));
    sized = omega (arith, is.covered, is.few);
  }

  length-root : length root ≡ 128
  length-root = length-entry_bytes root_name says fit.short fit.class_id

  length-directory : length p.directory ≡ 512 * directory_sectors t
  length-directory =
      let a : length p.directory ≡ length root + length (below ++ free) = length-append root (below ++ free) in
      let b : length (below ++ free) ≡ length below + length free = length-append below free in
      let c : length below ≡ 128 * entries t = length-below links search last small 32 0 0 (long_start f t) t
      is.whole is.spelled in
      let e : length free ≡ 128 * (4 * directory_sectors t - (1 + entries t)) =
      length-free (4 * directory_sectors t - (1 + entries t)) in
      omega (arith, length-root)

  mini-counted : sum p.minis ≡ mini_sectors t
  mini-counted = shorts-sum t

  length-mini_stream : length p.mini_stream ≡ 512 * mini_stream_sectors t
  length-mini_stream = omega (
    arith,
    length-padded 512 width-512 (whole_pieces 64 (short_streams t)),
    length-whole 64 width-64 (short_streams t),
    mini-counted,
  )

  root-says : (directory : List ℕ) → directory ≡ p.directory → Says root_name says (entry_at directory 0)
  root-says directory e = begins-here directory 0 root_name says (below ++ free) fit
      (record { rest = []; is = e ∙ sym (append-nil p.directory) })

  -- the parts fit
  pub fits-tree : Fits f p
  fits-tree = record {
    whole_directory = length-directory;
    some_directory = omega arith;
    table_size = ap (pieces 128) (sym mini-counted);
    whole_stream = length-mini_stream;
    stream_size = ap (λ m. pieces 512 (64 * m)) (sym mini-counted);
    few = is.few;
    covered = omega (arith, is.covered, longs-sum t);
    root_first = (root-says p.directory refl).starts;
    root_size = (root-says p.directory refl).sized ∙ ap (λ m. 64 * m) (sym mini-counted);
  }

  module _ (file : List ℕ) (l : Layout) (placed : IsPlaced file p l)
      (longs : ArePlaced file l (long_start f t) (long_streams t)) where
    says-root : Says root_name says (entry file l 0)
    says-root = root-says (directory_of file l) placed.directory

    begins : Begins (directory_of file l) 0 (root ++ (below ++ free))
    begins = record { rest = []; is = placed.directory ∙ sym (append-nil p.directory) }

    said : SaidBelow links (directory_of file l) 0 0 (long_start f t) t
    said = said-below links search last small (directory_of file l) 32 0 0 (long_start f t) t is.whole is.spelled within
        (begins-front (directory_of file l) 1 below free
        (begins-behind (directory_of file l) 0 1 root (below ++ free) length-root begins))

    mini-store : IsStoreFrom (minis file l) 64 0 (runs 0 p.minis) p.mini_stream (sum p.minis)
    unfolding mini_sectors_of
    mini-store = record {
      width = refl;
      there = λ some. omega (arith, placed.mini_count);
      few = omega (arith, is.covered, is.few, mini-counted);
      piece = λ m lt. let e : 0 + m ≡ m = omega arith in ap (minis file l).piece e ∙ placed.mini_piece m lt;
      next = λ m lt. let e : 0 + m ≡ m = omega arith in ap (minis file l).next e ∙ placed.mini_next m lt;
    }

    store : IsStoreFrom (sectors file l) 512 (long_start f t)
        (runs (long_start f t) (pieces_of 512 (long_streams t))) (whole_pieces 512 (long_streams t))
        (sum (pieces_of 512 (long_streams t)))
    unfolding sectors_of
    store = record {
      width = refl;
      there = longs.there;
      few = omega (arith, is.covered, is.few, longs-sum t);
      piece = longs.piece;
      next = longs.next;
    }

    first-mini : AreNext 64 0 (runs 0 p.minis) p.mini_stream (sum p.minis) 0 (short_streams t ++ [])
    first-mini = subst (λ (bs : List (List ℕ)). AreNext 64 0 (runs 0 p.minis) p.mini_stream (sum p.minis) 0 bs)
        (sym (append-nil (short_streams t))) (record {
          done = 0;
          is_at = refl;
          left = record {
            runs_left = refl;
            rest = replicate (512 * pieces 512 (length (whole_pieces 64 (short_streams t)))
                - length (whole_pieces 64 (short_streams t))) 0;
            bytes_left = refl;
            all = omega arith;
          };
        })

    first-sector : AreNext 512 (long_start f t) (runs (long_start f t) (pieces_of 512 (long_streams t)))
        (whole_pieces 512 (long_streams t)) (sum (pieces_of 512 (long_streams t)))
        (long_start f t) (long_streams t ++ [])
    first-sector = subst (λ (bs : List (List ℕ)). AreNext 512 (long_start f t)
        (runs (long_start f t) (pieces_of 512 (long_streams t))) (whole_pieces 512 (long_streams t))
        (sum (pieces_of 512 (long_streams t))) (long_start f t) bs) (sym (append-nil (long_streams t))) (record {
          done = 0;
          is_at = omega arith;
          left = record {
            runs_left = let e : long_start f t ≡ long_start f t + 0 = omega arith in
                ap (λ x. runs x (pieces_of 512 (long_streams t))) e;
            rest = [];
            bytes_left = sym (append-nil (whole_pieces 512 (long_streams t)));
            all = omega arith;
          };
        })

    held : TreeHeld file l links search (1 + entries t)
        (omega (arith, ap length placed.directory, length-directory)) (omega (arith, is.covered, is.few))
        (runs 0 p.minis) p.mini_stream (sum p.minis) mini-store (long_start f t)
        (runs (long_start f t) (pieces_of 512 (long_streams t)))
        (whole_pieces 512 (long_streams t)) (sum (pieces_of 512 (long_streams t))) store 0 0 (long_start f t) t
    held = tree-held file l links search (1 + entries t)
        (omega (arith, ap length placed.directory, length-directory)) (omega (arith, is.covered, is.few))
        (runs 0 p.minis) p.mini_stream (sum p.minis) mini-store (long_start f t)
        (runs (long_start f t) (pieces_of 512 (long_streams t)))
        (whole_pieces 512 (long_streams t)) (sum (pieces_of 512 (long_streams t))) store 32 0 0 (long_start f t) t
        [] [] is.whole said
        (record { class_id = says-root.class_id; state_bits = says-root.state_bits; below = says-root.below })
        (omega arith) first-mini first-sector

    pub denotes-tree : Denotes file t
    denotes-tree = record {
      layout = l;
      used = held.used;
      header = placed.header;
      laid_out = placed.laid_out;
      root = says-root.held;
      holds = held.holds;
      sectors_apart =
          subst (λ (ns : List ℕ). AreDistinct (l.fat ++ l.difat ++ l.directory ++ l.mini_fat ++ l.mini_stream
          ++ ns))
          (ap (range_with_len (long_start f t)) (longs-sum t) ∙ sym held.sectors_used) longs.apart;
      minis_apart = subst AreDistinct (sym held.mini_sectors_used) (distinct_range 0 (mini_sectors t));
      ids_apart = subst AreDistinct (sym (ap (λ ns. 0 ∷ ns) held.ids)) (distinct_range 0 (suc (entries t)));
      is_tree = is.whole;
    }

pub placed-denotes : PlacedDenotes
placed-denotes links f t file l search is placed longs = denotes-tree links search f t is file l placed longs

pub image-denotes : ImageDenotes
image-denotes f t is =
    let p : Parts = parts_of balanced f t in
    let some : 0 < f = omega (arith, is.covered) in
    let fits : Fits f p = fits-tree balanced are-balanced f t is in
    placed-denotes balanced f t (image f p) (layout_of f p) are-balanced is (placed f p some fits)
    (long-placed f p some fits)
