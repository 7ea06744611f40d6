-- How long a file is that is laid out of a tree.
use Rattle.std.proofs.Common.{◌≡◌, ◌<◌, ◌≤◌, ◌+◌, ◌-◌, ◌*◌, ℕ, zero, suc, Bool, true, false, List, [], ◌∷◌, ◌++◌, min}
use Rattle.std.proofs.Common.{length, drop, replicate, Result, Ok, Err, cond, nat_lt, inl, inr, refl, ◌∙◌, ap, arith}
use Rattle.std.proofs.Common.{length-append, length-drop, lit≤}
use Rattle.std.proofs.Math.Logic.{∥∥₁_elim}
use Rattle.std.proofs.lemmas.Bool.{cases_lt, le-ltb, lt-ltb}
use Rattle.std.proofs.lemmas.List.{length-take}
use Rattle.std.proofs.lemmas.List.FromFn.{length-range_with_len}
use Rattle.std.specs.List.{concat, sum}
use Rattle.std.specs.Prelude.{if◌then◌else◌}
use Rattle.cfb_header.specs.Header.{header_bytes}
use Rattle.cfb_chains.proofs.Blocks.{length_block}
use Rattle.cfb_header.proofs.Written.{length_written}
use Rattle.cfb_entries.specs.Entries.{class_of, root_name}
use Rattle.cfb_entries.specs.Written.{entry_bytes, free_entry_bytes}
use Rattle.cfb_entries.specs.declared.entries.EntryFields.{EntryFields}
use Rattle.cfb_entries.proofs.Fields.{length-entry_bytes, length-free_entry_bytes}
use Rattle.cfb_entries.specs.Tree.{Tree, Children, tree, none, stream, storage}
use Rattle.cfb_entries.specs.Whole.{AreTrees, IsNamed, IsTree}
use Rattle.cfb_file.specs.Denotes.{Denotes, Holds, HoldsEach, Layout, Used, directory_of, entry}
use Rattle.cfb_layout.specs.Directory.{Siblings, balanced, class_in, each_entry, entries_below, ids_from, long_start}
use Rattle.cfb_layout.specs.Directory.{parts_of, root_says, short_streams, storage_says, stream_says}
use Rattle.cfb_layout.specs.Image.{Parts, behind_fat, difat_numbers, image, own_entries, pieces_of, runs, table_bytes}
use Rattle.cfb_layout.specs.Image.{whole_pieces}
use Rattle.cfb_file.specs.Limits.{MOST_FAT_SECTORS}
use Rattle.cfb_file.specs.Need.{data_sectors, difat_sectors, directory_sectors, entries, entries_of, fat_sectors}
use Rattle.cfb_file.specs.Need.{long_pieces, long_sectors, mini_fat_sectors, mini_sectors, mini_stream_sectors, pieces}
use Rattle.cfb_file.specs.Need.{short_pieces}
use Rattle.cfb_file.specs.Refusals.{writable}
use Rattle.cfb_file.specs.declared.fault.WriteFault.{WriteFault}
use Rattle.cfb_file.specs.declared.fault.WriteFault.TheVariants.{TooBig}
use Rattle.cfb_layout.proofs.Contents.{counts-sum}
use Rattle.cfb_layout.proofs.ContentsNext.{longs-sum, shorts-sum}
use Rattle.cfb_layout.proofs.ContentsPieces.{length-padded, length-whole, width-64, width-512}
use Rattle.cfb_file.proofs.LeastFat.{covers}
use Rattle.cfb_layout.proofs.ListsLaid.{length-difat}
use Rattle.cfb_layout.proofs.Placed.{header_value, length-own}
use Rattle.cfb_layout.proofs.PlacedParts.{IsJoined, joined_parts}
use Rattle.cfb_layout.proofs.Tables.{length-numbers_bytes, length-runs, length-table_bytes, numbers_bytes}
use Rattle.write_files.specs.Laid.{IsLaidOut, file_of}
use Rattle.store_images.specs.Laws.{LimitIsMet}
use Rattle.store_model.specs.declared.limit.TheConstants.{MAX_DOCUMENT}

-- class ids of 16 bytes
abbrev mutual
  HasClasses : Tree → Type 0
  HasClasses (tree class state cs) = (length class ≡ 16) × HaveClasses cs

  HaveClasses : Children → Type 0
  HaveClasses none = Unit {0}
  HaveClasses (stream k n b cs) = HaveClasses cs
  HaveClasses (storage k n t cs) = HasClasses t × HaveClasses cs

own-class : (t : Tree) → HasClasses t → length (class_in t) ≡ 16
own-class (tree class state cs) h = h.0

length-class : (bytes : List ℕ) → length bytes ≡ 128 → length (class_of bytes) ≡ 16
length-class bytes long = length-take 16 (drop 80 bytes) ∙ omega (arith, long, length-drop 80 bytes)

-- what a file's entries say has them
module _ (file : List ℕ) (l : Layout) where
  mutual
    classes-held : (id : ℕ) (t : Tree) (used : Used) → Holds file l id t used → HasClasses t
    classes-held id (tree class state cs) used h = (
      ap length h.0 ∙ length-class (entry file l id) (length_block 128 (directory_of file l) (128 * id)),
      classes-each h.2.0 cs used h.2.2,
    )

    classes-each : (ids : List ℕ) (cs : Children) (used : Used) → HoldsEach file l ids cs used → HaveClasses cs
    classes-each [] none used h = tt
    classes-each [] (stream k n b cs) used h = absurd h
    classes-each [] (storage k n t cs) used h = absurd h
    classes-each (id ∷ ids) none used h = absurd h
    classes-each (id ∷ ids) (stream k n b cs) used h = classes-each ids cs h.2.1 h.2.4
    classes-each (id ∷ ids) (storage k n t cs) used h = (classes-held id t h.2.0 h.2.2, classes-each ids cs h.2.1 h.2.4)

-- the length of entries
module _ (links : ℕ → Siblings) where
  mutual
    length-below : (depth id mini sector : ℕ) (t : Tree) → IsTree depth t → HasClasses t
        → length (entries_below links id mini sector t) ≡ 128 * entries t
    length-below depth id mini sector (tree class state cs) whole has =
        length-each depth (ids_from (id + 1) cs) 0 (id + 1) mini sector cs whole has.1

    length-each : (depth : ℕ) (ids : List ℕ) (place id mini sector : ℕ) (cs : Children) → AreTrees depth cs
        → HaveClasses cs
        → length (each_entry links ids place id mini sector cs) ≡ 128 * entries_of cs
    length-each depth ids place id mini sector none whole has = refl
    length-each depth ids place id mini sector (stream k n b cs) whole has =
        let e : EntryFields = stream_says links ids place mini sector (length b) in
        let more : List ℕ = each_entry links ids (place + 1) (id + 1) (mini + short_pieces b)
        (sector + long_pieces b) cs in
        let r : length more ≡ 128 * entries_of cs = length-each depth ids (place + 1) (id + 1)
        (mini + short_pieces b) (sector + long_pieces b) cs whole.2 has in
        omega (arith, length-append (entry_bytes n e) more, length-entry_bytes n e whole.0.valid.short refl)
    length-each zero ids place id mini sector (storage k n t cs) whole has = absurd whole
    length-each (suc depth) ids place id mini sector (storage k n t cs) whole has =
        let e : EntryFields = storage_says links ids place id t in
        let inner : List ℕ = entries_below links id mini sector t in
        let more : List ℕ = each_entry links ids (place + 1) (id + 1 + entries t) (mini + mini_sectors t)
        (sector + long_sectors t) cs in
        let i : length inner ≡ 128 * entries t = length-below depth id mini sector t whole.2 has.0 in
        let r : length more ≡ 128 * entries_of cs = length-each (suc depth) ids (place + 1) (id + 1 + entries t)
        (mini + mini_sectors t) (sector + long_sectors t) cs whole.3 has.1 in
        let w : length (class_in t) ≡ 16 = own-class t has.0 in
        omega (
          arith,
          length-append (entry_bytes n e) (inner ++ more),
          length-append inner more,
          length-entry_bytes n e whole.0.valid.short w,
        )

length-free : (n : ℕ) → length (concat (replicate n free_entry_bytes)) ≡ 128 * n
length-free zero = refl
length-free (suc n) = omega (
  arith,
  length-append free_entry_bytes (concat (replicate n free_entry_bytes)),
  length-free_entry_bytes,
  length-free n,
)

module _ (links : ℕ → Siblings) (f : ℕ) (t : Tree) (whole : IsTree 32 t) (has : HasClasses t) where
  abbrev p : Parts
  p = parts_of links f t

  length-directory : length p.directory ≡ 512 * directory_sectors t
  length-directory =
      let root : List ℕ = entry_bytes root_name (root_says links f t) in
      let below : List ℕ = entries_below links 0 0 (long_start f t) t in
      let free : List ℕ = concat (replicate (4 * directory_sectors t - (1 + entries t)) free_entry_bytes) in
      let r : length root ≡ 128 = length-entry_bytes root_name (root_says links f t) (lit≤ tt) (own-class t has) in
      let a : length p.directory ≡ length root + length (below ++ free) = length-append root (below ++ free) in
      let b : length (below ++ free) ≡ length below + length free = length-append below free in
      let c : length below ≡ 128 * entries t = length-below links 32 0 0 (long_start f t) t whole has in
      let e : length free ≡ 128 * (4 * directory_sectors t - (1 + entries t)) =
      length-free (4 * directory_sectors t - (1 + entries t)) in
      omega arith

  mini-counted : sum p.minis ≡ mini_sectors t
  mini-counted = shorts-sum t

  length-mini_stream : length p.mini_stream ≡ 512 * mini_stream_sectors t
  length-mini_stream = omega (
    arith,
    length-padded 512 width-512 (whole_pieces 64 (short_streams t)),
    length-whole 64 width-64 (short_streams t),
    mini-counted,
  )

  length-mini_fat : length (table_bytes (mini_fat_sectors t) (runs 0 p.minis)) ≡ 512 * mini_fat_sectors t
  length-mini_fat = length-table_bytes (mini_fat_sectors t) (runs 0 p.minis)
      (omega (arith, length-runs 0 p.minis, mini-counted))

  length-longs : length (whole_pieces 512 p.longs) ≡ 512 * long_sectors t
  length-longs = length-whole 512 width-512 p.longs ∙ ap (λ n. 512 * n) (longs-sum t)

  abbrev fat : List ℕ
  fat = own_entries f ++ runs (behind_fat f) (p.directory_count ∷ p.mini_fat_count ∷ p.mini_stream_count
      ∷ pieces_of 512 p.longs)

  length-fat : length fat ≡ behind_fat f + data_sectors t
  length-fat =
      length-append (own_entries f)
      (runs (behind_fat f) (p.directory_count ∷ p.mini_fat_count ∷ p.mini_stream_count ∷ pieces_of 512 p.longs))
      ∙ omega (
        arith,
        length-own f,
        length-runs (behind_fat f)
            (p.directory_count ∷ p.mini_fat_count ∷ p.mini_stream_count ∷ pieces_of 512 p.longs),
        counts-sum links f
            t,
      )

  -- a header, and a sector for each that the tree, the FAT and the DIFAT need
  pub length-image : behind_fat f + data_sectors t ≤ 128 * f → length (image f p)
      ≡ 512 * (1 + behind_fat f + data_sectors t)
  unfolding image
  length-image covered =
      let numbers : List ℕ = difat_numbers (difat_sectors f) f 109 f in
      let listed : length (header_value f p).fat ≤ 109 = omega (arith, length-range_with_len 0 (min f 109)) in
      let j : IsJoined (image f p) (table_bytes f fat) (numbers_bytes numbers) p.directory
      (table_bytes p.mini_fat_count (runs 0 p.minis)) p.mini_stream
      (whole_pieces 512 p.longs) f (difat_sectors f) (directory_sectors t) (mini_fat_sectors t)
      (mini_stream_sectors t) (long_sectors t) =
      joined_parts (image f p) (header_bytes (header_value f p)) (table_bytes f fat) (numbers_bytes numbers) p.directory
      (table_bytes p.mini_fat_count (runs 0 p.minis)) p.mini_stream (whole_pieces 512 p.longs) f (difat_sectors f)
      (directory_sectors t) (mini_fat_sectors t)
      (mini_stream_sectors t) (long_sectors t) refl (length_written (header_value f p) listed)
      (length-table_bytes f fat (omega (arith, length-fat)))
      (omega (arith, length-numbers_bytes numbers, length-difat (difat_sectors f) f 109 f))
      length-directory length-mini_fat length-mini_stream length-longs in
      j.size ∙ omega arith

-- a tree that the writer takes needs no more FAT sectors than a file can have
refused : (b : Bool) → b ≡ true → ◌≡◌ {A = Result (Unit {0}) WriteFault} (cond b (Err TooBig) (Ok tt)) (Ok tt) → ⊥
refused true e h = cc h
refused false e h = cc e

few-fat : (t : Tree) → writable t ≡ Ok tt → fat_sectors (data_sectors t) ≤ MOST_FAT_SECTORS
few-fat t taken =
    elim (cases_lt MOST_FAT_SECTORS (fat_sectors (data_sectors t))) [
      | inl more ↦ absurd (refused (nat_lt MOST_FAT_SECTORS (fat_sectors (data_sectors t)))
          (lt-ltb MOST_FAT_SECTORS (fat_sectors (data_sectors t)) more) taken)
      | inr few ↦ few
    ]

bounded : (f n length : ℕ) → n ≤ 128 * f → f ≤ MOST_FAT_SECTORS → length ≡ 512 * (1 + n) → length ≤ MAX_DOCUMENT
bounded f n length covered few long = omega (arith, covered, few, long)

length-laid : (t : Tree) (file : List ℕ) → Denotes file t → IsLaidOut t file → writable t ≡ Ok tt
    → length file ≤ MAX_DOCUMENT
length-laid t file denotes laid taken =
    let d : ℕ = data_sectors t in
    let f : ℕ = fat_sectors (data_sectors t) in
    let covered : behind_fat f + data_sectors t ≤ 128 * f = covers (data_sectors t) in
    let long : length file ≡ 512 * (1 + behind_fat f + data_sectors t) =
    ap length laid ∙ length-image balanced f t denotes.is_tree
    (classes-held file denotes.layout 0 t denotes.used denotes.holds) covered in
    bounded f (behind_fat f + data_sectors t) (length file) covered (few-fat t taken) (long ∙ omega arith)

⊥_prop : (a b : ⊥) → a ≡ b
⊥_prop a b = absurd a

clash : (a b : ℕ) → a < b → b ≤ a → ⊥
clash a b more within = omega (arith, more, within)

pub files-taken : (t : Tree) (file : List ℕ) → ∥ Denotes file t ∥₁ → IsLaidOut t file → writable t ≡ Ok tt
    → length file ≤ MAX_DOCUMENT
files-taken t file denotes laid taken =
    elim (cases_lt MAX_DOCUMENT (length file)) [
      | inl more ↦
          absurd (∥∥₁_elim denotes ⊥_prop (λ (d : Denotes file t). clash MAX_DOCUMENT (length file) more
          (length-laid t file d laid taken)))
      | inr within ↦ within
    ]

-- a root with one stream that lies in sectors
module _ (class k n b : List ℕ) (state : ℕ) (long : 4096 ≤ length b) where
  abbrev one : Tree
  one = tree class state (stream k n b none)

  in-sectors : long_pieces b ≡ pieces 512 (length b)
  in-sectors = ap (λ short. if short then 0 else pieces 512 (length b)) (le-ltb (length b) 4096 long)

  in-minis : short_pieces b ≡ 0
  in-minis = ap (λ short. if short then pieces 64 (length b) else 0) (le-ltb (length b) 4096 long)

  data-one : data_sectors one ≡ 1 + pieces 512 (length b)
  data-one = omega (arith, in-sectors, in-minis)

  is-allowed : (f : ℕ) → fat_sectors (data_sectors one) ≡ f
      → ◌≡◌ {A = Result (Unit {0}) WriteFault} (writable one)
      (cond (nat_lt MOST_FAT_SECTORS f) (Err TooBig) (Ok tt))
  is-allowed f e = ap (λ x. cond (nat_lt MOST_FAT_SECTORS x) (Err TooBig) (Ok tt)) e

  length-one : length class ≡ 16 → IsNamed k n → length (file_of one)
      ≡ 512 * (1 + behind_fat (fat_sectors (data_sectors one)) + data_sectors one)
  length-one has named =
      length-image balanced (fat_sectors (data_sectors one)) one (named, tt, tt) (has, tt) (covers (data_sectors one))

greatest-fat : (d : ℕ) → d ≡ 142867 → fat_sectors d ≡ 1125
greatest-fat d e = ap fat_sectors e

past-fat : (d : ℕ) → d ≡ 142868 → fat_sectors d ≡ 1126
past-fat d e = ap fat_sectors e

data-most : (d size : ℕ) → d ≡ 1 + pieces 512 size → size ≡ 73147392 → d ≡ 142867
data-most d size e s = omega (arith, e, s)

data-past : (d size : ℕ) → d ≡ 1 + pieces 512 size → size ≡ 73147393 → d ≡ 142868
data-past d size e s = omega (arith, e, s)

roomy : (size : ℕ) → size ≡ 73147392 → 4096 ≤ size
roomy size s = omega (arith, s)

past-roomy : (size : ℕ) → size ≡ 73147393 → 4096 ≤ size
past-roomy size s = omega (arith, s)

just : (d f length : ℕ) → d ≡ 142867 → f ≡ 1125 → length ≡ 512 * (1 + behind_fat f + d) → length ≡ MAX_DOCUMENT
just d f length e g h = h ∙ (λ i. 512 * (1 + behind_fat (g i) + e i))

pub limit-met : LimitIsMet
limit-met = record {
  most = λ class k n b state has named size.
      let t : Tree = tree class state (stream k n b none) in
      let d : data_sectors t ≡ 142867 = data-most (data_sectors t) (length b)
      (data-one class k n b state (roomy (length b) size)) size in
      just (data_sectors t) (fat_sectors (data_sectors t)) (length (file_of t)) d (greatest-fat (data_sectors t) d)
      (length-one class k n b state (roomy (length b) size) has named);
  allowed = λ class k n b state size.
      let t : Tree = tree class state (stream k n b none) in
      let d : data_sectors t ≡ 142867 = data-most (data_sectors t) (length b)
      (data-one class k n b state (roomy (length b) size)) size in
      is-allowed class k n b state (roomy (length b) size) 1125 (greatest-fat (data_sectors t) d);
  refused = λ class k n b state size.
      let t : Tree = tree class state (stream k n b none) in
      let d : data_sectors t ≡ 142868 = data-past (data_sectors t) (length b)
      (data-one class k n b state (past-roomy (length b) size)) size in
      is-allowed class k n b state (past-roomy (length b) size) 1126 (past-fat (data_sectors t) d);
}
