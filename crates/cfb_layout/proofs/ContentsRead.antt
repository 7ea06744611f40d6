-- What is read back from the entries of a tree.
use Rattle.std.proofs.Common.{◌≡◌, ◌<◌, ◌≤◌, ◌+◌, ◌*◌, ◌^◌, ℕ, zero, suc, true, false, nat_lt, List, ◌++◌, length, drop}
use Rattle.std.proofs.Common.{get_or, refl, sym, ◌∙◌, ap, subst, arith, append_assoc, drop-drop, length-append, lit<}
use Rattle.std.proofs.lemmas.List.{drop_at, take_at}
use Rattle.std.specs.Prelude.{if◌then◌else◌}
use Rattle.cfb_header.specs.Bytes.{block}
use Rattle.cfb_entries.specs.Entries.{entry_at, kind, kind_number, left, right, child, class_of, state_of, first_of}
use Rattle.cfb_entries.specs.Entries.{size_of, IsNamed}
use Rattle.cfb_entries.specs.Written.{entry_bytes}
use Rattle.cfb_entries.specs.declared.entries.EntryFields.{EntryFields}
use Rattle.cfb_entries.proofs.Fields.{length-entry_bytes, kind-entry_bytes, left-entry_bytes, right-entry_bytes}
use Rattle.cfb_entries.proofs.Fields.{child-entry_bytes, class_of-entry_bytes, state_of-entry_bytes}
use Rattle.cfb_entries.proofs.Fields.{first_of-entry_bytes, size_of-entry_bytes, is_named-entry_bytes}
use Rattle.cfb_entries.specs.Tree.{Tree, Children, tree, none, stream, storage}
use Rattle.cfb_entries.specs.Whole.{AreTrees, IsTree}
use Rattle.cfb_file.specs.Need.{pieces, entries, entries_of, over_streams_of, mini_sectors, long_sectors, short_pieces}
use Rattle.cfb_file.specs.Need.{long_pieces}
use Rattle.cfb_layout.specs.Image.{start}
use Rattle.cfb_layout.specs.Directory.{Siblings, AreBalanced, ids_from, first_of_stream, child_of, class_in, state_in}
use Rattle.cfb_layout.specs.Directory.{stream_says, storage_says, entries_below, each_entry, IsSpelled, AreSpelled}
use Rattle.cfb_layout.proofs.ContentsBlocks.{block-drop, block-take}
use Rattle.cfb_layout.proofs.ContentsIds.{ids-below, top-fits, left-fits, right-fits}

-- the entry at a place of the directory that begins with these bytes
entry-begins : (directory entry rest : List ℕ) (id : ℕ) → length entry ≡ 128
    → drop (128 * id) directory ≡ entry ++ rest → entry_at directory id ≡ entry
entry-begins directory entry rest id wide e =
    let z : 128 * id ≡ 128 * id + 0 = omega arith in
    ap (block 128 directory) z ∙ block-drop 128 (128 * id) 0 directory ∙ ap (λ d. block 128 d 0) e
    ∙ block-take 128 (entry ++ rest) (omega (arith, length-append entry rest)) ∙ take_at entry rest 128 wide

-- numbers that an entry has room for
pub record FieldsFit (name : List ℕ) (e : EntryFields) : Type 0 where
  pub short : length name ≤ 31
  pub class_id : length e.class ≡ 16
  pub to_left : e.left < 2 ^ 32
  pub to_right : e.right < 2 ^ 32
  pub below : e.child < 2 ^ 32
  pub state_bits : e.state < 2 ^ 32
  pub starts : e.first < 2 ^ 32
  pub sized : e.size < 2 ^ 32

-- an entry that says this
pub record Says (name : List ℕ) (e : EntryFields) (entry : List ℕ) : Type 0 where
  pub held : kind entry ≡ kind_number e.kind
  pub named : IsNamed entry name
  pub to_left : left entry ≡ e.left
  pub to_right : right entry ≡ e.right
  pub below : child entry ≡ e.child
  pub class_id : class_of entry ≡ e.class
  pub state_bits : state_of entry ≡ e.state
  pub starts : first_of entry ≡ e.first
  pub sized : size_of entry ≡ e.size

pub says-entry_bytes : (name : List ℕ) (e : EntryFields) → FieldsFit name e → Says name e (entry_bytes name e)
says-entry_bytes name e fit = record {
  held = kind-entry_bytes name e fit.short fit.class_id;
  named = is_named-entry_bytes name e fit.short fit.class_id;
  to_left = left-entry_bytes name e fit.short fit.class_id fit.to_left;
  to_right = right-entry_bytes name e fit.short fit.class_id fit.to_right;
  below = child-entry_bytes name e fit.short fit.class_id fit.below;
  class_id = class_of-entry_bytes name e fit.short fit.class_id;
  state_bits = state_of-entry_bytes name e fit.short fit.class_id fit.state_bits;
  starts = first_of-entry_bytes name e fit.short fit.class_id fit.starts;
  sized = size_of-entry_bytes name e fit.short fit.class_id fit.sized;
}

-- the directory from an entry on
pub record Begins (directory : List ℕ) (id : ℕ) (bytes : List ℕ) : Type 0 where
  pub rest : List ℕ
  pub is : drop (128 * id) directory ≡ bytes ++ rest

pub begins-here : (directory : List ℕ) (id : ℕ) (name : List ℕ) (e : EntryFields) (more : List ℕ) → FieldsFit name e
    → Begins directory id (entry_bytes name e ++ more) → Says name e (entry_at directory id)
begins-here directory id name e more fit b =
    let one : List ℕ = entry_bytes name e in
    let is : entry_at directory id ≡ one = entry-begins directory one (more ++ b.rest) id
    (length-entry_bytes name e fit.short fit.class_id) (b.is ∙ append_assoc one more b.rest) in
    subst (Says name e) (sym is) (says-entry_bytes name e fit)

pub begins-behind : (directory : List ℕ) (id n : ℕ) (front more : List ℕ) → length front ≡ 128 * n
    → Begins directory id (front ++ more) → Begins directory (id + n) more
begins-behind directory id n front more wide b = record {
  rest = b.rest;
  is = let m : 128 * (id + n) ≡ 128 * id + 128 * n = omega arith in
      ap (λ k. drop k directory) m ∙ sym (drop-drop (128 * n) (128 * id) directory)
      ∙ ap (drop (128 * n)) (b.is ∙ append_assoc front more b.rest)
      ∙ drop_at front (more ++ b.rest) (128 * n) wide;
}

pub begins-front : (directory : List ℕ) (id : ℕ) (front more : List ℕ) → Begins directory id (front ++ more)
    → Begins directory id front
begins-front directory id front more b = record { rest = more ++ b.rest; is = b.is ∙ append_assoc front more b.rest }

pub start-fits : (at n : ℕ) → at < 2 ^ 32 → start at n < 2 ^ 32
start-fits at zero h = lit< tt
start-fits at (suc n) h = h

first-fits : (mini sector size : ℕ) → mini < 2 ^ 32 → sector < 2 ^ 32 → first_of_stream mini sector size < 2 ^ 32
first-fits mini sector size m s =
    elim (nat_lt size 4096) as (λ b. (if b then start mini (pieces 64 size) else start sector (pieces 512 size))
    < 2 ^ 32)
    [ true ↦ start-fits mini (pieces 64 size) m | false ↦ start-fits sector (pieces 512 size) s ]

-- no more than so many entries, mini sectors and sectors
pub record AreWithin (last ids minis sectors : ℕ) : Type 0 where
  pub of_ids : ids ≤ last
  pub of_minis : minis ≤ last
  pub of_sectors : sectors ≤ last

pub class-spelled : (t : Tree) → IsSpelled t → length (class_in t) ≡ 16
class-spelled (tree class state cs) h = h.0

pub state-spelled : (t : Tree) → IsSpelled t → state_in t < 2 ^ 32
state-spelled (tree class state cs) h = h.1

module _ (links : ℕ → Siblings) (directory : List ℕ) where
  -- what each entry says
  abbrev mutual
    pub SaidBelow : ℕ → ℕ → ℕ → Tree → Type 0
    SaidBelow id mini sector (tree class state cs) = AreSaid (ids_from (id + 1) cs) 0 (id + 1) mini sector cs

    pub AreSaid : List ℕ → ℕ → ℕ → ℕ → ℕ → Children → Type 0
    AreSaid ids place id mini sector none = Unit {0}
    AreSaid ids place id mini sector (stream k n b cs) =
        Says n (stream_says links ids place mini sector (length b)) (entry_at directory id)
        × AreSaid ids (place + 1) (id + 1) (mini + short_pieces b) (sector + long_pieces b) cs
    AreSaid ids place id mini sector (storage k n t cs) =
        Says n (storage_says links ids place id t) (entry_at directory id)
        × SaidBelow id mini sector t
        × AreSaid ids (place + 1) (id + 1 + entries t) (mini + mini_sectors t) (sector + long_sectors t) cs

module _ (links : ℕ → Siblings) (balanced : AreBalanced links) (last : ℕ) (few : last < 2 ^ 32) where
  ids-small : (id : ℕ) (cs : Children) → id + entries_of cs ≤ last → (k : ℕ) → k < length (ids_from id cs)
      → get_or (ids_from id cs) k 0 < 2 ^ 32
  ids-small id cs within k l = let r : get_or (ids_from id cs) k 0 < id + entries_of cs = ids-below id cs k l in
      omega arith

  pub child-fits : (id : ℕ) (t : Tree) → id + 1 + entries t ≤ last → child_of links id t < 2 ^ 32
  child-fits id (tree class state cs) within = top-fits links balanced (ids_from (id + 1) cs)
      (ids-small (id + 1) cs within)

  module _ (ids : List ℕ) (small : (k : ℕ) → k < length ids → get_or ids k 0 < 2 ^ 32) where
    pub stream-fits : (place mini sector : ℕ) (name bytes : List ℕ) → place < length ids → length name ≤ 31
        → mini ≤ last → sector ≤ last → length bytes < 2 ^ 32
        → FieldsFit name (stream_says links ids place mini sector (length bytes))
    stream-fits place mini sector name bytes at short m s size = record {
      short = short;
      class_id = refl;
      to_left = left-fits links balanced ids small place at;
      to_right = right-fits links balanced ids small place at;
      below = lit< tt;
      state_bits = lit< tt;
      starts = first-fits mini sector (length bytes) (omega arith) (omega arith);
      sized = size;
    }

    pub storage-fits : (place id : ℕ) (name : List ℕ) (t : Tree) → place < length ids → length name ≤ 31
        → id + 1 + entries t ≤ last
        → length (class_in t) ≡ 16 → state_in t < 2 ^ 32 → FieldsFit name (storage_says links ids place id t)
    storage-fits place id name t at short within class state = record {
      short = short;
      class_id = class;
      to_left = left-fits links balanced ids small place at;
      to_right = right-fits links balanced ids small place at;
      below = child-fits id t within;
      state_bits = state;
      starts = lit< tt;
      sized = lit< tt;
    }

  -- the length of entries
  mutual
    pub length-below : (depth id mini sector : ℕ) (t : Tree) → IsTree depth t → IsSpelled t
        → length (entries_below links id mini sector t) ≡ 128 * entries t
    length-below depth id mini sector (tree class state cs) whole spelled =
        length-each depth (ids_from (id + 1) cs) 0 (id + 1) mini sector cs whole spelled.2

    pub length-each : (depth : ℕ) (ids : List ℕ) (place id mini sector : ℕ) (cs : Children) → AreTrees depth cs
        → AreSpelled cs
        → length (each_entry links ids place id mini sector cs) ≡ 128 * entries_of cs
    length-each depth ids place id mini sector none whole spelled = refl
    length-each depth ids place id mini sector (stream k n b cs) whole spelled =
        let e : EntryFields = stream_says links ids place mini sector (length b) in
        let more : List ℕ = each_entry links ids (place + 1) (id + 1) (mini + short_pieces b)
        (sector + long_pieces b) cs in
        let r : length more ≡ 128 * entries_of cs = length-each depth ids (place + 1) (id + 1)
        (mini + short_pieces b) (sector + long_pieces b) cs whole.2 spelled.1 in
        omega (arith, length-append (entry_bytes n e) more, length-entry_bytes n e whole.0.valid.short refl)
    length-each zero ids place id mini sector (storage k n t cs) whole spelled = absurd whole
    length-each (suc depth) ids place id mini sector (storage k n t cs) whole spelled =
        let e : EntryFields = storage_says links ids place id t in
        let inner : List ℕ = entries_below links id mini sector t in
        let more : List ℕ = each_entry links ids (place + 1) (id + 1 + entries t) (mini + mini_sectors t)
        (sector + long_sectors t) cs in
        let i : length inner ≡ 128 * entries t = length-below depth id mini sector t whole.2 spelled.0 in
        let r : length more ≡ 128 * entries_of cs = length-each (suc depth) ids (place + 1) (id + 1 + entries t)
        (mini + mini_sectors t) (sector + long_sectors t) cs whole.3 spelled.1 in
        let w : length (class_in t) ≡ 16 = class-spelled t spelled.0 in
        omega (
          arith,
          length-append (entry_bytes n e) (inner ++ more),
          length-append inner more,
          length-entry_bytes n e whole.0.valid.short w,
        )

  module _ (directory : List ℕ) where
    mutual
      pub said-below : (depth id mini sector : ℕ) (t : Tree) → IsTree depth t → IsSpelled t
          → AreWithin last (id + 1 + entries t) (mini + mini_sectors t) (sector + long_sectors t)
          → Begins directory (id + 1) (entries_below links id mini sector t)
          → SaidBelow links directory id mini sector t
      said-below depth id mini sector (tree class state cs) whole spelled within b =
          said-each depth (ids_from (id + 1) cs) (ids-small (id + 1) cs within.of_ids) 0 (id + 1) mini sector cs
          whole spelled.2 within (omega arith) b

      pub said-each : (depth : ℕ) (ids : List ℕ) → ((k : ℕ) → k < length ids → get_or ids k 0 < 2 ^ 32)
          → (place id mini sector : ℕ) (cs : Children)
          → AreTrees depth cs → AreSpelled cs → AreWithin last (id + entries_of cs)
          (mini + over_streams_of short_pieces cs) (sector + over_streams_of long_pieces cs)
          → place + length (ids_from id cs) ≤ length ids
          → Begins directory id (each_entry links ids place id mini sector cs)
          → AreSaid links directory ids place id mini sector cs
      said-each depth ids small place id mini sector none whole spelled within at b = tt
      said-each depth ids small place id mini sector (stream k n bytes cs) whole spelled within at b =
          let e : EntryFields = stream_says links ids place mini sector (length bytes) in
          let more : List ℕ = each_entry links ids (place + 1) (id + 1) (mini + short_pieces bytes)
          (sector + long_pieces bytes) cs in
          let fit : FieldsFit n e = stream-fits ids small place mini sector n bytes (omega arith)
          whole.0.valid.short (omega (arith, within.of_minis)) (omega (arith, within.of_sectors)) spelled.0 in (
            begins-here directory id n e more fit b,
            said-each depth ids small (place + 1) (id + 1) (mini + short_pieces bytes) (sector + long_pieces bytes)
                cs whole.2 spelled.1
                (record {
                  of_ids = omega (arith, within.of_ids);
                  of_minis = omega (arith, within.of_minis);
                  of_sectors = omega (arith, within.of_sectors);
                })
                (omega arith) (begins-behind directory id 1 (entry_bytes n e) more
                (length-entry_bytes n e fit.short fit.class_id) b),
          )
      said-each zero ids small place id mini sector (storage k n t cs) whole spelled within at b = absurd whole
      said-each (suc depth) ids small place id mini sector (storage k n t cs) whole spelled within at b =
          let e : EntryFields = storage_says links ids place id t in
          let inner : List ℕ = entries_below links id mini sector t in
          let more : List ℕ = each_entry links ids (place + 1) (id + 1 + entries t) (mini + mini_sectors t)
          (sector + long_sectors t) cs in
          let fit : FieldsFit n e = storage-fits ids small place id n t (omega arith) whole.0.valid.short
          (omega (arith, within.of_ids)) (class-spelled t spelled.0) (state-spelled t spelled.0) in
          let behind : Begins directory (id + 1) (inner ++ more) = begins-behind directory id 1 (entry_bytes n e)
          (inner ++ more) (length-entry_bytes n e fit.short fit.class_id) b in (
            begins-here directory id n e (inner ++ more) fit b,
            said-below depth id mini sector t whole.2 spelled.0
                (record {
                  of_ids = omega (arith, within.of_ids);
                  of_minis = omega (arith, within.of_minis);
                  of_sectors = omega (arith, within.of_sectors);
                })
                (begins-front directory (id + 1) inner more behind),
            said-each (suc depth) ids small (place + 1) (id + 1 + entries t) (mini + mini_sectors t)
                (sector + long_sectors t) cs whole.3 spelled.1
                (record {
                  of_ids = omega (arith, within.of_ids);
                  of_minis = omega (arith, within.of_minis);
                  of_sectors = omega (arith, within.of_sectors);
                })
                (omega arith) (begins-behind directory (id + 1) (entries t) inner more
                (length-below depth id mini sector t whole.2 spelled.0) behind),
          )
