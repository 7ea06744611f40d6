-- The tree that a file denotes is the one that its outline shows, each stream the bytes of its place.
use Rattle.std.proofs.Common.{◌≡◌, ◌≤◌, ◌+◌, ◌*◌, ◌/◌, ◌∙◌, ℕ, zero, suc, Bool, true, false, if◌then◌else◌, List}
use Rattle.std.proofs.Common.{length, map, nat_lt, take, refl, sym, ap, subst, arith}
use Rattle.std.proofs.lemmas.Cmp.{nat_list_cmp_total}
use Rattle.std.specs.List.{Contains}
use Rattle.cfb_chains.specs.Chain.{IsChainOf}
use Rattle.cfb_chains.specs.Fat.{followed, sectors_of}
use Rattle.cfb_chains.proofs.Blocks.{length_block}
use Rattle.cfb_entries.specs.Entries.{child, first_of, kind, name_of, size_of}
use Rattle.cfb_header.specs.Bytes.{block, joined, sector, u32_at}
use Rattle.cfb_names.specs.Names.{key, key_cmp}
use Rattle.cfb_entries.specs.Tree.{Tree, Children, tree, none, stream, storage}
use Rattle.tree_storage.specs.Change as change
use Rattle.tree_storage.specs.Change.{bytes, inner}
use Rattle.cfb_file.specs.Denotes.{AreChildren, Denotes, Holds, HoldsBytes, HoldsEach, IsLaidOut, Layout, Used}
use Rattle.cfb_file.specs.Denotes.{directory_of, entry, minis, sectors, store_for}
use Rattle.cfb_file.specs.Limits.{CUTOFF}
use Rattle.cfb_file.specs.Outline as model
use Rattle.cfb_file.specs.Outline.{nested, no_parts, outline, outline_of, outlines_of, part, sized, storage_part}
use Rattle.cfb_file.specs.Outline.{stream_part}
use Rattle.cfb_file.proofs.Lists.{sorted_unique}
use Rattle.cfb_file.proofs.Unique.{linked_unique}
use Rattle.read_outlines.specs.View.{outline_step, outline_view, part_step, part_view, parts_view, shown, shown_part}
use Rattle.read_outlines.specs.View.{shown_parts}
use Rattle.read_outlines.specs.declared.outline.Outline.{Outline, fold_out-Outline}
use Rattle.read_outlines.specs.declared.outline.Part.{Part}
use Rattle.read_outlines.specs.declared.outline.Place.{Place}
use Rattle.read_outlines.proofs.Outlines.{shown-nested, shown-out, shown-stream}
use Rattle.read_outlines.specs.Places as told
use Rattle.read_outlines.specs.Places.{AreInOrder, AreTold, IsPartTold, IsPlaced, IsTold}
use Rattle.read_outlines.proofs.Told.{view_nested}
use Rattle.read_streams.specs.Blocks.{held_at, stream_sectors}
use Rattle.read_streams.specs.Chains.{IsFatOf, begins_at, table_of, walked}
use Rattle.read_streams.specs.Tables.{AreTablesOf, read_by}
use Rattle.read_streams.specs.declared.tables.Tables.{Tables}
use Rattle.read_streams.proofs.Fronts.{chain_followed, table_over}
use Rattle.read_streams.proofs.Joined.{joined_cut}
use Rattle.read_streams.proofs.Minis.{sector_width, short_held, short_read}

-- ---- what stands first in an outline's parts
abbrev pub first_in : model.Parts → model.Part
first_in no_parts = sized 0
first_in (stream_part n size ps) = sized size
first_in (storage_part n o ps) = nested o

abbrev pub rest_in : model.Parts → model.Parts
rest_in no_parts = no_parts
rest_in (stream_part n size ps) = ps
rest_in (storage_part n o ps) = ps

pub first_is : (n : List ℕ) (p : model.Part) (ps : model.Parts) → first_in (part n p ps) ≡ p
first_is n (sized size) ps = refl
first_is n (nested o) ps = refl

pub rest_is : (n : List ℕ) (p : model.Part) (ps : model.Parts) → rest_in (part n p ps) ≡ ps
rest_is n (sized size) ps = refl
rest_is n (nested o) ps = refl

pub view_out : (o : Outline) → outline_view o ≡ outline o.class o.state (parts_view o.parts.items)
view_out o = fold_out-Outline model.Part model.Outline part_step outline_step o

-- ---- an outline that tells of a directory's entries, and the tree that these hold
-- the entries that it tells of are the children
pub ids_same : (file : List ℕ) (l : Layout) (id : ℕ) (ids ids' : List ℕ) → AreInOrder (directory_of file l) id ids
    → AreChildren file l id ids' → ids ≡ ids'
ids_same file l id ids ids' h i =
    let top : ℕ = child (entry file l id) in
    let e : h.reached ≡ i.reached = linked_unique (directory_of file l) top top h.reached i.reached refl h.linked
    i.linked in
    let P : ℕ → List ℕ → Type 0 = λ z xs. Contains xs z in
    sorted_unique (λ n. key (name_of (entry file l n))) key_cmp nat_list_cmp_total ids ids' h.ordered i.ordered
    (λ z c. (i.same z).0 (subst (P z) e ((h.same z).1 c)))
    (λ z c. (h.same z).0 (subst (P z) (sym e) ((i.same z).1 c)))

module _ (file : List ℕ) (l : Layout) (content : Place → List ℕ)
    (at : (place : Place) (ns : List ℕ) → IsChainOf (store_for file l place.size) place.first place.size ns
    → content place ≡ take place.size (joined (store_for file l place.size).piece ns)) where
  stream_shown : (id : ℕ) (p : Part) (b ns : List ℕ) → IsPartTold (directory_of file l) id p
      → kind (entry file l id) ≡ 2 → HoldsBytes file l id ns b → shown_part content p ≡ bytes b
  stream_shown id p b ns (told.lies x place k f s) two h =
      let start : ℕ = first_of (entry file l id) in
      let size : ℕ = size_of (entry file l id) in
      let chain : IsChainOf (store_for file l place.size) place.first place.size ns =
      subst (λ (y : ℕ). IsChainOf (store_for file l place.size) y place.size ns) (sym f)
      (subst (λ (z : ℕ). IsChainOf (store_for file l z) start z ns) (sym s) h.chain) in
      let held : b ≡ take place.size (joined (store_for file l place.size).piece ns) =
      subst (λ (z : ℕ). b ≡ take z (joined (store_for file l z).piece ns)) (sym s) h.content in
      shown-stream content place ∙ ap (λ xs. bytes xs) (at place ns chain ∙ sym held)
  stream_shown id p b ns (told.holds x o k is) two h = absurd (omega (arith, k, two))

  mutual
    storage_shown : (id : ℕ) (o : Outline) (t : Tree) (u : Used) → IsTold (directory_of file l) id o
        → outline_view o ≡ outline_of t → Holds file l id t u → shown content o ≡ t
    storage_shown id o (tree class state cs) u (told.storage x y ids order each) view h =
        let same : ids ≡ h.2.0 = ids_same file l id ids h.2.0 order h.2.1 in
        let v : outline o.class o.state (parts_view o.parts.items) ≡ outline class state (outlines_of cs) =
        sym (view_out o) ∙ view in
        let c : o.class ≡ class = cc in
        let s : o.state ≡ state = cc in
        let p : parts_view o.parts.items ≡ outlines_of cs = cc in
        let ps : shown_parts content o.parts.items ≡ cs = each_shown ids o.parts.items cs u each p
        (subst (λ (xs : List ℕ). HoldsEach file l xs cs u) (sym same) h.2.2) in
        shown-out content o ∙ (λ i. tree (c i) (s i) (ps i))

    each_shown : (ids : List ℕ) (ps : List (List ℕ × Part)) (cs : Children) (u : Used)
        → AreTold (directory_of file l) ids ps → parts_view ps ≡ outlines_of cs → HoldsEach file l ids cs u
        → shown_parts content ps ≡ cs
    each_shown ids ps none u told.none view h = refl
    each_shown ids ps (stream k n b cs) u told.none view h = absurd h
    each_shown ids ps (storage k n t cs) u told.none view h = absurd h
    each_shown ids ps none u (told.more id rest name p parts named tells each) view h = absurd h
    each_shown ids ps (stream k n b cs) u (told.more id rest name p parts named tells each) view h =
        let s : shown_part content p ≡ bytes b = stream_shown id p b h.2.0 tells h.0 h.2.2 in
        let called : name ≡ n = named.units ∙ sym h.1.named.units in
        let under : key name ≡ k = ap key called ∙ sym h.1.under_key in
        let behind : parts_view parts ≡ outlines_of cs = sym (rest_is name (part_view p) (parts_view parts))
        ∙ ap rest_in view in
        let others : shown_parts content parts ≡ cs = each_shown rest parts cs h.2.1 each behind h.2.4 in
        λ i. change.child (under i) (called i, s i) (others i)
    each_shown ids ps (storage k n t cs) u (told.more id rest name p parts named tells each) view h =
        let front : part_view p ≡ nested (outline_of t) = sym (first_is name (part_view p) (parts_view parts))
        ∙ ap first_in view in
        let s : shown_part content p ≡ inner t = inner_shown id p t h.2.0 tells front h.0 h.2.2 in
        let called : name ≡ n = named.units ∙ sym h.1.named.units in
        let under : key name ≡ k = ap key called ∙ sym h.1.under_key in
        let behind : parts_view parts ≡ outlines_of cs = sym (rest_is name (part_view p) (parts_view parts))
        ∙ ap rest_in view in
        let others : shown_parts content parts ≡ cs = each_shown rest parts cs h.2.1 each behind h.2.4 in
        λ i. change.child (under i) (called i, s i) (others i)

    inner_shown : (id : ℕ) (p : Part) (t : Tree) (u : Used) → IsPartTold (directory_of file l) id p
        → part_view p ≡ nested (outline_of t) → kind (entry file l id) ≡ 1 → Holds file l id t u
        → shown_part content p ≡ inner t
    inner_shown id p t u (told.lies x place k f s) view one h = absurd (omega (arith, k, one))
    inner_shown id p t u (told.holds x o k is) view one h =
        let v : nested (outline_view o) ≡ nested (outline_of t) = sym (view_nested o) ∙ view in
        let w : outline_view o ≡ outline_of t = cc in
        shown-nested content o ∙ ap (λ x. inner x) (storage_shown id o t u is w h)

-- ---- what lies at a place
module _ (file : List ℕ) (l : Layout) where
  piece_wide : (n : ℕ) → length ((sectors file l).piece n) ≡ 512
  unfolding sectors_of
  piece_wide n = length_block 512 file (512 + 512 * n)

  pieces_joined : (ns : List ℕ) → joined (sectors file l).piece ns ≡ joined (sector file) ns
  unfolding sectors_of
  pieces_joined ns = refl

  long_held : (first size : ℕ) (ns : List ℕ) → IsChainOf (sectors file l) first size ns
      → take size (joined (sector file) (followed (table_of (sectors file l)) ((size + 511) / 512) first))
      ≡ take size (joined (sectors file l).piece ns)
  long_held first zero ns chain = refl
  long_held first (suc k) ns chain =
      let size : ℕ = suc k in
      let count : ℕ = (suc k + 511) / 512 in
      let room : suc k ≤ 512 * length ns = subst (λ (w : ℕ). suc k ≤ w * length ns) (sector_width file l)
      chain.enough in
      let enough : suc k ≤ 512 * ((suc k + 511) / 512) = omega arith in
      ap (take size) (sym (pieces_joined (followed (table_of (sectors file l)) count first)))
      ∙ ap (λ xs. take size (joined (sectors file l).piece xs)) (chain_followed file l first size ns chain)
      ∙ sym (joined_cut 512 (sectors file l).piece piece_wide size count ns (omega (arith, room)) enough)

  held_by : IsLaidOut file l → (short : Bool) (first size : ℕ) (ns : List ℕ)
      → IsChainOf (if short then minis file l else sectors file l) first size ns
      → take size (if short then joined (block 64 file)
      (map (begins_at (stream_sectors file l)) (walked (minis file l).next first ((size + 63) / 64)))
      else joined (sector file) (followed (table_of (sectors file l)) ((size + 511) / 512) first))
      ≡ take size (joined (if short then minis file l else sectors file l).piece ns)
  held_by laid true first size ns chain = sym (short_held file l laid first size ns chain)
  held_by laid false first size ns chain = long_held first size ns chain

-- the blocks that were read are those that lie at a place
module _ (file : List ℕ) (l : Layout) (place : Place) where
  abbrev by_test : Bool → List ℕ
  by_test b = take place.size
      (if b then joined (block 64 file)
      (map (begins_at (stream_sectors file l)) (walked (minis file l).next place.first ((place.size + 63) / 64)))
      else joined (sector file) (followed (table_of (sectors file l)) ((place.size + 511) / 512) place.first))

  pub short_lies : (places : List ℕ) → nat_lt place.size CUTOFF ≡ true
      → places ≡ map (begins_at (stream_sectors file l))
      (walked (minis file l).next place.first ((place.size + 63) / 64))
      → take place.size (joined (block 64 file) places) ≡ held_at file l place
  short_lies places short is = ap (λ xs. take place.size (joined (block 64 file) xs)) is ∙ ap by_test (sym short)

  pub long_lies : (table ns : List ℕ) → IsFatOf file l table → nat_lt place.size CUTOFF ≡ false
      → ns ≡ followed table ((place.size + 511) / 512) place.first
      → take place.size (joined (sector file) ns) ≡ held_at file l place
  long_lies table ns o long is =
      ap (λ xs. take place.size (joined (sector file) xs))
      (is ∙ ap (λ xs. followed xs ((place.size + 511) / 512) place.first)
      (table_over file l table o))
      ∙ ap by_test (sym long)

-- the tree that a file denotes is shown by its outline
pub shown_is : (file : List ℕ) (t : Tree) (o : Outline) (p : IsPlaced file t o)
    → shown (held_at file p.denotes.layout) o ≡ t
shown_is file t o p =
    let d : Denotes file t = p.denotes in
    storage_shown file d.layout (held_at file d.layout)
    (λ place ns chain. held_by file d.layout d.laid_out (nat_lt place.size 4096) place.first place.size ns
    chain)
    0 o t d.used p.told p.outlined d.holds

-- ---- what is read by tables
module _ (file : List ℕ) (l : Layout) (tables : Tables) (are : AreTablesOf file l tables) where
  read_held : IsLaidOut file l → (short : Bool) (first size : ℕ) (ns : List ℕ)
      → IsChainOf (if short then minis file l else sectors file l) first size ns
      → take size (if short then joined (block 64 (joined (sector file) tables.mini_stream.items))
      (map (λ n. 64 * n) (walked (λ n. u32_at tables.mini_fat.items (4 * n)) first ((size + 63) / 64)))
      else joined (sector file) (followed tables.fat.items ((size + 511) / 512) first))
      ≡ take size (joined (if short then minis file l else sectors file l).piece ns)
  read_held laid true first size ns chain =
      (λ i. take size (joined (block 64 (joined (sector file) (are.stream i)))
      (map (λ n. 64 * n) (walked (are.next i) first ((size + 63) / 64)))))
      ∙ sym (short_read file l laid first size ns chain)
  read_held laid false first size ns chain =
      ap (λ xs. take size (joined (sector file) (followed xs ((size + 511) / 512) first)))
      (table_over file l tables.fat.items are.fat)
      ∙ long_held file l first size ns chain

-- the same tree is shown by its outline, each stream what is read by the file's tables
pub shown_read : (file : List ℕ) (t : Tree) (o : Outline) (p : IsPlaced file t o) (tables : Tables)
    → AreTablesOf file p.denotes.layout tables → shown (read_by file tables) o ≡ t
shown_read file t o p tables are =
    let d : Denotes file t = p.denotes in
    storage_shown file d.layout (read_by file tables)
    (λ place ns chain. read_held file d.layout tables are d.laid_out (nat_lt place.size 4096) place.first place.size
    ns chain)
    0 o t d.used p.told p.outlined d.holds
