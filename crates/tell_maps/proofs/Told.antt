-- The sectors of the streams of which an outline tells are those that the streams of the tree take.
use Rattle.std.proofs.Common.{◌≡◌, ◌≢◌, ◌<◌, ◌≤◌, ◌+◌, ◌++◌, ◌∙◌, ℕ, zero, suc, Bool, true, false, if◌then◌else◌}
use Rattle.std.proofs.Common.{List, [], ◌∷◌, length, get_or, drop, nat_lt, refl, sym, ap, subst, arith}
use Rattle.std.proofs.lemmas.List.{append-nil, drop_all, drop_more}
use Rattle.cfb_chains.specs.Chain.{END_OF_CHAIN, IsChain, IsChainOf, Store}
use Rattle.cfb_chains.specs.Fat.{AreSame, followed}
use Rattle.cfb_chains.proofs.Chains.{leads_same}
use Rattle.cfb_chains.proofs.Followed.{followed_chain}
use Rattle.cfb_entries.specs.Entries.{first_of, kind, size_of}
use Rattle.cfb_entries.specs.Tree.{Tree, Children, tree, none, stream, storage}
use Rattle.cfb_file.specs.Denotes.{Holds, HoldsEach, Layout, Used, directory_of, entry, minis, sectors, store_for}
use Rattle.cfb_file.specs.Denotes.{taken}
use Rattle.cfb_file.specs.Limits.{CUTOFF}
use Rattle.read_outlines.specs.declared.outline.Outline.{Outline, fold_out-Outline}
use Rattle.read_outlines.specs.declared.outline.Part.{Part, fold-roll-Part}
use Rattle.read_outlines.specs.declared.outline.Part.TheOpen.{Part-F}
use Rattle.read_outlines.specs.declared.outline.Part.TheVariants as variant
use Rattle.read_outlines.specs.declared.outline.Part.TheViews.{rolls-Storage, rolls-Stream}
use Rattle.read_outlines.specs.declared.outline.Place.{Place}
use Rattle.read_outlines.specs.Places as told
use Rattle.read_outlines.specs.Places.{AreTold, IsPartTold, IsTold}
use Rattle.read_streams.specs.Chains.{IsFatOf}
use Rattle.read_streams.proofs.Shown.{ids_same}
use Rattle.tell_maps.specs.Streams.{chained, outline_sectors, outline_step, part_sectors, part_step, parts_sectors}
use Rattle.tell_maps.specs.Streams.{place_sectors}
use Rattle.tell_maps.proofs.Rows.{behind}

-- a store that leads as a table says
abbrev by_table : Store → List ℕ → Store
by_table s table = record { count = length table; width = s.width; piece = s.piece; next = λ n. get_or table n 0 }

-- what a stream takes, short or not
abbrev kept : Bool → ℕ → List ℕ → Used
kept short id ns = if short then record { ids = id ∷ []; sectors = []; minis = ns }
    else record { ids = id ∷ []; sectors = ns; minis = [] }

-- ---- what the sectors of an outline are, part by part
module _ (table : List ℕ) where
  stream_out : (place : Place) → part_sectors table (variant.Stream place) ≡ place_sectors table place.first place.size
  stream_out place = ap (part_sectors table) (sym (rolls-Stream place))
      ∙ fold-roll-Part (List ℕ) (List ℕ) (part_step table) (outline_step table) (Part-F.Stream place)

  nested_out : (o : Outline) → part_sectors table (variant.Storage o) ≡ outline_sectors table o
  nested_out o = ap (part_sectors table) (sym (rolls-Storage o))
      ∙ fold-roll-Part (List ℕ) (List ℕ) (part_step table) (outline_step table) (Part-F.Storage o)

  outline_out : (o : Outline) → outline_sectors table o ≡ parts_sectors table o.parts.items
  outline_out o = fold_out-Outline (List ℕ) (List ℕ) (part_step table) (outline_step table) o

  -- ---- how they are gathered
  pub chained_some : (start bytes count : ℕ) → bytes ≢ 0 → count ≡ length table
      → followed table count start ≡ chained table start bytes
  chained_some start zero count some is = absurd (some refl)
  chained_some start (suc bytes) count some is = ap (λ n. followed table n start) is

  -- one more part
  pub gathered : (before after whole : List ℕ) (items parts : List (List ℕ × Part)) (k : ℕ) (p : List ℕ × Part)
      → items ≡ parts → k < length items → get_or items k p ≡ p → after ≡ before ++ part_sectors table p.1
      → before ++ parts_sectors table (drop k parts) ≡ whole → after ++ parts_sectors table (drop (k + 1) parts) ≡ whole
  gathered before after whole items parts k p same some here written so =
      let cut : drop k parts ≡ p ∷ drop (k + 1) parts =
      subst (λ (xs : List (List ℕ × Part)). drop k xs ≡ p ∷ drop (k + 1) xs) same
      (drop_more items k p some ∙ ap (λ x. x ∷ drop (k + 1) items) here) in
      behind before after (part_sectors table p.1) (parts_sectors table (drop (k + 1) parts)) written
      ∙ ap (λ xs. before ++ parts_sectors table xs) (sym cut) ∙ so

  pub all_gathered : (o : Outline) (items : List (List ℕ × Part)) (k : ℕ) (before after : List ℕ)
      → items ≡ o.parts.items → length items ≤ k
      → after ++ parts_sectors table (drop k o.parts.items) ≡ before ++ parts_sectors table o.parts.items
      → after ≡ before ++ outline_sectors table o
  all_gathered o items k before after same all so =
      let none : drop k o.parts.items ≡ [] = drop_all k o.parts.items
      (subst (λ (xs : List (List ℕ × Part)). length xs ≤ k) same all) in
      sym (append-nil after) ∙ ap (λ xs. after ++ parts_sectors table xs) (sym none) ∙ so
      ∙ ap (λ ns. before ++ ns) (sym (outline_out o))

-- ---- the FAT's entries
module _ (file : List ℕ) (l : Layout) (table : List ℕ) (o : IsFatOf file l table) where
  same_table : AreSame (sectors file l) (by_table (sectors file l) table)
  same_table = record {
    count = sym o.count;
    width = refl;
    piece = λ n lt. refl;
    next = λ n lt. sym (o.next n (subst (λ c. n < c) (sym o.count) lt));
  }

  -- a whole chain
  pub chain_read : (start bytes : ℕ) (ns : List ℕ) → IsChain (sectors file l) start bytes ns
      → followed table (length table) start ≡ ns
  chain_read start bytes ns h =
      followed_chain table start ns o.few
      (leads_same (sectors file l) (by_table (sectors file l) table) same_table start ns END_OF_CHAIN
      (λ k d lt. (h.present k d lt).1) h.linked)
      (λ k d lt. subst (λ c. get_or ns k d < c) (sym o.count) (h.present k d lt).1)

  pub chain_of_read : (start bytes : ℕ) (ns : List ℕ) → IsChainOf (sectors file l) start bytes ns
      → chained table start bytes ≡ ns
  chain_of_read start zero ns h = sym h
  chain_of_read start (suc bytes) ns h = chain_read start (suc bytes) ns h

  -- ---- an outline that tells of a directory's entries, and the tree that these hold
  stream_read : (short : Bool) (id first size : ℕ) (ns : List ℕ)
      → IsChainOf (if short then minis file l else sectors file l) first size ns
      → (if short then [] else chained table first size) ≡ (kept short id ns).sectors
  stream_read true id first size ns h = refl
  stream_read false id first size ns h = chain_of_read first size ns h

  stream_told : (id : ℕ) (p : Part) (ns : List ℕ) → IsPartTold (directory_of file l) id p → kind (entry file l id) ≡ 2
      → IsChainOf (store_for file l (size_of (entry file l id))) (first_of (entry file l id))
      (size_of (entry file l id)) ns
      → part_sectors table p ≡ (taken id (size_of (entry file l id)) ns).sectors
  stream_told id p ns (told.lies x place k f s) two h =
      let size : ℕ = size_of (entry file l id) in
      stream_out table place ∙ (λ i. place_sectors table (f i) (s i))
      ∙ stream_read (nat_lt size CUTOFF) id (first_of (entry file l id)) size ns h
  stream_told id p ns (told.holds x inner k is) two h = absurd (omega (arith, k, two))

  mutual
    pub storage_told : (id : ℕ) (outline : Outline) (t : Tree) (u : Used) → IsTold (directory_of file l) id outline
        → Holds file l id t u → outline_sectors table outline ≡ u.sectors
    storage_told id outline (tree class state cs) u (told.storage x y ids order each) h =
        let same : ids ≡ h.2.0 = ids_same file l id ids h.2.0 order h.2.1 in
        outline_out table outline
        ∙ each_told ids outline.parts.items cs u each
        (subst (λ (xs : List ℕ). HoldsEach file l xs cs u) (sym same) h.2.2)

    each_told : (ids : List ℕ) (ps : List (List ℕ × Part)) (cs : Children) (u : Used)
        → AreTold (directory_of file l) ids ps → HoldsEach file l ids cs u → parts_sectors table ps ≡ u.sectors
    each_told ids ps none u told.none h = ap (λ (z : Used). z.sectors) (sym h)
    each_told ids ps (stream k n b cs) u told.none h = absurd h
    each_told ids ps (storage k n t cs) u told.none h = absurd h
    each_told ids ps none u (told.more id rest name p parts named tells each) h = absurd h
    each_told ids ps (stream k n b cs) u (told.more id rest name p parts named tells each) h =
        let front : part_sectors table p ≡ (taken id (size_of (entry file l id)) h.2.0).sectors =
        stream_told id p h.2.0 tells h.0 h.2.2.chain in
        let others : parts_sectors table parts ≡ h.2.1.sectors = each_told rest parts cs h.2.1 each h.2.4 in
        (λ i. front i ++ others i) ∙ ap (λ (z : Used). z.sectors) (sym h.2.3)
    each_told ids ps (storage k n t cs) u (told.more id rest name p parts named tells each) h =
        let front : part_sectors table p ≡ h.2.0.sectors = inner_told id p t h.2.0 tells h.0 h.2.2 in
        let others : parts_sectors table parts ≡ h.2.1.sectors = each_told rest parts cs h.2.1 each h.2.4 in
        (λ i. front i ++ others i) ∙ ap (λ (z : Used). z.sectors) (sym h.2.3)

    inner_told : (id : ℕ) (p : Part) (t : Tree) (u : Used) → IsPartTold (directory_of file l) id p
        → kind (entry file l id) ≡ 1 → Holds file l id t u → part_sectors table p ≡ u.sectors
    inner_told id p t u (told.lies x place k f s) one h = absurd (omega (arith, k, one))
    inner_told id p t u (told.holds x inner k is) one h = nested_out table inner ∙ storage_told id inner t u is h
