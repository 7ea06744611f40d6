-- A file in which the entries and streams of a tree lie holds the tree.
use Rattle.std.proofs.Common.{◌≡◌, ◌<◌, ◌≤◌, ◌+◌, ◌*◌, inl, inr, ℕ, zero, suc, Bool, true, false, nat_lt, List, [], ◌∷◌}
use Rattle.std.proofs.Common.{◌++◌, length, take, map, get_or, slice_index, refl, sym, ◌∙◌, ap, subst, arith}
use Rattle.std.proofs.lemmas.Bool.{cases_lt, lt-ltb, le-ltb}
use Rattle.std.specs.Prelude.{if◌then◌else◌}
use Rattle.std.specs.List.{range_with_len}
use Rattle.std.specs.List.Sorted.{IsStrictlySortedBy}
use Rattle.cfb_header.specs.Bytes.{joined}
use Rattle.cfb_chains.specs.Chain.{Store, IsChainOf}
use Rattle.cfb_names.specs.Names.{key, key_cmp}
use Rattle.cfb_entries.specs.Entries.{entry_at, left, right, child, class_of, state_of, first_of, size_of, name_of}
use Rattle.cfb_entries.specs.Entries.{AreLinked, NO_STREAM}
use Rattle.cfb_entries.proofs.Trees.{Reached, tree_reaches}
use Rattle.cfb_entries.specs.Tree.{Tree, Children, tree, none, stream, storage, keys}
use Rattle.cfb_entries.specs.Whole.{AreTrees, IsTree}
use Rattle.cfb_file.specs.Need.{pieces, entries, entries_of, over_streams_of, mini_sectors, long_sectors, short_pieces}
use Rattle.cfb_file.specs.Need.{long_pieces}
use Rattle.cfb_layout.specs.Image.{start}
use Rattle.cfb_file.specs.Denotes.{Layout, directory_of, minis, sectors, entry, store_for, HoldsBytes, AreChildren}
use Rattle.cfb_file.specs.Denotes.{Holds, HoldsEach, Used, nothing, both, taken, within}
use Rattle.cfb_layout.specs.Directory.{Siblings, AreBalanced, ids_from, linked, first_of_stream, child_of, class_in}
use Rattle.cfb_layout.specs.Directory.{state_in, stream_says, short_streams, short_streams_of, long_streams}
use Rattle.cfb_layout.specs.Directory.{long_streams_of}
use Rattle.cfb_layout.proofs.Tables.{range-append}
use Rattle.cfb_layout.proofs.ContentsKeys.{keys-ordered}
use Rattle.cfb_layout.proofs.ContentsIds.{ids-below, ids-increase, count-le, reached-same}
use Rattle.cfb_layout.proofs.ContentsRead.{Says, SaidBelow, AreSaid}
use Rattle.cfb_layout.proofs.ContentsPieces.{IsStoreFrom, width-64, width-512}
use Rattle.cfb_layout.proofs.ContentsNext.{AreNext, next-chain, next-content, next-list, minis-past, sectors-past}
use Rattle.cfb_layout.proofs.ContentsNext.{minis-within, sectors-within, minis-behind, sectors-behind, short-is}
use Rattle.cfb_layout.proofs.ContentsNext.{short-none, long-is, long-none, shorts-with, longs-with}

module _ (file : List ℕ) (l : Layout) (links : ℕ → Siblings) (balanced : AreBalanced links) (many : ℕ)
    (inside : 128 * many ≤ length (directory_of file l)) (few : many ≤ NO_STREAM) where
  abbrev d : List ℕ
  d = directory_of file l

  -- the links of siblings, as they are read
  left-said : (ids : List ℕ) (place id mini sector : ℕ) (cs : Children) → AreSaid links d ids place id mini sector cs
      → (k : ℕ) → k < length (ids_from id cs) → left (entry_at d (get_or (ids_from id cs) k 0))
      ≡ linked ids (slice_index (links (length ids)).left (place + k))
  left-said ids place id mini sector none said k lt = absurd (omega arith)
  left-said ids place id mini sector (stream q n b cs) said zero lt =
      let e : place + 0 ≡ place = omega arith in said.0.to_left
      ∙ ap (λ p. linked ids (slice_index (links (length ids)).left p)) (sym e)
  left-said ids place id mini sector (stream q n b cs) said (suc k) lt =
      let e : place + 1 + k ≡ place + suc k = omega arith in
      left-said ids (place + 1) (id + 1) (mini + short_pieces b) (sector + long_pieces b) cs said.1 k (omega arith)
      ∙ ap (λ p. linked ids (slice_index (links (length ids)).left p)) e
  left-said ids place id mini sector (storage q n t cs) said zero lt =
      let e : place + 0 ≡ place = omega arith in said.0.to_left
      ∙ ap (λ p. linked ids (slice_index (links (length ids)).left p)) (sym e)
  left-said ids place id mini sector (storage q n t cs) said (suc k) lt =
      let e : place + 1 + k ≡ place + suc k = omega arith in
      left-said ids (place + 1) (id + 1 + entries t) (mini + mini_sectors t) (sector + long_sectors t) cs said.2 k
      (omega arith)
      ∙ ap (λ p. linked ids (slice_index (links (length ids)).left p)) e

  right-said : (ids : List ℕ) (place id mini sector : ℕ) (cs : Children) → AreSaid links d ids place id mini sector cs
      → (k : ℕ) → k < length (ids_from id cs) → right (entry_at d (get_or (ids_from id cs) k 0))
      ≡ linked ids (slice_index (links (length ids)).right (place + k))
  right-said ids place id mini sector none said k lt = absurd (omega arith)
  right-said ids place id mini sector (stream q n b cs) said zero lt =
      let e : place + 0 ≡ place = omega arith in said.0.to_right
      ∙ ap (λ p. linked ids (slice_index (links (length ids)).right p)) (sym e)
  right-said ids place id mini sector (stream q n b cs) said (suc k) lt =
      let e : place + 1 + k ≡ place + suc k = omega arith in
      right-said ids (place + 1) (id + 1) (mini + short_pieces b) (sector + long_pieces b) cs said.1 k (omega arith)
      ∙ ap (λ p. linked ids (slice_index (links (length ids)).right p)) e
  right-said ids place id mini sector (storage q n t cs) said zero lt =
      let e : place + 0 ≡ place = omega arith in said.0.to_right
      ∙ ap (λ p. linked ids (slice_index (links (length ids)).right p)) (sym e)
  right-said ids place id mini sector (storage q n t cs) said (suc k) lt =
      let e : place + 1 + k ≡ place + suc k = omega arith in
      right-said ids (place + 1) (id + 1 + entries t) (mini + mini_sectors t) (sector + long_sectors t) cs said.2 k
      (omega arith)
      ∙ ap (λ p. linked ids (slice_index (links (length ids)).right p)) e

  -- the names of siblings, as keys
  keys-said : (depth : ℕ) (ids : List ℕ) (place id mini sector : ℕ) (cs : Children) → AreTrees depth cs
      → AreSaid links d ids place id mini sector cs
      → map (λ n. key (name_of (entry file l n))) (ids_from id cs) ≡ keys cs
  keys-said depth ids place id mini sector none whole said = refl
  keys-said depth ids place id mini sector (stream k n b cs) whole said =
      let first : key (name_of (entry file l id)) ≡ k = ap key (sym said.0.named.units) ∙ sym whole.0.under_key in
      let rest : map (λ n. key (name_of (entry file l n))) (ids_from (id + 1) cs) ≡ keys cs =
      keys-said depth ids (place + 1) (id + 1) (mini + short_pieces b) (sector + long_pieces b) cs whole.2 said.1 in
      (λ i. first i ∷ rest i)
  keys-said zero ids place id mini sector (storage k n t cs) whole said = absurd whole
  keys-said (suc depth) ids place id mini sector (storage k n t cs) whole said =
      let first : key (name_of (entry file l id)) ≡ k = ap key (sym said.0.named.units) ∙ sym whole.0.under_key in
      let rest : map (λ n. key (name_of (entry file l n))) (ids_from (id + 1 + entries t) cs) ≡ keys cs =
      keys-said (suc depth) ids (place + 1) (id + 1 + entries t) (mini + mini_sectors t) (sector + long_sectors t)
      cs whole.3 said.2 in
      (λ i. first i ∷ rest i)

  reached-from : (id mini sector : ℕ) (cs : Children) → AreSaid links d (ids_from id cs) 0 id mini sector cs
      → id + entries_of cs ≤ many
      → Reached d (slice_index (ids_from id cs)) 0 (length (ids_from id cs)) (links (length (ids_from id cs))).top
  reached-from id mini sector cs said small =
      let ids : List ℕ = ids_from id cs in
      let n : ℕ = length ids in
      tree_reaches d (slice_index ids) (links n).left (links n).right n (record {
        few = omega (arith, count-le id cs);
        somebody = λ k lt e. omega (arith, ids-below id cs k lt);
        inside = λ k lt. omega (arith, ids-below id cs k lt);
        lefts_held = λ k lt. let z : 0 + k ≡ k = omega arith in left-said ids 0 id mini sector cs said k lt
            ∙ ap (λ p. linked ids (slice_index (links n).left p)) z;
        rights_held = λ k lt. let z : 0 + k ≡ k = omega arith in right-said ids 0 id mini sector cs said k lt
            ∙ ap (λ p. linked ids (slice_index (links n).right p)) z;
        apart = λ j k less lt e. omega (arith, ids-increase id cs j k less lt);
      }) (links n).top (balanced n)

  children-are : (depth parent id mini sector : ℕ) (cs : Children) → AreTrees depth cs
      → AreSaid links d (ids_from id cs) 0 id mini sector cs → id + entries_of cs ≤ many
      → child (entry file l parent) ≡ linked (ids_from id cs) (links (length (ids_from id cs))).top
      → AreChildren file l parent (ids_from id cs)
  children-are depth parent id mini sector cs whole said small top =
      let ids : List ℕ = ids_from id cs in
      let r : Reached d (slice_index ids) 0 (length ids) (links (length ids)).top =
      reached-from id mini sector cs said small in
      record {
        reached = r.ids;
        linked = subst (λ (z : ℕ). AreLinked d z r.ids) (sym top) r.linked;
        once = r.once;
        same = reached-same d ids (links (length ids)).top r;
        ordered = subst (λ (ks : List (List ℕ)). IsStrictlySortedBy key_cmp ks)
            (sym (keys-said depth ids 0 id mini sector cs whole said)) (keys-ordered depth cs whole);
      }

  -- the bytes of a stream
  holds-in : (s : Store) (id first : ℕ) (ns b : List ℕ) → store_for file l (length b) ≡ s
      → first_of (entry file l id) ≡ first → size_of (entry file l id) ≡ length b
      → IsChainOf s first (length b) ns → b ≡ take (length b) (joined s.piece ns) → HoldsBytes file l id ns b
  holds-in s id first ns b here starts sized chain content =
      let where_it_is : store_for file l (size_of (entry file l id)) ≡ s = ap (store_for file l) sized ∙ here in
      let c : IsChainOf s first (size_of (entry file l id)) ns = subst (λ (z : ℕ). IsChainOf s first z ns)
      (sym sized) chain in
      let c' : IsChainOf s (first_of (entry file l id)) (size_of (entry file l id)) ns =
      subst (λ (z : ℕ). IsChainOf s z (size_of (entry file l id)) ns) (sym starts) c in
      record {
        chain = subst (λ (z : Store). IsChainOf z (first_of (entry file l id)) (size_of (entry file l id)) ns)
            (sym where_it_is) c';
        content = content ∙ ap (λ z. take z (joined s.piece ns)) (sym sized)
            ∙ ap (λ z. take (size_of (entry file l id)) (joined z.piece ns)) (sym where_it_is);
      }

  -- a stream's sectors and bytes, and what it takes
  record StreamHeld (id mini sector : ℕ) (b : List ℕ) : Type 0 where
    pub ns : List ℕ
    pub holds : HoldsBytes file l id ns b
    pub ids : (taken id (size_of (entry file l id)) ns).ids ≡ id ∷ []
    pub minis_taken : (taken id (size_of (entry file l id)) ns).minis ≡ range_with_len mini (short_pieces b)
    pub sectors_taken : (taken id (size_of (entry file l id)) ns).sectors ≡ range_with_len sector (long_pieces b)

  taken-is : (id size size' : ℕ) (ns : List ℕ) (c : Bool) → size ≡ size' → nat_lt size' 4096 ≡ c
      → taken id size ns ≡ (if c then record { ids = id ∷ []; sectors = []; minis = ns }
      else record { ids = id ∷ []; sectors = ns; minis = [] })
  taken-is id size size' ns c e f = ap (λ z. taken id z ns) e
      ∙ ap (λ z. if z then record { ids = id ∷ []; sectors = []; minis = ns }
      else record { ids = id ∷ []; sectors = ns; minis = [] }) f

  module _ (mini_table mini_bytes : List ℕ) (mini_count : ℕ)
      (mini_store : IsStoreFrom (minis file l) 64 0 mini_table mini_bytes mini_count)
      (base : ℕ) (table bytes : List ℕ) (count : ℕ)
      (store : IsStoreFrom (sectors file l) 512 base table bytes count) where
    abbrev NextMini : ℕ → List (List ℕ) → Type 0
    NextMini at bs = AreNext 64 0 mini_table mini_bytes mini_count at bs

    abbrev NextSector : ℕ → List (List ℕ) → Type 0
    NextSector at bs = AreNext 512 base table bytes count at bs

    short-held : (ids : List ℕ) (place id mini sector : ℕ) (k n b : List ℕ) (cs : Children) (more : List (List ℕ))
        → length b < 4096
        → Says n (stream_says links ids place mini sector (length b)) (entry file l id)
        → NextMini mini (short_streams_of (stream k n b cs) ++ more)
        → StreamHeld id mini sector b
    short-held ids place id mini sector k n b cs more short says next =
        let rest : List (List ℕ) = short_streams_of cs ++ more in
        let here : NextMini mini (b ∷ rest) = next-list 64 width-64 0 mini_table mini_bytes mini_count mini
        (short_streams_of (stream k n b cs) ++ more) (b ∷ rest)
        (ap (λ bs. bs ++ more) (shorts-with k n b cs short)) next in
        let m : ℕ = pieces 64 (length b) in
        let ns : List ℕ = range_with_len mini m in
        let first : first_of_stream mini sector (length b) ≡ start mini m =
        ap (λ c. if c then start mini m else start sector (pieces 512 (length b)))
        (lt-ltb (length b) 4096 short) in
        let is : taken id (size_of (entry file l id)) ns ≡ record { ids = id ∷ []; sectors = []; minis = ns } =
        taken-is id (size_of (entry file l id)) (length b) ns true says.sized (lt-ltb (length b) 4096 short) in
        record {
          ns = ns;
          holds = holds-in (minis file l) id (start mini m) ns b
              (ap (λ c. if c then minis file l else sectors file l) (lt-ltb (length b) 4096 short))
              (says.starts ∙ first) says.sized
              (next-chain 64 width-64 0 mini_table mini_bytes mini_count (minis file l) mini_store mini b rest here)
              (next-content 64 width-64 0 mini_table mini_bytes mini_count (minis file l) mini_store mini b rest here);
          ids = ap (λ u. u.ids) is;
          minis_taken = ap (λ u. u.minis) is ∙ ap (range_with_len mini) (sym (short-is b short));
          sectors_taken = ap (λ u. u.sectors) is ∙ ap (range_with_len sector) (sym (long-none b short));
        }

    long-held : (ids : List ℕ) (place id mini sector : ℕ) (k n b : List ℕ) (cs : Children) (more : List (List ℕ))
        → 4096 ≤ length b
        → Says n (stream_says links ids place mini sector (length b)) (entry file l id)
        → NextSector sector (long_streams_of (stream k n b cs) ++ more)
        → StreamHeld id mini sector b
    long-held ids place id mini sector k n b cs more long says next =
        let rest : List (List ℕ) = long_streams_of cs ++ more in
        let here : NextSector sector (b ∷ rest) = next-list 512 width-512 base table bytes count sector
        (long_streams_of (stream k n b cs) ++ more) (b ∷ rest)
        (ap (λ bs. bs ++ more) (longs-with k n b cs long)) next in
        let m : ℕ = pieces 512 (length b) in
        let ns : List ℕ = range_with_len sector m in
        let first : first_of_stream mini sector (length b) ≡ start sector m =
        ap (λ c. if c then start mini (pieces 64 (length b)) else start sector m)
        (le-ltb (length b) 4096 long) in
        let is : taken id (size_of (entry file l id)) ns ≡ record { ids = id ∷ []; sectors = ns; minis = [] } =
        taken-is id (size_of (entry file l id)) (length b) ns false says.sized (le-ltb (length b) 4096 long) in
        record {
          ns = ns;
          holds = holds-in (sectors file l) id (start sector m) ns b
              (ap (λ c. if c then minis file l else sectors file l) (le-ltb (length b) 4096 long))
              (says.starts ∙ first) says.sized
              (next-chain 512 width-512 base table bytes count (sectors file l) store sector b rest here)
              (next-content 512 width-512 base table bytes count (sectors file l) store sector b rest here);
          ids = ap (λ u. u.ids) is;
          minis_taken = ap (λ u. u.minis) is ∙ ap (range_with_len mini) (sym (short-none b long));
          sectors_taken = ap (λ u. u.sectors) is ∙ ap (range_with_len sector) (sym (long-is b long));
        }

    stream-held : (ids : List ℕ) (place id mini sector : ℕ) (k n b : List ℕ) (cs : Children)
        (more more' : List (List ℕ))
        → Says n (stream_says links ids place mini sector (length b)) (entry file l id)
        → NextMini mini (short_streams_of (stream k n b cs) ++ more)
        → NextSector sector (long_streams_of (stream k n b cs) ++ more') → StreamHeld id mini sector b
    stream-held ids place id mini sector k n b cs more more' says next next' =
        elim (cases_lt (length b) 4096) [
          | inl short ↦ short-held ids place id mini sector k n b cs more short says next
          | inr long ↦ long-held ids place id mini sector k n b cs more' long says next'
        ]

    -- what is held below a storage, and of siblings
    pub record TreeHeld (id mini sector : ℕ) (t : Tree) : Type 0 where
      pub used : Used
      pub holds : Holds file l id t used
      pub ids : used.ids ≡ range_with_len (id + 1) (entries t)
      pub mini_sectors_used : used.minis ≡ range_with_len mini (mini_sectors t)
      pub sectors_used : used.sectors ≡ range_with_len sector (long_sectors t)

    pub record EachHeld (id mini sector : ℕ) (cs : Children) : Type 0 where
      pub used : Used
      pub holds : HoldsEach file l (ids_from id cs) cs used
      pub ids : used.ids ≡ range_with_len id (entries_of cs)
      pub mini_sectors_used : used.minis ≡ range_with_len mini (over_streams_of short_pieces cs)
      pub sectors_used : used.sectors ≡ range_with_len sector (over_streams_of long_pieces cs)

    -- what an entry says of the storage that it holds
    pub record SaysTree (id : ℕ) (t : Tree) : Type 0 where
      pub class_id : class_of (entry file l id) ≡ class_in t
      pub state_bits : state_of (entry file l id) ≡ state_in t
      pub below : child (entry file l id) ≡ child_of links id t

    ids-after : (id a b : ℕ) → range_with_len id (1 + a + b) ≡ id
        ∷ (range_with_len (id + 1) a ++ range_with_len (id + 1 + a) b)
    ids-after id a b =
        let e : 1 + a + b ≡ suc (a + b) = omega arith in
        ap (range_with_len id) e ∙ ap (λ ns. id ∷ ns) (sym (range-append (id + 1) a b))

    id-after : (id b : ℕ) → range_with_len id (1 + b) ≡ id ∷ range_with_len (id + 1) b
    id-after id b = let e : 1 + b ≡ suc b = omega arith in ap (range_with_len id) e

    mutual
      pub tree-held : (depth id mini sector : ℕ) (t : Tree) (more more' : List (List ℕ)) → IsTree depth t
          → SaidBelow links d id mini sector t → SaysTree id t
          → id + 1 + entries t ≤ many → NextMini mini (short_streams t ++ more)
          → NextSector sector (long_streams t ++ more') → TreeHeld id mini sector t
      tree-held depth id mini sector (tree class state cs) more more' whole said says small next next' =
          let each : EachHeld (id + 1) mini sector cs = each-held depth (ids_from (id + 1) cs) 0 (id + 1) mini
          sector cs more more' whole said small next next' in
          record {
            used = each.used;
            holds = (
              sym says.class_id,
              sym says.state_bits,
              (
                ids_from (id + 1) cs,
                children-are depth id (id + 1) mini sector cs whole said small says.below,
                each.holds,
              ),
            );
            ids = each.ids;
            mini_sectors_used = each.mini_sectors_used;
            sectors_used = each.sectors_used;
          }

      pub each-held : (depth : ℕ) (ids : List ℕ) (place id mini sector : ℕ) (cs : Children)
          (more more' : List (List ℕ)) → AreTrees depth cs
          → AreSaid links d ids place id mini sector cs → id + entries_of cs ≤ many
          → NextMini mini (short_streams_of cs ++ more) → NextSector sector (long_streams_of cs ++ more')
          → EachHeld id mini sector cs
      each-held depth ids place id mini sector none more more' whole said small next next' =
          record { used = nothing; holds = refl; ids = refl; mini_sectors_used = refl; sectors_used = refl }
      each-held depth ids place id mini sector (stream k n b cs) more more' whole said small next next' =
          let one : StreamHeld id mini sector b = stream-held ids place id mini sector k n b cs more more' said.0
          next next' in
          let rest : EachHeld (id + 1) (mini + short_pieces b) (sector + long_pieces b) cs =
          each-held depth ids (place + 1) (id + 1) (mini + short_pieces b) (sector + long_pieces b) cs more more'
          whole.2 said.1 (omega arith)
          (minis-past 0 mini_table mini_bytes mini_count mini more width-64 k n b cs next)
          (sectors-past base table bytes count sector more' width-512 k n b cs next') in
          let u : Used = taken id (size_of (entry file l id)) one.ns in
          record {
            used = both u rest.used;
            holds = (
              said.0.held,
              record { named = said.0.named; under_key = whole.0.under_key },
              (one.ns, rest.used, one.holds, refl, rest.holds),
            );
            ids = (λ i. one.ids i ++ rest.ids i) ∙ sym (id-after id (entries_of cs));
            mini_sectors_used = (λ i. one.minis_taken i ++ rest.mini_sectors_used i)
                ∙ range-append mini (short_pieces b) (over_streams_of short_pieces cs);
            sectors_used = (λ i. one.sectors_taken i ++ rest.sectors_used i)
                ∙ range-append sector (long_pieces b) (over_streams_of long_pieces cs);
          }
      each-held zero ids place id mini sector (storage k n t cs) more more' whole said small next next' = absurd whole
      each-held (suc depth) ids place id mini sector (storage k n t cs) more more' whole said small next next' =
          let next-in : NextMini mini (short_streams t ++ (short_streams_of cs ++ more)) =
          minis-within 0 mini_table mini_bytes mini_count mini more width-64 t cs next in
          let next-in' : NextSector sector (long_streams t ++ (long_streams_of cs ++ more')) =
          sectors-within base table bytes count sector more' width-512 t cs next' in
          let inner : TreeHeld id mini sector t =
          tree-held depth id mini sector t (short_streams_of cs ++ more) (long_streams_of cs ++ more') whole.2 said.1
          (record { class_id = said.0.class_id; state_bits = said.0.state_bits; below = said.0.below })
          (omega arith) next-in next-in' in
          let rest : EachHeld (id + 1 + entries t) (mini + mini_sectors t) (sector + long_sectors t) cs =
          each-held (suc depth) ids (place + 1) (id + 1 + entries t) (mini + mini_sectors t)
          (sector + long_sectors t) cs more more' whole.3 said.2 (omega arith)
          (minis-behind 0 mini_table mini_bytes mini_count mini more width-64 t (short_streams_of cs ++ more) next-in)
          (sectors-behind base table bytes count sector more' width-512 t (long_streams_of cs ++ more') next-in') in
          record {
            used = both (within id inner.used) rest.used;
            holds = (
              said.0.held,
              record { named = said.0.named; under_key = whole.0.under_key },
              (inner.used, rest.used, inner.holds, refl, rest.holds),
            );
            ids = (λ i. id ∷ (inner.ids i ++ rest.ids i)) ∙ sym (ids-after id (entries t) (entries_of cs));
            mini_sectors_used = (λ i. inner.mini_sectors_used i ++ rest.mini_sectors_used i)
                ∙ range-append mini (mini_sectors t) (over_streams_of short_pieces cs);
            sectors_used = (λ i. inner.sectors_used i ++ rest.sectors_used i)
                ∙ range-append sector (long_sectors t) (over_streams_of long_pieces cs);
          }
