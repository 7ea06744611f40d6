-- Files with one header and the same sectors, as far as the FAT has entries, denote the same.
use Rattle.std.proofs.Common.{◌≡◌, ◌<◌, ◌≤◌, ◌+◌, ◌*◌, ℕ, List, [], ◌∷◌, ◌++◌, ◌∙◌, Bool, true, false, if◌then◌else◌}
use Rattle.std.proofs.Common.{nat_lt, length, length-append, map, min, get_or, refl, sym, ap, subst, take, arith}
use Rattle.std.proofs.lemmas.List.{get_or_append_left, get_or-append-add}
use Rattle.std.proofs.lemmas.List.Elements.{All-take}
use Rattle.std.specs.List.{All}
use Rattle.std.specs.List.Sorted.{IsStrictlySortedBy}
use Rattle.cfb_header.specs.Bytes.{block, joined, sector, u32_at}
use Rattle.cfb_header.specs.Header.{HeaderValue, difat, difat_by, fat_by, fat_count, first_directory, first_mini_fat}
use Rattle.cfb_header.specs.Header.{header_of, listed, mini_fat_count}
use Rattle.cfb_chains.specs.Chain.{AreDistinct, IsChain, IsChainOf, IsPresent, Store}
use Rattle.cfb_chains.specs.Fat.{IsFat, mini_sectors_of, sectors_in, sectors_of}
use Rattle.cfb_chains.proofs.Chains.{chain_below}
use Rattle.cfb_names.specs.Names.{key, key_cmp}
use Rattle.cfb_entries.specs.Entries.{AreLinked, IsNamed, child, class_of, entry_at, first_of, kind, name_of, size_of}
use Rattle.cfb_entries.specs.Entries.{state_of}
use Rattle.cfb_entries.specs.Tree.{Tree, Children, tree, none, stream, storage}
use Rattle.cfb_file.specs.Alike.{AgreeOn}
use Rattle.cfb_file.specs.Limits.{CUTOFF}
use Rattle.cfb_file.specs.Denotes.{AreChildren, Denotes, Holds, HoldsBytes, HoldsEach, IsCalled, IsLaidOut, Layout}
use Rattle.cfb_file.specs.Denotes.{Used, both, directory_of, entry, minis, root_of, sectors, store_for, taken}
use Rattle.cfb_file.proofs.AlikeHeaders.{header_of_alike, is_header_alike}
use Rattle.cfb_file.proofs.AlikeStores.{HaveSameLinks, chain_carried, chain_of_carried, difat_by_alike, fat_by_alike}
use Rattle.cfb_file.proofs.AlikeStores.{joined_alike, minis_alike, present_carried}

-- ---- parts of lists
front_all : (P : ℕ → Type 0) (xs ys : List ℕ) → All P (xs ++ ys) → All P xs
front_all P xs ys h = λ k d l. subst P (get_or_append_left xs ys d k l) (h k d (omega (arith, l, length-append xs ys)))

back_all : (P : ℕ → Type 0) (xs ys : List ℕ) → All P (xs ++ ys) → All P ys
back_all P xs ys h = λ k d l. subst P (get_or-append-add xs ys k d)
    (h (length xs + k) d (omega (arith, l, length-append xs ys)))

-- ---- stores with the same links, and the same bytes in each sector that is there
pub record HaveSameBytes (s u : Store) : Type 0 where
  pub links : HaveSameLinks s u
  pub pieces : (ns : List ℕ) → All (λ n. n < s.count) ns → joined s.piece ns ≡ joined u.piece ns

chosen : (c : Bool) (s t u v : Store) → HaveSameBytes s u → HaveSameBytes t v
    → HaveSameBytes (if c then s else t) (if c then u else v)
chosen true s t u v h g = h
chosen false s t u v h g = g

-- the two files have one header, and the same sectors with an entry that begin before the end
pub record HaveSameSectors (a b : List ℕ) : Type 0 where
  pub front : take 512 a ≡ take 512 b
  pub long : 512 ≤ length b
  pub count : (m : ℕ) → m ≡ fat_count a → min (128 * m) (sectors_in a) ≡ min (128 * m) (sectors_in b)
  pub agree : (n : ℕ) → n < min (128 * fat_count a) (sectors_in a) → sector a n ≡ sector b n

-- ---- two files with the same directory, and the same bytes in the sectors of streams
module _ (a b : List ℕ) (l : Layout) (same : directory_of a l ≡ directory_of b l)
    (stores : (size : ℕ) → HaveSameBytes (store_for a l size) (store_for b l size)) where
  entry_same : (id : ℕ) → entry a l id ≡ entry b l id
  entry_same id = ap (λ (d : List ℕ). entry_at d id) same

  bytes_same : (id : ℕ) (ns bytes : List ℕ) → HoldsBytes a l id ns bytes → HoldsBytes b l id ns bytes
  bytes_same id ns bytes h =
      let size : ℕ = size_of (entry a l id) in
      let s : Store = store_for a l size in
      let u : Store = store_for b l size in
      let carried : IsChainOf u (first_of (entry a l id)) size ns =
      chain_of_carried s u (stores size).links (first_of (entry a l id)) size ns h.chain in
      let content : bytes ≡ take size (joined u.piece ns) =
      h.content ∙ ap (take size) ((stores size).pieces ns (chain_below s (first_of (entry a l id)) size ns h.chain)) in
      record {
        chain = subst (λ (e : List ℕ). IsChainOf (store_for b l (size_of e)) (first_of e) (size_of e) ns)
            (entry_same id) carried;
        content = subst (λ (e : List ℕ). bytes ≡ take (size_of e) (joined (store_for b l (size_of e)).piece ns))
            (entry_same id) content;
      }

  children_same : (id : ℕ) (ids : List ℕ) → AreChildren a l id ids → AreChildren b l id ids
  children_same id ids h = record {
    reached = h.reached;
    linked = subst (λ (d : List ℕ). AreLinked d (child (entry_at d id)) h.reached) same h.linked;
    once = h.once;
    same = h.same;
    ordered = subst (λ (d : List ℕ). IsStrictlySortedBy key_cmp (map (λ n. key (name_of (entry_at d n))) ids)) same
        h.ordered;
  }

  called_same : (id : ℕ) (k name : List ℕ) → IsCalled a l id k name → IsCalled b l id k name
  called_same id k name h = record {
    named = subst (λ (e : List ℕ). IsNamed e name) (entry_same id) h.named;
    under_key = h.under_key;
  }

  kind_same : (id n : ℕ) → kind (entry a l id) ≡ n → kind (entry b l id) ≡ n
  kind_same id n h = ap kind (sym (entry_same id)) ∙ h

  mutual
    pub holds_same : (id : ℕ) (t : Tree) (used : Used) → Holds a l id t used → Holds b l id t used
    holds_same id (tree class state cs) used h = (
      h.0 ∙ ap class_of (entry_same id),
      h.1 ∙ ap state_of (entry_same id),
      (h.2.0, children_same id h.2.0 h.2.1, each_same h.2.0 cs used h.2.2),
    )

    each_same : (ids : List ℕ) (cs : Children) (used : Used) → HoldsEach a l ids cs used → HoldsEach b l ids cs used
    each_same [] none used h = h
    each_same [] (stream k n x cs) used h = absurd h
    each_same [] (storage k n t cs) used h = absurd h
    each_same (id ∷ ids) none used h = absurd h
    each_same (id ∷ ids) (stream k n x cs) used h = (
      kind_same id 2 h.0,
      called_same id k n h.1,
      (
        h.2.0,
        h.2.1,
        bytes_same id h.2.0 x h.2.2,
        h.2.3
            ∙ ap (λ (e : List ℕ). both (taken id (size_of e) h.2.0) h.2.1) (entry_same id),
        each_same ids cs h.2.1
            h.2.4,
      ),
    )
    each_same (id ∷ ids) (storage k n t cs) used h = (
      kind_same id 1 h.0,
      called_same id k n h.1,
      (h.2.0, h.2.1, holds_same id t h.2.0 h.2.2, h.2.3, each_same ids cs h.2.1 h.2.4),
    )

module _ (a b : List ℕ) (h : HaveSameSectors a b) where
  header_same : header_of a ≡ header_of b
  header_same = header_of_alike a b h.front

  -- what is there of so many sectors
  module _ (fat : List ℕ) (whole : length fat ≡ fat_count a) where
    agree_on : (ns : List ℕ) → All (λ n. n < (sectors_of a fat).count) ns → AgreeOn a b ns
    unfolding sectors_of
    agree_on ns below = λ k d l. h.agree (get_or ns k d)
        (subst (λ (m : ℕ). get_or ns k d < min (128 * m) (sectors_in a)) whole (below k d l))

    links_same : AgreeOn a b fat → HaveSameLinks (sectors_of a fat) (sectors_of b fat)
    unfolding sectors_of
    links_same agrees = record {
      count = h.count (length fat) whole;
      width = refl;
      next = λ i n. u32_at (joined_alike a b fat agrees i) (4 * n);
    }

    pieces_same : (ns : List ℕ) → All (λ n. n < (sectors_of a fat).count) ns
        → joined (sectors_of a fat).piece ns ≡ joined (sectors_of b fat).piece ns
    unfolding sectors_of
    pieces_same ns below = joined_alike a b ns (agree_on ns below)

  -- the sectors of a chain hold the same
  agree_chain : (fat : List ℕ) → length fat ≡ fat_count a → (start bytes : ℕ) (ns : List ℕ)
      → IsChainOf (sectors_of a fat) start bytes ns → AgreeOn a b ns
  agree_chain fat whole start bytes ns c = agree_on fat whole ns (chain_below (sectors_of a fat) start bytes ns c)

  -- ---- where the FAT is there
  module _ (f : IsFat a (header_of a)) where
    below_all : All (λ n. n < (sectors_of a (listed a)).count) (listed a ++ difat a)
    below_all = λ k d l. (f.present k d l).1

    fat_agrees : AgreeOn a b (listed a)
    fat_agrees = agree_on (listed a) f.whole (listed a)
        (front_all (λ n. n < (sectors_of a (listed a)).count) (listed a) (difat a) below_all)

    difat_agrees : AgreeOn a b (difat a)
    difat_agrees = agree_on (listed a) f.whole (difat a)
        (back_all (λ n. n < (sectors_of a (listed a)).count) (listed a) (difat a) below_all)

    listed_same : listed a ≡ listed b
    listed_same = fat_by_alike a b (header_of a) difat_agrees ∙ ap (fat_by b) header_same

    difat_same : difat a ≡ difat b
    difat_same = difat_by_alike a b (header_of a) difat_agrees ∙ ap (difat_by b) header_same

    is_fat_same : IsFat b (header_of b)
    is_fat_same =
        let there : All (IsPresent (sectors_of b (listed a))) (listed a ++ difat a) =
        present_carried (sectors_of a (listed a)) (sectors_of b (listed a))
        (links_same (listed a) f.whole fat_agrees) (listed a ++ difat a) f.present in
        record {
          whole = ap (λ (xs : List ℕ). length xs) (sym listed_same) ∙ f.whole
              ∙ ap (λ (v : HeaderValue). v.fat_count) header_same;
          present = subst (λ (fat : List ℕ). All (IsPresent (sectors_of b fat)) (fat ++ difat b)) listed_same
              (subst (λ (ns : List ℕ). All (IsPresent (sectors_of b (listed a))) (listed a ++ ns)) difat_same there);
          once = subst (λ (fat : List ℕ). AreDistinct (fat ++ difat b)) listed_same
              (subst (λ (ns : List ℕ). AreDistinct (listed a ++ ns)) difat_same f.once);
        }

  -- ---- a layout of one is one of the other
  module _ (l : Layout) (laid : IsLaidOut a l) where
    whole_fat : length l.fat ≡ fat_count a
    whole_fat = ap (λ (xs : List ℕ). length xs) laid.fat_listed ∙ laid.fat_sectors.whole

    agrees_there : AgreeOn a b l.fat
    agrees_there = subst (λ (fat : List ℕ). AgreeOn a b fat) (sym laid.fat_listed) (fat_agrees laid.fat_sectors)

    sectors_same : HaveSameLinks (sectors a l) (sectors b l)
    sectors_same = links_same l.fat whole_fat agrees_there

    directory_agrees : AgreeOn a b l.directory
    directory_agrees = agree_on l.fat whole_fat l.directory (λ k d lt. (laid.directory.present k d lt).1)

    mini_fat_agrees : AgreeOn a b l.mini_fat
    mini_fat_agrees = agree_chain l.fat whole_fat (first_mini_fat a) (512 * mini_fat_count a) l.mini_fat laid.mini_fat

    mini_stream_agrees : AgreeOn a b l.mini_stream
    mini_stream_agrees = agree_chain l.fat whole_fat (first_of (root_of a l)) (size_of (root_of a l)) l.mini_stream
        laid.mini_stream

    directory_same : directory_of a l ≡ directory_of b l
    unfolding directory_of
    directory_same = joined_alike a b l.directory directory_agrees

    laid_same : IsLaidOut b l
    laid_same = record {
      fat_listed = laid.fat_listed ∙ listed_same laid.fat_sectors;
      difat_listed = laid.difat_listed ∙ difat_same laid.fat_sectors;
      fat_sectors = is_fat_same laid.fat_sectors;
      directory = subst (λ (v : HeaderValue). IsChain (sectors b l) v.first_directory 0 l.directory) header_same
          (chain_carried (sectors a l) (sectors b l) sectors_same (first_directory a) 0 l.directory laid.directory);
      mini_fat = subst (λ (v : HeaderValue). IsChainOf (sectors b l) v.first_mini_fat (512 * v.mini_fat_count)
          l.mini_fat) header_same
          (chain_of_carried (sectors a l) (sectors b l) sectors_same (first_mini_fat a) (512 * mini_fat_count a)
          l.mini_fat laid.mini_fat);
      mini_stream = subst (λ (d : List ℕ). IsChainOf (sectors b l) (first_of (entry_at d 0))
          (size_of (entry_at d 0)) l.mini_stream) directory_same
          (chain_of_carried (sectors a l) (sectors b l) sectors_same (first_of (root_of a l))
          (size_of (root_of a l)) l.mini_stream laid.mini_stream);
    }

    -- the mini sectors in a table, of one file and of the other
    minis_held : (cut : List ℕ) (size : ℕ) → AgreeOn a b cut
        → HaveSameBytes (mini_sectors_of a cut l.mini_stream size) (mini_sectors_of b cut l.mini_stream size)
    unfolding mini_sectors_of
    minis_held cut size agrees = record {
      links = minis_alike a b cut l.mini_stream size agrees;
      pieces = λ ns below. ap (λ (bytes : List ℕ). joined (λ m. block 64 bytes (64 * m)) ns)
          (joined_alike a b l.mini_stream mini_stream_agrees);
    }

    minis_same : HaveSameBytes (minis a l) (minis b l)
    minis_same =
        let cut : List ℕ = take (mini_fat_count a) l.mini_fat in
        let here : HaveSameBytes (minis a l) (mini_sectors_of b cut l.mini_stream (size_of (root_of a l))) =
        minis_held cut (size_of (root_of a l)) (All-take (λ n. sector a n ≡ sector b n) (mini_fat_count a)
        l.mini_fat mini_fat_agrees) in
        subst (λ (d : List ℕ). HaveSameBytes (minis a l)
        (mini_sectors_of b (take (mini_fat_count b) l.mini_fat) l.mini_stream (size_of (entry_at d 0))))
        directory_same
        (subst (λ (v : HeaderValue). HaveSameBytes (minis a l)
        (mini_sectors_of b (take v.mini_fat_count l.mini_fat) l.mini_stream (size_of (root_of a l))))
        header_same here)

    stores_same : (size : ℕ) → HaveSameBytes (store_for a l size) (store_for b l size)
    stores_same size =
        chosen (nat_lt size CUTOFF) (minis a l) (sectors a l) (minis b l) (sectors b l) minis_same
        (record { links = sectors_same; pieces = pieces_same l.fat whole_fat })

  -- what one denotes, the other does
  pub same_denotes : (t : Tree) → Denotes a t → Denotes b t
  same_denotes t d =
      let l : Layout = d.layout in
      let same : directory_of a l ≡ directory_of b l = directory_same l d.laid_out in
      record {
        layout = l;
        used = d.used;
        header = is_header_alike a b h.front h.long d.header;
        laid_out = laid_same l d.laid_out;
        root = ap (λ (x : List ℕ). kind (entry_at x 0)) (sym same) ∙ d.root;
        holds = holds_same a b l same (stores_same l d.laid_out) 0 t d.used d.holds;
        sectors_apart = d.sectors_apart;
        minis_apart = d.minis_apart;
        ids_apart = d.ids_apart;
        is_tree = d.is_tree;
      }
