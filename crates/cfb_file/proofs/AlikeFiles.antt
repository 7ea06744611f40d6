-- What holds of files that a listing can't tell apart.
use Rattle.std.proofs.Common.{◌≡◌, ◌*◌, ℕ, List, ◌++◌, Bool, true, false, if◌then◌else◌, nat_lt, length, take, sym, ◌∙◌}
use Rattle.std.proofs.Common.{ap, subst, arith}
use Rattle.std.proofs.lemmas.List.Elements.{All-take}
use Rattle.cfb_header.specs.Bytes.{sector}
use Rattle.std.specs.List.{All}
use Rattle.cfb_chains.specs.Chain.{AreDistinct, IsChain, IsChainOf, IsPresent, Store}
use Rattle.cfb_chains.specs.Fat.{IsFat, mini_sectors_of, sectors_of}
use Rattle.cfb_header.specs.Header.{HeaderValue, IsHeader, difat, difat_by, fat_by, first_directory, first_mini_fat}
use Rattle.cfb_header.specs.Header.{header_of, listed, mini_fat_count}
use Rattle.cfb_entries.specs.Entries.{entry_at, first_of, kind, size_of}
use Rattle.cfb_entries.specs.Tree.{Tree}
use Rattle.cfb_file.specs.Alike.{AgreeOn, Alike}
use Rattle.cfb_file.specs.Denotes.{Denotes, IsLaidOut, Layout, directory_of, minis, root_of, sectors, store_for}
use Rattle.cfb_file.specs.Limits.{CUTOFF}
use Rattle.cfb_file.specs.Outline.{outline_of}
use Rattle.cfb_file.proofs.AlikeHeaders.{header_of_alike, is_header_alike}
use Rattle.cfb_file.proofs.AlikeStores.{HaveSameLinks, agree_back, chain_carried, chain_of_carried, difat_by_alike}
use Rattle.cfb_file.proofs.AlikeStores.{fat_by_alike, joined_alike, present_carried, links_back, minis_alike}
use Rattle.cfb_file.proofs.AlikeStores.{sectors_alike}
use Rattle.cfb_file.proofs.AlikeTrees.{IsRefilled, storage_refilled}

-- stores that one is chosen of
chosen_alike : (c : Bool) (s t u v : Store) → HaveSameLinks s u → HaveSameLinks t v
    → HaveSameLinks (if c then s else t) (if c then u else v)
chosen_alike true s t u v h g = h
chosen_alike false s t u v h g = g

module _ (a b : List ℕ) (h : Alike a b) where
  other_header : IsHeader b
  other_header = is_header_alike a b h.header (omega (arith, h.is_header.whole, h.len)) h.is_header

  header_same : header_of a ≡ header_of b
  header_same = header_of_alike a b h.header

  pub listed_alike : listed a ≡ listed b
  listed_alike = fat_by_alike a b (header_of a) h.difat ∙ ap (fat_by b) header_same

  difat_alike : difat a ≡ difat b
  difat_alike = difat_by_alike a b (header_of a) h.difat ∙ ap (difat_by b) header_same

  links_listed : HaveSameLinks (sectors_of a (listed a)) (sectors_of b (listed a))
  links_listed = sectors_alike a b (listed a) h.len h.fat

  links_alike : HaveSameLinks (sectors_of a (listed a)) (sectors_of b (listed b))
  links_alike = subst (λ (fat : List ℕ). HaveSameLinks (sectors_of a (listed a)) (sectors_of b fat)) listed_alike
      links_listed

  -- ---- the chains of the other file are this one's
  pub directory_chain_back : (ns : List ℕ) → IsChain (sectors_of b (listed b)) (first_directory b) 0 ns
      → IsChain (sectors_of a (listed a)) (first_directory a) 0 ns
  directory_chain_back ns c =
      subst (λ (v : HeaderValue). IsChain (sectors_of a (listed a)) v.first_directory 0 ns) (sym header_same)
      (chain_carried (sectors_of b (listed b)) (sectors_of a (listed a))
      (links_back (sectors_of a (listed a)) (sectors_of b (listed b)) links_alike) (first_directory b) 0 ns c)

  mini_fat_chain_back : (ns : List ℕ) → IsChainOf (sectors_of b (listed b)) (first_mini_fat b)
      (512 * mini_fat_count b) ns
      → IsChainOf (sectors_of a (listed a)) (first_mini_fat a) (512 * mini_fat_count a) ns
  mini_fat_chain_back ns c =
      subst (λ (v : HeaderValue). IsChainOf (sectors_of a (listed a)) v.first_mini_fat (512 * v.mini_fat_count) ns)
      (sym header_same)
      (chain_of_carried (sectors_of b (listed b)) (sectors_of a (listed a))
      (links_back (sectors_of a (listed a)) (sectors_of b (listed b)) links_alike)
      (first_mini_fat b) (512 * mini_fat_count b) ns c)

  pub alike_back : Alike b a
  alike_back = record {
    is_header = other_header;
    len = sym h.len;
    header = sym h.header;
    difat = subst (λ (ns : List ℕ). AgreeOn b a ns) difat_alike (agree_back a b (difat a) h.difat);
    fat = subst (λ (fat : List ℕ). AgreeOn b a fat) listed_alike (agree_back a b (listed a) h.fat);
    directory = λ ns c. agree_back a b ns (h.directory ns (directory_chain_back ns c));
    mini_fat = λ ns c. agree_back a b ns (h.mini_fat ns (mini_fat_chain_back ns c));
  }

  -- the sectors of the FAT and the DIFAT are there
  pub is_fat_alike : IsFat a (header_of a) → IsFat b (header_of b)
  is_fat_alike f =
      let there : All (IsPresent (sectors_of b (listed a))) (listed a ++ difat a) =
      present_carried (sectors_of a (listed a)) (sectors_of b (listed a)) links_listed (listed a ++ difat a)
      f.present in
      record {
        whole = ap (λ (xs : List ℕ). length xs) (sym listed_alike) ∙ f.whole
            ∙ ap (λ (v : HeaderValue). v.fat_count) header_same;
        present = subst (λ (fat : List ℕ). All (IsPresent (sectors_of b fat)) (fat ++ difat b)) listed_alike
            (subst (λ (ns : List ℕ). All (IsPresent (sectors_of b (listed a))) (listed a ++ ns)) difat_alike there);
        once = subst (λ (fat : List ℕ). AreDistinct (fat ++ difat b)) listed_alike
            (subst (λ (ns : List ℕ). AreDistinct (listed a ++ ns)) difat_alike f.once);
      }

  -- ---- a layout of this file is one of the other
  module _ (l : Layout) (laid : IsLaidOut a l) where
    fat_agrees : AgreeOn a b l.fat
    fat_agrees = subst (λ (fat : List ℕ). AgreeOn a b fat) (sym laid.fat_listed) h.fat

    sectors_same : HaveSameLinks (sectors a l) (sectors b l)
    sectors_same = sectors_alike a b l.fat h.len fat_agrees

    directory_agrees : AgreeOn a b l.directory
    directory_agrees =
        h.directory l.directory
        (subst (λ (fat : List ℕ). IsChain (sectors_of a fat) (first_directory a) 0 l.directory) laid.fat_listed
        laid.directory)

    mini_fat_agrees : AgreeOn a b l.mini_fat
    mini_fat_agrees =
        h.mini_fat l.mini_fat
        (subst (λ (fat : List ℕ). IsChainOf (sectors_of a fat) (first_mini_fat a) (512 * mini_fat_count a)
        l.mini_fat) laid.fat_listed laid.mini_fat)

    directory_same : directory_of a l ≡ directory_of b l
    unfolding directory_of
    directory_same = joined_alike a b l.directory directory_agrees

    laid_alike : IsLaidOut b l
    laid_alike = record {
      fat_listed = laid.fat_listed ∙ listed_alike;
      difat_listed = laid.difat_listed ∙ difat_alike;
      fat_sectors = is_fat_alike laid.fat_sectors;
      directory = subst (λ (v : HeaderValue). IsChain (sectors b l) v.first_directory 0 l.directory) header_same
          (chain_carried (sectors a l) (sectors b l) sectors_same (first_directory a) 0 l.directory laid.directory);
      mini_fat = subst (λ (v : HeaderValue). IsChainOf (sectors b l) v.first_mini_fat (512 * v.mini_fat_count)
          l.mini_fat) header_same
          (chain_of_carried (sectors a l) (sectors b l) sectors_same (first_mini_fat a) (512 * mini_fat_count a)
          l.mini_fat laid.mini_fat);
      mini_stream = subst (λ (d : List ℕ). IsChainOf (sectors b l) (first_of (entry_at d 0))
          (size_of (entry_at d 0)) l.mini_stream) directory_same
          (chain_of_carried (sectors a l) (sectors b l) sectors_same (first_of (root_of a l))
          (size_of (root_of a l)) l.mini_stream laid.mini_stream);
    }

    minis_same : HaveSameLinks (minis a l) (minis b l)
    minis_same =
        let cut : List ℕ = take (mini_fat_count a) l.mini_fat in
        let here : HaveSameLinks (minis a l) (mini_sectors_of b cut l.mini_stream (size_of (root_of a l))) =
        minis_alike a b cut l.mini_stream (size_of (root_of a l))
        (All-take (λ n. sector a n ≡ sector b n) (mini_fat_count a) l.mini_fat mini_fat_agrees) in
        subst (λ (d : List ℕ). HaveSameLinks (minis a l)
        (mini_sectors_of b (take (mini_fat_count b) l.mini_fat) l.mini_stream (size_of (entry_at d 0))))
        directory_same
        (subst (λ (v : HeaderValue). HaveSameLinks (minis a l)
        (mini_sectors_of b (take v.mini_fat_count l.mini_fat) l.mini_stream (size_of (root_of a l))))
        header_same here)

    stores_same : (size : ℕ) → HaveSameLinks (store_for a l size) (store_for b l size)
    stores_same size = chosen_alike (nat_lt size CUTOFF) (minis a l) (sectors a l) (minis b l) (sectors b l)
        minis_same sectors_same

  -- A tree of this file is one of the other, but for the bytes of streams, which are as many.
  pub alike_denotes : (t : Tree) → Denotes a t → (t' : Tree) × Denotes b t' × (outline_of t' ≡ outline_of t)
  alike_denotes t d =
      let l : Layout = d.layout in
      let same : directory_of a l ≡ directory_of b l = directory_same l d.laid_out in
      let r : IsRefilled a b l same (stores_same l d.laid_out) 32 0 t d.used =
      storage_refilled a b l same (stores_same l d.laid_out) 32 0 t d.used d.is_tree d.holds in
      let denoted : Denotes b r.refilled = record {
        layout = l;
        used = d.used;
        header = other_header;
        laid_out = laid_alike l d.laid_out;
        root = ap (λ (x : List ℕ). kind (entry_at x 0)) (sym same) ∙ d.root;
        holds = r.held;
        sectors_apart = d.sectors_apart;
        minis_apart = d.minis_apart;
        ids_apart = d.ids_apart;
        is_tree = r.whole;
      } in
      (r.refilled, denoted, r.listed_so)
