-- What is told of a file that a listing can't tell from another is told of the other.
use Rattle.std.proofs.Common.{◌≡◌, ◌<◌, ◌*◌, ℕ, suc, List, ◌++◌, length, take, refl, sym, ◌∙◌, ap, subst}
use Rattle.std.proofs.lemmas.List.Elements.{All-take}
use Rattle.std.specs.List.{Contains}
use Rattle.cfb_header.specs.Bytes.{sector}
use Rattle.cfb_chains.specs.Chain.{IsChain, IsChainOf, IsPresent}
use Rattle.cfb_chains.specs.Fat.{AreCrossed, ComesBack, mini_sectors_of, sectors_of}
use Rattle.cfb_header.specs.Header.{HeaderValue, difat, difat_by, fat_count, first_directory, first_mini_fat, header_of}
use Rattle.cfb_header.specs.Header.{listed, mini_fat_count}
use Rattle.cfb_header.specs.declared.fault.ChainFault.{ChainFault}
use Rattle.cfb_header.specs.declared.fault.ChainFault.TheVariants as chain
use Rattle.cfb_entries.specs.Entries.{entry_at, first_of, size_of}
use Rattle.cfb_names.specs.declared.fault.DirFault.TheVariants as directory
use Rattle.cfb_file.specs.Alike.{AgreeOn, Alike}
use Rattle.cfb_file.specs.Denotes.{IsLaidOut, Layout, directory_of, minis, root_of, sectors}
use Rattle.cfb_file.proofs.AlikeFiles.{alike_back, directory_chain_back, is_fat_alike, listed_alike}
use Rattle.cfb_file.proofs.AlikeHeaders.{header_alike, header_of_alike}
use Rattle.cfb_file.proofs.AlikeStores.{HaveSameLinks, chain_carried, chain_of_carried, difat_by_alike, joined_alike}
use Rattle.cfb_file.proofs.AlikeStores.{minis_alike, present_carried, sectors_alike}
use Rattle.cfb_names.specs.declared.fault.DirFault.{DirFault}
use Rattle.cfb_faults.specs.Faults.{IsChainAtFault, IsDirectory, IsDirectoryAtFault, IsFatAtFault, IsFileAtFault}
use Rattle.cfb_faults.specs.Faults.{base_in, in_directory, in_fat, in_header, in_mini_fat, in_mini_stream, in_stream}
use Rattle.cfb_faults.proofs.Chains.{Agree, AreAgreed, agree_links, below_carried, fault_carried, stream_carried}

-- the bytes of its directory are those of the other's
abbrev pub directory_alike : (a b dir : List ℕ) → Alike a b → IsDirectory b dir → IsDirectory a dir
directory_alike a b dir h d =
    let back : Alike b a = alike_back a b h in
    let chain : IsChain (sectors_of a (listed a)) (first_directory a) 0 d.sectors =
    directory_chain_back a b h d.sectors d.is_chain in
    record {
      is_fat = is_fat_alike b a back d.is_fat;
      sectors = d.sectors;
      is_chain = chain;
      bytes_are = d.bytes_are ∙ sym (joined_alike a b d.sectors (h.directory d.sectors chain));
    }

-- ---- a part that is at fault in the first is so in the other
module _ (a b : List ℕ) (h : Alike a b) where
  header_same : header_of a ≡ header_of b
  header_same = header_of_alike a b h.header

  lists_same : listed a ≡ listed b
  lists_same = listed_alike a b h

  difat_same : difat a ≡ difat b
  difat_same = difat_by_alike a b (header_of a) h.difat ∙ ap (difat_by b) header_same

  links_same : HaveSameLinks (sectors_of a (listed a)) (sectors_of b (listed b))
  links_same = subst (λ (fat : List ℕ). HaveSameLinks (sectors_of a (listed a)) (sectors_of b fat)) lists_same
      (sectors_alike a b (listed a) h.len h.fat)

  agreed : Agree (sectors_of a (listed a)) (sectors_of b (listed b))
  agreed = agree_links (sectors_of a (listed a)) (sectors_of b (listed b)) links_same

  fat_fault : (fault : ChainFault) → IsFatAtFault a fault → IsFatAtFault b fault
  fat_fault chain.Truncated q = absurd q
  fat_fault chain.BadSignature q = absurd q
  fat_fault (chain.Unsupported n) q = absurd q
  fat_fault chain.OutOfFile q =
      let count : (sectors_of b (listed b)).count ≡ (sectors_of a (listed a)).count = sym links_same.count in (
        q.0,
        subst (λ (ns : List ℕ). Contains (listed b ++ ns) q.0) difat_same
            (subst (λ (ns : List ℕ). Contains (ns ++ difat a) q.0) lists_same q.1),
        λ (p : IsPresent (sectors_of b (listed b)) q.0). q.2 (p.0, subst (λ (c : ℕ). q.0 < c) count p.1),
      )
  fat_fault chain.Cycle q = subst (ComesBack (sectors_of b (listed b))) difat_same (record {
    count = q.count;
    present = present_carried (sectors_of a (listed a)) (sectors_of b (listed b)) links_same
        (take q.count (difat a)) q.present;
    again = q.again;
  })
  fat_fault chain.CrossLinked q =
      subst (λ (ns : List ℕ). AreCrossed (sectors_of b (listed b)) ns (difat b)) lists_same
      (subst (AreCrossed (sectors_of b (listed b)) (listed a)) difat_same (record {
        present = present_carried (sectors_of a (listed a)) (sectors_of b (listed b)) links_same (difat a) q.present;
        once = q.once;
        twice = q.twice;
      }))
  fat_fault chain.ShortChain q =
      subst (λ (v : HeaderValue). length (listed b) < v.fat_count) header_same
      (subst (λ (ns : List ℕ). length ns < fat_count a) lists_same q)
  fat_fault chain.TooBig q = absurd q
  fat_fault chain.NoMemory q = absurd q

  chain_fault_at : (xs ys : List ℕ) (start size start' size' : ℕ) (fault : ChainFault) → xs ≡ ys → start ≡ start'
      → size ≡ size'
      → IsChainAtFault (sectors_of a (listed a)) (Contains xs) start size fault
      → IsChainAtFault (sectors_of b (listed b)) (Contains ys) start' size' fault
  chain_fault_at xs ys start size start' size' fault e s l q =
      subst (λ (x : ℕ). IsChainAtFault (sectors_of b (listed b)) (Contains ys) start' x fault) l
      (subst (λ (x : ℕ). IsChainAtFault (sectors_of b (listed b)) (Contains ys) x size fault) s
      (fault_carried (sectors_of a (listed a)) (sectors_of b (listed b)) agreed (Contains xs) (Contains ys)
      (λ n c. subst (λ (zs : List ℕ). Contains zs n) e c) start size fault q))

  both_same : listed a ++ difat a ≡ listed b ++ difat b
  both_same = λ i. lists_same i ++ difat_same i

  -- ---- a layout of the first is one of the other
  module _ (l : Layout) (laid : IsLaidOut a l) where
    fat_agrees : AgreeOn a b l.fat
    fat_agrees = subst (λ (fat : List ℕ). AgreeOn a b fat) (sym laid.fat_listed) h.fat

    sectors_same : HaveSameLinks (sectors a l) (sectors b l)
    sectors_same = sectors_alike a b l.fat h.len fat_agrees

    mini_fat_agrees : AgreeOn a b l.mini_fat
    mini_fat_agrees =
        h.mini_fat l.mini_fat
        (subst (λ (fat : List ℕ). IsChainOf (sectors_of a fat) (first_mini_fat a) (512 * mini_fat_count a)
        l.mini_fat) laid.fat_listed laid.mini_fat)

    directory_same : directory_of a l ≡ directory_of b l
    unfolding directory_of
    directory_same =
        joined_alike a b l.directory
        (h.directory l.directory
        (subst (λ (fat : List ℕ). IsChain (sectors_of a fat) (first_directory a) 0 l.directory) laid.fat_listed
        laid.directory))

    laid_same : IsLaidOut b l
    laid_same = record {
      fat_listed = laid.fat_listed ∙ lists_same;
      difat_listed = laid.difat_listed ∙ difat_same;
      fat_sectors = is_fat_alike a b h laid.fat_sectors;
      directory = subst (λ (v : HeaderValue). IsChain (sectors b l) v.first_directory 0 l.directory) header_same
          (chain_carried (sectors a l) (sectors b l) sectors_same (first_directory a) 0 l.directory laid.directory);
      mini_fat = subst (λ (v : HeaderValue). IsChainOf (sectors b l) v.first_mini_fat (512 * v.mini_fat_count)
          l.mini_fat) header_same
          (chain_of_carried (sectors a l) (sectors b l) sectors_same (first_mini_fat a) (512 * mini_fat_count a)
          l.mini_fat laid.mini_fat);
      mini_stream = subst (λ (d : List ℕ). IsChainOf (sectors b l) (first_of (entry_at d 0))
          (size_of (entry_at d 0)) l.mini_stream) directory_same
          (chain_of_carried (sectors a l) (sectors b l) sectors_same (first_of (root_of a l))
          (size_of (root_of a l)) l.mini_stream laid.mini_stream);
    }

    minis_same : HaveSameLinks (minis a l) (minis b l)
    minis_same =
        let cut : List ℕ = take (mini_fat_count a) l.mini_fat in
        let here : HaveSameLinks (minis a l) (mini_sectors_of b cut l.mini_stream (size_of (root_of a l))) =
        minis_alike a b cut l.mini_stream (size_of (root_of a l))
        (All-take (λ n. sector a n ≡ sector b n) (mini_fat_count a) l.mini_fat mini_fat_agrees) in
        subst (λ (d : List ℕ). HaveSameLinks (minis a l)
        (mini_sectors_of b (take (mini_fat_count b) l.mini_fat) l.mini_stream (size_of (entry_at d 0))))
        directory_same
        (subst (λ (v : HeaderValue). HaveSameLinks (minis a l)
        (mini_sectors_of b (take v.mini_fat_count l.mini_fat) l.mini_stream (size_of (root_of a l))))
        header_same here)

    base_same : AreAgreed (base_in a l) (base_in b l)
    base_same = record {
      directory = directory_same;
      sectors = agree_links (sectors a l) (sectors b l) sectors_same;
      minis = agree_links (minis a l) (minis b l) minis_same;
      own = refl;
    }

  pub file_fault : (fault : ChainFault) → IsFileAtFault a fault → IsFileAtFault b fault
  file_fault fault (in_header e) = in_header (sym (header_alike a b h.header h.len) ∙ e)
  file_fault fault (in_fat q) = in_fat (fat_fault fault q)
  file_fault fault (in_directory q) =
      in_directory (chain_fault_at (listed a ++ difat a) (listed b ++ difat b) (first_directory a) 0
      (first_directory b) 0 fault both_same
      (ap (λ (v : HeaderValue). v.first_directory) header_same) refl q)
  file_fault fault (in_mini_fat dir d some q) =
      in_mini_fat dir (directory_alike b a dir (alike_back a b h) d)
      (subst (λ (v : HeaderValue). 0 < v.mini_fat_count) header_same some)
      (chain_fault_at (listed a ++ difat a ++ d.sectors) (listed b ++ difat b ++ d.sectors) (first_mini_fat a)
      (512 * mini_fat_count a) (first_mini_fat b) (512 * mini_fat_count b) fault
      (λ i. both_same i ++ d.sectors) (ap (λ (v : HeaderValue). v.first_mini_fat) header_same)
      (ap (λ (v : HeaderValue). 512 * v.mini_fat_count) header_same) q)
  file_fault fault (in_mini_stream dir d mini_fat lies some q) =
      in_mini_stream dir (directory_alike b a dir (alike_back a b h) d) mini_fat
      (subst (λ (v : HeaderValue). IsChainOf (sectors_of b (listed b)) v.first_mini_fat (512 * v.mini_fat_count)
      mini_fat) header_same
      (chain_of_carried (sectors_of a (listed a)) (sectors_of b (listed b)) links_same (first_mini_fat a)
      (512 * mini_fat_count a) mini_fat lies))
      some
      (chain_fault_at (listed a ++ difat a ++ d.sectors ++ mini_fat) (listed b ++ difat b ++ d.sectors ++ mini_fat)
      (first_of (entry_at dir 0)) (size_of (entry_at dir 0))
      (first_of (entry_at dir 0)) (size_of (entry_at dir 0)) fault (λ i. both_same i ++ d.sectors ++ mini_fat) refl
      refl q)
  file_fault fault (in_stream l laid levels id below q) =
      in_stream l (laid_same l laid) levels id
      (below_carried (base_in a l) (base_in b l) (base_same l laid) (suc levels) id below)
      (stream_carried (base_in a l) (base_in b l) (base_same l laid) id fault q)

pub directory_fault : (a b : List ℕ) (fault : DirFault) → Alike a b → IsDirectoryAtFault b fault
    → IsDirectoryAtFault a fault
directory_fault a b directory.BadEntry h r = (r.0, directory_alike a b r.0 h r.1, r.2)
directory_fault a b fault h r = (r.0, directory_alike a b r.0 h r.1, r.2)
