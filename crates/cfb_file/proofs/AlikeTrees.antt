-- The tree of one file, with the bytes that the other one has in the same sectors.
use Rattle.std.proofs.Common.{◌≡◌, ◌≤◌, ◌*◌, ℕ, zero, suc, List, [], ◌∷◌, Bool, true, false, if◌then◌else◌, nat_lt}
use Rattle.std.proofs.Common.{length, map, take, refl, sym, ◌∙◌, ap, subst, arith}
use Rattle.std.proofs.lemmas.List.{length-take-le}
use Rattle.std.specs.List.Sorted.{IsStrictlySortedBy}
use Rattle.cfb_header.specs.Bytes.{joined}
use Rattle.cfb_chains.specs.Chain.{IsChainOf, Store}
use Rattle.cfb_chains.specs.Fat.{mini_sectors_of, sectors_of}
use Rattle.cfb_chains.proofs.Blocks.{length_block, length_joined}
use Rattle.cfb_chains.proofs.Chains.{chain_room}
use Rattle.cfb_names.specs.Names.{key, key_cmp}
use Rattle.cfb_entries.specs.Entries.{AreLinked, IsNamed, child, class_of, entry_at, first_of, kind, name_of, size_of}
use Rattle.cfb_entries.specs.Entries.{state_of}
use Rattle.cfb_entries.specs.Tree.{Tree, Children, tree, none, stream, storage}
use Rattle.cfb_entries.specs.Whole.{AreAbove, AreTrees, IsTree}
use Rattle.cfb_file.specs.Limits.{CUTOFF}
use Rattle.cfb_file.specs.Denotes.{Layout, Used, AreChildren, Holds, HoldsBytes, HoldsEach, IsCalled, both}
use Rattle.cfb_file.specs.Denotes.{directory_of, entry, minis, sectors, store_for, taken}
use Rattle.cfb_file.specs.Outline.{outline, outline_of, outlines_of, storage_part, stream_part}
use Rattle.cfb_file.proofs.AlikeStores.{HaveSameLinks, chain_of_carried}

-- ---- a stream is as long as its entry says
module _ (file : List ℕ) (l : Layout) where
  wide_by : (c : Bool) (n : ℕ) → length ((if c then minis file l else sectors file l).piece n)
      ≡ (if c then minis file l else sectors file l).width
  unfolding mini_sectors_of sectors_of
  wide_by true n = length_block 64 _ (64 * n)
  wide_by false n = length_block 512 file _

  pub held_length : (id : ℕ) (ns bytes : List ℕ) → HoldsBytes file l id ns bytes
      → length bytes ≡ size_of (entry file l id)
  held_length id ns bytes h =
      let size : ℕ = size_of (entry file l id) in
      let s : Store = store_for file l size in
      let room : size ≤ s.width * length ns = chain_room s (first_of (entry file l id)) size ns h.chain in
      let all : length (joined s.piece ns) ≡ s.width * length ns =
      length_joined s.piece s.width ns (wide_by (nat_lt size CUTOFF)) in
      ap length h.content ∙ length-take-le size (joined s.piece ns) (omega (arith, room, all))

-- ---- two files with the same directory and the same links
module _ (a b : List ℕ) (l : Layout) (same : directory_of a l ≡ directory_of b l)
    (links : (size : ℕ) → HaveSameLinks (store_for a l size) (store_for b l size)) where
  entry_alike : (id : ℕ) → entry a l id ≡ entry b l id
  entry_alike id = ap (λ (d : List ℕ). entry_at d id) same

  -- what the other file has in the sectors of a stream
  content_in : ℕ → List ℕ → List ℕ
  content_in id ns = take (size_of (entry b l id)) (joined (store_for b l (size_of (entry b l id))).piece ns)

  bytes_alike : (id : ℕ) (ns bytes : List ℕ) → HoldsBytes a l id ns bytes → HoldsBytes b l id ns (content_in id ns)
  unfolding content_in
  bytes_alike id ns bytes h =
      let size : ℕ = size_of (entry a l id) in
      let carried : IsChainOf (store_for b l size) (first_of (entry a l id)) size ns =
      chain_of_carried (store_for a l size) (store_for b l size) (links size) (first_of (entry a l id)) size ns
      h.chain in
      record {
        chain = subst (λ (e : List ℕ). IsChainOf (store_for b l (size_of e)) (first_of e) (size_of e) ns)
            (entry_alike id) carried;
        content = refl;
      }

  length_alike : (id : ℕ) (ns bytes : List ℕ) → HoldsBytes a l id ns bytes → length (content_in id ns) ≡ length bytes
  length_alike id ns bytes h =
      held_length b l id ns (content_in id ns) (bytes_alike id ns bytes h) ∙ sym (ap size_of (entry_alike id))
      ∙ sym (held_length a l id ns bytes h)

  children_alike : (id : ℕ) (ids : List ℕ) → AreChildren a l id ids → AreChildren b l id ids
  children_alike id ids h = record {
    reached = h.reached;
    linked = subst (λ (d : List ℕ). AreLinked d (child (entry_at d id)) h.reached) same h.linked;
    once = h.once;
    same = h.same;
    ordered = subst (λ (d : List ℕ). IsStrictlySortedBy key_cmp (map (λ n. key (name_of (entry_at d n))) ids)) same
        h.ordered;
  }

  called_alike : (id : ℕ) (k name : List ℕ) → IsCalled a l id k name → IsCalled b l id k name
  called_alike id k name h = record {
    named = subst (λ (e : List ℕ). IsNamed e name) (entry_alike id) h.named;
    under_key = h.under_key;
  }

  kind_alike : (id n : ℕ) → kind (entry a l id) ≡ n → kind (entry b l id) ≡ n
  kind_alike id n h = ap kind (sym (entry_alike id)) ∙ h

  -- A storage with the other file's bytes: it takes the same, is as whole, and has the same outline.
  pub record IsRefilled (depth id : ℕ) (t : Tree) (used : Used) : Type 0 where
    pub refilled : Tree
    pub held : Holds b l id refilled used
    pub whole : IsTree depth refilled
    pub listed_so : outline_of refilled ≡ outline_of t

  pub record AreRefilled (depth : ℕ) (ids : List ℕ) (cs : Children) (used : Used) : Type 0 where
    pub refilled : Children
    pub held : HoldsEach b l ids refilled used
    pub whole : AreTrees depth refilled
    pub above : (k : List ℕ) → AreAbove k cs → AreAbove k refilled
    pub listed_so : outlines_of refilled ≡ outlines_of cs

  mutual
    pub storage_refilled : (depth id : ℕ) (t : Tree) (used : Used) → IsTree depth t → Holds a l id t used
        → IsRefilled depth id t used
    storage_refilled depth id (tree class state cs) used w h =
        let r : AreRefilled depth h.2.0 cs used = each_refilled depth h.2.0 cs used w h.2.2 in
        record {
          refilled = tree class state r.refilled;
          held = (
            h.0 ∙ ap class_of (entry_alike id),
            h.1 ∙ ap state_of (entry_alike id),
            (h.2.0, children_alike id h.2.0 h.2.1, r.held),
          );
          whole = r.whole;
          listed_so = ap (outline class state) r.listed_so;
        }

    each_refilled : (depth : ℕ) (ids : List ℕ) (cs : Children) (used : Used) → AreTrees depth cs
        → HoldsEach a l ids cs used → AreRefilled depth ids cs used
    each_refilled depth [] none used w h = record {
      refilled = none;
      held = h;
      whole = tt;
      above = λ k v. tt;
      listed_so = refl;
    }
    each_refilled depth [] (stream k n x cs) used w h = absurd h
    each_refilled depth [] (storage k n t cs) used w h = absurd h
    each_refilled depth (id ∷ ids) none used w h = absurd h
    each_refilled depth (id ∷ ids) (stream k n x cs) used w h =
        let r : AreRefilled depth ids cs h.2.1 = each_refilled depth ids cs h.2.1 w.2 h.2.4 in
        let long : length (content_in id h.2.0) ≡ length x = length_alike id h.2.0 x h.2.2 in
        record {
          refilled = stream k n (content_in id h.2.0) r.refilled;
          held = (
            kind_alike id 2 h.0,
            called_alike id k n h.1,
            (
              h.2.0,
              h.2.1,
              bytes_alike id h.2.0 x h.2.2,
              h.2.3
                  ∙ ap (λ (e : List ℕ). both (taken id (size_of e) h.2.0) h.2.1) (entry_alike id),
              r.held,
            ),
          );
          whole = (w.0, r.above k w.1, r.whole);
          above = λ q v. (v.0, r.above q v.1);
          listed_so = λ i. stream_part n (long i) (r.listed_so i);
        }
    each_refilled zero (id ∷ ids) (storage k n t cs) used w h = absurd w
    each_refilled (suc depth) (id ∷ ids) (storage k n t cs) used w h =
        let inside : IsRefilled depth id t h.2.0 = storage_refilled depth id t h.2.0 w.2 h.2.2 in
        let r : AreRefilled (suc depth) ids cs h.2.1 = each_refilled (suc depth) ids cs h.2.1 w.3 h.2.4 in
        record {
          refilled = storage k n inside.refilled r.refilled;
          held = (kind_alike id 1 h.0, called_alike id k n h.1, (h.2.0, h.2.1, inside.held, h.2.3, r.held));
          whole = (w.0, r.above k w.1, inside.whole, r.whole);
          above = λ q v. (v.0, r.above q v.1);
          listed_so = λ i. storage_part n (inside.listed_so i) (r.listed_so i);
        }
