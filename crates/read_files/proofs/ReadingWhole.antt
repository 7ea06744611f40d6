-- What is read is a whole tree, and each of its entries is one that may stand in a storage.
use Rattle.std.proofs.Common.{◌≡◌, ◌<◌, ◌-◌, ◌⊎◌, inl, inr, ℕ, zero, suc, List, [], ◌∷◌, map, refl, sym, ◌∙◌, ap, subst}
use Rattle.std.proofs.Common.{arith}
use Rattle.std.specs.List.{AllByRecursion, Contains}
use Rattle.std.specs.List.Sorted.{IsStrictlySortedBy}
use Rattle.std.specs.declared.cmp.Ordering.TheVariants.{Less}
use Rattle.std.proofs.lemmas.Map.Keys.{sorted_head, sorted_tail}
use Rattle.cfb_names.specs.Names.{IsName, key, key_cmp}
use Rattle.cfb_entries.specs.Entries.{entry_at, kind}
use Rattle.cfb_entries.specs.Tree.{Tree, Children, tree, none, stream, storage, keys}
use Rattle.cfb_entries.specs.Whole.{AreAbove, AreTrees, IsTree}
use Rattle.cfb_file.proofs.Lists.{Contains-cons_cases}
use Rattle.cfb_faults.specs.Faults.{key_at}
use Rattle.read_files.specs.Reads.{AreRead, IsChildNamed, IsStorageRead, directory_in, met}
use Rattle.read_files.specs.declared.read.Reader.{Reader}
use Rattle.read_files.proofs.ReadingKept.{IsKept, kept_storage, kept_stream}
use Rattle.cfb_faults.proofs.Lists.{contains-none}
use Rattle.cfb_faults.proofs.Keys.{IsReadable}

-- the directory of what is read next
next_stream : (dir : List ℕ) (old next : Reader) → directory_in old ≡ dir → IsKept old next → directory_in next ≡ dir
next_stream dir old next d k = k.directory ∙ d

readable : (dir : List ℕ) (id : ℕ) (k n : List ℕ) (r : Reader) → directory_in r ≡ dir
    → (kind (entry_at (directory_in r) id) ≡ 1) ⊎ (kind (entry_at (directory_in r) id) ≡ 2)
    → IsChildNamed (directory_in r) id k n → IsReadable dir id
readable dir id k n r d h c = subst (λ (x : List ℕ). IsReadable x id) d
    (record { name = n; kind_is = h; named = c.named; valid = c.valid })

pub each_readable : (dir : List ℕ) (depth : ℕ) (ids : List ℕ) (cs : Children) (old new : Reader)
    → directory_in old ≡ dir → AreRead depth ids cs old new
    → (n : ℕ) → Contains ids n → IsReadable dir n
each_readable dir depth [] none old new d h n c = absurd (contains-none n c)
each_readable dir depth [] (stream k m b cs) old new d h n c = absurd h
each_readable dir depth [] (storage k m t cs) old new d h n c = absurd h
each_readable dir depth (id ∷ ids) none old new d h n c = absurd h
each_readable dir depth (id ∷ ids) (stream k m b cs) old new d h n c =
    elim (Contains-cons_cases id ids n c) [
      | inl e ↦ subst (IsReadable dir) e (readable dir id k m old d (inr h.1.1.kind_is) h.0)
      | inr i ↦ each_readable dir depth ids cs h.1.0 new
          (next_stream dir old h.1.0 d (kept_stream id b old h.1.0 h.1.1)) h.1.2 n i
    ]
each_readable dir depth (id ∷ ids) (storage k m t cs) old new d h n c =
    elim (Contains-cons_cases id ids n c) [
      | inl e ↦ subst (IsReadable dir) e (readable dir id k m old d (inl h.1.1.0) h.0)
      | inr i ↦ each_readable dir depth ids cs h.1.0 new
          (next_stream dir old h.1.0 d (kept_storage (depth - 1) id t old h.1.0 h.1.1.2)) h.1.2 n i
    ]

-- ---- in order
above_from : (k : List ℕ) (cs : Children) → AllByRecursion (λ q. key_cmp k q ≡ Less) (keys cs) → AreAbove k cs
above_from k none h = tt
above_from k (stream q n b cs) h = (h.0, above_from k cs h.1)
above_from k (storage q n t cs) h = (h.0, above_from k cs h.1)

key_is : (dir : List ℕ) (id : ℕ) (k n : List ℕ) (r : Reader) → directory_in r ≡ dir
    → IsChildNamed (directory_in r) id k n → k ≡ key_at dir id
key_is dir id k n r d c = c.under_key ∙ ap key c.named.units ∙ ap (λ (x : List ℕ). key_at x id) d

keys_read : (dir : List ℕ) (depth : ℕ) (ids : List ℕ) (cs : Children) (old new : Reader) → directory_in old ≡ dir
    → AreRead depth ids cs old new
    → keys cs ≡ map (key_at dir) ids
keys_read dir depth [] none old new d h = refl
keys_read dir depth [] (stream k m b cs) old new d h = absurd h
keys_read dir depth [] (storage k m t cs) old new d h = absurd h
keys_read dir depth (id ∷ ids) none old new d h = absurd h
keys_read dir depth (id ∷ ids) (stream k m b cs) old new d h =
    let first : k ≡ key_at dir id = key_is dir id k m old d h.0 in
    let rest : keys cs ≡ map (key_at dir) ids = keys_read dir depth ids cs h.1.0 new
    (next_stream dir old h.1.0 d (kept_stream id b old h.1.0 h.1.1)) h.1.2 in
    λ t. first t ∷ rest t
keys_read dir depth (id ∷ ids) (storage k m t cs) old new d h =
    let first : k ≡ key_at dir id = key_is dir id k m old d h.0 in
    let rest : keys cs ≡ map (key_at dir) ids = keys_read dir depth ids cs h.1.0 new
    (next_stream dir old h.1.0 d (kept_storage (depth - 1) id t old h.1.0 h.1.1.2)) h.1.2 in
    λ t. first t ∷ rest t

above_rest : (dir : List ℕ) (id : ℕ) (ids k n : List ℕ) (cs : Children) (r : Reader) → directory_in r ≡ dir
    → IsChildNamed (directory_in r) id k n
    → keys cs ≡ map (key_at dir) ids → IsStrictlySortedBy key_cmp (map (key_at dir) (id ∷ ids)) → AreAbove k cs
above_rest dir id ids k n cs r d c same sorted =
    let head : AllByRecursion (λ q. key_cmp (key_at dir id) q ≡ Less) (map (key_at dir) ids) =
    sorted_head key_cmp (key_at dir id) (map (key_at dir) ids) sorted in
    above_from k cs (subst (λ (x : List ℕ). AllByRecursion (λ q. key_cmp x q ≡ Less) (keys cs))
    (sym (key_is dir id k n r d c))
    (subst (AllByRecursion (λ q. key_cmp (key_at dir id) q ≡ Less)) (sym same) head))

storage_fits : (depth : ℕ) (k n : List ℕ) (t : Tree) (cs : Children) → 0 < depth → k ≡ key n → IsName n
    → AreAbove k cs → IsTree (depth - 1) t → AreTrees depth cs
    → AreTrees depth (storage k n t cs)
storage_fits zero k n t cs lt e v a h r = absurd (omega arith)
storage_fits (suc depth) k n t cs lt e v a h r =
    (record { under_key = e; valid = v }, a, subst (λ (d : ℕ). IsTree d t) (omega arith) h, r)

stream_fits : (depth : ℕ) (k n b : List ℕ) (cs : Children) → k ≡ key n → IsName n → AreAbove k cs
    → AreTrees depth cs → AreTrees depth (stream k n b cs)
stream_fits zero k n b cs e v a r = (record { under_key = e; valid = v }, a, r)
stream_fits (suc depth) k n b cs e v a r = (record { under_key = e; valid = v }, a, r)

none_fits : (depth : ℕ) → AreTrees depth none
none_fits zero = tt
none_fits (suc depth) = tt

mutual
  pub whole_storage : (depth id : ℕ) (t : Tree) (old new : Reader) → IsStorageRead depth id t old new → IsTree depth t
  whole_storage depth id (tree class state cs) old new h =
      whole_each (directory_in old) depth h.2.0 cs (met h.2.1.reached old) new refl h.2.2 h.2.1.ordered

  whole_each : (dir : List ℕ) (depth : ℕ) (ids : List ℕ) (cs : Children) (old new : Reader) → directory_in old ≡ dir
      → AreRead depth ids cs old new
      → IsStrictlySortedBy key_cmp (map (key_at dir) ids) → AreTrees depth cs
  whole_each dir depth [] none old new d h s = none_fits depth
  whole_each dir depth [] (stream k m b cs) old new d h s = absurd h
  whole_each dir depth [] (storage k m t cs) old new d h s = absurd h
  whole_each dir depth (id ∷ ids) none old new d h s = absurd h
  whole_each dir depth (id ∷ ids) (stream k m b cs) old new d h s =
      let next : directory_in h.1.0 ≡ dir = next_stream dir old h.1.0 d (kept_stream id b old h.1.0 h.1.1) in
      stream_fits depth k m b cs h.0.under_key h.0.valid
      (above_rest dir id ids k m cs old d h.0 (keys_read dir depth ids cs h.1.0 new next h.1.2) s)
      (whole_each dir depth ids cs h.1.0 new next h.1.2 (sorted_tail key_cmp (key_at dir id) (map (key_at dir) ids) s))
  whole_each dir depth (id ∷ ids) (storage k m t cs) old new d h s =
      let next : directory_in h.1.0 ≡ dir = next_stream dir old h.1.0 d
      (kept_storage (depth - 1) id t old h.1.0 h.1.1.2) in
      storage_fits depth k m t cs h.1.1.1 h.0.under_key h.0.valid
      (above_rest dir id ids k m cs old d h.0 (keys_read dir depth ids cs h.1.0 new next h.1.2) s)
      (whole_storage (depth - 1) id t old h.1.0 h.1.1.2)
      (whole_each dir depth ids cs h.1.0 new next h.1.2 (sorted_tail key_cmp (key_at dir id) (map (key_at dir) ids) s))
