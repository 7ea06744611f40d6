-- What is read of an entry leaves the same marks, whatever it is read as.
use Rattle.std.proofs.Common.{◌≡◌, ◌-◌, ℕ, List, [], ◌∷◌, sym, refl, ◌∙◌, ap, subst, arith}
use Rattle.cfb_chains.proofs.Chains.{chain_once}
use Rattle.cfb_chains.specs.Fat.{store_of}
use Rattle.cfb_entries.specs.Entries.{child, entry_at, first_of, size_of}
use Rattle.cfb_file.proofs.Unique.{linked_unique}
use Rattle.cfb_entries.specs.Tree.{Tree, Children, tree, none, stream, storage}
use Rattle.tree_storage.specs.Change.{Seen, bytes, inner}
use Rattle.read_files.specs.Reads.{AreRead, IsNodeRead, IsStorageRead, IsStreamRead, directory_in, met, stream_after}
use Rattle.read_outlines.specs.View.{table_for}
use Rattle.read_files.specs.declared.read.Reader.{Reader}
use Rattle.read_files.proofs.ReadingSorted.{sorted_same}

stream_once : (id : ℕ) (b c : List ℕ) (old new new' : Reader) → IsStreamRead id b old new
    → IsStreamRead id c old new' → new ≡ new'
stream_once id b c old new new' h i =
    let size : ℕ = size_of (entry_at (directory_in old) id) in
    let first : ℕ = first_of (entry_at (directory_in old) id) in
    let same : h.ns ≡ i.ns = chain_once (store_of (table_for size old.fat old.mini)) first size h.ns i.ns
    h.found.chain i.found.chain in
    h.after ∙ ap (λ (ns : List ℕ). stream_after size ns old) same ∙ sym i.after

mutual
  pub storage_once : (depth id : ℕ) (t t' : Tree) (old new new' : Reader) → IsStorageRead depth id t old new
      → IsStorageRead depth id t' old new' → new ≡ new'
  storage_once depth id (tree class state cs) (tree class' state' cs') old new new' h i =
      let top : ℕ = child (entry_at (directory_in old) id) in
      let ids : h.2.0 ≡ i.2.0 = sorted_same old.entries id h.2.0 i.2.0 h.2.1 i.2.1 in
      let reached : h.2.1.reached ≡ i.2.1.reached = linked_unique (directory_in old) top top h.2.1.reached
      i.2.1.reached refl h.2.1.linked i.2.1.linked in
      let there : AreRead depth h.2.0 cs' (met h.2.1.reached old) new' =
      subst (λ (xs : List ℕ). AreRead depth xs cs' (met h.2.1.reached old) new') (sym ids)
      (subst (λ (xs : List ℕ). AreRead depth i.2.0 cs' (met xs old) new') (sym reached) i.2.2) in
      each_once depth h.2.0 cs cs' (met h.2.1.reached old) new new' h.2.2 there

  each_once : (depth : ℕ) (ids : List ℕ) (cs cs' : Children) (old new new' : Reader) → AreRead depth ids cs old new
      → AreRead depth ids cs' old new' → new ≡ new'
  each_once depth [] none none old new new' h i = h ∙ sym i
  each_once depth [] none (stream k n b ds) old new new' h i = absurd i
  each_once depth [] none (storage k n t ds) old new new' h i = absurd i
  each_once depth [] (stream k n b cs) ds old new new' h i = absurd h
  each_once depth [] (storage k n t cs) ds old new new' h i = absurd h
  each_once depth (id ∷ ids) none ds old new new' h i = absurd h
  each_once depth (id ∷ ids) (stream k n b cs) none old new new' h i = absurd i
  each_once depth (id ∷ ids) (stream k n b cs) (stream k' n' b' ds) old new new' h i =
      let next : h.1.0 ≡ i.1.0 = stream_once id b b' old h.1.0 i.1.0 h.1.1 i.1.1 in
      each_once depth ids cs ds h.1.0 new new' h.1.2
      (subst (λ (r : Reader). AreRead depth ids ds r new') (sym next) i.1.2)
  each_once depth (id ∷ ids) (stream k n b cs) (storage k' n' t' ds) old new new' h i =
      absurd (omega (arith, h.1.1.kind_is, i.1.1.0))
  each_once depth (id ∷ ids) (storage k n t cs) none old new new' h i = absurd i
  each_once depth (id ∷ ids) (storage k n t cs) (stream k' n' b' ds) old new new' h i =
      absurd (omega (arith, h.1.1.0, i.1.1.kind_is))
  each_once depth (id ∷ ids) (storage k n t cs) (storage k' n' t' ds) old new new' h i =
      let next : h.1.0 ≡ i.1.0 = storage_once (depth - 1) id t t' old h.1.0 i.1.0 h.1.1.2 i.1.1.2 in
      each_once depth ids cs ds h.1.0 new new' h.1.2
      (subst (λ (r : Reader). AreRead depth ids ds r new') (sym next) i.1.2)

pub node_once : (depth id : ℕ) (s s' : Seen) (old new new' : Reader) → IsNodeRead depth id s old new
    → IsNodeRead depth id s' old new' → new ≡ new'
node_once depth id (bytes b) (bytes c) old new new' h i = stream_once id b c old new new' h i
node_once depth id (bytes b) (inner t) old new new' h i = absurd (omega (arith, h.kind_is, i.0))
node_once depth id (inner t) (bytes b) old new new' h i = absurd (omega (arith, h.0, i.kind_is))
node_once depth id (inner t) (inner t') old new new' h i = storage_once (depth - 1) id t t' old new new' h.2 i.2
