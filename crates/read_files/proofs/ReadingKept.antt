-- Reading keeps the directory, and all marks of entries.
use Rattle.std.proofs.Common.{◌≡◌, ◌-◌, ℕ, Bool, true, false, if◌then◌else◌, nat_lt, List, [], ◌∷◌, get_or, refl, sym}
use Rattle.std.proofs.Common.{◌∙◌, ap, subst}
use Rattle.cfb_chains.specs.Fat.{FatValue, held, marked}
use Rattle.cfb_entries.specs.Entries.{entry_at, size_of}
use Rattle.cfb_entries.proofs.Marks.{set_all-stays}
use Rattle.cfb_file.specs.Limits.{CUTOFF}
use Rattle.cfb_entries.specs.Tree.{Tree, Children, tree, none, stream, storage}
use Rattle.tree_storage.specs.Change.{Seen, bytes, inner}
use Rattle.read_files.specs.Reads.{AreRead, IsNodeRead, IsStorageRead, IsStreamRead, base_of, directory_in, met}
use Rattle.read_files.specs.Reads.{stream_after}
use Rattle.read_outlines.specs.View.{contents}
use Rattle.read_files.specs.declared.read.Reader.{Reader}

pub record IsKept (old new : Reader) : Type 0 where
  pub directory : directory_in new ≡ directory_in old
  pub marks : (n : ℕ) → get_or old.entries.used n true ≡ true → get_or new.entries.used n true ≡ true
  pub content : contents new.fat new.mini ≡ contents old.fat old.mini
  pub base : (own : List ℕ) → base_of own new ≡ base_of own old

-- marks change no bytes
same_content : (b c : Bool) (fat mini : FatValue) (ns : List ℕ) (first size : ℕ)
    → held (if c then (if b then marked mini ns else mini) else (if b then fat else marked fat ns)) first size
    ≡ held (if c then mini else fat) first size
same_content true true fat mini ns first size = refl
same_content true false fat mini ns first size = refl
same_content false true fat mini ns first size = refl
same_content false false fat mini ns first size = refl

content_after : (size : ℕ) (ns : List ℕ) (r : Reader)
    → contents (stream_after size ns r).fat (stream_after size ns r).mini ≡ contents r.fat r.mini
content_after size ns r = λ i place. same_content (nat_lt size CUTOFF) (nat_lt place.size CUTOFF) r.fat r.mini ns
    place.first place.size i

-- nor links
same_base : (b : Bool) (ns : List ℕ) (r : Reader) (own : List ℕ)
    → base_of own (record {
      fat = if b then r.fat else marked r.fat ns;
      mini = if b then marked r.mini ns
          else r.mini;
      entries = r.entries;
    }) ≡ base_of own r
same_base true ns r own = refl
same_base false ns r own = refl

pub kept_none : (r : Reader) → IsKept r r
kept_none r = record { directory = refl; marks = λ n h. h; content = refl; base = λ own. refl }

pub kept_then : (a b c : Reader) → IsKept a b → IsKept b c → IsKept a c
kept_then a b c h i = record {
  directory = i.directory ∙ h.directory;
  marks = λ n m. i.marks n (h.marks n m);
  content = i.content ∙ h.content;
  base = λ own. i.base own ∙ h.base own;
}

pub kept_same : (a b : Reader) → b ≡ a → IsKept a b
kept_same a b e = subst (IsKept a) (sym e) (kept_none a)

pub kept_met : (ids : List ℕ) (r : Reader) → IsKept r (met ids r)
kept_met ids r = record {
  directory = refl;
  marks = λ n h. set_all-stays r.entries.used ids n h;
  content = refl;
  base = λ own. refl;
}

pub kept_stream : (id : ℕ) (b : List ℕ) (old new : Reader) → IsStreamRead id b old new → IsKept old new
kept_stream id b old new h = record {
  directory = ap (λ (r : Reader). directory_in r) h.after;
  marks = λ n m. subst (λ (us : List Bool). get_or us n true ≡ true)
      (sym (ap (λ (r : Reader). r.entries.used) h.after)) m;
  content = ap (λ (r : Reader). contents r.fat r.mini) h.after
      ∙ content_after (size_of (entry_at (directory_in old) id)) h.ns old;
  base = λ own. ap (base_of own) h.after ∙ same_base (nat_lt (size_of (entry_at (directory_in old) id)) CUTOFF) h.ns
      old own;
}

mutual
  pub kept_storage : (depth id : ℕ) (t : Tree) (old new : Reader) → IsStorageRead depth id t old new → IsKept old new
  kept_storage depth id (tree class state cs) old new h =
      kept_then old (met h.2.1.reached old) new (kept_met h.2.1.reached old)
      (kept_each depth h.2.0 cs (met h.2.1.reached old) new h.2.2)

  pub kept_each : (depth : ℕ) (ids : List ℕ) (cs : Children) (old new : Reader) → AreRead depth ids cs old new
      → IsKept old new
  kept_each depth [] none old new h = kept_same old new h
  kept_each depth [] (stream k n b cs) old new h = absurd h
  kept_each depth [] (storage k n t cs) old new h = absurd h
  kept_each depth (id ∷ ids) none old new h = absurd h
  kept_each depth (id ∷ ids) (stream k n b cs) old new h =
      kept_then old h.1.0 new (kept_stream id b old h.1.0 h.1.1) (kept_each depth ids cs h.1.0 new h.1.2)
  kept_each depth (id ∷ ids) (storage k n t cs) old new h =
      kept_then old h.1.0 new (kept_storage (depth - 1) id t old h.1.0 h.1.1.2) (kept_each depth ids cs h.1.0 new h.1.2)

pub kept_node : (depth id : ℕ) (s : Seen) (old new : Reader) → IsNodeRead depth id s old new → IsKept old new
kept_node depth id (bytes b) old new h = kept_stream id b old new h
kept_node depth id (inner t) old new h = kept_storage (depth - 1) id t old new h.2
