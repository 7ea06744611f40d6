-- Bytes denote at most one tree.
use Rattle.std.proofs.Common.{◌≡◌, ◌*◌, ℕ, zero, suc, List, [], ◌∷◌, take, refl, sym, ◌∙◌, ap, subst, arith}
use Rattle.std.proofs.lemmas.Cmp.{nat_list_cmp_total}
use Rattle.std.specs.List.{All, Contains}
use Rattle.cfb_header.specs.Bytes.{joined, sector}
use Rattle.cfb_chains.specs.Chain.{Store, IsPresent, IsChain, IsChainOf, Leads, END_OF_CHAIN}
use Rattle.cfb_header.specs.Header.{first_directory, first_mini_fat, mini_fat_count}
use Rattle.cfb_chains.specs.Fat.{sectors_of}
use Rattle.cfb_names.specs.Names.{key, key_cmp}
use Rattle.cfb_entries.specs.Entries.{AreLinked, nobody, around, entry_at, left, right, first_of, size_of, child}
use Rattle.cfb_entries.specs.Entries.{name_of}
use Rattle.cfb_entries.specs.Tree.{Tree, Children, tree, none, stream, storage}
use Rattle.cfb_file.specs.Denotes.{Layout, IsLaidOut, directory_of, root_of, sectors, Denotes, Holds, HoldsEach}
use Rattle.cfb_file.specs.Denotes.{HoldsBytes, AreChildren, Used, entry, store_for}
use Rattle.cfb_file.proofs.Lists.{sorted_unique}

-- one chain from a start
pub leads_unique : (s : Store) (a b : ℕ) (ns ms : List ℕ) → a ≡ b → Leads s.next a ns END_OF_CHAIN
    → Leads s.next b ms END_OF_CHAIN
    → All (IsPresent s) ns → All (IsPresent s) ms → ns ≡ ms
leads_unique s a b [] [] e h i p q = refl
leads_unique s a b [] (m ∷ ms) e h i p q = absurd (let r : IsPresent s m = q 0 0 (omega arith) in
    omega (arith, r.0, i.0))
leads_unique s a b (n ∷ ns) [] e h i p q = absurd (let r : IsPresent s n = p 0 0 (omega arith) in
    omega (arith, r.0, h.0))
leads_unique s a b (n ∷ ns) (m ∷ ms) e h i p q =
    let same : n ≡ m = sym h.0 ∙ e ∙ i.0 in
    let rest : ns ≡ ms = leads_unique s (s.next n) (s.next m) ns ms (ap s.next same) h.1 i.1
    (λ k d l. p (suc k) d (omega arith)) (λ k d l. q (suc k) d (omega arith)) in
    cc

pub chain_unique : (s : Store) (start bytes : ℕ) (ns ms : List ℕ) → IsChain s start bytes ns
    → IsChain s start bytes ms → ns ≡ ms
chain_unique s start bytes ns ms h i = leads_unique s start start ns ms refl h.linked i.linked h.present i.present

pub chain_of_unique : (s : Store) (start bytes : ℕ) (ns ms : List ℕ) → IsChainOf s start bytes ns
    → IsChainOf s start bytes ms → ns ≡ ms
chain_of_unique s start zero ns ms h i = h ∙ sym i
chain_of_unique s start (suc n) ns ms h i = chain_unique s start (suc n) ns ms h i

-- one set of linked entries
pub linked_unique : (d : List ℕ) (a b : ℕ) (xs ys : List ℕ) → a ≡ b → AreLinked d a xs → AreLinked d b ys → xs ≡ ys
linked_unique d a b xs ys e nobody nobody = refl
linked_unique d a b xs ys e nobody (around id before after ne lt l r) = absurd (ne (sym e))
linked_unique d a b xs ys e (around id before after ne lt l r) nobody = absurd (ne e)
linked_unique d a b xs ys e (around id before after ne lt l r) (around id' before' after' ne' lt' l' r') =
    let p : before ≡ before' = linked_unique d (left (entry_at d a)) (left (entry_at d b)) before before'
    (ap (λ x. left (entry_at d x)) e) l l' in
    let q : after ≡ after' = linked_unique d (right (entry_at d a)) (right (entry_at d b)) after after'
    (ap (λ x. right (entry_at d x)) e) r r' in
    cc

directory_same : (file : List ℕ) (l m : Layout) → l.directory ≡ m.directory → directory_of file l ≡ directory_of file m
unfolding directory_of
directory_same file l m e = ap (joined (sector file)) e

-- one layout
pub layout_unique : (file : List ℕ) (l m : Layout) → IsLaidOut file l → IsLaidOut file m → l ≡ m
layout_unique file l m h i =
    let fat : l.fat ≡ m.fat = h.fat_listed ∙ sym i.fat_listed in
    let difat : l.difat ≡ m.difat = h.difat_listed ∙ sym i.difat_listed in
    let D : List ℕ → Type 0 = λ f. IsChain (sectors_of file f) (first_directory file) 0 m.directory in
    let directory : l.directory ≡ m.directory = chain_unique (sectors file l) (first_directory file) 0 l.directory
    m.directory
    h.directory (subst D (sym fat) i.directory) in
    let F : List ℕ → Type 0 = λ f. IsChainOf (sectors_of file f) (first_mini_fat file) (512 * mini_fat_count file)
    m.mini_fat in
    let mini_fat : l.mini_fat ≡ m.mini_fat = chain_of_unique (sectors file l) (first_mini_fat file)
    (512 * mini_fat_count file)
    l.mini_fat m.mini_fat h.mini_fat (subst F (sym fat) i.mini_fat) in
    let same : directory_of file m ≡ directory_of file l = directory_same file m l (sym directory) in
    let S : List ℕ → List ℕ → Type 0 = λ f d. IsChainOf (sectors_of file f) (first_of (entry_at d 0))
    (size_of (entry_at d 0)) m.mini_stream in
    let mini_stream : l.mini_stream ≡ m.mini_stream = chain_of_unique (sectors file l) (first_of (root_of file l))
    (size_of (root_of file l))
    l.mini_stream m.mini_stream h.mini_stream
    (subst (λ (d : List ℕ). S l.fat d) same (subst (λ (f : List ℕ). S f (directory_of file m)) (sym fat)
    i.mini_stream)) in
    λ t. record {
      fat = fat t;
      difat = difat t;
      directory = directory t;
      mini_fat = mini_fat t;
      mini_stream = mini_stream t;
    }

module _ (file : List ℕ) (l : Layout) where
  bytes_unique : (id : ℕ) (ns ms : List ℕ) (x y : List ℕ) → HoldsBytes file l id ns x → HoldsBytes file l id ms y
      → x ≡ y
  bytes_unique id ns ms x y h i =
      let s : Store = store_for file l (size_of (entry file l id)) in
      let e : ns ≡ ms = chain_of_unique s (first_of (entry file l id)) (size_of (entry file l id)) ns ms h.chain
      i.chain in
      h.content ∙ ap (λ ks. take (size_of (entry file l id)) (joined s.piece ks)) e ∙ sym i.content

  children_unique : (id : ℕ) (ids ids' : List ℕ) → AreChildren file l id ids → AreChildren file l id ids' → ids ≡ ids'
  children_unique id ids ids' h i =
      let top : ℕ = child (entry file l id) in
      let e : h.reached ≡ i.reached = linked_unique (directory_of file l) top top h.reached i.reached refl h.linked
      i.linked in
      let P : ℕ → List ℕ → Type 0 = λ z xs. Contains xs z in
      sorted_unique (λ n. key (name_of (entry file l n))) key_cmp nat_list_cmp_total ids ids' h.ordered i.ordered
      (λ z c. (i.same z).0 (subst (P z) e ((h.same z).1 c)))
      (λ z c. (h.same z).0 (subst (P z) (sym e) ((i.same z).1 c)))

  mutual
    holds_unique : (id : ℕ) (t t' : Tree) (u u' : Used) → Holds file l id t u → Holds file l id t' u' → t ≡ t'
    holds_unique id (tree class state cs) (tree class' state' cs') u u' h i =
        let c : class ≡ class' = h.0 ∙ sym i.0 in
        let s : state ≡ state' = h.1 ∙ sym i.1 in
        let e : h.2.0 ≡ i.2.0 = children_unique id h.2.0 i.2.0 h.2.1 i.2.1 in
        let E : List ℕ → Type 0 = λ ids. HoldsEach file l ids cs' u' in
        let k : cs ≡ cs' = each_unique h.2.0 cs cs' u u' h.2.2 (subst E (sym e) i.2.2) in
        λ t. tree (c t) (s t) (k t)

    each_unique : (ids : List ℕ) (cs cs' : Children) (u u' : Used) → HoldsEach file l ids cs u
        → HoldsEach file l ids cs' u' → cs ≡ cs'
    each_unique [] none none u u' h i = refl
    each_unique [] none (stream q m y ds) u u' h i = absurd i
    each_unique [] none (storage q m y ds) u u' h i = absurd i
    each_unique [] (stream k n x cs) ds u u' h i = absurd h
    each_unique [] (storage k n x cs) ds u u' h i = absurd h
    each_unique (id ∷ ids) none ds u u' h i = absurd h
    each_unique (id ∷ ids) (stream k n x cs) none u u' h i = absurd i
    each_unique (id ∷ ids) (stream k n x cs) (stream k' m y ds) u u' h i =
        let name : n ≡ m = h.1.named.units ∙ sym i.1.named.units in
        let under : k ≡ k' = h.1.under_key ∙ ap key name ∙ sym i.1.under_key in
        let content : x ≡ y = bytes_unique id h.2.0 i.2.0 x y h.2.2 i.2.2 in
        let rest : cs ≡ ds = each_unique ids cs ds h.2.1 i.2.1 h.2.4 i.2.4 in
        λ t. stream (under t) (name t) (content t) (rest t)
    each_unique (id ∷ ids) (stream k n x cs) (storage q m y ds) u u' h i = absurd (omega (arith, h.0, i.0))
    each_unique (id ∷ ids) (storage k n x cs) none u u' h i = absurd i
    each_unique (id ∷ ids) (storage k n x cs) (stream q m y ds) u u' h i = absurd (omega (arith, h.0, i.0))
    each_unique (id ∷ ids) (storage k n x cs) (storage k' m y ds) u u' h i =
        let name : n ≡ m = h.1.named.units ∙ sym i.1.named.units in
        let under : k ≡ k' = h.1.under_key ∙ ap key name ∙ sym i.1.under_key in
        let content : x ≡ y = holds_unique id x y h.2.0 i.2.0 h.2.2 i.2.2 in
        let rest : cs ≡ ds = each_unique ids cs ds h.2.1 i.2.1 h.2.4 i.2.4 in
        λ t. storage (under t) (name t) (content t) (rest t)

pub one_tree : (file : List ℕ) (a b : Tree) → Denotes file a → Denotes file b → a ≡ b
one_tree file a b h i =
    let same : h.layout ≡ i.layout = layout_unique file h.layout i.layout h.laid_out i.laid_out in
    let E : Layout → Type 0 = λ l. Holds file l 0 b i.used in
    holds_unique file h.layout 0 a b h.used i.used h.holds (subst E (sym same) i.holds)
