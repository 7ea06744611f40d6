-- Trees that are whole.
use Rattle.std.specs.Prelude.{ℕ, zero, suc, ◌≡◌, List, [], ◌∷◌}
use Rattle.std.specs.declared.cmp.Ordering.TheVariants.{Less}
use Rattle.cfb_names.specs.Names.{IsName, key, key_cmp}
use Rattle.cfb_entries.specs.Tree.{Tree, Children, tree, none, stream, storage}
use Rattle.cfb_entries.specs.Seen.{Seen, bytes, inner}

-- a child under the key of its name, which is one that a directory takes
pub record IsNamed (k n : List ℕ) : Type 0 where
  pub under_key : k ≡ key n
  pub valid : IsName n

-- every child stands under a greater key than this
abbrev pub AreAbove : List ℕ → Children → Type 0
AreAbove k none = Unit {0}
AreAbove k (stream q n b cs) = (key_cmp k q ≡ Less) × AreAbove k cs
AreAbove k (storage q n t cs) = (key_cmp k q ≡ Less) × AreAbove k cs

-- Children are well named and stand in name order, each before all greater ones, so that no two names are equal in
-- upper case; at most so many storages stand inside one another.
abbrev mutual
  pub IsTree : ℕ → Tree → Type 0
  IsTree depth (tree class state cs) = AreTrees depth cs

  pub AreTrees : ℕ → Children → Type 0
  AreTrees depth none = Unit {0}
  AreTrees depth (stream k n b cs) = IsNamed k n × AreAbove k cs × AreTrees depth cs
  AreTrees zero (storage k n t cs) = ⊥
  AreTrees (suc depth) (storage k n t cs) = IsNamed k n × AreAbove k cs × IsTree depth t × AreTrees (suc depth) cs

-- what may stand in a storage that has so many levels below it
abbrev pub IsWhole : ℕ → Seen → Type 0
IsWhole depth (bytes b) = Unit {0}
IsWhole zero (inner t) = ⊥
IsWhole (suc depth) (inner t) = IsTree depth t

abbrev pub AllWhole : List Tree → Type 0
AllWhole [] = Unit {0}
AllWhole (t ∷ ts) = IsTree 32 t × AllWhole ts

-- the tree now and those that open transactions began with
abbrev pub AreWhole : Tree → List Tree → Type 0
AreWhole now saved = IsTree 32 now × AllWhole saved
