-- A file that a listing can't tell from another has the other's outline, and its streams lie at the same places.
use Rattle.std.proofs.Common.{◌≡◌, ◌∙◌, ℕ, List, refl, sym, ap, subst}
use Rattle.cfb_header.specs.Bytes.{joined, sector}
use Rattle.cfb_header.specs.Header.{first_directory, listed}
use Rattle.cfb_chains.specs.Chain.{IsChain}
use Rattle.cfb_chains.specs.Fat.{sectors_of}
use Rattle.cfb_chains.proofs.Chains.{chain_one}
use Rattle.cfb_entries.specs.Tree.{Tree}
use Rattle.cfb_file.specs.Alike.{Alike}
use Rattle.cfb_file.specs.Denotes.{Denotes, directory_of}
use Rattle.cfb_file.specs.Outline.{outline_of}
use Rattle.cfb_file.proofs.AlikeFiles.{alike_back, alike_denotes}
use Rattle.cfb_faults.specs.Faults.{IsDirectory}
use Rattle.cfb_faults.proofs.Alike.{directory_alike}
use Rattle.read_outlines.specs.declared.outline.Outline.{Outline}
use Rattle.read_outlines.specs.Places.{IsPlaced, IsTold}

-- a tree that a file denotes, of an outline that tells where its streams lie
abbrev pub IsPlacedIn : List ℕ → Outline → Type 0
IsPlacedIn file o = (t : Tree) × ∥ IsPlaced file t o ∥₁

directory_in : (file : List ℕ) (t : Tree) (d : Denotes file t) → IsDirectory file (directory_of file d.layout)
unfolding directory_of
directory_in file t d = record {
  is_fat = d.laid_out.fat_sectors;
  sectors = d.layout.directory;
  is_chain = subst (λ (fat : List ℕ). IsChain (sectors_of file fat) (first_directory file) 0 d.layout.directory)
      d.laid_out.fat_listed d.laid_out.directory;
  bytes_are = refl;
}

one_directory : (file dir other : List ℕ) → IsDirectory file dir → IsDirectory file other → dir ≡ other
one_directory file dir other d e =
    let same : d.sectors ≡ e.sectors = chain_one (sectors_of file (listed file)) (first_directory file) d.sectors
    e.sectors d.is_chain e.is_chain in
    d.bytes_are ∙ ap (joined (sector file)) same ∙ sym e.bytes_are

-- the outline of one is that of the other, and lies there
pub placed_alike : (a b : List ℕ) (o : Outline) → Alike a b → (t : Tree) × IsPlaced b t o → (t : Tree) × IsPlaced a t o
placed_alike a b o h p =
    let q : (u : Tree) × Denotes a u × (outline_of u ≡ outline_of p.0) =
    alike_denotes b a (alike_back a b h) p.0 p.1.denotes in
    let dir : List ℕ = directory_of b p.1.denotes.layout in
    let same : dir ≡ directory_of a q.1.layout =
    one_directory a dir (directory_of a q.1.layout) (directory_alike a b dir h (directory_in b p.0 p.1.denotes))
    (directory_in a q.0 q.1) in
    let placed : IsPlaced a q.0 o = record {
      outlined = p.1.outlined ∙ sym q.2;
      denotes = q.1;
      told = subst (λ (x : List ℕ). IsTold x 0 o) same p.1.told;
    } in
    (q.0, placed)

pub placed_in : (a b : List ℕ) (o : Outline) → Alike a b → (t : Tree) × IsPlaced b t o → IsPlacedIn a o
placed_in a b o h p = let q : (t : Tree) × IsPlaced a t o = placed_alike a b o h p in (q.0, ∣ q.1 ∣₁)
