-- Whether a tree fits into a file, by what is reckoned of it.
use Rattle.std.proofs.Common.{◌≡◌, ◌≤◌, ◌<◌, ◌+◌, ◌*◌, ◌++◌, ℕ, Bool, true, false, List, [], ◌∷◌, Result, is_ok, length}
use Rattle.std.proofs.Common.{min, nat_le, refl, sym, ap, subst, arith, length-append}
use Rattle.std.proofs.lemmas.Bool.{leb-false, leb-true}
use Rattle.std.specs.Int.{w32, to_le_bytes}
use Rattle.std.specs.List.{flat_map}
use Rattle.cfb_entries.specs.Tree.{Tree}
use Rattle.cfb_file.specs.Limits.{MANY, MOST_FAT_SECTORS}
use Rattle.cfb_file.specs.Need.{entries, mini_sectors, long_sectors, fat_sectors, needed}
use Rattle.cfb_file.specs.Refusals.{writable}
use Rattle.cfb_file.specs.declared.fault.WriteFault.{WriteFault}
use Rattle.cfb_file.proofs.Refused.{allowed_room, bounded, refused_room}
use Rattle.tree_streams.specs.declared.area.Area.{Area}
use Rattle.ole_model.specs.CompObjs.{CLASS_BYTES, comp_obj_bytes}
use Rattle.ole_model.specs.Fields.{string_bytes}
use Rattle.ole_model.specs.Layouts.{area_bytes, layout_bytes}
use Rattle.container_documents.specs.Sums.{comp_obj_size}

abbrev is_fine : Result (Unit {0}) WriteFault → Bool
is_fine r = is_ok r

pub fits_told : (t : Tree) (es ms ls : ℕ) → min MANY es ≡ min MANY (entries t)
    → min MANY ms ≡ min MANY (mini_sectors t) → min MANY ls ≡ min MANY (long_sectors t)
    → nat_le (fat_sectors (needed (min MANY es) (min MANY ms) (min MANY ls))) MOST_FAT_SECTORS ≡ is_ok (writable t)
fits_told t es ms ls e m l =
    let same : needed (min MANY es) (min MANY ms) (min MANY ls) ≡ bounded t = (λ i. needed (e i) (m i) (l i)) in
    let told : ℕ = fat_sectors (needed (min MANY es) (min MANY ms) (min MANY ls)) in
    elim (nat_le told MOST_FAT_SECTORS) as (λ b. nat_le told MOST_FAT_SECTORS ≡ b → b ≡ is_ok (writable t)) [
      | true ↦ λ h. let few : told ≤ MOST_FAT_SECTORS = leb-true told MOST_FAT_SECTORS h in
          sym (ap is_fine (allowed_room t (subst (λ d. fat_sectors d ≤ MOST_FAT_SECTORS) same few)))
      | false ↦ λ h. let more : MOST_FAT_SECTORS < told = leb-false told MOST_FAT_SECTORS h in
          sym (ap is_fine (refused_room t (subst (λ d. MOST_FAT_SECTORS < fat_sectors d) same more)))
    ] refl

-- the sizes of the streams that a document adds
pub comp_obj-long : (class user : List ℕ) → length class ≡ CLASS_BYTES → length (comp_obj_bytes class user)
    ≡ comp_obj_size (length user)
comp_obj-long class [] e =
    let a = length-append (class ++ string_bytes [] ++ string_bytes []) (string_bytes []) in
    let b = length-append (class ++ string_bytes []) (string_bytes []) in
    let d = length-append class (string_bytes []) in
    omega (arith, a, b, d, e)
comp_obj-long class (u ∷ us) e =
    let text : List ℕ = u ∷ us in
    let a = length-append (class ++ string_bytes text ++ string_bytes []) (string_bytes []) in
    let b = length-append (class ++ string_bytes text) (string_bytes []) in
    let d = length-append class (string_bytes text) in
    let g = length-append (to_le_bytes w32 (length text + 1) ++ text) (0 ∷ []) in
    let h = length-append (to_le_bytes w32 (length text + 1)) text in
    omega (arith, a, b, d, g, h, e)

areas-long : (areas : List Area) → length (flat_map area_bytes areas) ≡ 8 * length areas
areas-long [] = refl
areas-long (a ∷ areas) = let b = length-append (area_bytes a) (flat_map area_bytes areas) in
    let c = areas-long areas in omega (arith, b, c)

pub layout-long : (areas : List Area) → length (layout_bytes areas) ≡ 8 + 8 * length areas
layout-long areas = let a = areas-long areas in omega (arith, a)
