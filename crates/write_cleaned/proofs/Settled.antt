-- What can be told is so where it is so by some witness.
use Rattle.std.proofs.Common.{◌≡◌, ◌++◌, ℕ, Bool, true, false, List, Option, Some, None, Result, Ok, Err, cond, nat_lt}
use Rattle.std.proofs.Common.{refl}
use Rattle.std.proofs.Math.Decide.{ℕ_discrete}
use Rattle.std.proofs.Math.Logic.{∥∥₁_elim, ∥∥₁_map}
use mathlib.Core.List.{List-discrete}
use Rattle.std.specs.Io.KnownBytes.{Appends}
use Rattle.cfb_entries.specs.Tree.{Tree}
use Rattle.write_parts.proofs.Outlined.{same-writable}
use Rattle.cfb_file.specs.Limits.{MOST_FAT_SECTORS}
use Rattle.cfb_file.specs.Need.{data_sectors, fat_sectors}
use Rattle.cfb_file.specs.Outline.{outline_of}
use Rattle.cfb_file.specs.Refusals.{writable}
use Rattle.cfb_file.specs.declared.fault.WriteFault.{WriteFault}
use Rattle.cfb_file.specs.declared.fault.WriteFault.TheVariants.{TooBig}

⊥_prop : (a b : ⊥) → a ≡ b
⊥_prop a b = absurd a

known : {P : Type 0} → Dec P → ∥ P ∥₁ → P
known (yes p) h = p
known (no n) h = absurd (∥∥₁_elim h ⊥_prop n)

pub same_number : (m n : ℕ) → ∥ m ≡ n ∥₁ → m ≡ n
same_number m n h = known (ℕ_discrete m n) h

-- bytes were written
pub appended : (old new : Option (List ℕ)) (bytes : List ℕ) → ∥ Appends old new bytes ∥₁ → Appends old new bytes
appended None new bytes h = tt
appended (Some xs) None bytes h = ∥∥₁_elim h ⊥_prop (λ x. x)
appended (Some xs) (Some ys) bytes h = known (List-discrete ℕ_discrete ys (xs ++ bytes)) h

-- whether a file can hold a tree
told : Bool → Result (Unit {0}) WriteFault
told t = cond t (Err TooBig) (Ok tt)

clash : ◌≡◌ {A = Result (Unit {0}) WriteFault} (Ok tt) (Err TooBig) → ⊥
clash e = cc

back : ◌≡◌ {A = Result (Unit {0}) WriteFault} (Err TooBig) (Ok tt) → ⊥
back e = cc

one_told : (s t : Bool) → ∥ told s ≡ told t ∥₁ → told s ≡ told t
unfolding told
one_told true true h = refl
one_told false false h = refl
one_told true false h = absurd (∥∥₁_elim h ⊥_prop back)
one_told false true h = absurd (∥∥₁_elim h ⊥_prop clash)

pub one_writable : (t u : Tree) → ∥ outline_of t ≡ outline_of u ∥₁ → writable t ≡ writable u
unfolding told
one_writable t u h =
    one_told (nat_lt MOST_FAT_SECTORS (fat_sectors (data_sectors t)))
    (nat_lt MOST_FAT_SECTORS (fat_sectors (data_sectors u))) (∥∥₁_map h (same-writable t u))

is_told : (t : Bool) → ∥ told t ≡ Ok tt ∥₁ → told t ≡ Ok tt
unfolding told
is_told true h = absurd (∥∥₁_elim h ⊥_prop back)
is_told false h = refl

pub has_file : (t : Tree) → ∥ writable t ≡ Ok tt ∥₁ → writable t ≡ Ok tt
unfolding told
has_file t h = is_told (nat_lt MOST_FAT_SECTORS (fat_sectors (data_sectors t))) h
