-- A stream's chain, as its entry is read: what of it is marked, and what lies behind its end.
use Rattle.std.proofs.Common.{◌≡◌, ◌<◌, ◌≤◌, ◌+◌, ◌*◌, ℕ, List, drop, get_or, refl, sym, ap, subst, ◌∙◌, arith}
use Rattle.std.specs.List.{Contains}
use Rattle.cfb_bytes.specs.Bytes.{block, u32_at}
use Rattle.cfb_header.specs.Bytes.{joined, mini_sector, sector}
use Rattle.cfb_entries.specs.Entries.{entry_at, first_of, size_of}
use Rattle.cfb_file.specs.Limits.{CUTOFF}
use Rattle.write_zeros.specs.Parts.{AreTaken, EndsInZeros}
use Rattle.write_zeros.specs.Taken.{AllIn, IsLinked, IsLinkedIn}
use Rattle.write_zeros.specs.Zeroed.{AreZeros}
use Rattle.write_zeros.specs.declared.parts.Parts.{Parts}

-- the first sector and the size that an entry tells
pub record IsStart (bytes entry : List ℕ) (first size : ℕ) : Type 0 where
  pub same : bytes ≡ entry
  pub first_is : first ≡ u32_at bytes 116
  pub size_is : size ≡ u32_at bytes 120

first_known : (bytes entry : List ℕ) (first size : ℕ) → IsStart bytes entry first size → first ≡ first_of entry
first_known bytes entry first size s = s.first_is ∙ ap (λ (x : List ℕ). u32_at x 116) s.same

size_known : (bytes entry : List ℕ) (first size : ℕ) → IsStart bytes entry first size → size ≡ size_of entry
size_known bytes entry first size s = s.size_is ∙ ap (λ (x : List ℕ). u32_at x 120) s.same

-- what is known of a table and of a start as they are read is known of them
told : (P : List ℕ → ℕ → ℕ → Type 0) (read table : List ℕ) (bytes entry : List ℕ) (first size : ℕ) → read ≡ table
    → IsStart bytes entry first size
    → P read first size → P table (first_of entry) (size_of entry)
told P read table bytes entry first size e s h =
    subst (λ x. P table (first_of entry) x) (size_known bytes entry first size s)
    (subst (λ x. P table x size) (first_known bytes entry first size s) (subst (λ (t : List ℕ). P t first size) e h))

pub ends_short : (file : List ℕ) (p : Parts) (bytes entry : List ℕ) (first size : ℕ) (table shorts : List ℕ)
    → IsStart bytes entry first size
    → table ≡ p.next_mini.items → shorts ≡ p.shorts.items → size < CUTOFF
    → ((ns : List ℕ) → IsLinked table first size ns
    → AreZeros (drop size (joined (λ n. block 64 shorts (0 + 64 * n)) ns))) → EndsInZeros file p entry
ends_short file p bytes entry first size table shorts s t b lt h =
    let none : (n : ℕ) → 0 + 64 * n ≡ 64 * n = λ n. omega arith in
    let known : (ns : List ℕ) → IsLinked table first size ns
    → AreZeros (drop size (joined (mini_sector p.shorts.items) ns)) =
    λ ns l. subst AreZeros (ap (λ (x : List ℕ). drop size (joined (λ n. block 64 x (0 + 64 * n)) ns)) b
    ∙ (λ i. drop size (joined (λ n. block 64 p.shorts.items (none n i)) ns))) (h ns l) in
    record {
      short = λ k small ns.
          told (λ (x : List ℕ) f z. IsLinked x f z ns → AreZeros (drop z (joined (mini_sector p.shorts.items) ns)))
          table p.next_mini.items bytes entry first size t s (known ns);
      long = λ k le. absurd (omega (arith, lt, le, size_known bytes entry first size s));
    }

pub ends_long : (file : List ℕ) (p : Parts) (bytes entry : List ℕ) (first size : ℕ) (table : List ℕ)
    → IsStart bytes entry first size
    → table ≡ p.next.items → CUTOFF ≤ size
    → ((ns : List ℕ) → IsLinked table first size ns
    → AreZeros (drop size (joined (λ n. block 512 file (512 + 512 * n)) ns))) → EndsInZeros file p entry
ends_long file p bytes entry first size table s t le h = record {
  short = λ k lt. absurd (omega (arith, lt, le, size_known bytes entry first size s));
  long = λ k big ns. told (λ (x : List ℕ) f z. IsLinked x f z ns → AreZeros (drop z (joined (sector file) ns)))
      table p.next.items bytes entry first size t s (h ns);
}

-- the chain that a call is to mark
pub record IsToMark (table : List ℕ) (first size : ℕ) (taken : List ℕ) : Type 0 where
  pub chain : List ℕ
  pub linked : IsLinked table first size chain
  pub all_in : AllIn chain taken

to_mark : (read table bytes entry : List ℕ) (first size : ℕ) (taken : List ℕ) → read ≡ table
    → IsStart bytes entry first size → IsLinkedIn table entry taken
    → IsToMark read first size taken
to_mark read table bytes entry first size taken e s l =
    let at : IsToMark table (first_of entry) (size_of entry) taken =
    record { chain = l.chain; linked = l.linked; all_in = l.all_in } in
    subst (λ (t : List ℕ). IsToMark t first size taken) (sym e)
    (subst (λ x. IsToMark table x size taken) (sym (first_known bytes entry first size s))
    (subst (λ x. IsToMark table (first_of entry) x taken) (sym (size_known bytes entry first size s)) at))

pub mark_short : (p : Parts) (ids longs shorts : List ℕ) (id : ℕ) (dir bytes : List ℕ) (first size : ℕ)
    (table : List ℕ) → AreTaken p ids longs shorts → Contains ids id
    → dir ≡ p.chains.entries.items → IsStart bytes (entry_at dir id) first size → get_or bytes 66 0 ≡ 2
    → table ≡ p.next_mini.items → size < CUTOFF
    → IsToMark table first size shorts
mark_short p ids longs shorts id dir bytes first size table taken c d s k t lt =
    let entry : List ℕ = entry_at p.chains.entries.items id in
    let start : IsStart bytes entry first size = subst (λ (x : List ℕ). IsStart bytes (entry_at x id) first size) d s in
    to_mark table p.next_mini.items bytes entry first size shorts t start
    (taken.short id c (sym (ap (λ (x : List ℕ). get_or x 66 0) start.same) ∙ k)
    (omega (arith, lt, size_known bytes entry first size start)))

pub mark_long : (p : Parts) (ids longs shorts : List ℕ) (id : ℕ) (dir bytes : List ℕ) (first size : ℕ)
    (table : List ℕ) → AreTaken p ids longs shorts → Contains ids id
    → dir ≡ p.chains.entries.items → IsStart bytes (entry_at dir id) first size → get_or bytes 66 0 ≡ 2
    → table ≡ p.next.items → CUTOFF ≤ size
    → IsToMark table first size longs
mark_long p ids longs shorts id dir bytes first size table taken c d s k t le =
    let entry : List ℕ = entry_at p.chains.entries.items id in
    let start : IsStart bytes entry first size = subst (λ (x : List ℕ). IsStart bytes (entry_at x id) first size) d s in
    to_mark table p.next.items bytes entry first size longs t start
    (taken.long id c (sym (ap (λ (x : List ℕ). get_or x 66 0) start.same) ∙ k)
    (omega (arith, le, size_known bytes entry first size start)))
