-- Want of memory is told only past the header and the lists of the FAT.
use Rattle.std.proofs.Common.{◌≡◌, ◌≢◌, ◌≤◌, ◌+◌, ◌*◌, ◌++◌, ℕ, Bool, true, false, cond, min, nat_lt, nat_eq, not, List}
use Rattle.std.proofs.Common.{length, Result, Ok, Err, IfErr, sym, refl, subst, arith}
use Rattle.std.proofs.lemmas.List.Elements.{All-contains}
use Rattle.std.proofs.lemmas.List.FromFn.{length-map-range_with_len}
use Rattle.std.specs.List.{range_with_len, starts_with}
use Rattle.cfb_chains.specs.Chain.{IsPresent}
use Rattle.cfb_chains.specs.Fat.{IsFat, MayRefuseFat, sectors_of}
use Rattle.cfb_chains.proofs.Tables.{header_listed}
use Rattle.cfb_header.specs.Bytes.{u16_at, u32_at}
use Rattle.cfb_header.specs.Header.{HeaderValue, IsHeader, MOST_DIFAT_SECTORS, MOST_FAT_SECTORS, difat, difat_count}
use Rattle.cfb_header.specs.Header.{fat_count, header_of, header_read, listed, listed_first, signature}
use Rattle.cfb_header.specs.declared.fault.ChainFault.{ChainFault}
use Rattle.cfb_header.specs.declared.fault.ChainFault.TheVariants as chain
use Rattle.cfb_faults.proofs.Lists.{all-from}
use Rattle.read_files.specs.Reads.{HasLists, MayLack, chain_fault}
use Rattle.read_files.specs.declared.fault.ReadFault.{ReadFault}
use Rattle.read_files.specs.declared.fault.ReadFault.TheVariants as told

-- a file with a FAT has its lists
few_listed : (file : List ℕ) → length (listed_first file) ≤ fat_count file
few_listed file = omega (arith, length-map-range_with_len (λ k. u32_at file (76 + 4 * k)) 0 (min (fat_count file) 109))

pub lists_there : (file : List ℕ) (v : HeaderValue) → v ≡ header_of file → IsHeader file → IsFat file v → HasLists file
lists_there file v same is loaded =
    let fat : IsFat file (header_of file) = subst (IsFat file) same loaded in
    let P : ℕ → Type 0 = IsPresent (sectors_of file (listed file)) in
    record {
      header = is;
      whole = fat.whole;
      present = all-from P (listed_first file)
          (λ n c. All-contains P (listed file ++ difat file) n fat.present
          (header_listed file (header_of file) n (few_listed file) c));
    }

-- whatever it is refused for then
lacks : (file : List ℕ) (fault : ReadFault) → HasLists file → MayLack file fault
lacks file (told.Chain fault) h = tt
lacks file (told.Directory fault) h = tt
lacks file told.NoMemory h = h

pub lacking : {A : Type 0} (file : List ℕ) (r : Result A ReadFault) → HasLists file → IfErr r (MayLack file)
lacking file (Ok a) h = tt
lacking file (Err fault) h = lacks file fault h

-- what its tables are refused for
own_lacks : (file : List ℕ) (fault : ChainFault) → IsHeader file → MayRefuseFat file (header_of file) fault
    → MayLack file (chain_fault fault)
own_lacks file chain.Truncated is h = tt
own_lacks file chain.BadSignature is h = tt
own_lacks file (chain.Unsupported n) is h = tt
own_lacks file chain.OutOfFile is h = tt
own_lacks file chain.Cycle is h = tt
own_lacks file chain.CrossLinked is h = tt
own_lacks file chain.ShortChain is h = tt
own_lacks file chain.TooBig is h = tt
own_lacks file chain.NoMemory is h = record { header = is; whole = h.0; present = h.1 }

pub fat_lacks : (file : List ℕ) (v : HeaderValue) (fault : ChainFault) → v ≡ header_of file → IsHeader file
    → MayRefuseFat file v fault → MayLack file (chain_fault fault)
fat_lacks file v fault same is h = own_lacks file fault is
    (subst (λ (x : HeaderValue). MayRefuseFat file x fault) same h)

-- a header is refused for no want of memory
either : {X : Type 0} (Q : X → Type 0) (b : Bool) (x y : X) → Q x → Q y → Q (cond b x y)
either Q true x y f g = f
either Q false x y f g = g

header_told : (file : List ℕ) → IfErr (header_read file) (λ e. e ≢ chain.NoMemory)
header_told file =
    let Q : Result HeaderValue ChainFault → Type 0 = λ r. IfErr r (λ e. e ≢ chain.NoMemory) in
    either Q (nat_lt (length file) 512) _ _ (λ e. cc e)
    (either Q (not (starts_with nat_eq file signature)) _ _ (λ e. cc e)
    (either Q (not (nat_eq (u16_at file 26) 3)) _ _ (λ e. cc e)
    (either Q (not (nat_eq (u16_at file 28) 0xFFFE)) _ _ (λ e. cc e)
    (either Q (not (nat_eq (u16_at file 30) 9)) _ _ (λ e. cc e)
    (either Q (not (nat_eq (u16_at file 32) 6)) _ _ (λ e. cc e)
    (either Q (not (nat_eq (u32_at file 56) 4096)) _ _ (λ e. cc e)
    (either Q (nat_lt MOST_FAT_SECTORS (fat_count file)) _ _ (λ e. cc e)
    (either Q (nat_lt MOST_DIFAT_SECTORS (difat_count file)) _ _ (λ e. cc e) tt))))))))

by_header : (file : List ℕ) (fault : ChainFault) → fault ≢ chain.NoMemory → MayLack file (chain_fault fault)
by_header file chain.Truncated ne = tt
by_header file chain.BadSignature ne = tt
by_header file (chain.Unsupported n) ne = tt
by_header file chain.OutOfFile ne = tt
by_header file chain.Cycle ne = tt
by_header file chain.CrossLinked ne = tt
by_header file chain.ShortChain ne = tt
by_header file chain.TooBig ne = tt
by_header file chain.NoMemory ne = absurd (ne refl)

pub header_lacks : (file : List ℕ) (fault : ChainFault) → Err fault ≡ header_read file
    → MayLack file (chain_fault fault)
header_lacks file fault e =
    by_header file fault (subst (λ (r : Result HeaderValue ChainFault). IfErr r (λ e. e ≢ chain.NoMemory)) (sym e)
    (header_told file))
