-- Where the numbers of tables and the entries of the directory stand in a file.
use Rattle.std.proofs.Common.{◌≡◌, ◌∙◌, ℕ, List, Option, Some, None, IfSome, subst, sym}
use Rattle.cfb_chains.specs.Chain.{IsChain}
use Rattle.cfb_chains.specs.Fat.{FatValue, IsTableOf, sectors_of, store_of}
use Rattle.cfb_chains.proofs.Chains.{chain_same}
use Rattle.cfb_header.specs.Header.{HeaderValue, first_mini_fat, header_of, listed}
use Rattle.tell_entries.specs.Ways.{IsDirectoryOf}
use Rattle.tell_entries.specs.declared.directory.Directory.{Directory}
use Rattle.tell_checks.specs.Spots.{IsEntryIn, IsItemAt, IsNextMiniOf}

pub entry_in : (file : List ℕ) (d : Directory) (sectors : List ℕ) (id at : ℕ) → IsDirectoryOf file d
    → sectors ≡ d.sectors.items → IsItemAt sectors 128 id at → IsEntryIn file d.bytes.items at id
entry_in file d sectors id at is same h =
    record { directory = is.0; at = subst (λ (ns : List ℕ). IsItemAt ns 128 id at) (same ∙ sym is.1) h }

pub mini_fat_of : (file : List ℕ) (h : HeaderValue) (f : FatValue) (first : ℕ) (ns read : List ℕ) (n : ℕ)
    (v : Option ℕ) → h ≡ header_of file → IsTableOf file h f
    → first ≡ h.first_mini_fat → IsChain (store_of f) first 0 ns → read ≡ ns → IfSome v (IsItemAt read 4 n)
    → IfSome v (IsNextMiniOf file n)
mini_fat_of file h f first ns read n None is table first_is chain same at = tt
mini_fat_of file h f first ns read n (Some b) is table first_is chain same at =
    let table' : IsTableOf file (header_of file) f = subst (λ (x : HeaderValue). IsTableOf file x f) is table in
    let chain' : IsChain (store_of f) (first_mini_fat file) 0 ns =
    subst (λ (x : HeaderValue). IsChain (store_of f) x.first_mini_fat 0 ns) is
    (subst (λ (x : ℕ). IsChain (store_of f) x 0 ns) first_is chain) in (
      ns,
      chain_same (store_of f) (sectors_of file (listed file)) table'.sectors (first_mini_fat file) 0 ns chain',
      subst (λ (x : List ℕ). IsItemAt x 4 n b) same at,
    )
