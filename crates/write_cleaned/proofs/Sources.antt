-- Why a file that can be sought in isn't opened, where its bytes are known.
use Rattle.std.proofs.Common.{◌≡◌, ◌∙◌, ℕ, List, Option, Some, None, Result, Ok, Err, IfSome, ap, refl, subst, sym}
use Rattle.cfb_header.specs.Header.{HeaderValue}
use Rattle.cfb_header.specs.declared.fault.ChainFault.{ChainFault}
use Rattle.cfb_header.proofs.Headers.{read_whole}
use Rattle.read_source.specs.Filled.{MayRefusePlaces}
use Rattle.read_source.specs.declared.fault.PlacesFault.{PlacesFault}
use Rattle.read_source.specs.declared.fault.PlacesFault.TheVariants.{Unreadable, TooBig, NoMemory, Header}
use Rattle.read_files.specs.Reads.{chain_fault}
use Rattle.read_files.proofs.ReadingRefused.{file_header}
use Rattle.write_cleaned.specs.Sources.{MayRefuseSource, of_places_fault}

-- ---- known bytes
pub known_is : (known : Option (List ℕ)) (P : List ℕ → Type 0) (a : List ℕ) → IfSome known P → known ≡ Some a → P a
known_is known P a h e = subst (λ (k : Option (List ℕ)). IfSome k P) e h

pub known_map : (known : Option (List ℕ)) (P Q : List ℕ → Type 0) → ((a : List ℕ) → known ≡ Some a → P a → Q a)
    → IfSome known P → IfSome known Q
known_map None P Q f h = tt
known_map (Some a) P Q f h = f a refl h

pub known_all : (known : Option (List ℕ)) (P : List ℕ → Type 0) → ((a : List ℕ) → known ≡ Some a → P a) → IfSome known P
known_all None P f = tt
known_all (Some a) P f = f a refl

-- ---- why it isn't read
same_fault : {e f : ChainFault} → ◌≡◌ {A = Result HeaderValue ChainFault} (Err e) (Err f) → e ≡ f
same_fault p = cc

pub no_fault : {h : HeaderValue} {e : ChainFault} → ◌≡◌ {A = Result HeaderValue ChainFault} (Ok h) (Err e) → ⊥
no_fault p = cc

places_refused : (a : List ℕ) (fault : PlacesFault) → MayRefusePlaces a fault
    → MayRefuseSource a (of_places_fault fault)
places_refused a Unreadable r = tt
places_refused a TooBig r = r
places_refused a NoMemory r = tt
places_refused a (Header fault) r = record {
  header = λ e he. ap chain_fault (same_fault (sym r ∙ he));
  reads = λ t d. absurd (no_fault (sym (read_whole a d.header) ∙ r));
  told = file_header a fault (sym r);
}

pub catalog_refused : (known : Option (List ℕ)) (fault : PlacesFault) → IfSome known (λ a. MayRefusePlaces a fault)
    → IfSome known (λ a. MayRefuseSource a (of_places_fault fault))
catalog_refused known fault h = known_map known (λ a. MayRefusePlaces a fault)
    (λ a. MayRefuseSource a (of_places_fault fault)) (λ a e r. places_refused a fault r) h
