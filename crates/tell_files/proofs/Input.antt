-- What is checked are the bytes of the input, and what is told of them.
use Rattle.std.proofs.Common.{◌≡◌, ◌≢◌, ◌∙◌, ℕ, List, Option, Some, None, IfSome, arith, drop, length, refl, subst}
use Rattle.std.proofs.Common.{take}
use Rattle.std.proofs.lemmas.List.{take_all}
use Rattle.tell_lists.proofs.Listed.{some_map}
use Rattle.cfb_file.specs.Alike.{Alike}
use Rattle.read_files.proofs.ReadingAlike.{alike_read}
use Rattle.read_files.specs.Reads.{MayRefuseRead}
use Rattle.read_files.specs.declared.fault.ReadFault.{ReadFault}
use Rattle.read_files.specs.declared.fault.ReadFault.TheVariants as read
use Rattle.tell_checks.specs.declared.telling.Form.{Form}
use Rattle.tell_lists.specs.declared.fault.ListFault.{ListFault}
use Rattle.tell_lists.specs.declared.fault.ListFault.TheVariants as list
use Rattle.tell_files.specs.Checks.{IsJudged, IsUnwritten, MayRefuseCheck, Tells, TellsFault}

-- what was read are the bytes of the input, where these are known
pub of_input : (P : List ℕ → Type 0) (input : Option (List ℕ)) (bytes seen : List ℕ)
    → IfSome input (λ file. bytes ≡ file) → seen ≡ bytes → P seen → IfSome input P
of_input P None bytes seen w s h = tt
of_input P (Some file) bytes seen w s h = subst P (s ∙ w) h

-- as many bytes as there are, from the first on
read_one : (known : Option (List ℕ)) (n : ℕ) (bytes : List ℕ) → IfSome known (λ all. n ≡ length all)
    → IfSome known (λ all. bytes ≡ take n (drop 0 all)) → IfSome known (λ all. bytes ≡ all)
read_one None n bytes c f = tt
read_one (Some all) n bytes c f = f ∙ take_all n all (omega (arith, c))

pub whole_read : (known then : Option (List ℕ)) (n : ℕ) (bytes : List ℕ) → then ≡ known
    → IfSome known (λ all. n ≡ length all) → IfSome then (λ all. bytes ≡ take n (drop 0 all))
    → IfSome known (λ all. bytes ≡ all)
whole_read known then n bytes same c f = read_one known n bytes c
    (subst (λ (k : Option (List ℕ)). IfSome k (λ all. bytes ≡ take n (drop 0 all))) same f)

-- a fault of the file is told by its line
pub told_fault : (file : List ℕ) (form : Form) (fault : ReadFault) (old new : Option (List ℕ))
    → fault ≢ read.NoMemory → TellsFault file form fault old new → Tells file form (list.Read fault) old new
told_fault file form (read.Chain fault) old new some h = h
told_fault file form (read.Directory fault) old new some h = h
told_fault file form read.NoMemory old new some h = absurd (some refl)

-- ---- what was read of a file is told of the file
pub some_none : {A : Type 0} {x : A} → ◌≡◌ {A = Option A} (Some x) None → ⊥
some_none p = cc

pub told_alike : (known : Option (List ℕ)) (b : List ℕ) (v : Option ReadFault) → IfSome known (λ a. Alike a b)
    → IfSome v (MayRefuseRead b) → IfSome v (λ f. IfSome known (λ a. MayRefuseRead a f))
told_alike known b None h r = tt
told_alike known b (Some f) h r = some_map known (λ a. Alike a b) (λ a. MayRefuseRead a f)
    (λ a s. alike_read a b f s r) h

-- what holds of all bytes holds of those that are known
pub some_all : (known : Option (List ℕ)) (P : List ℕ → Type 0) → ((a : List ℕ) → P a) → IfSome known P
some_all None P f = tt
some_all (Some a) P f = f a

-- ---- where a text isn't written
pub unwritten_told : (file : List ℕ) (form : Form) (fault : ListFault) (old new : Option (List ℕ))
    → IsUnwritten fault old new → Tells file form fault old new
unwritten_told file form list.Unwritable old new h = tt
unwritten_told file form list.NoMemory old new h = h
unwritten_told file form (list.Input fault) old new h = absurd h
unwritten_told file form (list.Read fault) old new h = absurd h

pub unwritten_judged : (file : List ℕ) (fault : ListFault) (old new : Option (List ℕ)) → IsUnwritten fault old new
    → IsJudged file → MayRefuseCheck file fault
unwritten_judged file list.Unwritable old new h j = j
unwritten_judged file list.NoMemory old new h j = j
unwritten_judged file (list.Input fault) old new h j = absurd h
unwritten_judged file (list.Read fault) old new h j = absurd h
