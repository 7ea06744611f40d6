-- Why a file, or a stream of it, isn't read.
use Rattle.std.proofs.Common.{◌≡◌, ◌∙◌, ℕ, List, Result, Ok, Err, IfErr, ap, subst, sym}
use Rattle.cfb_header.specs.Header.{HeaderValue, header_read}
use Rattle.cfb_header.specs.declared.fault.ChainFault.{ChainFault}
use Rattle.cfb_entries.specs.Tree.{Tree}
use Rattle.tree_storage.specs.Change.{map_ok}
use Rattle.tree_storage.specs.declared.fault.TreeFault.{TreeFault}
use Rattle.cfb_file.specs.Denotes.{Denotes}
use Rattle.read_files.specs.Reads.{MayRefuseFile, MayRefuseRead, chain_fault}
use Rattle.read_files.specs.declared.fault.ReadFault.{ReadFault}
use Rattle.read_files.specs.declared.fault.ReadFault.TheVariants.{NoMemory}

same_fault : {A : Type 0} {e f : ReadFault} → ◌≡◌ {A = Result A ReadFault} (Err e) (Err f) → e ≡ f
same_fault p = cc

pub read_refused : {A : Type 0} (file : List ℕ) (r : Result A ReadFault) (fault : ReadFault) → r ≡ Err fault
    → ((e : ChainFault) → header_read file ≡ Err e → r ≡ Err (chain_fault e))
    → ((t : Tree) → Denotes file t → IfErr r (λ e. e ≡ NoMemory))
    → IfErr r (MayRefuseFile file)
    → MayRefuseRead file fault
read_refused {A} file r fault is h d m = record {
  header = λ e he. same_fault {A = A} (sym is ∙ h e he);
  reads = λ t dt. subst (λ (x : Result A ReadFault). IfErr x (λ e. e ≡ NoMemory)) is (d t dt);
  told = subst (λ (x : Result A ReadFault). IfErr x (MayRefuseFile file)) is m;
}

no_fault : {h : HeaderValue} {e : ChainFault} → ◌≡◌ {A = Result HeaderValue ChainFault} (Ok h) (Err e) → ⊥
no_fault p = cc

-- the same of a file whose header was read
pub walk_refused : {A : Type 0} (file : List ℕ) (h : HeaderValue) (r : Result A ReadFault) (fault : ReadFault)
    → header_read file ≡ Ok h → r ≡ Err fault
    → ((t : Tree) → Denotes file t → IfErr r (λ e. e ≡ NoMemory))
    → IfErr r (MayRefuseFile file)
    → MayRefuseRead file fault
walk_refused file h r fault is refused d m = read_refused file r fault refused
    (λ e he. absurd (no_fault (sym is ∙ he))) d m

pub told_ok : {A B : Type 0} (f : A → B) (r : Result A TreeFault) (a : A) (s : Result B TreeFault) → r ≡ Ok a
    → map_ok f r ≡ s → s ≡ Ok (f a)
told_ok f r a s is h = sym h ∙ ap (map_ok f) is

pub told_err : {A B : Type 0} (f : A → B) (r : Result A TreeFault) (e : TreeFault) (s : Result B TreeFault)
    → r ≡ Err e → map_ok f r ≡ s → s ≡ Err e
told_err f r e s is h = sym h ∙ ap (map_ok f) is
