-- Why a file that denotes a tree is refused.
use Rattle.std.proofs.Common.{◌≡◌, ℕ, List, Result, Err, IfErr, subst, sym}
use Rattle.cfb_entries.specs.Tree.{Tree}
use Rattle.cfb_file.specs.Denotes.{Denotes}
use Rattle.read_files.specs.declared.fault.ReadFault.{ReadFault}
use Rattle.read_files.specs.declared.fault.ReadFault.TheVariants.{NoMemory}

-- a file that denotes a tree is refused for want of memory alone, by a call that saw its bytes
pub lacking : {A : Type 0} (file seen : List ℕ) (r : Result A ReadFault) (fault : ReadFault) → seen ≡ file
    → r ≡ Err fault
    → ((t : Tree) → Denotes seen t → IfErr r (λ e. e ≡ NoMemory)) → (t : Tree) → Denotes file t → fault ≡ NoMemory
lacking file seen r fault same is reads t denotes = subst (λ x. IfErr x (λ e. e ≡ NoMemory)) is
    (reads t (subst (λ (l : List ℕ). Denotes l t) (sym same) denotes))
