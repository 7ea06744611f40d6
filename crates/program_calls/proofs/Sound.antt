-- A file that denotes a tree is refused for want of memory alone.
use Rattle.std.proofs.Common.{◌≡◌, ◌≤◌, ◌∙◌, ℕ, List, Result, Ok, Err, ap, arith, inl, inr, refl, rules, subst, sym}
use Rattle.std.proofs.Common.{length}
use Rattle.std.proofs.Math.Logic.{∥∥₁_elim}
use Rattle.std.specs.Prelude.{IsOk}
use Rattle.cfb_entries.specs.Tree.{Tree}
use Rattle.tree_storage.specs.declared.fault.TreeFault.{TreeFault}
use Rattle.cfb_file.proofs.Unique.{one_tree}
use Rattle.cfb_file.specs.Denotes.{Denotes}
use Rattle.cfb_file.specs.Refusals.{Refuses, writable}
use Rattle.cfb_file.specs.declared.fault.WriteFault.{WriteFault}
use Rattle.cfb_file.specs.declared.fault.WriteFault.TheVariants.{NoMemory, TooBig}
use Rattle.tell_checks.specs.declared.telling.Form.{Form}
use Rattle.read_outlines.specs.Streams.{stream_at}
use Rattle.text_io.specs.Input.{most}
use Rattle.program_calls.specs.Calls.{IsRefusedClean, IsRefusedGet, IsRefusedList, IsUnread}
use Rattle.program_calls.specs.Checks.{IsChecked}
use Rattle.program_calls.specs.Numbers.{read_number, write_number}

⊥_prop : (a b : ⊥) → a ≡ b
⊥_prop a b = absurd a

no-fault : ◌≡◌ {A = Result (Unit {0}) WriteFault} (Ok tt) (Err TooBig) → ⊥
no-fault e = cc

no-stream : (fault : TreeFault) → IsOk {T = List ℕ} (Err fault) → ⊥
no-stream fault h = search rules

module _ (file : List ℕ) (t : Tree) (number : ℕ) (denotes : Denotes file t) (few : length file ≤ most) where
  sound-read : IsUnread file number → number ≡ 2
  sound-read (inl (is, big)) = absurd (omega (arith, few, big))
  sound-read (inr (fault, is, refused)) = is ∙ ap read_number (refused.reads t denotes)

  sound-written : (u : Tree) (fault : WriteFault) → ∥ Denotes file u ∥₁ → writable t ≡ Ok tt
      → Refuses (writable u) fault → write_number fault ≡ 2
  sound-written u NoMemory same fits told = refl
  sound-written u TooBig same fits told =
      absurd
      (∥∥₁_elim same ⊥_prop
      (λ mine. no-fault (sym fits ∙ (ap writable (one_tree file t u denotes mine) ∙ told))))

  listed : IsRefusedList file number → number ≡ 2
  listed (inl read) = sound-read read
  listed (inr (is, u, there)) = is

  cleaned : writable t ≡ Ok tt → IsRefusedClean file number → number ≡ 2
  cleaned fits (inl read) = sound-read read
  cleaned fits (inr (u, same, (fault, is, told))) = is ∙ sound-written u fault same fits told

  got : (path : List (List ℕ)) → IsOk (stream_at path t) → IsRefusedGet file path number → number ≡ 2
  got path there (inl read) = sound-read read
  got path there (inr (u, fault, same, is, missing)) =
      absurd
      (∥∥₁_elim same ⊥_prop
      (λ mine. no-stream fault
      (subst (IsOk {T = List ℕ}) (ap (stream_at path) (one_tree file t u denotes mine) ∙ missing) there)))

pub listed_but_memory : (file : List ℕ) (t : Tree) (number : ℕ) → Denotes file t → length file ≤ most
    → IsRefusedList file number → number ≡ 2
listed_but_memory file t number denotes few refused = listed file t number denotes few refused

pub cleaned_but_memory : (file : List ℕ) (t : Tree) (number : ℕ) → Denotes file t → length file ≤ most
    → writable t ≡ Ok tt → IsRefusedClean file number → number ≡ 2
cleaned_but_memory file t number denotes few fits refused = cleaned file t number denotes few fits refused

pub got_but_memory : (file : List ℕ) (path : List (List ℕ)) (t : Tree) (number : ℕ) → Denotes file t
    → length file ≤ most → IsOk (stream_at path t) → IsRefusedGet file path number → number ≡ 2
got_but_memory file path t number denotes few there refused = got file t number denotes few path there refused

pub checked_as_sound : (file : List ℕ) (form : Form) (t : Tree) (told : ℕ) (bytes : List ℕ) → Denotes file t
    → IsChecked file form told bytes → told ≡ 0
checked_as_sound file form t told bytes denotes (inl (is, u, same, text)) = is
checked_as_sound file form t told bytes denotes (inr (fault, is, at_fault, text)) =
    absurd (at_fault.0 (at_fault.1.reads t denotes))
