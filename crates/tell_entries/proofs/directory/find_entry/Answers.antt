use Rattle.std.proofs.Common.{◌∙◌, List, ℕ, subst, sym}
use Rattle.std.proofs.lemmas.Result.{IfOk-weaker}
use Rattle.cfb_faults.specs.Faults.{IsDirectory}
use Rattle.tell_entries.proofs.Cycles.{whole_entries}
use Rattle.tell_entries.specs.Ways.{IsDirectoryOf}
use Rattle.cfb_header.specs.declared.fault.ChainFault.TheVariants as chain
use Rattle.tell_entries.proofs.Found.{no_directory_of, no_entry_of}
use Rattle.tell_faults.proofs.Held.{none_gives, some_gives}
use Rattle.tell_faults.proofs.Places.{bytes_one}
use Rattle.tell_entries.proofs.Steps.{found_of}
use Rattle.tell_entries.proofs.directory.find_entry.Goals as goal

pub find_in_entries-requires : goal.find_in_entries-requires
find_in_entries-requires c =
    whole_entries c.args.file.now c.deref.result.now
    (subst (IsDirectory c.args.file.now) (sym c.deref.ensures.value)
    (some_gives (IsDirectoryOf c.args.file.now) c.in_ok-found.found c.in-Some.directory c.in-Some.is
    c.in_ok-found.ensures.read).0)

pub returns-clause-there : goal.returns-clause-there
returns-clause-there c =
    IfOk-weaker c.find_in_entries.result _ _ (λ p e. found_of c.args.file.now c.deref.result.now c.args.fault p
    (subst (IsDirectory c.args.file.now) (sym c.deref.ensures.value)
    (some_gives (IsDirectoryOf c.args.file.now) c.in_ok-found.found c.in-Some.directory c.in-Some.is
    c.in_ok-found.ensures.read).0) e)
    c.find_in_entries.ensures.there

pub returns-clause-nowhere : goal.returns-clause-nowhere
returns-clause-nowhere c = λ is own.
    let file : List ℕ = c.args.file.now in
    let d : IsDirectory file c.in-Some.directory.bytes.items =
    (some_gives (IsDirectoryOf file) c.in_ok-found.found c.in-Some.directory c.in-Some.is
    c.in_ok-found.ensures.read).0 in
    no_entry_of file c.deref.result.now c.args.fault c.find_in_entries.result
    (λ x o. bytes_one file chain.NoMemory d.sectors d.is_chain x o ∙ sym d.bytes_are ∙ sym c.deref.ensures.value)
    (c.find_in_entries.ensures.nowhere own)

pub returns-in_default-clause-nowhere : goal.returns-in_default-clause-nowhere
returns-in_default-clause-nowhere c = λ is own.
    no_directory_of c.args.file.now c.args.fault
    (none_gives ((dir : List ℕ) → IsDirectory c.args.file.now dir → ⊥) c.in_ok-found.found c.in_default.is
    (c.in_ok-found.ensures.none is))
