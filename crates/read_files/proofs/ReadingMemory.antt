-- Where want of memory is told of a storage.
use Rattle.std.proofs.Common.{◌<◌, ◌*◌, inl, inr, ℕ, List, Result, Ok, Err, IfErr, length}
use Rattle.cfb_entries.specs.Entries.{AreFree, AreLinked, EntriesValue, HasChildren, MayRefuseChildren, MayRefuseEntry}
use Rattle.cfb_entries.specs.Entries.{child, entry_at}
use Rattle.cfb_names.specs.declared.fault.DirFault.{DirFault}
use Rattle.cfb_names.specs.declared.fault.DirFault.TheVariants as directory
use Rattle.read_files.specs.Reads.{AreSorted, MayRefusePlace, MayWant, directory_fault}
use Rattle.read_files.specs.declared.fault.ReadFault.{ReadFault}
use Rattle.read_files.specs.declared.fault.ReadFault.TheVariants.{Chain, Directory, NoMemory}
use Rattle.read_files.specs.declared.read.Reader.{Reader}

module _ (e : EntriesValue) (id : ℕ) where
  -- a refusal where the children are there, whatever it is
  any_fault : (fault : ReadFault) → HasChildren e id → MayWant e id fault
  any_fault (Chain fault) h = tt
  any_fault (Directory fault) h = tt
  any_fault NoMemory h = h

  there_anyway : {A : Type 0} (r : Result A ReadFault) → HasChildren e id → IfErr r (MayWant e id)
  there_anyway (Ok a) h = tt
  there_anyway (Err fault) h = any_fault fault h

  -- children that were found, and that were sorted
  pub when_found : {A : Type 0} (r : Result A ReadFault) (ids : List ℕ) → 128 * id < length e.directory
      → AreLinked e.directory (child (entry_at e.directory id)) ids → AreFree e ids
      → IfErr r (MayWant e id)
  when_found r ids lt l f = there_anyway r (record { inside = lt; ids = ids; linked = l; free = f })

  pub when_sorted : {A : Type 0} (r : Result A ReadFault) (ids : List ℕ) → 128 * id < length e.directory
      → AreSorted e id ids → IfErr r (MayWant e id)
  when_sorted r ids lt s = when_found r s.reached lt s.linked s.free

  -- what a call below refused
  wanted : MayRefuseChildren e id directory.NoMemory → HasChildren e id
  wanted (inl h) = absurd (cc h.1)
  wanted (inr (inl h)) = absurd h
  wanted (inr (inr h)) = h.0

  pub by_children : (fault : DirFault) → MayRefuseChildren e id fault → MayWant e id (directory_fault fault)
  by_children directory.NameEmpty h = tt
  by_children directory.NameTooLong h = tt
  by_children directory.NameNotAscii h = tt
  by_children directory.NameForbidden h = tt
  by_children directory.DuplicateName h = tt
  by_children directory.BadEntry h = tt
  by_children directory.TreeCycle h = tt
  by_children directory.TooNested h = tt
  by_children directory.NoMemory h = wanted h

  pub by_entry : (dir : List ℕ) (fault : DirFault) → MayRefuseEntry dir id fault → MayWant e id (directory_fault fault)
  by_entry dir directory.NameEmpty h = tt
  by_entry dir directory.NameTooLong h = tt
  by_entry dir directory.NameNotAscii h = tt
  by_entry dir directory.NameForbidden h = tt
  by_entry dir directory.DuplicateName h = tt
  by_entry dir directory.BadEntry h = tt
  by_entry dir directory.TreeCycle h = tt
  by_entry dir directory.TooNested h = tt
  by_entry dir directory.NoMemory h = absurd h

  pub by_place : (r : Reader) (first size : ℕ) (fault : ReadFault) → MayRefusePlace r first size fault
      → MayWant e id fault
  by_place r first size (Chain fault) h = tt
  by_place r first size (Directory fault) h = tt
  by_place r first size NoMemory h = absurd h
