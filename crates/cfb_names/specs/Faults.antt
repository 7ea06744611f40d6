-- How faults are printed.
use Rattle.std.specs.Prelude.{List, ℕ, codes}
use Rattle.cfb_names.specs.declared.fault.DirFault.{DirFault}
use Rattle.cfb_names.specs.declared.fault.DirFault.TheVariants.{NameEmpty, NameTooLong, NameNotAscii, NameForbidden}
use Rattle.cfb_names.specs.declared.fault.DirFault.TheVariants.{DuplicateName, BadEntry, TreeCycle, TooNested, NoMemory}

abbrev pub name_of_fault : DirFault → List ℕ
name_of_fault NameEmpty = codes "NameEmpty"
name_of_fault NameTooLong = codes "NameTooLong"
name_of_fault NameNotAscii = codes "NameNotAscii"
name_of_fault NameForbidden = codes "NameForbidden"
name_of_fault DuplicateName = codes "DuplicateName"
name_of_fault BadEntry = codes "BadEntry"
name_of_fault TreeCycle = codes "TreeCycle"
name_of_fault TooNested = codes "TooNested"
name_of_fault NoMemory = codes "NoMemory"
