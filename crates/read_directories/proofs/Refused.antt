-- What the names of entries are refused for.
use Rattle.std.proofs.Common.{ℕ, List}
use Rattle.std.specs.List.{Contains}
use Rattle.cfb_names.specs.declared.fault.DirFault.{DirFault}
use Rattle.cfb_names.specs.declared.fault.DirFault.TheVariants.{NameEmpty, NameTooLong, NameNotAscii, NameForbidden}
use Rattle.cfb_names.specs.declared.fault.DirFault.TheVariants.{DuplicateName, BadEntry, TreeCycle, TooNested, NoMemory}
use Rattle.read_directories.specs.Sorting.{MayRefuseNames}

-- what names of some entries are refused for, those of more are
pub names_moved : (dir ids more : List ℕ) (fault : DirFault) → ((n : ℕ) → Contains ids n → Contains more n)
    → MayRefuseNames dir ids fault → MayRefuseNames dir more fault
names_moved dir ids more DuplicateName inside (m, n, at_m, at_n, apart, same) =
    (m, n, inside m at_m, inside n at_n, apart, same)
names_moved dir ids more NameEmpty inside (n, at, h) = (n, inside n at, h)
names_moved dir ids more NameTooLong inside (n, at, h) = (n, inside n at, h)
names_moved dir ids more NameNotAscii inside (n, at, h) = (n, inside n at, h)
names_moved dir ids more NameForbidden inside (n, at, h) = (n, inside n at, h)
names_moved dir ids more BadEntry inside (n, at, h) = (n, inside n at, h)
names_moved dir ids more TreeCycle inside (n, at, h) = (n, inside n at, h)
names_moved dir ids more TooNested inside (n, at, h) = (n, inside n at, h)
names_moved dir ids more NoMemory inside (n, at, h) = (n, inside n at, h)
