-- The numbers of the faults, and their names.
use Rattle.std.specs.Prelude.{ℕ, List, [], codes, cond, nat_eq}
use Rattle.cfb_header.specs.declared.fault.ChainFault.{ChainFault}
use Rattle.cfb_header.specs.declared.fault.ChainFault.TheVariants as chain
use Rattle.cfb_names.specs.declared.fault.DirFault.{DirFault}
use Rattle.cfb_names.specs.declared.fault.DirFault.TheVariants as directory
use Rattle.cfb_file.specs.declared.fault.WriteFault.{WriteFault}
use Rattle.cfb_file.specs.declared.fault.WriteFault.TheVariants as write
use Rattle.tree_storage.specs.declared.fault.TreeFault.{TreeFault}
use Rattle.tree_storage.specs.declared.fault.TreeFault.TheVariants as tree
use Rattle.read_files.specs.declared.fault.ReadFault.{ReadFault}
use Rattle.read_files.specs.declared.fault.ReadFault.TheVariants as read
use Rattle.tree_descriptions.specs.declared.fault.LineFault.{LineFault}
use Rattle.tree_descriptions.specs.declared.fault.LineFault.TheVariants as line
use Rattle.text_io.specs.declared.lines.SyntaxFault.{SyntaxFault}
use Rattle.text_io.specs.declared.lines.SyntaxFault.TheVariants as syntax_fault
use Rattle.store_edits.specs.declared.fault.EditFault.{EditFault}
use Rattle.store_edits.specs.declared.fault.EditFault.TheVariants as edit

abbrev pub chain_number : ChainFault → ℕ
chain_number chain.NoMemory = 2
chain_number chain.TooBig = 3
chain_number chain.Truncated = 10
chain_number chain.BadSignature = 11
chain_number (chain.Unsupported field) = 12
chain_number chain.OutOfFile = 13
chain_number chain.Cycle = 14
chain_number chain.CrossLinked = 15
chain_number chain.ShortChain = 16

abbrev pub directory_number : DirFault → ℕ
directory_number directory.NoMemory = 2
directory_number directory.BadEntry = 20
directory_number directory.TreeCycle = 21
directory_number directory.TooNested = 22
directory_number directory.NameEmpty = 23
directory_number directory.NameTooLong = 24
directory_number directory.NameNotAscii = 25
directory_number directory.NameForbidden = 26
directory_number directory.DuplicateName = 27

abbrev pub tree_number : TreeFault → ℕ
tree_number tree.NoMemory = 2
tree_number tree.NotFound = 30
tree_number tree.WrongKind = 31
tree_number tree.Exists = 32
tree_number tree.TooDeep = 33
tree_number tree.NoTransaction = 34

abbrev pub read_number : ReadFault → ℕ
read_number (read.Chain fault) = chain_number fault
read_number (read.Directory fault) = directory_number fault
read_number read.NoMemory = 2

abbrev pub write_number : WriteFault → ℕ
write_number write.NoMemory = 2
write_number write.TooBig = 3

abbrev pub line_number : LineFault → ℕ
line_number line.NoMemory = 2
line_number line.Bad = 40
line_number (line.Name fault) = directory_number fault
line_number (line.Tree fault) = tree_number fault

abbrev pub syntax_number : SyntaxFault → ℕ
syntax_number syntax_fault.Bad = 40
syntax_number syntax_fault.NoMemory = 2

-- In memory a store refuses only a file that is too big.
abbrev pub edit_number : EditFault → ℕ
edit_number (edit.Store fault) = 3
edit_number (edit.Read fault) = read_number fault
edit_number (edit.Line n fault) = line_number fault
edit_number (edit.Write fault) = write_number fault

-- the names, as the program prints them; a number of no fault has none
abbrev pub tree_name : ℕ → List ℕ
tree_name n =
    cond (nat_eq n 30) (codes "NotFound") (
    cond (nat_eq n 31) (codes "WrongKind") (
    cond (nat_eq n 32) (codes "Exists") (
    cond (nat_eq n 33) (codes "TooDeep") (
    cond (nat_eq n 34) (codes "NoTransaction") (
    cond (nat_eq n 40) (codes "Bad") (
    cond (nat_eq n 41) (codes "BadPath") []))))))

abbrev pub directory_name : ℕ → List ℕ
directory_name n =
    cond (nat_eq n 20) (codes "BadEntry") (
    cond (nat_eq n 21) (codes "TreeCycle") (
    cond (nat_eq n 22) (codes "TooNested") (
    cond (nat_eq n 23) (codes "NameEmpty") (
    cond (nat_eq n 24) (codes "NameTooLong") (
    cond (nat_eq n 25) (codes "NameNotAscii") (
    cond (nat_eq n 26) (codes "NameForbidden") (
    cond (nat_eq n 27) (codes "DuplicateName") (tree_name n))))))))

abbrev pub chain_name : ℕ → List ℕ
chain_name n =
    cond (nat_eq n 10) (codes "Truncated") (
    cond (nat_eq n 11) (codes "BadSignature") (
    cond (nat_eq n 12) (codes "Unsupported") (
    cond (nat_eq n 13) (codes "OutOfFile") (
    cond (nat_eq n 14) (codes "Cycle") (
    cond (nat_eq n 15) (codes "CrossLinked") (
    cond (nat_eq n 16) (codes "ShortChain") (directory_name n)))))))

abbrev pub number_name : ℕ → List ℕ
number_name n =
    cond (nat_eq n 1) (codes "NoRoom") (
    cond (nat_eq n 2) (codes "NoMemory") (
    cond (nat_eq n 3) (codes "TooBig") (
    cond (nat_eq n 4) (codes "Unreadable") (chain_name n))))
