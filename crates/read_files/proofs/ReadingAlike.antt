-- What is told of a file that a listing can't tell from another is told of the other.
use Rattle.std.proofs.Common.{ℕ, List, sym, ◌∙◌}
use Rattle.cfb_file.specs.Alike.{Alike}
use Rattle.cfb_file.proofs.AlikeFiles.{alike_back, alike_denotes}
use Rattle.cfb_file.proofs.AlikeHeaders.{header_alike}
use Rattle.read_files.specs.Reads.{MayRefuseFile, MayRefuseRead}
use Rattle.read_files.specs.declared.fault.ReadFault.{ReadFault}
use Rattle.read_files.specs.declared.fault.ReadFault.TheVariants.{Chain, Directory, NoMemory}
use Rattle.cfb_faults.proofs.Alike.{directory_fault, file_fault}

pub alike_refuses : (a b : List ℕ) (fault : ReadFault) → Alike a b → MayRefuseFile b fault → MayRefuseFile a fault
alike_refuses a b (Chain fault) h r = file_fault b a (alike_back a b h) fault r
alike_refuses a b (Directory fault) h r = directory_fault a b fault h r
alike_refuses a b NoMemory h r = tt

pub alike_read : (a b : List ℕ) (fault : ReadFault) → Alike a b → MayRefuseRead b fault → MayRefuseRead a fault
alike_read a b fault h r = record {
  header = λ e he. r.header e (sym (header_alike a b h.header h.len) ∙ he);
  reads = λ t d. let other = alike_denotes a b h t d in r.reads other.0 other.1;
  told = alike_refuses a b fault h r.told;
}
