use Rattle.cfb_faults.proofs.Alike.{directory_fault, file_fault}
use Rattle.cfb_file.proofs.AlikeFiles.{alike_back}
use Rattle.cfb_faults.proofs.law.alike_at_fault.Goals as goal

pub returns : goal.returns
returns c = λ a b h. (file_fault b a (alike_back a b h), λ fault q. directory_fault a b fault h q)
