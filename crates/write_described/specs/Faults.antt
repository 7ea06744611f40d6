-- The faults of files that aren't made.
use Rattle.write_files.specs.declared.sending.SendFault.{SendFault}
use Rattle.write_files.specs.declared.sending.SendFault.TheVariants as send
use Rattle.write_described.specs.declared.fault.MakeFault.{MakeFault}
use Rattle.write_described.specs.declared.fault.MakeFault.TheVariants as make

-- a fault of a described tree that is written
abbrev pub of_send_fault : SendFault → MakeFault
of_send_fault (send.Write fault) = make.Write fault
of_send_fault send.Unwritable = make.Unwritable
