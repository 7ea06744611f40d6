use Rattle.cfb_header.proofs.Written.{written_is_header, written_read}
use Rattle.cfb_header.proofs.header.written_is_read.Goals as goal

pub returns-clause-whole : goal.returns-clause-whole
returns-clause-whole c = written_is_header

pub returns-clause-read : goal.returns-clause-read
returns-clause-read c = written_read
