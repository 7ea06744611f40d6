use Rattle.std.proofs.Common.{None, Some, ap, option_copied}
use Rattle.container_core.proofs.OpensMade.{bad_file, document_refused, document_taken, no_file, read_is}
use Rattle.container_core.proofs.opens.open_named.Goals as goal

pub returns-in_default-clause-refused : goal.returns-in_default-clause-refused
returns-in_default-clause-refused c = no_file c.args.state.now c.args.name c.args.w c.args.h
    (option_copied c.args.file) c.requires.named (ap option_copied c.in_default.is)

pub returns-in-Ok-image_read-clause-taken : goal.returns-in-Ok-image_read-clause-taken
returns-in-Ok-image_read-clause-taken c =
    document_taken c.args.state.now c.args.name c.args.w c.args.h (option_copied c.args.file) c.requires.named
    c.in-Some-read.document c.open_document-answer.new.state c.open_document-answer.result
    (read_is (option_copied c.args.file) c.in-Some.bytes.now c.in-Ok.read (Some c.in-Some-read.document)
    (ap option_copied c.in-Some.is) c.in-Some-read.is c.in-Ok.ensures.given)
    c.open_document-answer.ensures.taken

pub returns-in-Ok-image_read-clause-refused : goal.returns-in-Ok-image_read-clause-refused
returns-in-Ok-image_read-clause-refused c =
    document_refused c.args.state.now c.args.name c.args.w c.args.h (option_copied c.args.file) c.requires.named
    c.in-Some-read.document c.open_document-answer.result
    (read_is (option_copied c.args.file) c.in-Some.bytes.now c.in-Ok.read (Some c.in-Some-read.document)
    (ap option_copied c.in-Some.is) c.in-Some-read.is c.in-Ok.ensures.given)
    c.open_document-answer.ensures.refused

pub returns-in-None-clause-refused : goal.returns-in-None-clause-refused
returns-in-None-clause-refused c =
    bad_file c.args.state.now c.args.name c.args.w c.args.h (option_copied c.args.file) c.requires.named
    (read_is (option_copied c.args.file) c.in-Some.bytes.now c.in-Ok.read None (ap option_copied c.in-Some.is)
    c.in-None.is c.in-Ok.ensures.given)
