use Rattle.std.proofs.Common.{ℕ, List, Option, IfSome, subst}
use Rattle.text_io.specs.Input.{MayRefuseInput}
use Rattle.tell_files.proofs.Input.{whole_read}
use Rattle.tell_files.proofs.whole.read_whole.Goals as goal

pub returns-in-Ok-read_front-clause-whole : goal.returns-in-Ok-read_front-clause-whole
returns-in-Ok-read_front-clause-whole g c =
    whole_read (g.S.Source.bytes c.args.source.now) (g.S.Source.bytes c.size.new.self) c.in-Ok.size
    c.in-Ok-read_front.bytes.items c.size.ensures.kept c.in-Ok.ensures.counted
    c.in-Ok-read_front.ensures.bytes

pub returns-in-Err-clause-refused : goal.returns-in-Err-clause-refused
returns-in-Err-clause-refused g c =
    subst (λ (k : Option (List ℕ)). IfSome k (λ file. MayRefuseInput file c.in-Err.fault)) c.size.ensures.kept
    c.in-Err.ensures.refused
