use Rattle.std.proofs.Common.{◌∙◌, sym}
use Rattle.tell_entries.proofs.Steps.{key_of}
use Rattle.tell_entries.proofs.looking.are_twins.Goals as goal

pub returns : goal.returns
returns c = λ t. (
  c.if-m-n.false,
  sym (c.key.ensures ∙ key_of c.args.entries.now.directory c.args.m c.in-Ok.one c.if-m-eq0.false
      c.in-Ok.ensures.read) ∙ c.are_same.ensures t
      ∙ (c.key-2.ensures ∙ key_of c.args.entries.now.directory c.args.n c.in-Ok-entry.other c.if-n-eq0.false
      c.in-Ok-entry.ensures.read),
)
