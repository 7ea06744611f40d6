use Rattle.message_bytes.proofs.Heads.{ends_magic, ends_version, shows_kind, shows_length, shows_version}
use Rattle.message_bytes.proofs.front.head_of.Goals as goal

pub returns-in-empty : goal.returns-in-empty
returns-in-empty c = ends_magic c.args.xs.now c.in-len4-up.len_at_least c.if-not-magic.false c.in-empty.len_below

pub returns-then-version-ne2 : goal.returns-then-version-ne2
returns-then-version-ne2 c = (
  λ e. cc,
  λ more. shows_version c.args.xs.now more c.in-len4-up.len_at_least c.if-not-magic.false
      c.in-len1-up.len_at_least c.if-version-ne2.true,
)

pub returns-in-empty-rest : goal.returns-in-empty-rest
returns-in-empty-rest c = ends_version c.args.xs.now c.in-len4-up.len_at_least c.if-not-magic.false
    c.in-len1-up.len_at_least c.if-version-ne2.false c.in-empty-rest.len_below

pub returns-in-None : goal.returns-in-None
returns-in-None c = (
  λ e. cc,
  λ more. shows_kind c.args.xs.now more c.in-len4-up.len_at_least c.if-not-magic.false
      c.in-len1-up.len_at_least c.if-version-ne2.false c.in-len1-up-rest.len_at_least c.in-None.ensures,
)

pub returns-in-Some : goal.returns-in-Some
returns-in-Some c =
    shows_length c.length_at.result c.in-Some.kind c.args.xs.now c.in-len4-up.len_at_least c.if-not-magic.false
    c.in-len1-up.len_at_least c.if-version-ne2.false c.in-len1-up-rest.len_at_least c.in-Some.ensures
    c.length_at.ensures
