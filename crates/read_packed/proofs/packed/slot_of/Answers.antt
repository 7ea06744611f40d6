use Rattle.std.proofs.Common.{◌≡◌, ◌∙◌, ap, sym}
use Rattle.cfb_bytes.specs.Bytes.{block}
use Rattle.read_packed.specs.Named.{characters_of, laid_out, named_bytes}
use Rattle.read_packed.specs.Packed.{spelled}
use Rattle.read_packed.proofs.Held.{short_spelled}
use Rattle.read_packed.proofs.packed.slot_of.Goals as goal

pub returns-in-Some : goal.returns-in-Some
unfolding named_bytes spelled
returns-in-Some c =
    let short = c.shorten-short.result in
    let name : characters_of c.in-Some.name ≡ short.name = sym c.in-Some.ensures.1 ∙ c.parted.ensures.lower
    ∙ sym c.shorten-short.ensures.name in
    ap named_bytes c.new.ensures
    ∙ ap (λ xs. block 128 (laid_out xs short.head short.place) 0) name
    ∙ short_spelled short c.args.entry.now c.told-entry c.shorten-short.ensures.name c.shorten-short.ensures.head
    c.shorten-short.ensures.place c.requires

pub returns-in-None : goal.returns-in-None
returns-in-None c =
    short_spelled c.shorten-short.result c.args.entry.now c.told-entry c.shorten-short.ensures.name
    c.shorten-short.ensures.head c.shorten-short.ensures.place c.requires
