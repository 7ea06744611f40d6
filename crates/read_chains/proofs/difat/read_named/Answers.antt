use Rattle.std.proofs.Common.{◌≡◌, ◌++◌, ◌∙◌, ap, rules, take}
use Rattle.read_chains.specs.View.{image_bytes}
use Rattle.cfb_chains.proofs.Tables.{named_read}
use Rattle.read_chains.proofs.difat.read_named.Goals as goal

pub returns-clause-named : goal.returns-clause-named
returns-clause-named c =
    let items : c.extend_from_slice.new.self.items ≡ c.args.fat.now.items
    ++ take 127 c.in_ok-numbers.numbers.items = search rules in
    items ∙ ap (λ xs. c.args.fat.now.items ++ xs)
    (named_read (image_bytes c.args.file.now) c.in_ok-numbers.numbers.items c.args.n
    c.in_ok-numbers.ensures.count c.in_ok-numbers.ensures.each)
