use Rattle.std.proofs.Common.{◌∙◌, [], ◌∷◌}
use Rattle.read_streams.proofs.Joined.{whole_numbers}
use Rattle.read_streams.proofs.Placing.{root_first, root_size}
use Rattle.read_streams.proofs.blocks.root_place.Goals as goal

pub number-first-requires : goal.number-first-requires
number-first-requires c =
    record {
      whole = whole_numbers c.args.file.now (c.first_directory.result ∷ []) c.deref.result.now
          (c.deref.ensures.value ∙ c.in_ok-front.ensures);
    }

pub number-size-requires : goal.number-size-requires
number-size-requires c = record {
  whole = whole_numbers c.args.file.now (c.first_directory.result ∷ [])
      c.deref-2.result.now (c.deref-2.ensures.value ∙ c.in_ok-front.ensures);
}

pub returns : goal.returns
returns c = record {
  first = λ a h t d.
      root_first a c.args.file.now h t d c.args.header.now c.requires.read c.deref.result.now
      c.first_directory.result c.number-first.result c.first_directory.ensures
      (c.deref.ensures.value ∙ c.in_ok-front.ensures) c.number-first.ensures;
  size = λ a h t d.
      root_size a c.args.file.now h t d c.args.header.now c.requires.read c.deref-2.result.now
      c.first_directory.result c.number-size.result c.first_directory.ensures
      (c.deref-2.ensures.value ∙ c.in_ok-front.ensures) c.number-size.ensures;
}
