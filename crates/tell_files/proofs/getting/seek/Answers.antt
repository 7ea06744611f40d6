use Rattle.std.proofs.Common.{◌≡◌, ◌≤◌, ◌∙◌, length, sym}
use Rattle.cfb_file.specs.Alike.{Alike}
use Rattle.tell_files.specs.Getting.{MayRefuseGet}
use Rattle.tell_lists.proofs.Listed.{some_both, some_map}
use Rattle.read_streams.specs.declared.blocks.Lies.{Lies}
use Rattle.text_io.specs.Input.{most}
use Rattle.tell_files.specs.Gets.{Stands}
use Rattle.tell_files.proofs.Gotten.{found_stands}
use Rattle.tell_files.proofs.getting.seek.Goals as goal

pub returns-in-Err-place_of-clause-refused : goal.returns-in-Err-place_of-clause-refused
returns-in-Err-place_of-clause-refused g c =
    some_map (g.S.Source.bytes c.args.source.now) (λ a. Alike a c.in-Ok.catalog.file)
    (λ a. MayRefuseGet a c.args.path.now c.in-Err-place_of.fault)
    (λ a h. c.in-Err-place_of.ensures.refused a h) c.in-Ok.ensures.alike

pub returns-in-Ok-blocks_at-clause-found : goal.returns-in-Ok-blocks_at-clause-found
returns-in-Ok-blocks_at-clause-found g c =
    let lies : Lies = c.in-Ok-blocks_at.lies in
    some_both (g.S.Source.bytes c.args.source.now) (λ a. Alike a c.in-Ok.catalog.file) (λ a. length a ≤ most)
    (λ a. (length a ≡ c.len.result) × Stands a c.args.path.now lies)
    (λ a h few. (
      h.len ∙ sym c.len.ensures,
      found_stands a c.args.path.now c.in-Ok-place_of.place lies few (c.in-Ok-place_of.ensures.found a h)
          (λ t d. c.in-Ok-blocks_at.ensures.lies a h t d),
    ))
    c.in-Ok.ensures.alike c.in-Ok.ensures.few
