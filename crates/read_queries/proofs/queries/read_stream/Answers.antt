use Rattle.std.proofs.Common.{◌∙◌, List, ℕ, Ok, ap, sym}
use Rattle.cfb_entries.specs.Tree.{Tree}
use Rattle.read_outlines.specs.Streams.{stream_at}
use Rattle.read_outlines.specs.View.{contents, shown}
use Rattle.read_outlines.specs.declared.outline.Place.{Place}
use Rattle.read_files.proofs.ReadingTold.{read_refused, told_err, told_ok}
use Rattle.read_queries.proofs.queries.read_stream.Goals as goal

pub returns-in-Err-clause-refused : goal.returns-in-Err-clause-refused
returns-in-Err-clause-refused c =
    read_refused c.args.file.now c.lay_out.result c.in-Err.fault c.in-Err.is c.lay_out.ensures.header
    c.lay_out.ensures.reads c.lay_out.ensures.refused

pub returns-in-Err-place_at-clause-refused : goal.returns-in-Err-place_at-clause-refused
returns-in-Err-place_at-clause-refused c =
    let content : Place → List ℕ = contents c.in-Ok.layout.fat c.in-Ok.layout.mini in
    let t : Tree = shown content c.in-Ok.layout.root in (
      t,
      c.in-Ok.ensures.denotes,
      told_err content c.place_at.result c.in-Err-place_at.fault
          (stream_at c.args.path.now t) c.in-Err-place_at.is (c.place_at.ensures content),
    )

pub returns-in-Ok-bytes_at-clause-found : goal.returns-in-Ok-bytes_at-clause-found
returns-in-Ok-bytes_at-clause-found c =
    let content : Place → List ℕ = contents c.in-Ok.layout.fat c.in-Ok.layout.mini in
    let t : Tree = shown content c.in-Ok.layout.root in (
      t,
      c.in-Ok.ensures.denotes,
      told_ok content c.place_at.result c.in-Ok-place_at.place (stream_at c.args.path.now t) c.in-Ok-place_at.is
          (c.place_at.ensures content)
          ∙ ap Ok (sym c.in-Ok-bytes_at.ensures),
    )
