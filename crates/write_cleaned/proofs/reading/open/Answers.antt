use Rattle.std.proofs.Common.{◌∙◌, sym}
use Rattle.std.proofs.Math.Logic.{∥∥₁_map}
use Rattle.cfb_entries.specs.Tree.{Tree}
use Rattle.cfb_file.specs.Alike.{Alike}
use Rattle.write_cleaned.proofs.Sources.{known_map}
use Rattle.write_cleaned.specs.Opened.{IsOpenedOf}
use Rattle.write_cleaned.specs.Sources.{MayRefuseSource}
use Rattle.write_cleaned.specs.declared.moving_fault.SourceFault.TheVariants as source
use Rattle.write_cleaned.proofs.reading.open.Goals as goal

pub returns-in-Err-outline_of-clause-refused : goal.returns-in-Err-outline_of-clause-refused
returns-in-Err-outline_of-clause-refused g c =
    known_map (g.S.Source.bytes c.args.source.now) (λ a. Alike a c.in-Ok.catalog.file)
    (λ a. MayRefuseSource a (source.Read c.in-Err-outline_of.fault))
    (λ a e h. c.in-Err-outline_of.ensures.refused a h) c.in-Ok.ensures.alike

pub returns-in-Ok-tables_of-clause-opened : goal.returns-in-Ok-tables_of-clause-opened
returns-in-Ok-tables_of-clause-opened g c =
    known_map (g.S.Source.bytes c.args.source.now) (λ a. Alike a c.in-Ok.catalog.file)
    (λ a. (t : Tree) × ∥ IsOpenedOf a t
    (record { outline = c.in-Ok-outline_of.outline; tables = c.in-Ok-tables_of.tables }) ∥₁)
    (λ a e h. let q = c.in-Ok-outline_of.ensures.placed a h in (
      q.0,
      ∥∥₁_map q.1 (λ p. record {
        placed = p;
        tables = c.in-Ok-tables_of.ensures.tables a h q.0 p.denotes;
        len = h.len ∙ sym c.in-Ok-tables_of.ensures.len;
      }),
    )) c.in-Ok.ensures.alike
