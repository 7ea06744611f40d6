use Rattle.std.proofs.Common.{◌*◌, ◌∙◌, ap, length, sym}
use Rattle.std.proofs.lemmas.List.FromFn.{length-map-range_with_len}
use Rattle.cfb_header.specs.Bytes.{u32_at}
use Rattle.read_chains.specs.Links.{entries_of}
use Rattle.read_chains.proofs.links.Links.len.Goals as goal

pub returns-in-Run : goal.returns-in-Run
returns-in-Run c =
    sym (length-map-range_with_len (λ k. u32_at c.in-Run.field-0.now (4 * k)) 0 c.in-Run.count)
    ∙ ap length (sym (ap entries_of c.in-Run.is) ∙ c.self.view_is)
