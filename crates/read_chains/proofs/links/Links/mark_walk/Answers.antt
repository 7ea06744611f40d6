use Rattle.std.proofs.Common.{◌≡◌, ◌≤◌, ◌*◌, ◌∙◌, ap, arith, get_or, length, subst, sym}
use Rattle.std.proofs.lemmas.List.FromFn.{get_or-map-range_with_len, length-map-range_with_len}
use Rattle.cfb_header.specs.Bytes.{u32_at}
use Rattle.read_chains.specs.Links.{AreWhole, entries_of}
use Rattle.read_chains.proofs.Ways.{walk_alike}
use Rattle.read_chains.proofs.links.Links.mark_walk.Goals as goal

pub mark_by_bytes-requires : goal.mark_by_bytes-requires
mark_by_bytes-requires c =
    let counted : length c.args.self.now ≡ c.in-Run.field-1 =
    ap length (sym c.self.view_is ∙ ap entries_of c.in-Run.is) ∙ length-map-range_with_len
    (λ k. u32_at c.in-Run.bytes.now (4 * k)) 0 c.in-Run.field-1 in
    let whole : 4 * c.in-Run.field-1 ≤ length c.in-Run.bytes.now = subst AreWhole c.in-Run.is c.self.invariant in
    omega (arith, c.requires, counted, whole)

pub returns-in-Run : goal.returns-in-Run
returns-in-Run c =
    let counted : length c.args.self.now ≡ c.in-Run.field-1 =
    ap length (sym c.self.view_is ∙ ap entries_of c.in-Run.is) ∙ length-map-range_with_len
    (λ k. u32_at c.in-Run.bytes.now (4 * k)) 0 c.in-Run.field-1 in
    walk_alike (λ n. u32_at c.in-Run.bytes.now (4 * n)) (λ n. get_or c.args.self.now n 0) c.args.start
    c.args.used.now c.mark_by_bytes.new.used
    c.mark_by_bytes.result.count c.mark_by_bytes.result.stop
    (λ n l.
    sym (get_or-map-range_with_len (λ k. u32_at c.in-Run.bytes.now (4 * k)) 0 c.in-Run.field-1 n n 0
    (omega (arith, l, c.requires, counted)) (omega arith))
    ∙ ap (λ xs. get_or xs n 0) (sym (ap entries_of c.in-Run.is) ∙ c.self.view_is))
    c.mark_by_bytes.ensures
