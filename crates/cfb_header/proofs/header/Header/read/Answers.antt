use Rattle.std.proofs.Common.{◌≡◌, ◌+◌, ◌*◌, min, take, map, ap, sym, ◌∙◌, Ok, arith, rules}
use Rattle.std.proofs.lemmas.Bool.Decides.{Decides-eqb}
use Rattle.std.proofs.lemmas.Slice.Eq.{slice_eq-Decides}
use Rattle.cfb_header.specs.Header.{IsHeader, listed_first}
use Rattle.cfb_header.proofs.Headers.{read_whole, first_by_index}
use Rattle.cfb_header.specs.Bytes.{u32_at}
use Rattle.std.specs.List.{range_with_len}
use Rattle.cfb_header.proofs.header.Header.read.Goals as goal

pub returns-clause-read : goal.returns-clause-read
returns-clause-read c =
    let h : IsHeader c.args.bytes.now = record {
      whole = omega arith;
      signed = sym ((slice_eq-Decides Decides-eqb _ _ _ c.starts_with.ensures.value).0 (search rules));
      major_version = search rules;
      byte_order = search rules;
      sector_shift = search rules;
      mini_sector_shift = search rules;
      cutoff = search rules;
      fat_sectors = search rules;
      difat_sectors = search rules;
    } in
    let list : take c.read_u32-fat_count.result c.read_listed.result ≡ listed_first c.args.bytes.now =
    first_by_index (λ k. u32_at c.args.bytes.now (76 + 4 * k)) c.read_listed.result c.read_u32-fat_count.result
    (search rules) c.read_listed.ensures
    ∙ ap (λ n. map (λ k. u32_at c.args.bytes.now (76 + 4 * k)) (range_with_len 0 (min n 109)))
    c.read_u32-fat_count.ensures in
    ap Ok (λ i. record {
      fat_count = c.read_u32-fat_count.ensures i;
      fat = list i;
      first_difat = c.read_u32-2.ensures i;
      difat_count = c.read_u32-difat_count.ensures i;
      first_directory = c.read_u32-3.ensures i;
      first_mini_fat = c.read_u32-4.ensures i;
      mini_fat_count = c.read_u32-5.ensures i;
    })
    ∙ sym (read_whole c.args.bytes.now h)
