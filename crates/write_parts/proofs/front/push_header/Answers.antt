use Rattle.std.proofs.Common.{◌≡◌, ◌∙◌, ◌+◌, ◌++◌, inl, inr, List, ℕ, arith, rules, ap, length, get_or, min, take}
use Rattle.std.proofs.lemmas.List.FromFn.{length-range_with_len}
use Rattle.std.specs.List.{range_with_len}
use Rattle.cfb_chains.specs.Chain.{END_OF_CHAIN}
use Rattle.cfb_header.specs.Header.{header_bytes}
use Rattle.cfb_layout.specs.Image.{start}
use Rattle.write_parts.proofs.Lists.{first_is, first_listed}
use Rattle.write_parts.proofs.front.push_header.Goals as goal

pub unreachable-requires : goal.unreachable-requires
unreachable-requires c =
    let fat : c.deref.result.now ≡ range_with_len 0 c.args.fat_count = search rules in
    let difat : c.deref-2.result.now ≡ range_with_len c.args.fat_count c.args.difat_count = search rules in
    elim c.in-Err.ensures.refused.1 [
      | inl more ↦ omega (arith, more, ap (λ (xs : List ℕ). length xs) fat, length-range_with_len 0 c.args.fat_count)
      | inr more ↦ omega (
        arith,
        more,
        ap (λ (xs : List ℕ). length xs) difat,
        length-range_with_len c.args.fat_count
            c.args.difat_count,
      )
    ]

pub returns : goal.returns
returns c =
    let f : ℕ = c.args.fat_count in
    let x : ℕ = c.args.difat_count in
    let fat : c.deref.result.now ≡ range_with_len 0 f = search rules in
    let difat : c.deref-2.result.now ≡ range_with_len f x = search rules in
    let all : length c.deref.result.now ≡ f = ap (λ (xs : List ℕ). length xs) fat ∙ length-range_with_len 0 f in
    let listed : take 109 c.deref.result.now ≡ range_with_len 0 (min f 109) = ap (take 109) fat ∙ first_listed f in
    let first : get_or c.deref-2.result.now 0 END_OF_CHAIN ≡ start f x = ap (λ xs. get_or xs 0 END_OF_CHAIN) difat
    ∙ first_is f x in
    let difats : length c.deref-2.result.now ≡ x = ap (λ (xs : List ℕ). length xs) difat ∙ length-range_with_len f x in
    let says : c.in-Ok.header ≡ record {
      fat_count = f;
      fat = range_with_len 0 (min f 109);
      first_difat = start f x;
      difat_count = x;
      first_directory = f + x;
      first_mini_fat = start (f + x + c.args.directory_count) c.args.mini_fat_count;
      mini_fat_count = c.args.mini_fat_count;
    } =
    c.in-Ok.ensures.made ∙ (λ i. record {
      fat_count = all i;
      fat = listed i;
      first_difat = first i;
      difat_count = difats i;
      first_directory = f + x;
      first_mini_fat = c.chain_start-first_mini_fat.ensures i;
      mini_fat_count = c.args.mini_fat_count;
    }) in
    let pushed : c.extend_from_slice.new.self.items ≡ c.args.out.now.items ++ header_bytes c.in-Ok.header =
    search rules in
    pushed ∙ ap (λ h. c.args.out.now.items ++ header_bytes h) says
