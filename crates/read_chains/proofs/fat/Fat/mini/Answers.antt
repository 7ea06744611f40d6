use Rattle.std.proofs.Common.{◌≡◌, ◌<◌, ◌*◌, ◌++◌, ◌∙◌, List, ℕ, ap, arith, inl, inr, length, refl, sym, subst, take}
use Rattle.std.proofs.lemmas.List.Elements.{All-take}
use Rattle.std.specs.List.{All}
use Rattle.cfb_chains.specs.Fat.{AreFree, FatValue, IsFound, IsMiniFound, IsMiniTable, MayRefuse, MayRefuseMini, marked}
use Rattle.cfb_chains.specs.Fat.{store_of}
use Rattle.cfb_header.specs.Header.{HeaderValue}
use Rattle.cfb_header.specs.declared.fault.ChainFault.{ChainFault}
use Rattle.cfb_header.specs.declared.fault.ChainFault.TheVariants.{NoMemory}
use Rattle.cfb_chains.proofs.Chains.{chain_below, chain_once}
use Rattle.cfb_chains.proofs.Marks.{free_left, free_rest, free_then, set_all-append}
use Rattle.cfb_chains.proofs.Results.{refused_with}
use Rattle.read_chains.proofs.fat.Fat.mini.Goals as goal

marked_twice : (f : FatValue) (ns ms : List ℕ) → marked (marked f ns) ms ≡ marked f (ns ++ ms)
marked_twice f ns ms =
    ap (λ u. record { bytes = f.bytes; start = f.start; width = f.width; table = f.table; used = u })
    (sym (set_all-append f.used ns ms))

both_found : (f g : FatValue) (first count start size : ℕ) (ns ms : List ℕ) → g ≡ marked f ns
    → IsFound f first (512 * count) ns → IsFound g start size ms
    → IsMiniFound f first count start size ns ms
both_found f g first count start size ns ms e h q =
    let r : IsFound (marked f ns) start size ms = subst (λ g. IsFound g start size ms) e q in
    record { table = h.chain; stream = r.chain; free = free_then f ns ms h.free r.free }

same_table : (f g : FatValue) (ns xs ms : List ℕ) (size : ℕ) (m : FatValue) → g ≡ marked f ns
    → IsMiniTable g xs ms size m → IsMiniTable f xs ms size m
same_table f g ns xs ms size m e h =
    let r : IsMiniTable (marked f ns) xs ms size m = subst (λ g. IsMiniTable g xs ms size m) e h in
    record { sectors = r.sectors; marks = r.marks }

-- what is found has entries
found_below : (f g : FatValue) (first bytes : ℕ) (ns xs : List ℕ) → g.table ≡ f.table → xs ≡ ns
    → IsFound f first bytes ns → All (λ n. n < length g.table) xs
found_below f g first bytes ns xs same is h =
    subst (λ (t : List ℕ). All (λ n. n < length t) xs) (sym same)
    (subst (All (λ n. n < length f.table)) (sym is) (chain_below (store_of f) first bytes ns h.chain))

counted : (m n : ℕ) → m ≡ n → 0 < 512 * m → 0 < n
counted m n e some = omega (arith, e, some)

pub mark-requires : goal.mark-requires
mark-requires c =
    found_below c.args.self.now c.args.self.now c.first_mini_fat.result (512 * c.mini_fat_count.result)
    c.in_ok-mini_fat.mini_fat.items c.deref.result.now
    refl c.deref.ensures.value c.in_ok-mini_fat.ensures.found

pub mini_table-requires-clause-present : goal.mini_table-requires-clause-present
mini_table-requires-clause-present c =
    All-take (λ n. n < length c.mark.new.self.table) c.mini_fat_count-count.result c.deref-2.result.now
    (found_below c.args.self.now c.mark.new.self c.first_mini_fat.result (512 * c.mini_fat_count.result)
    c.in_ok-mini_fat.mini_fat.items c.deref-2.result.now
    (ap (λ (g : FatValue). g.table) c.mark.ensures) c.deref-2.ensures.value c.in_ok-mini_fat.ensures.found)

pub clear-requires : goal.clear-requires
clear-requires c =
    found_below c.args.self.now c.mini_table.new.self c.first_mini_fat.result (512 * c.mini_fat_count.result)
    c.in_ok-mini_fat.mini_fat.items c.deref-in-Err.result.now
    (ap (λ (g : FatValue). g.table) (c.in-Err.ensures.kept ∙ c.mark.ensures)) c.deref-in-Err.ensures.value
    c.in_ok-mini_fat.ensures.found

pub returns-in_err-mini_fat-clause-refused : goal.returns-in_err-mini_fat-clause-refused
returns-in_err-mini_fat-clause-refused c =
    let f : FatValue = c.args.self.now in
    let v : HeaderValue = c.args.header.now in
    let fault : ChainFault = c.in_err-mini_fat.field-0.0 in
    let some : 0 < v.mini_fat_count = counted c.mini_fat_count.result v.mini_fat_count c.mini_fat_count.ensures
    c.in_err-mini_fat.ensures.some in
    let refused : MayRefuse f v.first_mini_fat (512 * v.mini_fat_count) fault =
    subst (λ n. MayRefuse f v.first_mini_fat (512 * n) fault) c.mini_fat_count.ensures
    (subst (λ n. MayRefuse f n (512 * c.mini_fat_count.result) fault) c.first_mini_fat.ensures
    c.in_err-mini_fat.ensures.refused) in
    refused_with c.from_residual.result fault (MayRefuseMini f v c.args.start c.args.size) c.from_residual.ensures.1
    (inl (some, refused))

pub returns-in_err-mini_fat-clause-there : goal.returns-in_err-mini_fat-clause-there
returns-in_err-mini_fat-clause-there c = λ ns ms h.
    let f = c.args.self.now in
    let v = c.args.header.now in
    let first : IsFound f v.first_mini_fat (512 * v.mini_fat_count) ns =
    record { chain = h.table; free = free_left f ns ms h.free } in
    refused_with c.from_residual.result c.in_err-mini_fat.field-0.0 (λ e. e ≡ NoMemory) c.from_residual.ensures.1
    (c.in_err-mini_fat.ensures.there ns
    (subst (λ n. IsFound f n (512 * c.mini_fat_count.result) ns) (sym c.first_mini_fat.ensures)
    (subst (λ n. IsFound f v.first_mini_fat (512 * n) ns) (sym c.mini_fat_count.ensures) first)))

pub returns-clause-refused : goal.returns-clause-refused
returns-clause-refused c =
    let f = c.args.self.now in
    let h = c.args.header.now in
    let ns = c.in_ok-mini_fat.mini_fat.items in
    let first : IsFound f h.first_mini_fat (512 * h.mini_fat_count) ns =
    subst (λ n. IsFound f h.first_mini_fat (512 * n) ns) c.mini_fat_count.ensures
    (subst (λ n. IsFound f n (512 * c.mini_fat_count.result) ns) c.first_mini_fat.ensures
    c.in_ok-mini_fat.ensures.found) in
    let made : c.mark.new.self ≡ marked f ns = c.mark.ensures ∙ ap (marked f) c.deref.ensures.value in
    inr (
      ns,
      first,
      subst (λ (g : FatValue). MayRefuse g c.args.start c.args.size c.in-Err.fault) made
          c.in-Err.ensures.refused,
    )

pub returns-clause-kept : goal.returns-clause-kept
returns-clause-kept c =
    let f = c.args.self.now in
    c.clear.ensures f (c.in-Err.ensures.kept ∙ c.mark.ensures
    ∙ ap (marked f) (c.deref.ensures.value ∙ sym c.deref-in-Err.ensures.value))
    (subst (AreFree f) (sym c.deref-in-Err.ensures.value) c.in_ok-mini_fat.ensures.found.free)

pub returns-in-Ok-clause-found : goal.returns-in-Ok-clause-found
returns-in-Ok-clause-found c =
    let f = c.args.self.now in
    let h = c.args.header.now in
    let ns = c.in_ok-mini_fat.mini_fat.items in
    let rest = c.in-Ok.ensures.found in
    let made : c.mark.new.self ≡ marked f ns = c.mark.ensures ∙ ap (marked f) c.deref.ensures.value in
    let first : IsFound f h.first_mini_fat (512 * h.mini_fat_count) ns =
    subst (λ n. IsFound f h.first_mini_fat (512 * n) ns) c.mini_fat_count.ensures
    (subst (λ n. IsFound f n (512 * c.mini_fat_count.result) ns) c.first_mini_fat.ensures
    c.in_ok-mini_fat.ensures.found) in
    let table : IsMiniTable c.mark.new.self (take h.mini_fat_count ns) rest.0 c.args.size c.in-Ok.mini =
    subst (λ xs. IsMiniTable c.mark.new.self xs rest.0 c.args.size c.in-Ok.mini)
    (λ i. take (c.mini_fat_count-count.ensures i) (c.deref-2.ensures.value i)) rest.2 in (
      ns,
      rest.0,
      both_found f c.mark.new.self h.first_mini_fat h.mini_fat_count c.args.start c.args.size ns rest.0 made first
          rest.1,
      same_table f c.mark.new.self ns (take h.mini_fat_count ns) rest.0 c.args.size c.in-Ok.mini made table,
      rest.3 ∙ ap (λ g. marked g rest.0) made ∙ marked_twice f ns rest.0,
    )

pub returns-clause-there : goal.returns-clause-there
returns-clause-there c = λ mini_fat mini_stream h.
    let f = c.args.self.now in
    let v = c.args.header.now in
    let ns = c.in_ok-mini_fat.mini_fat.items in
    let first : IsFound f v.first_mini_fat (512 * v.mini_fat_count) ns =
    subst (λ n. IsFound f v.first_mini_fat (512 * n) ns) c.mini_fat_count.ensures
    (subst (λ n. IsFound f n (512 * c.mini_fat_count.result) ns) c.first_mini_fat.ensures
    c.in_ok-mini_fat.ensures.found) in
    let made : c.mark.new.self ≡ marked f mini_fat =
    c.mark.ensures ∙ ap (marked f) (c.deref.ensures.value ∙ chain_once (store_of f) v.first_mini_fat
    (512 * v.mini_fat_count) ns mini_fat first.chain h.table) in
    let rest : IsFound (marked f mini_fat) c.args.start c.args.size mini_stream =
    record { chain = h.stream; free = free_rest f mini_fat mini_stream h.free } in
    c.in-Err.ensures.there mini_stream (subst (λ g. IsFound g c.args.start c.args.size mini_stream) (sym made) rest)
