use Rattle.std.proofs.Common.{◌≡◌, ◌≤◌, ◌*◌, ◌∙◌, ℕ, List, ap, arith, length, length-take, take}
use Rattle.cfb_header.specs.Bytes.{joined, sector}
use Rattle.cfb_header.specs.Header.{first_mini_fat}
use Rattle.tell_chains.proofs.Laid.{counted_in, front_inside, front_joined, long_joined, mini_tabled}
use Rattle.tell_chains.proofs.parts.mini_table.Goals as goal

pub slice_bounds-used-end : goal.slice_bounds-used-end
slice_bounds-used-end c =
    let few : c.args.count ≤ length c.args.mini_fat.now =
    counted_in c.args.file.now (first_mini_fat c.args.file.now) c.args.count c.args.mini_fat.now
    c.requires.mini_fat in
    omega (arith, few, length-take c.args.count c.args.mini_fat.now)

pub join-requires : goal.join-requires
join-requires c =
    front_inside c.args.file.now c.args.tables.now.fat c.args.tables.now.lists.items c.args.tables.now.entries.items
    c.requires.tables (first_mini_fat c.args.file.now) (512 * c.args.count) c.args.count
    c.args.mini_fat.now c.requires.mini_fat

pub numbers-requires : goal.numbers-requires
numbers-requires c =
    let file : List ℕ = c.args.file.now in
    let used : List ℕ = take c.args.count c.args.mini_fat.now in
    let few : c.args.count ≤ length c.args.mini_fat.now = counted_in file (first_mini_fat file) c.args.count
    c.args.mini_fat.now c.requires.mini_fat in
    let joined_are : c.in_ok-bytes.bytes.items ≡ joined (sector file) used =
    front_joined file c.args.tables.now.fat c.args.tables.now.lists.items c.args.tables.now.entries.items
    c.requires.tables (first_mini_fat file) (512 * c.args.count) c.args.count
    c.args.mini_fat.now c.in_ok-bytes.bytes.items c.requires.mini_fat c.in_ok-bytes.ensures in
    let long : length c.deref.result.now ≡ 512 * length used =
    ap (λ (xs : List ℕ). length xs) (c.deref.ensures.value ∙ joined_are) ∙ long_joined file used in
    omega (arith, few, long, length-take c.args.count c.args.mini_fat.now, c.min-entries.ensures)

pub returns-clause-tabled : goal.returns-clause-tabled
returns-clause-tabled c =
    let file : List ℕ = c.args.file.now in
    let used : List ℕ = take c.args.count c.args.mini_fat.now in
    let joined_are : c.in_ok-bytes.bytes.items ≡ joined (sector file) used =
    front_joined file c.args.tables.now.fat c.args.tables.now.lists.items c.args.tables.now.entries.items
    c.requires.tables (first_mini_fat file) (512 * c.args.count) c.args.count
    c.args.mini_fat.now c.in_ok-bytes.bytes.items c.requires.mini_fat c.in_ok-bytes.ensures in
    mini_tabled file c.args.mini_fat.now c.in_ok-bytes.bytes.items c.deref.result.now c.in_ok-minis.minis.items
    (first_mini_fat file) c.args.count c.args.size c.min-entries.result c.requires.mini_fat
    joined_are c.deref.ensures.value c.min-entries.ensures c.in_ok-minis.ensures.count c.in_ok-minis.ensures.each
