use Rattle.std.proofs.Common.{◌≡◌, ◌≤◌, ◌∙◌, ℕ, List, cond, get_or, length, nat_eq, replicate, rules, subst, sym, arith}
use Rattle.cfb_chains.specs.Chain.{END_OF_CHAIN}
use Rattle.cfb_header.specs.Header.{HeaderValue}
use Rattle.read_streams.specs.Chains.{IsFatOf}
use Rattle.read_streams.proofs.Placing.{difat_of, entries_over, fat_of}
use Rattle.tell_maps.specs.Maps.{DIFAT, DIRECTORY, FAT, FREE, LAST, MINI_FAT, MINI_STREAM, STREAM}
use Rattle.tell_maps.specs.Painting.{Paints}
use Rattle.tell_maps.specs.Parts.{AreParts}
use Rattle.tell_maps.proofs.Painted.{ArePainted, all_painted}
use Rattle.tell_maps.proofs.map.cells_of.Goals as goal

pub returns-clause-painted : goal.returns-clause-painted
returns-clause-painted c = λ a h t d told.
    let file : List ℕ = c.args.file.now in
    let header : HeaderValue = c.args.header.now in
    let table : List ℕ = c.in_ok-table.table in
    let c0 : List ℕ = c.in_ok-cells.cells.items in
    let c1 : List ℕ = c.paint.new.cells.items in
    let c2 : List ℕ = c.paint-2.new.cells.items in
    let c3 : List ℕ = c.paint-3.new.cells.items in
    let c4 : List ℕ = c.paint-4.new.cells.items in
    let c5 : List ℕ = c.paint-5.new.cells.items in
    let c6 : List ℕ = c.paint_stream.new.cells.items in
    let o : IsFatOf a d.layout table =
    entries_over a file h t d header c.requires.read c.deref.result.now table
    (c.deref.ensures.value ∙ c.in_ok-own.ensures.fat)
    (subst (λ (xs : List ℕ). length xs ≤ 1125) (sym c.deref.ensures.value) c.in_ok-own.ensures.few)
    c.in_ok-table.ensures.count c.in_ok-table.ensures.each in
    let parts : AreParts d.layout d.used.sectors c.in_ok-parts.parts = c.in_ok-parts.ensures.found a h t d o told in
    let none : c0 ≡ replicate (length table) FREE = search (rules, c.in_ok-cells.ensures.items, c.len.ensures) in
    let painted : ArePainted a d.layout table d.used.sectors c0 c1 c2 c3 c4 c5 c6 = record {
      over = o;
      free = none;
      long1 = c.paint.ensures.len;
      long2 = c.paint-2.ensures.len;
      long3 = c.paint-3.ensures.len;
      long4 = c.paint-4.ensures.len;
      long5 = c.paint-5.ensures.len;
      long6 = c.paint_stream.ensures.len;
      fat = subst (λ (ns : List ℕ). Paints (λ _. FAT) ns c0 c1)
          (c.deref-2.ensures.value
          ∙ fat_of a file h t d header c.requires.read c.in_ok-own.own.fat.items c.in_ok-own.ensures.fat)
          c.paint.ensures.each;
      difat = subst (λ (ns : List ℕ). Paints (λ _. DIFAT) ns c1 c2)
          (c.deref-3.ensures.value
          ∙ difat_of a file h t d header c.requires.read c.in_ok-own.own.difat.items c.in_ok-own.ensures.difat)
          c.paint-2.ensures.each;
      mini_fat = subst (λ (ns : List ℕ). Paints (λ _. MINI_FAT) ns c2 c3) (c.deref-4.ensures.value ∙ parts.mini_fat)
          c.paint-3.ensures.each;
      directory = subst (λ (ns : List ℕ). Paints (λ _. DIRECTORY) ns c3 c4)
          (c.deref-5.ensures.value ∙ parts.directory) c.paint-4.ensures.each;
      mini_stream = subst (λ (ns : List ℕ). Paints (λ _. MINI_STREAM) ns c4 c5)
          (c.deref-6.ensures.value ∙ parts.mini_stream) c.paint-5.ensures.each;
      last = subst (λ (ns : List ℕ). Paints (λ n. cond (nat_eq (get_or table n 0) END_OF_CHAIN) LAST STREAM) ns c5 c6)
          (c.deref-7.ensures.value ∙ parts.streams) c.paint_stream.ensures.each;
    } in
    all_painted a d.layout table d.used.sectors c0 c1 c2 c3 c4 c5 c6 painted c.push_beyond.new.cells.items
    c.len-2.result c.saturating_sub-2.result (c.len-2.ensures ∙ sym h.len) c.in_ok-push_beyond.ensures
    (omega (arith, c.saturating_sub.ensures, c.saturating_sub-2.ensures, c.len-3.ensures))
