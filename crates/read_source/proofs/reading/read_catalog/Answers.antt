use Rattle.std.proofs.Common.{◌≡◌, ◌∙◌, IfSome, ℕ, List, Option, Err, ap, drop, length, min, refl, sym, subst, take}
use Rattle.cfb_bytes.specs.Bytes.{block}
use Rattle.cfb_header.specs.Header.{HeaderValue, IsHeader, header_read}
use Rattle.cfb_file.specs.Alike.{Alike}
use Rattle.read_source.specs.Filled.{AreFound, AreListsRead, IsRead}
use Rattle.read_source.proofs.Filling.{chain_was_read, front_known, some_both, some_five, some_same}
use Rattle.read_source.proofs.Cataloging.{cataloged, front_read, header_same, whole_same}
use Rattle.read_source.proofs.reading.read_catalog.Goals as goal

pub returns-in-Err-clause-refused : goal.returns-in-Err-clause-refused
returns-in-Err-clause-refused g c =
    let known : Option (List ℕ) = g.S.Source.bytes c.args.source.now in
    let front : List ℕ = c.in_ok-front.front.items in
    let len : ℕ = c.in_ok-len.len in
    some_both known (λ a. length a ≡ len) (λ a. front ≡ take (min len 512) (drop 0 a))
    (λ a. header_read a ≡ Err c.in-Err.fault)
    (λ a e is. sym (front_read a front len e is) ∙ ap header_read (sym c.deref.ensures.value)
    ∙ sym c.in-Err.ensures.read)
    c.in_ok-len.ensures.counted
    (front_known (g.S.Source.bytes c.read_len.new.source) known front c.min.result (min len 512)
    c.in_ok-len.ensures.kept c.min.ensures c.in_ok-front.ensures.bytes)

pub returns-clause-header : goal.returns-clause-header
returns-clause-header g c =
    let front : List ℕ = c.in_ok-front.front.items in
    let len : ℕ = c.in_ok-len.len in
    header_same c.read_sectors-2.new.file front len c.in-Ok.header
    (c.in_ok-read_sectors-2.ensures.len ∙ c.in_ok-read_sectors.ensures.len ∙ ap length c.reserve.ensures
    ∙ c.in_ok-sectors.ensures.len ∙ c.in_ok-put.ensures.len ∙ c.in_ok-file.ensures)
    (c.in_ok-front.ensures.len ∙ c.min.ensures)
    (subst IsHeader c.deref.ensures.value (c.in-Ok.ensures.whole.0 refl))
    (c.in-Ok.ensures.read ∙ ap header_read c.deref.ensures.value)
    (c.in_ok-read_sectors-2.ensures.front ∙ c.in_ok-read_sectors.ensures.front
    ∙ ap (λ f. block 512 f 0) c.reserve.ensures ∙ c.in_ok-sectors.ensures.front ∙ c.in_ok-put.ensures.here
    ∙ ap (λ xs. block 512 xs 0) c.deref-2.ensures.value)

pub returns-clause-whole : goal.returns-clause-whole
returns-clause-whole g c =
    let front : List ℕ = c.in_ok-front.front.items in
    let len : ℕ = c.in_ok-len.len in
    whole_same c.read_sectors-2.new.file front len c.in-Ok.header
    (c.in_ok-read_sectors-2.ensures.len ∙ c.in_ok-read_sectors.ensures.len ∙ ap length c.reserve.ensures
    ∙ c.in_ok-sectors.ensures.len ∙ c.in_ok-put.ensures.len ∙ c.in_ok-file.ensures)
    (c.in_ok-front.ensures.len ∙ c.min.ensures)
    (subst IsHeader c.deref.ensures.value (c.in-Ok.ensures.whole.0 refl))
    (c.in-Ok.ensures.read ∙ ap header_read c.deref.ensures.value)
    (c.in_ok-read_sectors-2.ensures.front ∙ c.in_ok-read_sectors.ensures.front
    ∙ ap (λ f. block 512 f 0) c.reserve.ensures ∙ c.in_ok-sectors.ensures.front ∙ c.in_ok-put.ensures.here
    ∙ ap (λ xs. block 512 xs 0) c.deref-2.ensures.value)

pub returns-clause-alike : goal.returns-clause-alike
returns-clause-alike g c =
    let known : Option (List ℕ) = g.S.Source.bytes c.args.source.now in
    let front : List ℕ = c.in_ok-front.front.items in
    let len : ℕ = c.in_ok-len.len in
    let h : HeaderValue = c.in-Ok.header in
    let b0 : List ℕ = c.put.new.self in
    let b1 : List ℕ = c.read_lists.new.file in
    let b2 : List ℕ = c.read_sectors.new.file in
    let b3 : List ℕ = c.read_sectors-2.new.file in
    let ns : List ℕ = c.in_ok-sectors.sectors.fat.items in
    let directory : List ℕ = c.in_ok-chains.chains.directory.items in
    let mini_fat : List ℕ = c.in_ok-chains.chains.mini_fat.items in
    let found : AreFound b1 ns h directory mini_fat = subst (λ xs. AreFound b1 xs h directory mini_fat)
    c.deref-3.ensures.value c.in_ok-chains.ensures in
    let ns_1 : List ℕ = c.deref-4.result.now in
    let ns_2 : List ℕ = c.deref-5.result.now in
    let len_0 : length b0 ≡ len = c.in_ok-put.ensures.len ∙ c.in_ok-file.ensures in
    let len_1 : length b1 ≡ len = c.in_ok-sectors.ensures.len ∙ len_0 in
    let len_2 : length b2 ≡ len = c.in_ok-read_sectors.ensures.len ∙ ap length c.reserve.ensures ∙ len_1 in
    let at_1 : g.S.Source.bytes c.read_len.new.source ≡ known = c.in_ok-len.ensures.kept in
    let at_2 : g.S.Source.bytes c.read_bytes.new.source ≡ known = c.in_ok-front.ensures.kept ∙ at_1 in
    let at_3 : g.S.Source.bytes c.read_lists.new.source ≡ known = c.in_ok-sectors.ensures.kept ∙ at_2 in
    let at_4 : g.S.Source.bytes c.read_sectors.new.source ≡ known = c.in_ok-read_sectors.ensures.kept ∙ at_3 in
    some_five known (λ a. length a ≡ len) (λ a. front ≡ take (min len 512) (drop 0 a))
    (λ a. length a ≡ length b0 → AreListsRead a b0 b1 h ns)
    (λ a. length a ≡ length b1 → IsRead a b1 b2 ns_1) (λ a. length a ≡ length b2 → IsRead a b2 b3 ns_2)
    (λ a. Alike a b3)
    (λ a e is r s t.
    cataloged a b0 b1 b2 b3 front found.table ns len h e (c.in_ok-read_sectors-2.ensures.len ∙ len_2) len_1
    (c.in_ok-front.ensures.len ∙ c.min.ensures) is
    (subst IsHeader c.deref.ensures.value (c.in-Ok.ensures.whole.0 refl))
    (c.in-Ok.ensures.read ∙ ap header_read c.deref.ensures.value)
    (c.in_ok-read_sectors-2.ensures.front ∙ c.in_ok-read_sectors.ensures.front
    ∙ ap (λ f. block 512 f 0) c.reserve.ensures ∙ c.in_ok-sectors.ensures.front ∙ c.in_ok-put.ensures.here
    ∙ ap (λ xs. block 512 xs 0) c.deref-2.ensures.value)
    (r (e ∙ sym len_0)) found.count found.each
    (chain_was_read a b1 b2 found.table directory h.first_directory found.directory_found
    (subst (IsRead a b1 b2) c.deref-4.ensures.value (s (e ∙ sym len_1))))
    (chain_was_read a b2 b3 found.table mini_fat h.first_mini_fat found.mini_fat_found
    (subst (IsRead a b2 b3) c.deref-5.ensures.value (t (e ∙ sym len_2)))))
    c.in_ok-len.ensures.counted
    (front_known (g.S.Source.bytes c.read_len.new.source) known front c.min.result (min len 512) at_1 c.min.ensures
    c.in_ok-front.ensures.bytes)
    (some_same (g.S.Source.bytes c.read_bytes.new.source) known (λ a. length a ≡ length b0
    → AreListsRead a b0 b1 h ns) at_2 c.in_ok-sectors.ensures.read)
    (some_same (g.S.Source.bytes c.read_lists.new.source) known (λ a. length a ≡ length b1 → IsRead a b1 b2 ns_1) at_3
    (subst (λ (f : List ℕ). IfSome (g.S.Source.bytes c.read_lists.new.source)
    (λ a. length a ≡ length f → IsRead a f b2 ns_1)) c.reserve.ensures c.in_ok-read_sectors.ensures.read))
    (some_same (g.S.Source.bytes c.read_sectors.new.source) known (λ a. length a ≡ length b2 → IsRead a b2 b3 ns_2)
    at_4 c.in_ok-read_sectors-2.ensures.read)
