use Rattle.std.proofs.Common.{◌≡◌, ◌∙◌, ℕ, List, length, subst, sym}
use Rattle.cfb_header.specs.Header.{HeaderValue, difat_by}
use Rattle.read_source.specs.Filled.{AreListsRead, IsRead}
use Rattle.read_source.proofs.Filling.{lists_read, some_both, some_same}
use Rattle.read_source.proofs.listing.read_lists.Goals as goal

pub returns-clause-read : goal.returns-clause-read
returns-clause-read g c =
    let h : HeaderValue = c.args.header.now in
    let old : List ℕ = c.args.file.now in
    let mid : List ℕ = c.read_difat.new.file in
    let new : List ℕ = c.read_sectors.new.file in
    let ns : List ℕ = c.in_ok-sectors.sectors.fat.items in
    let found : List ℕ = c.deref.result.now in
    some_both (g.S.Source.bytes c.args.source.now) (λ a. length a ≡ length old → IsRead a old mid (difat_by a h))
    (λ a. length a ≡ length mid → IsRead a mid new found)
    (λ a. length a ≡ length old → AreListsRead a old new h ns)
    (λ a d f len. lists_read a old mid new h ns c.in_ok-sectors.ensures.fat (d len)
    (subst (IsRead a mid new) c.deref.ensures.value (f (len ∙ sym c.in_ok-read_difat.ensures.len))))
    c.in_ok-read_difat.ensures.read
    (some_same (g.S.Source.bytes c.read_difat.new.source) (g.S.Source.bytes c.args.source.now)
    (λ a. length a ≡ length mid → IsRead a mid new found)
    c.in_ok-read_difat.ensures.kept c.in_ok-read_sectors.ensures.read)
