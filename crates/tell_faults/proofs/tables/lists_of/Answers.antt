use Rattle.std.proofs.Common.{◌∙◌, ◌*◌, List, ℕ, ap, length, min}
use Rattle.cfb_chains.specs.Fat.{sectors_in}
use Rattle.cfb_header.specs.Bytes.{joined, sector, u32_at}
use Rattle.tell_faults.proofs.Places.{lists_are}
use Rattle.tell_faults.proofs.tables.lists_of.Goals as goal

pub returns : goal.returns
returns c =
    let file : List ℕ = c.args.file.now in
    lists_are file c.args.header.now c.in_ok-own.own.fat.items c.in_ok-own.own.difat.items
    c.in_ok-entries.entries.items c.requires.same c.in_ok-own.ensures.fat c.in_ok-own.ensures.few
    c.in_ok-own.ensures.difat (c.in_ok-entries.ensures.count
    ∙ ap (λ (xs : List ℕ). min (128 * length xs) (sectors_in file)) c.deref.ensures.value)
    (λ k lt. c.in_ok-entries.ensures.each k lt ∙ ap (λ (xs : List ℕ). u32_at (joined (sector file) xs) (4 * k))
    c.deref.ensures.value)
