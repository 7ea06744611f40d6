use Rattle.std.proofs.Common.{◌≡◌, ◌<◌, ◌≤◌, ◌∙◌, ◌+◌, ◌-◌, ◌++◌, List, ℕ, ap, arith, length, replicate, subst, sym}
use Rattle.std.proofs.Common.{take}
use Rattle.std.proofs.lemmas.List.{take_all}
use Rattle.cfb_bytes.specs.Bytes.{block, u32_at}
use Rattle.read_directories.proofs.Numbers.{u32_inside}
use Rattle.tell_faults.proofs.root.root_number.Goals as goal

front : (dir : List ℕ) (at : ℕ) → at + 4 ≤ 128 → 128 ≤ length dir → u32_at dir at ≡ u32_at (block 128 dir 0) at
front dir at within long =
    let zero : 0 + at ≡ at = omega arith in
    subst (λ (x : ℕ). u32_at dir x ≡ u32_at (block 128 dir 0) at) zero
    (u32_inside dir 0 at within (omega (arith, within, long)))

padded_block : (dir : List ℕ) → length dir < 128 → dir ++ replicate (128 - length dir) 0 ≡ block 128 dir 0
unfolding block
padded_block dir short = ap (λ (xs : List ℕ). xs ++ replicate (128 - length dir) 0)
    (sym (take_all 128 dir (omega (arith, short))))

pub returns-then-directory-ge-ENTRY : goal.returns-then-directory-ge-ENTRY
returns-then-directory-ge-ENTRY c = c.read_u32.ensures ∙ front c.args.directory.now c.args.at c.requires
    c.if-directory-ge-ENTRY.true

pub returns : goal.returns
returns c =
    c.read_u32-2.ensures ∙ ap (λ (xs : List ℕ). u32_at xs c.args.at)
    (c.padded.ensures ∙ padded_block c.args.directory.now c.if-directory-ge-ENTRY.false)
