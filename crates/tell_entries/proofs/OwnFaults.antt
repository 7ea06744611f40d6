-- What is wrong with the name of an entry.
use Rattle.std.proofs.Common.{◌<◌, ◌*◌, ◌/◌, ◌-◌, ◌∙◌, ℕ, List, arith, subst, sym}
use Rattle.std.proofs.lemmas.List.FromFn.{get_or-map-range_with_len, length-map-range_with_len}
use Rattle.std.specs.List.{Contains}
use Rattle.cfb_bytes.specs.Bytes.{u16_at}
use Rattle.cfb_entries.specs.Entries.{name_length, name_of}

-- what each unit of a name is, each character of it is
pub each_unit : (P : ℕ → Type 0) (entry : List ℕ)
    → ((k : ℕ) → k < name_length entry / 2 - 1 → P (u16_at entry (2 * k))) → (c : ℕ) → Contains (name_of entry) c
    → P c
each_unit P entry all c h =
    let f : ℕ → ℕ = λ j. u16_at entry (2 * j) in
    let lt : h.0 < name_length entry / 2 - 1 =
    omega (arith, h.1, length-map-range_with_len f 0 (name_length entry / 2 - 1)) in
    subst P (sym (get_or-map-range_with_len f 0 (name_length entry / 2 - 1) h.0 h.0 c lt (omega arith)) ∙ h.2)
    (all h.0 lt)
