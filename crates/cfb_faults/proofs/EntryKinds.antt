-- Kinds of entries, and where entries are.
use Rattle.std.proofs.Common.{◌≡◌, ◌≢◌, ◌≤◌, ◌*◌, ◌-◌, ◌++◌, inl, inr, ℕ, zero, suc, List, [], length, drop, take}
use Rattle.std.proofs.Common.{replicate, slice_index, refl, sym, ◌∙◌, ap, arith}
use Rattle.std.proofs.lemmas.List.{drop_all}
use Rattle.cfb_header.specs.Bytes.{block}
use Rattle.cfb_entries.specs.Entries.{IsKindOf, entry_at, kind, kind_number}
use Rattle.cfb_entries.specs.declared.entries.EntryKind.{EntryKind}
use Rattle.cfb_entries.specs.declared.entries.EntryKind.TheVariants as kinds

-- past the directory all bytes are zero
pub kind_outside : (dir : List ℕ) (id : ℕ) → length dir ≤ 128 * id → kind (entry_at dir id) ≡ 0
unfolding block
kind_outside dir id h =
    let e : drop (128 * id) dir ≡ [] = drop_all (128 * id) dir h in
    ap (λ (xs : List ℕ). slice_index (take 128 xs ++ replicate (128 - length xs) 0) 66) e

pub kind_inside : (dir : List ℕ) (id n : ℕ) → kind (entry_at dir id) ≡ suc n → length dir ≤ 128 * id → ⊥
kind_inside dir id n h le = let e : 0 ≡ suc n = sym (kind_outside dir id le) ∙ h in omega (arith, e)

stream_kind : (k : EntryKind) → kind_number k ≡ 2 → k ≡ kinds.Stream
stream_kind kinds.Storage h = absurd (omega (arith, h))
stream_kind kinds.Stream h = refl
stream_kind kinds.Root h = absurd (omega (arith, h))

-- an entry below the root that isn't a stream is a storage
pub storage_kind : (id n : ℕ) (k : EntryKind) → id ≢ 0 → IsKindOf id n → kind_number k ≡ n → (k ≡ kinds.Stream → ⊥)
    → n ≡ 1
storage_kind zero n k ne h e other = absurd (ne refl)
storage_kind (suc id) n k ne (inl h) e other = h
storage_kind (suc id) n k ne (inr h) e other = absurd (other (stream_kind k (e ∙ h)))
