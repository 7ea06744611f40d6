-- What is lent of an entry that is held by its parts.
use Rattle.std.proofs.Common.{◌≡◌, ◌≢◌, ◌<◌, ◌*◌, ℕ, zero, suc, List, length, inr, refl, sym, ◌∙◌, ap, subst}
use Rattle.cfb_names.specs.Names.{IsName}
use Rattle.cfb_entries.specs.Entries.{IsKindOf, IsNamed, child, class_of, entry_at, first_of, kind, size_of, state_of}
use Rattle.read_directories.specs.Streams.{IsStreamEntry}
use Rattle.read_directories.specs.declared.entries.StreamEntry.{StreamEntry}
use Rattle.cfb_entries.specs.declared.entries.EntryKind.TheVariants.{Stream}
use Rattle.cfb_entries.proofs.Reading.{name_of-entry}

-- an entry that isn't the root may be one of a stream
stream_kind : (id k : ℕ) → id ≢ 0 → k ≡ 2 → IsKindOf id k
stream_kind zero k ne is = absurd (ne refl)
stream_kind (suc id) k ne is = inr is

pub lent : (directory bytes : List ℕ) (id : ℕ) (s : StreamEntry) → id ≢ 0 → 128 * id < length directory
    → bytes ≡ entry_at directory id → kind bytes ≡ 2
    → IsNamed bytes s.name.now → IsName s.name.now → s.first ≡ first_of bytes → s.size ≡ size_of bytes
    → IsStreamEntry directory id s
lent directory bytes id s below there is kind_is named valid first size =
    let entry : List ℕ = entry_at directory id in
    let two : kind entry ≡ 2 = ap kind (sym is) ∙ kind_is in
    record {
      entry = record {
        name = s.name.now;
        kind = Stream;
        class = class_of entry;
        state = state_of entry;
        child = child entry;
        first = s.first;
        size = s.size;
      };
      said = record {
        inside = there;
        name = name_of-entry id entry s.name.now below (subst (λ xs. IsNamed xs s.name.now) is named);
        kind_held = sym two;
        allowed = stream_kind id (kind entry) below two;
        class = refl;
        state = refl;
        child_held = refl;
        first = first ∙ ap first_of is;
        size = size ∙ ap size_of is;
      };
      valid = valid;
      kind = refl;
      name = refl;
      first = refl;
      size = refl;
    }
