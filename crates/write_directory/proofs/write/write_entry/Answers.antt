use Rattle.std.proofs.Common.{◌≡◌, ◌+◌, ◌*◌, ◌++◌, ℕ, List, length, replicate, take, drop, ◌∙◌, ap, Result, Ok, Err}
use Rattle.std.proofs.Common.{OnOk, if◌then◌else◌, is_ok, subst}
use Rattle.std.specs.Prelude.{slice_set}
use Rattle.std.specs.Int.{w16, w32, to_le_bytes}
use Rattle.cfb_entries.specs.Entries.{kind_number}
use Rattle.cfb_entries.specs.Written.{entry_bytes}
use Rattle.cfb_entries.specs.declared.entries.EntryFields.{EntryFields}
use Rattle.write_directory.proofs.Placed.{numbers_placed, placed, put}
use Rattle.write_directory.proofs.write.write_entry.Goals as goal

-- what is added where memory is left
done : {A E : Type 0} (r : Result A E) (new all old : List ℕ) → new ≡ (if is_ok r then all else old)
    → OnOk r (new ≡ all)
done (Ok x) new all old h = h
done (Err x) new all old h = tt

-- the fields but for the class, written in turn
in_turn : (len kind : ℕ) (e : EntryFields) (named left right child state first size : List ℕ)
    → named ≡ put 64 (to_le_bytes w16 (2 * len + 2)) (replicate 128 0) → kind ≡ kind_number e.kind
    → left ≡ put 68 (to_le_bytes w32 e.left) (slice_set (slice_set named 66 kind) 67 1)
    → right ≡ put 72 (to_le_bytes w32 e.right) left
    → child ≡ put 76 (to_le_bytes w32 e.child) right → state ≡ put 96 (to_le_bytes w32 e.state) child
    → first ≡ put 116 (to_le_bytes w32 e.first) state → size ≡ put 120 (to_le_bytes w32 e.size) first
    → size ≡ numbers_placed len e
in_turn len kind e named left right child state first size a k b c d f g h =
    h ∙ ap (put 120 (to_le_bytes w32 e.size))
    (g ∙ ap (put 116 (to_le_bytes w32 e.first))
    (f ∙ ap (put 96 (to_le_bytes w32 e.state))
    (d ∙ ap (put 76 (to_le_bytes w32 e.child))
    (c ∙ ap (put 72 (to_le_bytes w32 e.right))
    (b ∙ (λ t. put 68 (to_le_bytes w32 e.left) (slice_set (slice_set (a t) 66 (k t)) 67 1)))))))

pub write_class-requires : goal.write_class-requires
write_class-requires c =
    let name : List ℕ = c.args.name.now in
    let e = c.args.fields.now in
    let all : c.write_u32-6.new.bytes ≡ numbers_placed (length name) e =
    in_turn (length name) c.number_of.result e c.write_u16.new.bytes c.write_u32.new.bytes c.write_u32-2.new.bytes
    c.write_u32-3.new.bytes
    c.write_u32-4.new.bytes c.write_u32-5.new.bytes c.write_u32-6.new.bytes c.write_u16.ensures c.number_of.ensures
    c.write_u32.ensures
    c.write_u32-2.ensures c.write_u32-3.ensures c.write_u32-4.ensures c.write_u32-5.ensures c.write_u32-6.ensures in
    ap (λ bs. length (take 16 (drop 80 bs))) all

pub write_name-requires-clause-zeros : goal.write_name-requires-clause-zeros
write_name-requires-clause-zeros c =
    let name : List ℕ = c.args.name.now in
    let e = c.args.fields.now in
    let all : c.write_u32-6.new.bytes ≡ numbers_placed (length name) e =
    in_turn (length name) c.number_of.result e c.write_u16.new.bytes c.write_u32.new.bytes c.write_u32-2.new.bytes
    c.write_u32-3.new.bytes
    c.write_u32-4.new.bytes c.write_u32-5.new.bytes c.write_u32-6.new.bytes c.write_u16.ensures c.number_of.ensures
    c.write_u32.ensures
    c.write_u32-2.ensures c.write_u32-3.ensures c.write_u32-4.ensures c.write_u32-5.ensures c.write_u32-6.ensures in
    ap (λ bs. take 64 (take 80 bs ++ (c.write_class.new.bytes ++ drop 16 (drop 80 bs)))) all

pub returns : goal.returns
returns c =
    let name : List ℕ = c.args.name.now in
    let e = c.args.fields.now in
    let all : c.write_u32-6.new.bytes ≡ numbers_placed (length name) e =
    in_turn (length name) c.number_of.result e c.write_u16.new.bytes c.write_u32.new.bytes c.write_u32-2.new.bytes
    c.write_u32-3.new.bytes
    c.write_u32-4.new.bytes c.write_u32-5.new.bytes c.write_u32-6.new.bytes c.write_u16.ensures c.number_of.ensures
    c.write_u32.ensures
    c.write_u32-2.ensures c.write_u32-3.ensures c.write_u32-4.ensures c.write_u32-5.ensures c.write_u32-6.ensures in
    let whole : c.write_name.new.bytes ++ drop 64
    (take 80 c.write_u32-6.new.bytes ++ (c.write_class.new.bytes ++ drop 16 (drop 80 c.write_u32-6.new.bytes)))
    ≡ entry_bytes name e =
    rw (c.write_name.ensures, c.write_class.ensures.written, all)
    (placed name e c.requires c.write_class.ensures.len) in
    subst (λ (bs : List ℕ). OnOk c.extend_from_slice.result
    (c.extend_from_slice.new.self.items ≡ c.args.out.now.items ++ bs)) whole
    (done c.extend_from_slice.result _ _ _ c.extend_from_slice.ensures.items)
