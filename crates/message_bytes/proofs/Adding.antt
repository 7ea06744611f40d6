-- Bytes that are added one after another.
use Rattle.std.proofs.Common.{◌≡◌, ℕ, ◌+◌, ◌<◌, ◌≤◌, true, List, [], ◌∷◌, ◌++◌, length, take, drop, refl, ap, sym, ◌∙◌}
use Rattle.std.proofs.Common.{append_assoc, arith, suc, zero, get_or, Err}
use Rattle.std.proofs.lemmas.List.{length-append, take_at, drop_at}
use Rattle.tree_streams.specs.Limits.{is_within, total}
use Rattle.tree_streams.specs.declared.streams.NamedStream.{NamedStream}
use Rattle.tree_streams.specs.declared.stored.Stored.{Stored}
use Rattle.message_bytes.specs.Encoding.{Adds, AreNamed, Encodes, EncodesInto}
use Rattle.message_model.specs.declared.fault.WireFault.{WireFault}
use Rattle.message_model.specs.declared.fault.WireFault.TheVariants.{BadMagic, BadVersion, BadKind, TooLong, BadField}
use Rattle.message_model.specs.declared.fault.WireFault.TheVariants.{NoMemory}
use Rattle.message_model.specs.declared.frame.Frame.{Frame}
use Rattle.message_model.specs.Spelling.{four_bytes, blob, head, streams, stored}
use Rattle.message_model.proofs.Fields.{length-four_bytes}
use Rattle.message_model.proofs.Lengths.{length-stored}

pub adds : (old mid new x y : List ℕ) (most : ℕ) → mid ≡ old ++ x → new ≡ mid ++ y → length (x ++ y) ≤ most
    → Adds old new (x ++ y) most
adds old mid new x y most p q short = record { added = q ∙ ap (λ a. a ++ y) p ∙ append_assoc old x y; short = short }

pub adds_first : (old mid new x y : List ℕ) (m n most : ℕ) → Adds old mid x m → Adds mid new y n → m + n ≤ most
    → Adds old new (x ++ y) most
adds_first old mid new x y m n most p q fit =
    let a : length x ≤ m = p.short in
    let b : length y ≤ n = q.short in
    adds old mid new x y most p.added q.added (omega (arith, length-append x y))

pub adds_three : (old a b new x y z : List ℕ) (most : ℕ) → a ≡ old ++ x → b ≡ a ++ y → new ≡ b ++ z
    → length (x ++ (y ++ z)) ≤ most → Adds old new (x ++ (y ++ z)) most
adds_three old a b new x y z most p q r short = record {
  added = r ∙ ap (λ s. s ++ z) q ∙ append_assoc a y z ∙ ap (λ s. s ++ (y ++ z)) p ∙ append_assoc old x (y ++ z);
  short = short;
}

pub length-three : (a b c : ℕ) → length (four_bytes a ++ (four_bytes b ++ four_bytes c)) ≤ 12
length-three a b c = omega (
  arith,
  length-append (four_bytes a) (four_bytes b ++ four_bytes c),
  length-append (four_bytes b) (four_bytes c),
  length-four_bytes a,
  length-four_bytes b,
  length-four_bytes c,
)

pub length-blobbed : (bs : List ℕ) → length bs ≤ 65536 → length (8 ∷ blob bs) ≤ 300000
length-blobbed bs h = let one : length (8 ∷ blob bs) ≡ suc (length (blob bs)) = refl in
    omega (arith, length-append (four_bytes (length bs)) bs, length-four_bytes (length bs))

pub length-numbered : (c n : ℕ) → length (c ∷ four_bytes n) ≤ 5
length-numbered c n = let one : length (c ∷ four_bytes n) ≡ suc (length (four_bytes n)) = refl in
    omega (arith, length-four_bytes n)

-- a part of all bytes
pub part_of : (ss : List NamedStream) (i : ℕ) (s : NamedStream) → s ≡ get_or ss i s → i < length ss
    → length s.bytes ≤ total ss
part_of [] i s e lt = absurd (omega arith)
part_of (t ∷ ss) zero s e lt = let same : length s.bytes ≡ length t.bytes =
    ap (λ (x : NamedStream). length x.bytes) e in omega arith
part_of (t ∷ ss) (suc i) s e lt = let p : length s.bytes ≤ total ss = part_of ss i s e (omega arith) in omega arith

pub content_added : (old a b new : List ℕ) (s : Stored) → is_within s ≡ true → AreNamed s.streams
    → a ≡ old ++ length s.streams ∷ [] → b ≡ a ++ streams s.streams → new ≡ b ++ blob s.picture
    → Adds old new (stored s) 262437
content_added old a b new s within named p q r = adds_three old a b new (length s.streams ∷ []) (streams s.streams)
    (blob s.picture) 262437 p q r (length-stored s named within)

-- a head but for its length
abbrev begun : ℕ → List ℕ
begun kind = 79 ∷ 76 ∷ 67 ∷ 77 ∷ 2 ∷ kind ∷ []

-- what stands behind other bytes, its head's length put into its place
pub patched : (old a b new rest : List ℕ) (kind at len : ℕ) → at ≡ length old
    → a ≡ old ++ 79 ∷ 76 ∷ 67 ∷ 77 ∷ 2 ∷ kind ∷ 0 ∷ 0 ∷ 0 ∷ 0 ∷ [] → b ≡ a ++ rest
    → new ≡ take (at + 6) b ++ (four_bytes len ++ drop (at + 10) b) → len ≡ length rest
    → new ≡ old ++ (head kind (length rest) ++ rest)
patched old a b new rest kind at len here p q written same =
    let whole : b ≡ (old ++ (begun kind ++ 0 ∷ 0 ∷ 0 ∷ 0 ∷ [])) ++ rest = q ∙ ap (λ x. x ++ rest) p in
    let parts : b ≡ (old ++ begun kind) ++ 0 ∷ 0 ∷ 0 ∷ 0 ∷ rest = whole
    ∙ append_assoc old (begun kind ++ 0 ∷ 0 ∷ 0 ∷ 0 ∷ []) rest
    ∙ sym (append_assoc old (begun kind) (0 ∷ 0 ∷ 0 ∷ 0 ∷ rest)) in
    let front : take (at + 6) b ≡ old ++ begun kind = ap (take (at + 6)) parts
    ∙ take_at (old ++ begun kind) (0 ∷ 0 ∷ 0 ∷ 0 ∷ rest) (at + 6)
    (length-append old (begun kind) ∙ ap (λ n. n + 6) (sym here)) in
    let behind : drop (at + 10) b ≡ rest = ap (drop (at + 10)) whole
    ∙ drop_at (old ++ (begun kind ++ 0 ∷ 0 ∷ 0 ∷ 0 ∷ [])) rest (at + 10)
    (length-append old (begun kind ++ 0 ∷ 0 ∷ 0 ∷ 0 ∷ []) ∙ ap (λ n. n + 10) (sym here)) in
    written ∙ ap (λ x. x ++ (four_bytes len ++ drop (at + 10) b)) front
    ∙ ap (λ x. (old ++ begun kind) ++ (four_bytes len ++ x)) behind
    ∙ append_assoc old (begun kind) (four_bytes len ++ rest)
    ∙ ap (λ n. old ++ (begun kind ++ (four_bytes n ++ rest))) same

-- what encode refuses
pub refused_alone : (fault : WireFault) (old new : List ℕ) (frame : Frame) → EncodesInto (Err fault) old new frame
    → Encodes (Err fault) frame
refused_alone BadMagic old new frame e = e
refused_alone BadVersion old new frame e = e
refused_alone BadKind old new frame e = e
refused_alone TooLong old new frame e = e
refused_alone BadField old new frame e = e.0
refused_alone NoMemory old new frame e = e.0
