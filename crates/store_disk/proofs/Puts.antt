-- Reads and writes in parts.
use Rattle.std.proofs.Common.{◌≡◌, ◌≤◌, ◌+◌, ◌-◌, min, ℕ, List, ◌++◌, length, take, drop, refl, sym, ◌∙◌, ap, subst}
use Rattle.std.proofs.Common.{arith, append_assoc, length-append, length-drop, length-take}
use Rattle.std.proofs.lemmas.List.{append-nil, drop-drop, drop-take, drop_at, take-append-drop, take-append-le}
use Rattle.std.proofs.lemmas.List.{take-take, take_all, take_at, take_min}
use Rattle.store_model.specs.Crash.{CutShort, Follows, InArea, IsWithin, Torn}
use Rattle.store_model.specs.Image.{Image, bytes_of, changed, put}
use Rattle.store_model.specs.declared.area.Area.{Area}
use Rattle.store_model.specs.declared.area.Area.TheVariants.{Document, Journal}

take_next : (xs : List ℕ) (m n : ℕ) → take (m + n) xs ≡ take m xs ++ take n (drop m xs)
take_next xs m n =
    sym (take-append-drop m (take (m + n) xs))
    ∙ ap (λ (l : List ℕ). l ++ drop m (take (m + n) xs)) (take-take m (m + n) xs (omega arith))
    ∙ ap (λ (l : List ℕ). take m xs ++ l) (drop-take m n xs)

-- a part more is read
pub read_on : (bytes so_far after : List ℕ) (at done n : ℕ) → take done so_far ≡ take done (drop at bytes)
    → take (done + n) after ≡ take done so_far ++ take n (drop (at + done) bytes)
    → take (done + n) after ≡ take (done + n) (drop at bytes)
read_on bytes so_far after at done n known more =
    more
    ∙ ap (λ (l : List ℕ). l ++ take n (drop (at + done) bytes)) known
    ∙ ap (λ (l : List ℕ). take done (drop at bytes) ++ take n l) (sym (drop-drop done at bytes))
    ∙ sym (take_next (drop at bytes) done n)

-- a part more is written
put_on : (old bytes : List ℕ) (at done n : ℕ) → at ≤ length old → done + n ≤ length bytes
    → put (put old at (take done bytes)) (at + done) (take n (drop done bytes)) ≡ put old at (take (done + n) bytes)
put_on old bytes at done n le room =
    let a : List ℕ = take at old in
    let x : List ℕ = take done bytes in
    let y : List ℕ = take n (drop done bytes) in
    let long_x : length x ≡ done = omega (arith, room, length-take done bytes) in
    let long_y : length y ≡ n = omega (arith, room, length-take n (drop done bytes), length-drop done bytes) in
    let r : List ℕ = drop (at + done) old in
    let first : put old at x ≡ a ++ x ++ r = ap (λ (k : ℕ). a ++ x ++ drop (at + k) old) long_x in
    let front : take (at + done) (a ++ x ++ r) ≡ a ++ x = take_at (a ++ x) r (at + done)
    (omega (arith, le, long_x, length-append a x, length-take at old)) in
    let behind : drop (at + done) (a ++ x ++ r) ≡ r = drop_at (a ++ x) r (at + done)
    (omega (arith, le, long_x, length-append a x, length-take at old)) in
    let rest : drop (at + done + length y) (a ++ x ++ r) ≡ drop (at + done + n) old =
    ap (λ (k : ℕ). drop (at + done + k) (a ++ x ++ r)) long_y ∙ sym (drop-drop n (at + done) (a ++ x ++ r))
    ∙ ap (λ (l : List ℕ). drop n l) behind ∙ drop-drop n (at + done) old in
    let both : x ++ y ≡ take (done + n) bytes = sym (take_next bytes done n) in
    let long : length (take (done + n) bytes) ≡ done + n = omega (arith, room, length-take (done + n) bytes) in
    let sum : at + done + n ≡ at + length (take (done + n) bytes) = omega (arith, long) in
    ap (λ (l : List ℕ). put l (at + done) y) first
    ∙ ap (λ (l : List ℕ). l ++ y ++ drop (at + done + length y) (a ++ x ++ r)) front
    ∙ ap (λ (l : List ℕ). a ++ x ++ y ++ l) rest
    ∙ ap (λ (l : List ℕ). l ++ drop (at + done + n) old) (append_assoc a x y)
    ∙ ap (λ (l : List ℕ). a ++ l ++ drop (at + done + n) old) both
    ∙ ap (λ (k : ℕ). a ++ take (done + n) bytes ++ drop k old) sum

pub put_image_on : (area : Area) (old mid : Image) (bytes : List ℕ) (at done n : ℕ)
    → at ≤ length (bytes_of area old) → done + n ≤ length bytes
    → mid ≡ changed area (put (bytes_of area old) at (take done bytes)) old
    → changed area (put (bytes_of area mid) (at + done) (take n (drop done bytes))) mid
    ≡ changed area (put (bytes_of area old) at (take (done + n) bytes)) old
put_image_on Document old mid bytes at done n le room is =
    ap (λ (i : Image). changed Document (put (bytes_of Document i) (at + done) (take n (drop done bytes))) i) is
    ∙ ap (λ (l : List ℕ). changed Document l old) (put_on old.document bytes at done n le room)
put_image_on Journal old mid bytes at done n le room is =
    ap (λ (i : Image). changed Journal (put (bytes_of Journal i) (at + done) (take n (drop done bytes))) i) is
    ∙ ap (λ (l : List ℕ). changed Journal l old) (put_on old.journal bytes at done n le room)

put_none : (old bytes : List ℕ) (at : ℕ) → put old at (take 0 bytes) ≡ old
put_none old bytes at =
    let here : at + 0 ≡ at = omega arith in
    ap (λ (l : List ℕ). l ++ drop (at + 0) old) (append-nil (take at old))
    ∙ ap (λ (k : ℕ). take at old ++ drop k old) here ∙ take-append-drop at old

-- nothing is written yet
pub put_image_none : (area : Area) (old : Image) (bytes : List ℕ) (at : ℕ)
    → old ≡ changed area (put (bytes_of area old) at (take 0 bytes)) old
put_image_none Document old bytes at = ap (λ (l : List ℕ). changed Document l old)
    (sym (put_none old.document bytes at))
put_image_none Journal old bytes at = ap (λ (l : List ℕ). changed Journal l old) (sym (put_none old.journal bytes at))

length_put : (old bytes : List ℕ) (at : ℕ) → at ≤ length old → at + length bytes ≤ length (put old at bytes)
length_put old bytes at le =
    omega (
      arith,
      le,
      length-append (take at old ++ bytes) (drop (at + length bytes) old),
      length-append
          (take at old) bytes,
      length-take at old,
    )

-- what is written reaches as far
pub put_reaches : (area : Area) (old mid : Image) (bytes : List ℕ) (at done : ℕ) → at ≤ length (bytes_of area old)
    → done ≤ length bytes → mid ≡ changed area (put (bytes_of area old) at (take done bytes)) old
    → at + done ≤ length (bytes_of area mid)
put_reaches Document old mid bytes at done le room is =
    let same = ap (λ (i : Image). length i.document) is in
    omega (arith, same, room, length-take done bytes, length_put old.document (take done bytes) at le)
put_reaches Journal old mid bytes at done le room is =
    let same = ap (λ (i : Image). length i.journal) is in
    omega (arith, same, room, length-take done bytes, length_put old.journal (take done bytes) at le)

-- a write of which nothing is done
torn_none : (old : List ℕ) (at n : ℕ) → Torn at n old old
torn_none old at n = record {
  before = ap (λ (k : ℕ). take k old) (omega arith) ∙ take_min at old;
  after = refl;
  no_shorter = omega arith;
  no_longer = omega arith;
}

-- a write, and one of a part of its range
torn_on : (at n k : ℕ) (old mid new : List ℕ) → k ≤ n → Torn at n old mid → Torn (at + k) (n - k) mid new
    → Torn at n old new
torn_on at n k old mid new le first second =
    let a = first.no_shorter in
    let b = first.no_longer in
    let c = second.no_shorter in
    let d = second.no_longer in
    let end : at + k + (n - k) ≡ at + n = omega (arith, le) in
    let m : ℕ = min at (length old) in
    record {
      before = sym (take-take m (min (at + k) (length mid)) new (omega (arith, a)))
          ∙ ap (λ (l : List ℕ). take m l) second.before
          ∙ take-take m (at + k) mid (omega arith)
          ∙ first.before;
      after = ap (λ (e : ℕ). drop e new) (sym end) ∙ second.after ∙ ap (λ (e : ℕ). drop e mid) end ∙ first.after;
      no_shorter = omega (arith, a, c);
      no_longer = omega (arith, le, a, b, c, d);
    }

in_area_none : (area : Area) (at n : ℕ) (old : Image) → InArea area (Torn at n) old old
in_area_none Document at n old = (torn_none old.document at n, refl)
in_area_none Journal at n old = (refl, torn_none old.journal at n)

in_area_on : (area : Area) (at n k : ℕ) (old mid new : Image) → k ≤ n → InArea area (Torn at n) old mid
    → InArea area (Torn (at + k) (n - k)) mid new → InArea area (Torn at n) old new
in_area_on Document at n k old mid new le first second =
    (torn_on at n k old.document mid.document new.document le first.0 second.0, second.1 ∙ first.1)
in_area_on Journal at n k old mid new le first second =
    (second.0 ∙ first.0, torn_on at n k old.journal mid.journal new.journal le first.1 second.1)

pub follows_none : (area : Area) (at n : ℕ) (old : Image → Type 0) → Follows (InArea area (Torn at n)) old old
follows_none area at n old = λ c now. (c, now, in_area_none area at n c)

pub follows_on : (area : Area) (at n k : ℕ) (old mid new : Image → Type 0) → k ≤ n
    → Follows (InArea area (Torn at n)) old mid → Follows (InArea area (Torn (at + k) (n - k))) mid new
    → Follows (InArea area (Torn at n)) old new
follows_on area at n k old mid new le first second = λ c now.
    let d = second c now in
    let e = first d.0 d.1 in (e.0, e.1, in_area_on area at n k e.0 d.0 c le e.2 d.2)

-- a cut of which nothing is done
cut_none : (size : ℕ) (old : List ℕ) → CutShort size old old
cut_none size old = record { no_shorter = omega arith; front = sym (take_all (length old) old (omega arith)) }

cut_area_none : (area : Area) (size : ℕ) (old : Image) → InArea area (CutShort size) old old
cut_area_none Document size old = (cut_none size old.document, refl)
cut_area_none Journal size old = (refl, cut_none size old.journal)

-- calls that change no byte
pub not_cut : (area : Area) (size : ℕ) (old new : Image → Type 0) → IsWithin old new
    → Follows (InArea area (CutShort size)) old new
not_cut area size old new within = λ c now. (c, within c now, cut_area_none area size c)

-- a cut behind such calls
pub then_cut : (area : Area) (size : ℕ) (old mid new : Image → Type 0) → IsWithin old mid
    → Follows (InArea area (CutShort size)) mid new → Follows (InArea area (CutShort size)) old new
then_cut area size old mid new within cut = λ c now. let d = cut c now in (d.0, within d.0 d.1, d.2)

-- an area that is no longer
pub cut_nothing : (area : Area) (old : Image) (size : ℕ) → length (bytes_of area old) ≤ size
    → old ≡ changed area (take size (bytes_of area old)) old
cut_nothing Document old size le = ap (λ (l : List ℕ). changed Document l old) (sym (take_all size old.document le))
cut_nothing Journal old size le = ap (λ (l : List ℕ). changed Journal l old) (sym (take_all size old.journal le))

-- the same range, said otherwise
pub follows_as : (area : Area) (from long at n : ℕ) (old new : Image → Type 0) → from ≡ at → long ≡ n
    → Follows (InArea area (Torn from long)) old new → Follows (InArea area (Torn at n)) old new
follows_as area from long at n old new is_at is_n follows =
    subst (λ (k : ℕ). Follows (InArea area (Torn at k)) old new) is_n
    (subst (λ (k : ℕ). Follows (InArea area (Torn k long)) old new) is_at follows)

-- a part that is read stands behind what was read
pub read_behind : (front part rest told : List ℕ) (done n : ℕ) → length front ≡ done → n ≤ length part
    → take n part ≡ told → take (done + n) (front ++ (part ++ rest)) ≡ front ++ told
read_behind front part rest told done n is_done le is =
    take_next (front ++ (part ++ rest)) done n
    ∙ ap (λ (l : List ℕ). l ++ take n (drop done (front ++ (part ++ rest)))) (take_at front (part ++ rest) done is_done)
    ∙ ap (λ (l : List ℕ). front ++ take n l) (drop_at front (part ++ rest) done is_done)
    ∙ ap (λ (l : List ℕ). front ++ l) (take-append-le n part rest le)
    ∙ ap (λ (l : List ℕ). front ++ l) is
