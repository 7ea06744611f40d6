-- What is reckoned of a document, one object after another, each count up to the bound.
use Rattle.std.proofs.Common.{◌≡◌, ◌<◌, ◌+◌, ◌==◌, ◌∙◌, ℕ, zero, suc, true, false, List, [], ◌∷◌, length, min, drop}
use Rattle.std.proofs.Common.{get_or, refl, sym, ap, arith, if◌then◌else◌}
use Rattle.std.specs.Int.{w32, to_le_bytes}
use Rattle.std.proofs.lemmas.List.{drop_more}
use Rattle.ole_model.specs.declared.object.DocObject.{DocObject}
use Rattle.container_model.specs.declared.record.Object.{Object}
use Rattle.container_model.specs.Saves.{held_part, held_parts, part_of, parts_in}
use Rattle.container_documents.specs.Sums.{object_sum, objects_sum, picture_sum, picture_of, session_of, session_sum}

pub step : (M r a b x : ℕ) → min M r ≡ min M (a + x) → min M a ≡ min M b → min M r ≡ min M (b + x)
step M r a b x e f = omega (arith, e, f)

-- an object's storage, its streams, the two OLE streams and its picture, one after another
pub adds : (M s r1 r2 r3 r4 r5 z x2 x3 x4 x5 : ℕ) → min M r1 ≡ min M (s + z) → min M r2 ≡ min M (r1 + x2)
    → min M r3 ≡ min M (r2 + x3) → min M r4 ≡ min M (r3 + x4) → min M r5 ≡ min M (r4 + x5)
    → min M r5 ≡ min M (s + (z + (x5 + (x4 + (x3 + x2)))))
adds M s r1 r2 r3 r4 r5 z x2 x3 x4 x5 e1 e2 e3 e4 e5 =
    let p2 = step M r2 r1 (s + z) x2 e2 e1 in
    let p3 = step M r3 r2 (s + z + x2) x3 e3 p2 in
    let p4 = step M r4 r3 (s + z + x2 + x3) x4 e4 p3 in
    let p5 = step M r5 r4 (s + z + x2 + x3 + x4) x5 e5 p4 in
    let same : s + z + x2 + x3 + x4 + x5 ≡ s + (z + (x5 + (x4 + (x3 + x2)))) = omega arith in
    p5 ∙ ap (min M) same

pub pictured : (f : List ℕ → ℕ) (g : ℕ → ℕ) → ((b : List ℕ) → f b ≡ g (length b)) → (picture : List ℕ)
    → picture_of g (length picture) ≡ picture_sum f picture
pictured f g same [] = refl
pictured f g same (b ∷ bs) = sym (same (b ∷ bs))

-- the next object is of the frame, or it isn't
module _ (f : ℕ) (xs : List Object) (i : ℕ) (o : Object) (within : i < length xs) (is : get_or xs i o ≡ o) where
  abbrev after : List DocObject
  after = held_parts (parts_in f (drop (i + 1) xs))

  split : drop i xs ≡ o ∷ drop (i + 1) xs
  split = drop_more xs i o within ∙ ap (λ y. y ∷ drop (i + 1) xs) is

  pub taken : (o.frame == f) ≡ true → held_parts (parts_in f (drop i xs)) ≡ held_part (part_of o) ∷ after
  taken e = ap (λ ys. held_parts (parts_in f ys)) split
      ∙ ap (λ b. held_parts (if b then part_of o ∷ parts_in f (drop (i + 1) xs) else parts_in f (drop (i + 1) xs)))
      e

  pub passed : (o.frame == f) ≡ false → held_parts (parts_in f (drop i xs)) ≡ after
  passed e = ap (λ ys. held_parts (parts_in f ys)) split
      ∙ ap (λ b. held_parts (if b then part_of o ∷ parts_in f (drop (i + 1) xs) else parts_in f (drop (i + 1) xs)))
      e

pub next_sum : (M r r' : ℕ) (g : List ℕ → ℕ) (z : ℕ) (before later : List DocObject) (d : DocObject) (whole : ℕ)
    → before ≡ d ∷ later
    → min M r' ≡ min M (r + object_sum g z d) → min M (r + objects_sum g z before) ≡ whole
    → min M (r' + objects_sum g z later) ≡ whole
next_sum M r r' g z before later d whole e h k =
    let s : objects_sum g z before ≡ object_sum g z d + objects_sum g z later = ap (objects_sum g z) e in
    omega (arith, s, h, k)

pub same_sum : (M r : ℕ) (g : List ℕ → ℕ) (z : ℕ) (before later : List DocObject) (whole : ℕ) → before ≡ later
    → min M (r + objects_sum g z before) ≡ whole → min M (r + objects_sum g z later) ≡ whole
same_sum M r g z before later whole e k = ap (λ ds. min M (r + objects_sum g z ds)) (sym e) ∙ k

pub picture_step : (M r5 r4 n : ℕ) (f : List ℕ → ℕ) (g : ℕ → ℕ) → ((b : List ℕ) → f b ≡ g (length b))
    → (picture : List ℕ) → n ≡ length picture
    → min M r5 ≡ min M (r4 + picture_of g n) → min M r5 ≡ min M (r4 + picture_sum f picture)
picture_step M r5 r4 n f g same picture e h = h ∙ ap (λ m. min M (r4 + picture_of g m)) e
    ∙ ap (λ x. min M (r4 + x)) (pictured f g same picture)

pub sized : (M r r' n m : ℕ) (g : ℕ → ℕ) → n ≡ m → min M r' ≡ min M (r + g n) → min M r' ≡ min M (r + g m)
sized M r r' n m g e h = h ∙ ap (λ k. min M (r + g k)) e

pub session_step : (M r' r session : ℕ) (f : List ℕ → ℕ) (g : ℕ → ℕ) → ((b : List ℕ) → f b ≡ g (length b))
    → min M r' ≡ min M (r + session_of g session) → min M r' ≡ min M (r + session_sum f session)
session_step M r' r zero f g same h = h
session_step M r' r (suc n) f g same h = h ∙ ap (λ x. min M (r + x)) (sym (same (to_le_bytes w32 (suc n))))

-- the last streams: the session, and one of so many bytes as the document's layout has
pub last_sum : (M r s r' y x whole rest : ℕ) → min M (r + rest) ≡ min M whole → rest ≡ 0 → min M s ≡ min M (r + y)
    → min M r' ≡ min M (s + x) → min M r' ≡ min M (x + (y + whole))
last_sum M r s r' y x whole rest h e j k =
    let a : min M s ≡ min M (whole + y) = omega (arith, h, e, j) in
    let b : whole + y + x ≡ x + (y + whole) = omega arith in
    step M r' s (whole + y) x k a ∙ ap (min M) b
