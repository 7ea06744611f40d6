-- What the bytes before a body show, part by part.
use Rattle.std.proofs.Common.{◌≡◌, ◌≢◌, ℕ, ◌-◌, ◌≤◌, ◌<◌, List, [], ◌∷◌, ◌++◌, ◌+◌, length, take, drop, get_or, Some}
use Rattle.std.proofs.Common.{None, refl, sym, ap, subst, ◌∙◌, arith}
use Rattle.std.proofs.lemmas.Bool.{ne_eqb}
use Rattle.std.proofs.lemmas.List.{append-nil, drop-drop, take_all, length-drop}
use Rattle.message_model.specs.declared.codes.Kind.{Kind}
use Rattle.message_model.specs.declared.fault.WireFault.TheVariants.{BadVersion, BadKind, TooLong, BadField}
use Rattle.message_model.specs.Codes.{kind_number, kind_of}
use Rattle.message_model.specs.Frames.{number_in, shown, shown_kind, shown_length, shown_version}
use Rattle.message_model.proofs.Operations.{kind_found}
use Rattle.message_bytes.specs.declared.front.Head.{Head}
use Rattle.message_bytes.specs.declared.front.Head.TheVariants.{Short, Bad, Body}
use Rattle.message_bytes.specs.Fronts.{HeadIs, LengthIs}
use Rattle.message_bytes.specs.Holding.{IsHead}

-- a list behind so many items, as the code has it
rest_is : (n : ℕ) (xs : List ℕ) → take (length xs - n) (drop n xs) ≡ drop n xs
rest_is n xs = take_all (length xs - n) (drop n xs) (omega (arith, length-drop n xs))

abbrev behind : ℕ → List ℕ → List ℕ
behind n xs = take (length xs - n) (drop n xs)

abbrev IsMagic : List ℕ → Type 0
IsMagic xs = (get_or xs 0 0 ≡ 79) × (get_or xs 1 0 ≡ 76) × (get_or xs 2 0 ≡ 67) × (get_or xs 3 0 ≡ 77)

after_magic : (xs more : List ℕ) → 4 ≤ length xs → IsMagic xs → shown (xs ++ more) ≡ shown_version (behind 4 xs ++ more)
after_magic [] more long m = absurd (omega (arith, long))
after_magic (a ∷ []) more long m = absurd (omega (arith, long))
after_magic (a ∷ b ∷ []) more long m = absurd (omega (arith, long))
after_magic (a ∷ b ∷ c ∷ []) more long m = absurd (omega (arith, long))
after_magic (a ∷ b ∷ c ∷ d ∷ r) more long m =
    (λ i. shown (m.0 i ∷ m.1 i ∷ m.2 i ∷ m.3 i ∷ (r ++ more))) ∙ ap (λ (s : List ℕ). shown_version (s ++ more))
    (sym (rest_is 4 (a ∷ b ∷ c ∷ d ∷ r)))

after_version : (r more : List ℕ) → 1 ≤ length r → get_or r 0 0 ≡ 2 → shown_version (r ++ more)
    ≡ shown_kind (behind 1 r ++ more)
after_version [] more long e = absurd (omega (arith, long))
after_version (v ∷ r) more long e = (λ i. shown_version (e i ∷ (r ++ more)))
    ∙ ap (λ (s : List ℕ). shown_kind (s ++ more)) (sym (rest_is 1 (v ∷ r)))

other_version : (r more : List ℕ) → 1 ≤ length r → get_or r 0 0 ≢ 2 → shown_version (r ++ more) ≡ Some BadVersion
other_version [] more long e = absurd (omega (arith, long))
other_version (v ∷ r) more long e = rw (ne_eqb v 2 e) refl

no_kind : (r more : List ℕ) → 1 ≤ length r → None ≡ kind_of (get_or r 0 0) → shown_kind (r ++ more) ≡ Some BadKind
no_kind [] more long e = absurd (omega (arith, long))
no_kind (k ∷ r) more long e = rw (← e) refl

after_kind : (r more : List ℕ) (k : Kind) → 1 ≤ length r → Some k ≡ kind_of (get_or r 0 0)
    → shown_kind (r ++ more) ≡ shown_length (behind 1 r ++ more)
after_kind [] more k long e = absurd (omega (arith, long))
after_kind (n ∷ r) more k long e = rw (← e) (ap (λ (s : List ℕ). shown_length (s ++ more)) (sym (rest_is 1 (n ∷ r))))

empty : (r : List ℕ) → length r < 1 → r ≡ []
empty [] h = refl
empty (x ∷ r) h = absurd (omega (arith, h))

-- bytes show what they show before no more
pub without : (xs : List ℕ) → shown xs ≡ shown (xs ++ [])
without xs = ap shown (sym (append-nil xs))

-- a list behind so many items has as many fewer
fewer : (n : ℕ) (xs : List ℕ) → length xs ≤ n + length (behind n xs)
fewer n xs = let e : length (behind n xs) ≡ length xs - n = ap length (rest_is n xs) ∙ length-drop n xs in
    omega (arith, e)

-- bytes that end behind the first four
pub ends_magic : (xs : List ℕ) → 4 ≤ length xs → IsMagic xs → length (behind 4 xs) < 1 → (length xs < 10)
    × (shown xs ≡ None)
ends_magic xs long m h = (
  omega (arith, fewer 4 xs, h),
  without xs ∙ after_magic xs [] long m ∙ ap (λ (r : List ℕ). shown_version (r ++ [])) (empty (behind 4 xs) h),
)

-- another version
pub shows_version : (xs more : List ℕ) → 4 ≤ length xs → IsMagic xs → 1 ≤ length (behind 4 xs)
    → get_or (behind 4 xs) 0 0 ≢ 2 → shown (xs ++ more) ≡ Some BadVersion
shows_version xs more long m one v = after_magic xs more long m ∙ other_version (behind 4 xs) more one v

to_kind : (xs more : List ℕ) → 4 ≤ length xs → IsMagic xs → 1 ≤ length (behind 4 xs) → get_or (behind 4 xs) 0 0 ≡ 2
    → shown (xs ++ more) ≡ shown_kind (behind 1 (behind 4 xs) ++ more)
to_kind xs more long m one v = after_magic xs more long m ∙ after_version (behind 4 xs) more one v

-- bytes that end behind the version
pub ends_version : (xs : List ℕ) → 4 ≤ length xs → IsMagic xs → 1 ≤ length (behind 4 xs)
    → get_or (behind 4 xs) 0 0 ≡ 2 → length (behind 1 (behind 4 xs)) < 1
    → (length xs < 10) × (shown xs ≡ None)
ends_version xs long m one v h = (
  omega (arith, fewer 4 xs, fewer 1 (behind 4 xs), h),
  without xs ∙ to_kind xs [] long m one v
      ∙ ap (λ (r : List ℕ). shown_kind (r ++ [])) (empty (behind 1 (behind 4 xs)) h),
)

-- another kind
pub shows_kind : (xs more : List ℕ) → 4 ≤ length xs → IsMagic xs → 1 ≤ length (behind 4 xs)
    → get_or (behind 4 xs) 0 0 ≡ 2 → 1 ≤ length (behind 1 (behind 4 xs))
    → None ≡ kind_of (get_or (behind 1 (behind 4 xs)) 0 0) → shown (xs ++ more) ≡ Some BadKind
shows_kind xs more long m one v two k = to_kind xs more long m one v ∙ no_kind (behind 1 (behind 4 xs)) more two k

-- a whole head
head_parts : (k : Kind) (len : ℕ) (xs : List ℕ) → 4 ≤ length xs → IsMagic xs → 1 ≤ length (drop 4 xs)
    → get_or (drop 4 xs) 0 0 ≡ 2 → 1 ≤ length (drop 5 xs)
    → Some k ≡ kind_of (get_or (drop 5 xs) 0 0) → 4 ≤ length (drop 6 xs) → number_in (take 4 (drop 6 xs)) ≡ len
    → len ≤ 1048576 → IsHead k len xs
head_parts k len [] long m one v two kn four says short = absurd (omega (arith, long))
head_parts k len (a ∷ []) long m one v two kn four says short = absurd (omega (arith, long))
head_parts k len (a ∷ b ∷ []) long m one v two kn four says short = absurd (omega (arith, long))
head_parts k len (a ∷ b ∷ c ∷ []) long m one v two kn four says short = absurd (omega (arith, long))
head_parts k len (a ∷ b ∷ c ∷ d ∷ []) long m one v two kn four says short = absurd (omega (arith, one))
head_parts k len (a ∷ b ∷ c ∷ d ∷ e ∷ []) long m one v two kn four says short = absurd (omega (arith, two))
head_parts k len (a ∷ b ∷ c ∷ d ∷ e ∷ n ∷ r) long m one v two kn four says short =
    let number : n ≡ kind_number k = kind_found n k (sym kn) in
    record {
      long = omega (arith, four);
      parts = λ i. m.0 i ∷ m.1 i ∷ m.2 i ∷ m.3 i ∷ v i ∷ number i ∷ take 4 r;
      says = says;
      short = short;
    }

drop_behind : (xs : List ℕ) → behind 1 (behind 4 xs) ≡ drop 5 xs
drop_behind xs = rest_is 1 (behind 4 xs) ∙ ap (drop 1) (rest_is 4 xs) ∙ drop-drop 1 4 xs

pub shows_length : (h : Head) (k : Kind) (xs : List ℕ) → 4 ≤ length xs → IsMagic xs → 1 ≤ length (behind 4 xs)
    → get_or (behind 4 xs) 0 0 ≡ 2 → 1 ≤ length (behind 1 (behind 4 xs))
    → Some k ≡ kind_of (get_or (behind 1 (behind 4 xs)) 0 0) → LengthIs h k (behind 1 (behind 1 (behind 4 xs)))
    → HeadIs h xs
shows_length Short k xs long m one v two kn h = (
  omega (arith, fewer 4 xs, fewer 1 (behind 4 xs), fewer 1 (behind 1 (behind 4 xs)), h.0),
  without xs ∙ to_kind xs [] long m one v ∙ after_kind (behind 1 (behind 4 xs)) [] k two kn
      ∙ ap shown_length (append-nil (behind 1 (behind 1 (behind 4 xs)))) ∙ h.1,
)
shows_length (Bad fault) k xs long m one v two kn h = (
  λ e. (let t : TooLong ≡ BadField = sym h.0 ∙ e in cc),
  λ more. to_kind xs more long m one v
      ∙ after_kind (behind 1 (behind 4 xs)) more k two kn ∙ h.1 more,
)
shows_length (Body j len) k xs long m one v two kn h =
    let same : behind 1 (behind 1 (behind 4 xs)) ≡ drop 6 xs = rest_is 1 (behind 1 (behind 4 xs))
    ∙ ap (drop 1) (drop_behind xs) ∙ drop-drop 1 5 xs in
    let five : behind 1 (behind 4 xs) ≡ drop 5 xs = drop_behind xs in
    subst (λ (i : Kind). IsHead i len xs) (sym h.0)
    (head_parts k len xs long m (rw (rest_is 4 xs) at one) (rw (rest_is 4 xs) at v) (rw five at two) (rw five at kn)
    (rw same at h.1) (rw same at h.2) h.3)
