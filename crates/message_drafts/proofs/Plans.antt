-- What is read of a body that isn't whole yet.
use Rattle.std.proofs.Common.{◌≡◌, ℕ, zero, suc, ◌-◌, ◌+◌, ◌<◌, ◌≤◌, Bool, true, false, cond, ◌&&◌, List, [], ◌∷◌, ◌++◌}
use Rattle.std.proofs.Common.{length, take, drop, Some, None, Result, Ok, Err, refl, sym, ap, subst, ◌∙◌, append_assoc}
use Rattle.std.proofs.Common.{arith, rules, nat_le, nat_lt}
use Rattle.std.proofs.lemmas.Bool.{ltb-false, le-ltb}
use Rattle.std.proofs.lemmas.List.{append-nil, take_at, drop_at, length-append, length-take, length-drop}
use Rattle.cfb_names.specs.Names.{name_read}
use Rattle.cfb_names.specs.declared.fault.DirFault.{DirFault}
use Rattle.message_model.specs.Frames.{number_in}
use Rattle.message_drafts.specs.Drafts.{IsStreamField}
use Rattle.message_model.specs.Reading.{Reader, bad, bytes, blob, sized, name, name_of, named}
use Rattle.message_model.proofs.Fields.{bytes_again, both, le_passes}

-- ---- fields that are whole, and fields that aren't

pub bytes_long : (n : ℕ) (k : List ℕ → Reader) (ys : List ℕ) → n ≤ length ys → bytes n k ys ≡ k (take n ys) (drop n ys)
unfolding bytes
bytes_long n k ys le = let long : nat_lt (length ys) n ≡ false = le-ltb _ _ le in rw long refl

pub bytes_short : (n : ℕ) (k : List ℕ → Reader) (ys : List ℕ) → length ys < n → bytes n k ys ≡ None
unfolding bytes
bytes_short n k ys lt = let short : nat_lt (length ys) n ≡ true = search rules in rw short refl

pub blob_begun : (most : ℕ) (k : List ℕ → Reader) (cells ys : List ℕ) → length cells ≡ 4
    → blob most k (cells ++ ys) ≡ sized most k (number_in cells) ys
unfolding blob
blob_begun most k cells ys four = bytes_again 4 (λ bs. sized most k (number_in bs)) cells ys four

pub sized_above : (most n : ℕ) (k : List ℕ → Reader) (ys : List ℕ) → most < n → sized most k n ys ≡ None
sized_above most n k ys above = let over : nat_le n most ≡ false = search rules in
    ap (λ b. cond b (bytes n k) bad ys) over

either_none : (b : Bool) (r : Reader) (ys : List ℕ) → r ys ≡ None → cond b r bad ys ≡ None
either_none true r ys h = h
either_none false r ys h = refl

pub sized_short : (most n : ℕ) (k : List ℕ → Reader) (ys : List ℕ) → length ys < n → sized most k n ys ≡ None
sized_short most n k ys short = either_none (nat_le n most) (bytes n k) ys (bytes_short n k ys short)

pub sized_there : (most n : ℕ) (k : List ℕ → Reader) (ys : List ℕ) → n ≤ most → n ≤ length ys
    → sized most k n ys ≡ k (take n ys) (drop n ys)
sized_there most n k ys le there = ap (λ b. cond b (bytes n k) bad ys) (le_passes n most le) ∙ bytes_long n k ys there

pub blob_short : (most : ℕ) (k : List ℕ → Reader) (ys : List ℕ) → length ys < 4 → blob most k ys ≡ None
unfolding blob
blob_short most k ys lt = bytes_short 4 (λ bs. sized most k (number_in bs)) ys lt

pub take_over : (x ys : List ℕ) (m : ℕ) → length x ≤ m → take m (x ++ ys) ≡ x ++ take (m - length x) ys
take_over [] ys m le = let e : m ≡ m - length {A = ℕ} [] = omega arith in ap (λ (k : ℕ). take k ys) e
take_over (b ∷ x) ys zero le = absurd (omega arith)
take_over (b ∷ x) ys (suc m) le =
    let e : m - length x ≡ suc m - length (b ∷ x) = omega arith in
    ap (λ (a : List ℕ). b ∷ a) (take_over x ys m (omega arith)) ∙ ap (λ (k : ℕ). b ∷ (x ++ take k ys)) e

pub drop_over : (x ys : List ℕ) (m : ℕ) → length x ≤ m → drop m (x ++ ys) ≡ drop (m - length x) ys
drop_over [] ys m le = let e : m ≡ m - length {A = ℕ} [] = omega arith in ap (λ (k : ℕ). drop k ys) e
drop_over (b ∷ x) ys zero le = absurd (omega arith)
drop_over (b ∷ x) ys (suc m) le =
    let e : m - length x ≡ suc m - length (b ∷ x) = omega arith in
    drop_over x ys m (omega arith) ∙ ap (λ (k : ℕ). drop k ys) e

-- ---- a stream's name and length

abbrev pub range : ℕ → Bool
range n = nat_le 1 n && nat_le n 31

pub name_field : (n : ℕ) (a cells ys : List ℕ) (k : List ℕ → Reader) → 1 ≤ n → n ≤ 31 → length a ≡ n
    → name k (n ∷ ((a ++ cells) ++ ys)) ≡ named k (name_read a) (cells ++ ys)
name_field n a cells ys k some few len =
    ap (λ (b : Bool). cond b (bytes n (λ bs. named k (name_read bs))) bad ((a ++ cells) ++ ys))
    (both (nat_le 1 n) (nat_le n 31) (le_passes 1 n some) (le_passes n 31 few))
    ∙ ap (bytes n (λ bs. named k (name_read bs))) (append_assoc a cells ys)
    ∙ bytes_again n (λ bs. named k (name_read bs)) a (cells ++ ys) len

begun_either : (b : Bool) (room : ℕ) (k : List ℕ → Reader) (cells ys : List ℕ) → length cells ≡ 4
    → cond b (blob room k) bad (cells ++ ys) ≡ cond b (sized room k (number_in cells)) bad ys
begun_either true room k cells ys four = blob_begun room k cells ys four
begun_either false room k cells ys four = refl

pub stream_field : (n : ℕ) (a cells nm : List ℕ) → 1 ≤ n → n ≤ 31 → length a ≡ n → length cells ≡ 4
    → name_read a ≡ Ok nm → IsStreamField (Some (nm, number_in cells)) n (a ++ cells)
stream_field n a cells nm some few len four read =
    λ follows room k ys.
    name_field n a cells ys (λ m. cond (follows m) (blob room (k m)) bad) some few len
    ∙ ap (λ (r : Result (List ℕ) DirFault). named (λ m. cond (follows m) (blob room (k m)) bad) r (cells ++ ys)) read
    ∙ begun_either (follows nm) room (k nm) cells ys four

pub stream_unnamed : (n : ℕ) (a cells : List ℕ) (e : DirFault) → 1 ≤ n → n ≤ 31 → length a ≡ n → name_read a ≡ Err e
    → IsStreamField None n (a ++ cells)
stream_unnamed n a cells e some few len read =
    λ k ys. name_field n a cells ys k some few len ∙ ap (λ (r : Result (List ℕ) DirFault). named k r (cells ++ ys)) read

pub stream_outside : (n : ℕ) (rest : List ℕ) → range n ≡ false → IsStreamField None n rest
stream_outside n rest out =
    λ k ys. ap (λ (b : Bool). cond b (bytes n (λ bs. named k (name_read bs))) bad (rest ++ ys)) out
