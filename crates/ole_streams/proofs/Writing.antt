-- Steps of writing a document.
use Rattle.std.proofs.Common.{◌≡◌, ◌≤◌, ◌<◌, ◌+◌, ◌-◌, ◌*◌, ◌++◌, ◌∷◌, ◌∙◌, ℕ, zero, suc, List, [], true, false, cond}
use Rattle.std.proofs.Common.{nat_lt, Result, Ok, Err, IsOk, length, take, drop, refl, sym, ap, subst, arith}
use Rattle.std.proofs.Common.{append_assoc, append-nil, length-drop}
use Rattle.cfb_entries.specs.Tree.{Children}
use Rattle.tree_storage.specs.Change.{bytes, inner}
use Rattle.tree_streams.specs.declared.streams.NamedStream.{NamedStream}
use Rattle.tree_streams.specs.declared.area.Area.{Area}
use Rattle.ole_model.specs.DocOf.{is_object}
use Rattle.ole_model.specs.DocTree.{object_name, object_tree, placed, with_objects, with_streams}
use Rattle.ole_streams.specs.Docs.{AreHeld, IsHeld}
use Rattle.ole_model.specs.Fields.{map_ok}
use Rattle.ole_model.specs.Layouts.{area_at, areas_read}
use Rattle.ole_model.specs.declared.object.DocObject.{DocObject}
use Rattle.ole_model.specs.declared.fault.OleFault.{OleFault}
use Rattle.ole_model.specs.declared.fault.OleFault.TheVariants.{NotADocument}
use Rattle.std.proofs.lemmas.Bool.Decides.{nat_tests}
use Rattle.ole_model.proofs.Tests.{cond_false, cond_true, not_lt, is_lt}

pub with_streams-last : (ss : List NamedStream) (s : NamedStream) (cs : Children)
    → with_streams (ss ++ s ∷ []) cs ≡ with_streams ss (placed s.name (bytes s.bytes) cs)
with_streams-last [] s cs = refl
with_streams-last (t ∷ ss) s cs = ap (placed t.name (bytes t.bytes)) (with_streams-last ss s cs)

pub with_objects-last : (n : ℕ) (os : List DocObject) (o : DocObject) (cs : Children)
    → with_objects n (os ++ o ∷ []) cs ≡ with_objects n os
    (placed (object_name (length os + n)) (inner (object_tree o)) cs)
with_objects-last n [] o cs = let e : 0 + n ≡ n = omega arith in rw e refl
with_objects-last n (p ∷ os) o cs =
    let e : length os + (n + 1) ≡ length (p ∷ os) + n = omega arith in
    ap (placed (object_name n) (inner (object_tree p))) (with_objects-last (n + 1) os o cs
    ∙ ap (λ m. with_objects (n + 1) os (placed (object_name m) (inner (object_tree o)) cs)) e)

pub AreHeld-push : (os : List DocObject) (o : DocObject) → AreHeld os → IsHeld o → AreHeld (os ++ o ∷ [])
AreHeld-push [] o all h = (h, tt)
AreHeld-push (p ∷ os) o all h = (all.0, AreHeld-push os o all.1 h)

pub AreHeld-front : (os ps : List DocObject) → AreHeld (os ++ ps) → AreHeld os
AreHeld-front [] ps all = tt
AreHeld-front (p ∷ os) ps all = (all.0, AreHeld-front os ps all.1)

pub AreHeld-last : (os : List DocObject) (o : DocObject) → AreHeld (os ++ o ∷ []) → is_object o ≡ true
AreHeld-last [] o all = all.0.within
AreHeld-last (p ∷ os) o all = AreHeld-last os o all.1

map-twice : (xs : List Area) (a : Area) (r : Result (List Area) OleFault)
    → map_ok (λ x. xs ++ x) (map_ok (λ x. a ∷ x) r) ≡ map_ok (λ x. (xs ++ a ∷ []) ++ x) r
map-twice xs a (Ok x) = ap Ok (sym (append_assoc xs (a ∷ []) x))
map-twice xs a (Err e) = refl

fewer : (n i : ℕ) → i < n → n - i ≡ suc (n - (i + 1))
fewer n i h = omega arith

pub areas_read-more : (n i : ℕ) (xs : List Area) (rest : List ℕ) → i < n → 8 ≤ length rest
    → map_ok (λ x. xs ++ x) (areas_read (n - i) rest) ≡ map_ok (λ x. (xs ++ area_at (take 8 rest) ∷ []) ++ x)
    (areas_read (n - (i + 1)) (drop 8 rest))
areas_read-more n i xs rest h l =
    ap (λ k. map_ok (λ x. xs ++ x) (areas_read k rest)) (fewer n i h)
    ∙ ap (map_ok (λ x. xs ++ x)) (cond_false _ _ _ (not_lt (length rest) 8 l))
    ∙ map-twice xs (area_at (take 8 rest)) (areas_read (n - (i + 1)) (drop 8 rest))

pub areas_read-short : (n i : ℕ) (xs : List Area) (rest : List ℕ) → i < n → length rest < 8
    → map_ok (λ x. xs ++ x) (areas_read (n - i) rest) ≡ Err NotADocument
areas_read-short n i xs rest h l =
    ap (λ k. map_ok (λ x. xs ++ x) (areas_read k rest)) (fewer n i h)
    ∙ ap (map_ok (λ x. xs ++ x)) (cond_true _ _ _ (is_lt (length rest) 8 l))

-- Areas whose bytes are counted before they are read.
pub areas_read-done : (n i : ℕ) (xs : List Area) (rest : List ℕ) → n ≤ i → length rest ≡ 8 * (n - i)
    → map_ok (λ x. xs ++ x) (areas_read (n - i) rest) ≡ Ok xs
areas_read-done n i xs [] h l =
    let e : n - i ≡ 0 = omega arith in
    ap (λ k. map_ok (λ x. xs ++ x) (areas_read k [])) e ∙ ap Ok (append-nil xs)
areas_read-done n i xs (b ∷ rest) h l = absurd (omega arith)

less : (bs : List ℕ) → nat_lt (length bs) 8 ≡ false → length bs ≡ 8 + length (drop 8 bs)
less bs h =
    let e : 8 ≤ length bs = grind (arith, nat_tests) in
    rw (length-drop 8 bs) (omega arith)

pub areas_read-apart : (n : ℕ) (bs : List ℕ) → (length bs ≡ 8 * n → ⊥) → areas_read n bs ≡ Err NotADocument
areas_read-apart zero [] h = absurd (h refl)
areas_read-apart zero (b ∷ bs) h = refl
areas_read-apart (suc n) bs h =
    elim (nat_lt (length bs) 8) as (λ b. nat_lt (length bs) 8 ≡ b
    → cond b (Err NotADocument) (map_ok (λ areas. area_at (take 8 bs) ∷ areas) (areas_read n (drop 8 bs)))
    ≡ Err NotADocument) [
      | true ↦ λ e. refl
      | false ↦ λ e. ap (map_ok (λ areas. area_at (take 8 bs) ∷ areas))
          (areas_read-apart n (drop 8 bs) (λ l. h (let m = less bs e in omega (arith, l, m))))
    ] refl

ok_more : {A B : Type 0} (f : A → B) (r : Result A OleFault) → IsOk r → IsOk (map_ok f r)
ok_more f (Ok a) h = refl
ok_more f (Err e) h = h

pub areas_read-whole : (n : ℕ) (bs : List ℕ) → length bs ≡ 8 * n → IsOk (areas_read n bs)
areas_read-whole zero [] h = refl
areas_read-whole zero (b ∷ bs) h = absurd (omega arith)
areas_read-whole (suc n) bs h =
    subst (λ (r : Result (List Area) OleFault). IsOk r) (sym (cond_false _ _ _ (not_lt (length bs) 8 (omega arith))))
    (ok_more (λ areas. area_at (take 8 bs) ∷ areas) (areas_read n (drop 8 bs))
    (areas_read-whole n (drop 8 bs) (rw (length-drop 8 bs) (omega arith))))
