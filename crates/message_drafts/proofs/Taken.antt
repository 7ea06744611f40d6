-- Bodies of which more bytes came, and what they keep.
use Rattle.std.proofs.Common.{◌≡◌, ◌⊎◌, ℕ, zero, suc, ◌-◌, ◌+◌, ◌<◌, ◌≤◌, Bool, true, false, ◌&&◌, List, [], ◌∷◌, ◌++◌}
use Rattle.std.proofs.Common.{length, take, drop, Some, None, refl, sym, ap, subst, ◌∙◌, append_assoc, arith, inl, inr}
use Rattle.std.proofs.lemmas.List.{append-nil, length-take, length-append, take_at}
use Rattle.tree_streams.specs.Streams.{AreInOrder, is_next}
use Rattle.tree_streams.specs.declared.streams.NamedStream.{NamedStream}
use Rattle.tree_streams.proofs.Ordered.{in_order-last}
use Rattle.tree_streams.specs.Limits.{is_ole_name}
use Rattle.std.specs.Prelude.{not}
use Rattle.message_model.specs.Reading.{may_follow}
use Rattle.message_model.proofs.Fields.{first_of}
use Rattle.message_drafts.specs.declared.draft.Draft.{Draft}
use Rattle.message_drafts.specs.declared.draft.Phase.{Phase}
use Rattle.message_drafts.specs.declared.draft.Phase.TheVariants.{Fields, Picture, Bad}
use Rattle.message_drafts.specs.Drafts.{Begins, Advances, Grew, IsFull, IsFullAt, IsLong, IsOver, IsOverAt, IsPlanned}
use Rattle.message_drafts.specs.Drafts.{IsPlannedAt, IsStreamField, Keeps, Took, lengthened, longer, need, read_on}
use Rattle.message_drafts.proofs.Streams.{order_lengthened, grew_same, grew_pushed, grew_lengthened}
use Rattle.message_drafts.proofs.Steps.{on_held, on_more, stream_begun}
use Rattle.message_drafts.proofs.Bodies.{planned_at, planned_from, parts_same, goes_bad}
use Rattle.message_drafts.proofs.Growing.{goes_on}

need_some : (l : ℕ) → (0 < need l []) × (need l [] ≤ 36)
need_some zero = (omega arith, omega arith)
need_some (suc l) = (omega arith, omega arith)

pub planned_empty : (d : Draft) → Fields ≡ d.plan.phase → [] ≡ take d.plan.len d.plan.held
    → d.plan.missing ≤ d.plan.to_come → d.picture ≡ [] → AreInOrder d.streams.items → d.plan.len ≤ 36 → IsPlanned d
planned_empty d e empty fits none order len =
    let n = need_some d.plan.left in
    planned_from d Fields e
    (subst (λ (h : List ℕ). IsPlannedAt Fields d.plan.left d.plan.missing d.plan.to_come h d.picture) empty
    (n.0, n.1, fits, none, λ lt. refl)) order len

pub begun_stream : (d e : Draft) (n : ℕ) (rest nm : List ℕ) (len : ℕ) → IsFull d → 0 < d.plan.left
    → take d.plan.len d.plan.held ≡ n ∷ rest → IsStreamField (Some (nm, len)) n rest
    → may_follow d.streams.items nm ≡ true
    → len ≤ d.plan.room → len ≤ d.plan.to_come
    → Fields ≡ e.plan.phase → e.plan.left ≡ d.plan.left - 1 → e.plan.room ≡ d.plan.room - len → e.plan.missing ≡ len
    → e.plan.to_come ≡ d.plan.to_come → e.plan.len ≡ 0
    → d.opening ≡ e.opening → e.streams.items ≡ d.streams.items ++ record { name = nm; bytes = [] } ∷ []
    → d.picture ≡ e.picture → Begins d e
begun_stream d e n rest nm len f some held field follows le there q left room missing same lens o ss pic =
    let l : d.plan.left ≡ suc (d.plan.left - 1) = omega arith in
    let empty : [] ≡ take e.plan.len e.plan.held = sym (ap (λ (k : ℕ). take k e.plan.held) lens) in
    let order : AreInOrder (d.streams.items ++ record { name = nm; bytes = [] } ∷ []) =
    in_order-last d.streams.items (record { name = nm; bytes = [] }) f.order
    (first_of (is_next d.streams.items nm) (not (is_ole_name nm)) follows) in
    record {
      goes = parts_same d e [] Fields Fields (d.plan.left - 1) (d.plan.room - len) 0 len
          (take d.plan.len d.plan.held) [] (d.streams.items ++ record { name = nm; bytes = [] } ∷ []) []
          f.phase refl f.missing q (sym left) (sym room) (sym missing) empty o (sym ss) (sym f.none ∙ pic)
          (omega (arith, same))
          (λ ys h. (λ i. read_on Fields (l i) d.plan.room 0 (held i) d.opening d.streams.items (f.none i) ys)
          ∙ stream_begun (d.plan.left - 1) d.plan.room n d.opening d.streams.items rest ys nm len field follows le
          (omega (arith, h, same)));
      planned = planned_empty e q empty (omega (arith, missing, same)) (sym pic ∙ f.none)
          (subst AreInOrder (sym ss) order) (omega (arith, lens));
    }

pub goes_held : (d e : Draft) (x : List ℕ) → d.plan.phase ≡ Fields → d.plan.missing ≡ 0 → length x ≤ d.plan.to_come
    → Fields ≡ e.plan.phase → d.plan.left ≡ e.plan.left → d.plan.room ≡ e.plan.room → e.plan.missing ≡ 0
    → e.plan.to_come ≡ d.plan.to_come - length x → take e.plan.len e.plan.held ≡ take d.plan.len d.plan.held
    ++ x
    → d.opening ≡ e.opening → d.streams.items ≡ e.streams.items → d.picture ≡ e.picture → Advances d e x
goes_held d e x phase none le q l r m t h o ss pic =
    parts_same d e x Fields Fields d.plan.left d.plan.room 0 0 (take d.plan.len d.plan.held)
    (take d.plan.len d.plan.held ++ x) d.streams.items d.picture
    phase refl none q l r (sym m) (sym h) o ss pic (omega (arith, t))
    (λ ys len. on_held d.plan.left d.plan.room (take d.plan.len d.plan.held) d.opening d.streams.items d.picture x ys)

pub goes_settled : (d m e : Draft) (x : List ℕ) → Advances d m x → Begins m e → Advances d e x
goes_settled d m e x p b = subst (Advances d e) (append-nil x) (goes_on d m e x [] p b.goes)

over_none : (p : Phase) (l r m : ℕ) (h : List ℕ) (d : Draft) (x ys : List ℕ) → IsOverAt p m → 0 < length x
    → read_on p l r m h d.opening d.streams.items d.picture (x ++ ys) ≡ None
over_none Fields l r m h d x ys over some = absurd over
over_none Picture l r m h d x ys over some =
    ap (λ (k : ℕ). read_on Picture l r k h d.opening d.streams.items d.picture (x ++ ys)) over
    ∙ on_more l r h d.opening d.streams.items d.picture x ys some
over_none Bad l r m h d x ys over some = refl

pub goes_over : (d e : Draft) (x : List ℕ) → IsOver d → 0 < length x → length x ≤ d.plan.to_come
    → Bad ≡ e.plan.phase → d.opening ≡ e.opening → e.plan.to_come ≡ d.plan.to_come - length x → Advances d e x
goes_over d e x over some le to_bad o t =
    goes_bad d e x d.plan.phase d.plan.missing (take d.plan.len d.plan.held) refl refl refl to_bad o (omega (arith, t))
    (λ ys len. over_none d.plan.phase d.plan.left d.plan.room d.plan.missing (take d.plan.len d.plan.held) d x ys
    over some)

-- ---- what is kept

front_same : (a b : List ℕ) → b ≡ a → take (length a) b ≡ a
front_same a b e = ap (take (length a)) (e ∙ sym (append-nil a)) ∙ take_at a [] (length a) refl

pub keeps_alike : (d e : Draft) → e.opening ≡ d.opening → e.streams.items ≡ d.streams.items → e.picture ≡ d.picture
    → Keeps d e
keeps_alike d e o ss pic =
    record {
      opening = o;
      streams = subst (Grew d.streams.items) (sym ss) (grew_same d.streams.items);
      picture = front_same d.picture e.picture pic;
    }

pub keeps_longer : (d e : Draft) (x : List ℕ) → e.opening ≡ d.opening
    → e.streams.items ≡ lengthened d.streams.items x → e.picture ≡ d.picture → Keeps d e
keeps_longer d e x o ss pic = record {
  opening = o;
  streams = subst (Grew d.streams.items) (sym ss)
      (grew_lengthened d.streams.items d.streams.items x (grew_same d.streams.items));
  picture = front_same d.picture e.picture pic;
}

pub keeps_pushed : (d e : Draft) (t : NamedStream) → e.opening ≡ d.opening
    → e.streams.items ≡ d.streams.items ++ t ∷ [] → e.picture ≡ d.picture → Keeps d e
keeps_pushed d e t o ss pic = record {
  opening = o;
  streams = subst (Grew d.streams.items) (sym ss)
      (grew_pushed d.streams.items d.streams.items t (grew_same d.streams.items));
  picture = front_same d.picture e.picture pic;
}

pub keeps_pictured : (d e : Draft) (x : List ℕ) → e.opening ≡ d.opening → e.streams.items ≡ d.streams.items
    → e.picture ≡ d.picture ++ x → Keeps d e
keeps_pictured d e x o ss pic = record {
  opening = o;
  streams = subst (Grew d.streams.items) (sym ss) (grew_same d.streams.items);
  picture = ap (take (length d.picture)) pic ∙ take_at d.picture x (length d.picture) refl;
}

pub planned_stream : (d e : Draft) (x : List ℕ) → IsPlanned d → d.plan.phase ≡ Fields → 0 < d.plan.missing
    → length x ≤ d.plan.missing
    → Fields ≡ e.plan.phase → e.plan.missing ≡ d.plan.missing - length x
    → e.plan.to_come ≡ d.plan.to_come - length x → take d.plan.len d.plan.held ≡ take e.plan.len e.plan.held
    → e.streams.items ≡ lengthened d.streams.items x → d.picture ≡ e.picture → e.plan.len ≡ d.plan.len
    → IsPlanned e
planned_stream d e x p phase some le q m t h ss pic lens =
    let at = planned_at d Fields phase p in
    let fits : d.plan.missing ≤ d.plan.to_come = at.2 in
    let short : d.plan.len ≤ 36 = p.len in
    planned_empty e q (sym (at.4 some) ∙ h) (omega (arith, m, t)) (sym pic ∙ at.3)
    (subst AreInOrder (sym ss) (order_lengthened d.streams.items x p.order)) (omega (arith, lens))

-- a field that became whole
pub is_full : (left : ℕ) (held x : List ℕ) → length (held ++ x) ≡ need left held → 0 < length x
    → IsFullAt left (held ++ x)
is_full zero held x e some = e
is_full (suc left) [] [] e some = absurd (omega arith)
is_full (suc left) [] (n ∷ []) e some = inl refl
is_full (suc left) [] (n ∷ m ∷ x) e some = absurd (omega arith)
is_full (suc left) (n ∷ held) x e some = inr (omega arith)
