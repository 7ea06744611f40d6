-- Bodies before a step and after it.
use Rattle.std.proofs.Common.{◌≡◌, ℕ, zero, suc, ◌-◌, ◌+◌, ◌<◌, ◌≤◌, Bool, true, false, ◌&&◌, nat_le, rules, List, []}
use Rattle.std.proofs.Common.{◌∷◌, ◌++◌, length, take, drop, Some, None, refl, sym, ap, subst, ◌∙◌, append_assoc, arith}
use Rattle.std.proofs.lemmas.List.{append-nil, length-take, length-append}
use Rattle.tree_streams.specs.Streams.{AreInOrder, is_next}
use Rattle.tree_streams.specs.declared.streams.NamedStream.{NamedStream}
use Rattle.message_drafts.specs.declared.draft.Draft.{Draft}
use Rattle.message_drafts.specs.declared.draft.Phase.{Phase}
use Rattle.message_drafts.specs.declared.draft.Opening.{Opening}
use Rattle.message_drafts.specs.declared.draft.Phase.TheVariants.{Fields, Picture, Bad}
use Rattle.message_model.specs.Frames.{number_in}
use Rattle.message_model.specs.Reading.{may_follow}
use Rattle.message_drafts.specs.Drafts.{Begins, Advances, IsField, IsFull, IsFullAt, IsOver, IsOverAt, IsPlanned}
use Rattle.message_drafts.specs.Drafts.{IsPlannedAt, IsStreamField, Keeps, Took, frame_of, lengthened, longer, need}
use Rattle.message_drafts.specs.Drafts.{read_on, resume}
use Rattle.message_drafts.proofs.Streams.{order_lengthened, grew_same, grew_pushed, grew_lengthened}
use Rattle.message_drafts.proofs.Plans.{range, stream_outside}
use Rattle.tree_streams.proofs.Ordered.{in_order-last}
use Rattle.message_drafts.proofs.Steps.{on_stream, on_picture, on_held, on_more, picture_begun, picture_above}
use Rattle.message_drafts.proofs.Steps.{picture_short, stream_none, stream_unfit, stream_above, stream_short}
use Rattle.message_drafts.proofs.Steps.{stream_begun}

pub planned_at : (d : Draft) (p : Phase) → d.plan.phase ≡ p → IsPlanned d
    → IsPlannedAt p d.plan.left d.plan.missing d.plan.to_come (take d.plan.len d.plan.held) d.picture
planned_at d p e h = subst (λ (q : Phase). IsPlannedAt q d.plan.left d.plan.missing d.plan.to_come
    (take d.plan.len d.plan.held) d.picture) e h.at

pub planned_from : (d : Draft) (p : Phase) → p ≡ d.plan.phase
    → IsPlannedAt p d.plan.left d.plan.missing d.plan.to_come (take d.plan.len d.plan.held) d.picture
    → AreInOrder d.streams.items → d.plan.len ≤ 36 → IsPlanned d
planned_from d p e h order len =
    record {
      at = subst (λ (q : Phase). IsPlannedAt q d.plan.left d.plan.missing d.plan.to_come
          (take d.plan.len d.plan.held) d.picture) e h;
      order = order;
      len = len;
    }

-- two bodies whose parts are these
pub parts_same : (d e : Draft) (x : List ℕ) (p q : Phase) (l r m m' : ℕ) (h h' : List ℕ) (ss : List NamedStream)
    (pic : List ℕ)
    → d.plan.phase ≡ p → take d.plan.len d.plan.held ≡ h → d.plan.missing ≡ m
    → q ≡ e.plan.phase → l ≡ e.plan.left → r ≡ e.plan.room → m' ≡ e.plan.missing → h' ≡ take e.plan.len e.plan.held
    → d.opening ≡ e.opening → ss ≡ e.streams.items → pic ≡ e.picture
    → d.plan.to_come ≡ length x + e.plan.to_come
    → ((ys : List ℕ) → length ys ≡ e.plan.to_come → read_on p d.plan.left d.plan.room m h d.opening d.streams.items
    d.picture (x ++ ys) ≡ read_on q l r m' h' d.opening ss pic ys)
    → Advances d e x
unfolding resume
parts_same d e x p q l r m m' h h' ss pic phase held missing q_is l_is r_is m_is h_is o_is ss_is pic_is count same =
    record {
      count = count;
      same = λ ys len. (λ i. read_on (phase i) d.plan.left d.plan.room (missing i) (held i) d.opening d.streams.items
          d.picture (x ++ ys))
          ∙ same ys len
          ∙ (λ i. read_on (q_is i) (l_is i) (r_is i) (m_is i) (h_is i) (o_is i) (ss_is i) (pic_is i) ys);
    }

pub goes_stream : (d e : Draft) (x : List ℕ) → IsPlanned d → d.plan.phase ≡ Fields → 0 < d.plan.missing
    → length x ≤ d.plan.missing
    → Fields ≡ e.plan.phase → d.plan.left ≡ e.plan.left → d.plan.room ≡ e.plan.room
    → e.plan.missing ≡ d.plan.missing - length x → e.plan.to_come ≡ d.plan.to_come - length x
    → take d.plan.len d.plan.held ≡ take e.plan.len e.plan.held
    → d.opening ≡ e.opening → lengthened d.streams.items x ≡ e.streams.items → d.picture ≡ e.picture → Advances d e x
goes_stream d e x planned phase some le q l r m t h o ss pic =
    let at = planned_at d Fields phase planned in
    let fits : d.plan.missing ≤ d.plan.to_come = at.2 in
    let none : take d.plan.len d.plan.held ≡ [] = at.4 some in
    parts_same d e x Fields Fields d.plan.left d.plan.room d.plan.missing (d.plan.missing - length x) [] []
    (lengthened d.streams.items x) d.picture
    phase none refl q l r (sym m) (sym none ∙ h) o ss pic (omega (arith, t))
    (λ ys len. on_stream d.plan.left d.plan.room d.plan.missing d.opening d.streams.items d.picture x ys le)

pub goes_picture : (d e : Draft) (x : List ℕ) → IsPlanned d → d.plan.phase ≡ Picture → length x ≤ d.plan.missing
    → Picture ≡ e.plan.phase → d.plan.left ≡ e.plan.left → d.plan.room ≡ e.plan.room
    → e.plan.missing ≡ d.plan.missing - length x → e.plan.to_come ≡ d.plan.to_come - length x
    → take d.plan.len d.plan.held ≡ take e.plan.len e.plan.held
    → d.opening ≡ e.opening → d.streams.items ≡ e.streams.items → d.picture ++ x ≡ e.picture → Advances d e x
goes_picture d e x planned phase le q l r m t h o ss pic =
    let at = planned_at d Picture phase planned in
    let fits : d.plan.missing ≤ d.plan.to_come = at in
    parts_same d e x Picture Picture d.plan.left d.plan.room d.plan.missing (d.plan.missing - length x)
    (take d.plan.len d.plan.held) (take d.plan.len d.plan.held) d.streams.items (d.picture ++ x)
    phase refl refl q l r (sym m) h o ss pic (omega (arith, t))
    (λ ys len. on_picture d.plan.left d.plan.room d.plan.missing (take d.plan.len d.plan.held) d.opening
    d.streams.items d.picture x ys le)

-- ---- bodies that make no frame

pub goes_bad : (d e : Draft) (x : List ℕ) (p : Phase) (m : ℕ) (h : List ℕ) → d.plan.phase ≡ p
    → take d.plan.len d.plan.held ≡ h → d.plan.missing ≡ m
    → Bad ≡ e.plan.phase → d.opening ≡ e.opening → d.plan.to_come ≡ length x + e.plan.to_come
    → ((ys : List ℕ) → length ys ≡ e.plan.to_come → read_on p d.plan.left d.plan.room m h d.opening d.streams.items
    d.picture (x ++ ys) ≡ None) → Advances d e x
goes_bad d e x p m h phase held missing to_bad o count none =
    parts_same d e x p Bad e.plan.left e.plan.room m e.plan.missing h (take e.plan.len e.plan.held) e.streams.items
    e.picture
    phase held missing to_bad refl refl refl refl o refl refl count none

pub planned_bad : (d : Draft) → Bad ≡ d.plan.phase → AreInOrder d.streams.items → d.plan.len ≤ 36 → IsPlanned d
planned_bad d e order len = planned_from d Bad e tt order len

pub begins_bad : (d e : Draft) → IsFull d → Bad ≡ e.plan.phase → d.opening ≡ e.opening
    → e.plan.to_come ≡ d.plan.to_come → d.streams.items ≡ e.streams.items → e.plan.len ≡ d.plan.len
    → ((ys : List ℕ) → length ys ≡ d.plan.to_come → read_on Fields d.plan.left d.plan.room 0
    (take d.plan.len d.plan.held) d.opening d.streams.items [] ys ≡ None) → Begins d e
begins_bad d e f to_bad o same ss lens none =
    let short : d.plan.len ≤ 36 = f.len in
    record {
      goes = goes_bad d e [] Fields 0 (take d.plan.len d.plan.held) f.phase refl f.missing to_bad o
          (omega (arith, same))
          (λ ys len. ap (λ (pic : List ℕ). read_on Fields d.plan.left d.plan.room 0 (take d.plan.len d.plan.held)
          d.opening d.streams.items pic ys) f.none ∙ none ys (len ∙ same));
      planned = planned_bad e to_bad (subst AreInOrder ss f.order) (omega (arith, lens));
    }

-- a picture's length
four_of : (d : Draft) → IsFull d → d.plan.left ≡ 0 → length (take d.plan.len d.plan.held) ≡ 4
four_of d f left = subst (λ (l : ℕ). IsFullAt l (take d.plan.len d.plan.held)) left f.full

pub above_picture : (d e : Draft) (n : ℕ) → IsFull d → d.plan.left ≡ 0 → number_in (take d.plan.len d.plan.held) ≡ n
    → d.plan.room < n
    → Bad ≡ e.plan.phase → d.opening ≡ e.opening → e.plan.to_come ≡ d.plan.to_come
    → d.streams.items ≡ e.streams.items → e.plan.len ≡ d.plan.len → Begins d e
above_picture d e n f left is above to_bad o same ss lens =
    begins_bad d e f to_bad o same ss lens
    (λ ys len. ap (λ (l : ℕ). read_on Fields l d.plan.room 0 (take d.plan.len d.plan.held) d.opening d.streams.items
    [] ys) left ∙ picture_above d.plan.room n d.opening d.streams.items (take d.plan.len d.plan.held) ys
    (four_of d f left) is above)

pub short_picture : (d e : Draft) (n : ℕ) → IsFull d → d.plan.left ≡ 0 → number_in (take d.plan.len d.plan.held) ≡ n
    → d.plan.to_come < n
    → Bad ≡ e.plan.phase → d.opening ≡ e.opening → e.plan.to_come ≡ d.plan.to_come
    → d.streams.items ≡ e.streams.items → e.plan.len ≡ d.plan.len → Begins d e
short_picture d e n f left is short to_bad o same ss lens =
    begins_bad d e f to_bad o same ss lens
    (λ ys len. ap (λ (l : ℕ). read_on Fields l d.plan.room 0 (take d.plan.len d.plan.held) d.opening d.streams.items
    [] ys) left ∙ picture_short d.plan.room n d.opening d.streams.items (take d.plan.len d.plan.held) ys
    (four_of d f left) is (omega (arith, len)))

pub begun_picture : (d e : Draft) (n : ℕ) → IsFull d → d.plan.left ≡ 0 → number_in (take d.plan.len d.plan.held) ≡ n
    → n ≤ d.plan.room → n ≤ d.plan.to_come
    → Picture ≡ e.plan.phase → e.plan.missing ≡ n → d.opening ≡ e.opening → e.plan.to_come ≡ d.plan.to_come
    → d.streams.items ≡ e.streams.items → d.picture ≡ e.picture → e.plan.len ≡ d.plan.len → Begins d e
begun_picture d e n f left is le there to_picture missing o same ss pic lens =
    let short : d.plan.len ≤ 36 = f.len in
    record {
      goes = parts_same d e [] Fields Picture e.plan.left e.plan.room 0 n (take d.plan.len d.plan.held)
          (take e.plan.len e.plan.held) d.streams.items []
          f.phase refl f.missing to_picture refl refl (sym missing) refl o ss (sym f.none ∙ pic) (omega (arith, same))
          (λ ys len. (λ i. read_on Fields (left i) d.plan.room 0 (take d.plan.len d.plan.held) d.opening
          d.streams.items (f.none i) ys)
          ∙ picture_begun e.plan.left d.plan.room n (take e.plan.len e.plan.held) d.opening d.streams.items
          (take d.plan.len d.plan.held) ys (four_of d f left) is le (omega (arith, len, same)));
      planned = planned_from e Picture to_picture (omega (arith, missing, same)) (subst AreInOrder ss f.order)
          (omega (arith, lens));
    }

-- a name's length
and_false : (b : Bool) → (b && false) ≡ false
and_false true = refl
and_false false = refl

pub range_low : (n : ℕ) → n < 1 → range n ≡ false
range_low n lt = let a : nat_le 1 n ≡ false = search rules in ap (λ (b : Bool). b && nat_le n 31) a

pub range_high : (n : ℕ) → 31 < n → range n ≡ false
range_high n lt = let a : nat_le n 31 ≡ false = search rules in ap (λ (b : Bool). nat_le 1 n && b) a
    ∙ and_false (nat_le 1 n)

pub named_none : (d e : Draft) (n : ℕ) (rest : List ℕ) → IsFull d → 0 < d.plan.left
    → take d.plan.len d.plan.held ≡ n ∷ rest → IsStreamField None n rest
    → Bad ≡ e.plan.phase → d.opening ≡ e.opening → e.plan.to_come ≡ d.plan.to_come
    → d.streams.items ≡ e.streams.items → e.plan.len ≡ d.plan.len → Begins d e
named_none d e n rest f some held field to_bad o same ss lens =
    let l : d.plan.left ≡ suc (d.plan.left - 1) = omega arith in
    begins_bad d e f to_bad o same ss lens
    (λ ys len. (λ i. read_on Fields (l i) d.plan.room 0 (held i) d.opening d.streams.items [] ys)
    ∙ stream_none (d.plan.left - 1) d.plan.room n d.opening d.streams.items rest ys field)

pub named_some : (d : Draft) (n : ℕ) → IsFull d → 0 < d.plan.left → take d.plan.len d.plan.held ≡ n ∷ [] → n ≤ 31
    → Begins d d
named_some d n f some held few =
    let l : d.plan.left ≡ suc (d.plan.left - 1) = omega arith in
    let is : need d.plan.left (take d.plan.len d.plan.held) ≡ n + 5 = λ i. need (l i) (held i) in
    let one : length (take d.plan.len d.plan.held) ≡ 1 = ap length held in
    let none : 0 < d.plan.missing → take d.plan.len d.plan.held ≡ [] = λ lt. absurd (omega (arith, f.missing, lt)) in
    record {
      goes = record { count = omega arith; same = λ ys len. refl };
      planned = planned_from d Fields (sym f.phase)
          (omega (arith, is, one), omega (arith, is), omega (arith, f.missing), f.none, none) f.order f.len;
    }

-- ---- a stream's name and length

pub unfit_stream : (d e : Draft) (n : ℕ) (rest nm : List ℕ) (len : ℕ) → IsFull d → 0 < d.plan.left
    → take d.plan.len d.plan.held ≡ n ∷ rest → IsStreamField (Some (nm, len)) n rest
    → may_follow d.streams.items nm ≡ false
    → Bad ≡ e.plan.phase → d.opening ≡ e.opening → e.plan.to_come ≡ d.plan.to_come
    → d.streams.items ≡ e.streams.items → e.plan.len ≡ d.plan.len → Begins d e
unfit_stream d e n rest nm len f some held field unfit to_bad o same ss lens =
    let l : d.plan.left ≡ suc (d.plan.left - 1) = omega arith in
    begins_bad d e f to_bad o same ss lens
    (λ ys h. (λ i. read_on Fields (l i) d.plan.room 0 (held i) d.opening d.streams.items [] ys)
    ∙ stream_unfit (d.plan.left - 1) d.plan.room n d.opening d.streams.items rest ys nm len field unfit)

pub above_stream : (d e : Draft) (n : ℕ) (rest nm : List ℕ) (len : ℕ) → IsFull d → 0 < d.plan.left
    → take d.plan.len d.plan.held ≡ n ∷ rest → IsStreamField (Some (nm, len)) n rest → d.plan.room < len
    → Bad ≡ e.plan.phase → d.opening ≡ e.opening → e.plan.to_come ≡ d.plan.to_come
    → d.streams.items ≡ e.streams.items → e.plan.len ≡ d.plan.len → Begins d e
above_stream d e n rest nm len f some held field above to_bad o same ss lens =
    let l : d.plan.left ≡ suc (d.plan.left - 1) = omega arith in
    begins_bad d e f to_bad o same ss lens
    (λ ys h. (λ i. read_on Fields (l i) d.plan.room 0 (held i) d.opening d.streams.items [] ys)
    ∙ stream_above (d.plan.left - 1) d.plan.room n d.opening d.streams.items rest ys nm len field above)

pub short_stream : (d e : Draft) (n : ℕ) (rest nm : List ℕ) (len : ℕ) → IsFull d → 0 < d.plan.left
    → take d.plan.len d.plan.held ≡ n ∷ rest → IsStreamField (Some (nm, len)) n rest → d.plan.to_come < len
    → Bad ≡ e.plan.phase → d.opening ≡ e.opening → e.plan.to_come ≡ d.plan.to_come
    → d.streams.items ≡ e.streams.items → e.plan.len ≡ d.plan.len → Begins d e
short_stream d e n rest nm len f some held field short to_bad o same ss lens =
    let l : d.plan.left ≡ suc (d.plan.left - 1) = omega arith in
    begins_bad d e f to_bad o same ss lens
    (λ ys h. (λ i. read_on Fields (l i) d.plan.room 0 (held i) d.opening d.streams.items [] ys)
    ∙ stream_short (d.plan.left - 1) d.plan.room n d.opening d.streams.items rest ys nm len field
    (omega (arith, h)))
