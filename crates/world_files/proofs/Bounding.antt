-- What the container counted, after each step.
use Rattle.std.proofs.Common.{◌≡◌, ◌≢◌, ◌==◌, ℕ, ◌+◌, ◌<◌, ◌≤◌, Bool, true, false, List, [], ◌∷◌, ◌++◌, map, Some, refl}
use Rattle.std.proofs.Common.{sym, ap, ◌∙◌, inl, inr, arith, subst, if◌then◌else◌}
use Rattle.std.proofs.lemmas.Bool.{eqb-true}
use Rattle.message_values.specs.Found.{nth, set_nth}
use Rattle.ole_model.specs.declared.object.DocObject.{DocObject}
use Rattle.container_model.specs.Opens.{opened_objects}
use Rattle.container_model.specs.Record.{without_first}
use Rattle.container_model.specs.Saves.{parts_in, part_of, committed_frame}
use Rattle.container_model.specs.declared.record.Frame.{Frame}
use Rattle.container_model.specs.declared.record.Object.{Object}
use Rattle.container_model.specs.declared.record.Phase.TheVariants.{Idle}
use Rattle.container_model.specs.declared.answer.Done.{Done}
use Rattle.world_model.specs.World.{done_entry}
use Rattle.world_model.specs.Safe.{Among, IsAnother, CountedOnce}
use Rattle.world_files.specs.Files.{Id, id_of, IsBelow, Distinct, AreNumbered, CountedBounded, AreSameFrames}
use Rattle.world_facts.proofs.Lookups.{among_join, among_map, nth_old, nth_set_apart}

-- frames whose last saves are as they were, or later ones
pub bounded_by : (frames after : List Frame) (ids : List Id) (last : ℕ) (dones : List Done)
    → ((f : ℕ) (frame : Frame) → nth after f ≡ Some frame → (before : Frame) × (nth frames f ≡ Some before)
    × ((n : ℕ) → IsBelow before n → IsBelow frame n))
    → CountedBounded frames ids last dones → CountedBounded after ids last dones
bounded_by frames after ids last dones s b = record {
  counted = b.counted;
  below = λ x d frame h g e at. (let old = s x.frame frame at in old.2 d.k (b.below x d old.0 h g e old.1));
  counted_once = b.counted_once;
}

pub bounded_same : (frames after : List Frame) (ids : List Id) (last : ℕ) (dones : List Done)
    → AreSameFrames frames after → CountedBounded frames ids last dones → CountedBounded after ids last dones
bounded_same frames after ids last dones s b = bounded_by frames after ids last dones
    (λ f frame at. (let old = s.from f frame at in (old.0, old.1, old.2.below))) b

-- a frame asks for a name
pub bounded_asking : (frames : List Frame) (f : ℕ) (frame : Frame) (name : List ℕ) (ids : List Id) (last : ℕ)
    (dones : List Done) → nth frames f ≡ Some frame → CountedBounded frames ids last dones
    → CountedBounded (set_nth frames f (record frame { asked = Some name })) ids last dones
bounded_asking frames f frame name ids last dones at b =
    bounded_by frames (set_nth frames f (record frame { asked = Some name })) ids last dones
    (λ g x e. elim (nth_set_apart frames f g (record frame { asked = Some name }) x e) [
      | inl h ↦ (
        frame,
        ap (nth frames) h.0
            ∙ at,
        (λ n w. subst (λ v. IsBelow v n) (sym h.1) (record { last = w.last; under = w.under })),
      )
      | inr h ↦ (x, h.1, (λ n w. w))
    ]) b

-- a new frame
pub bounded_framed : (frames : List Frame) (new : Frame) (ids : List Id) (last : ℕ) (dones : List Done)
    → AreNumbered frames ids last → CountedBounded frames ids last dones
    → CountedBounded (frames ++ new ∷ []) ids last dones
bounded_framed frames new ids last dones a b = record {
  counted = b.counted;
  below = λ x d frame h g e at. (let p = a.placed x h in
      let same : Some p.0 ≡ Some frame = sym (nth_old frames (new ∷ []) x.frame p.0 p.1) ∙ at in
      let is : p.0 ≡ frame = cc in
      subst (λ v. IsBelow v d.k) is (b.below x d p.0 h g e p.1));
  counted_once = b.counted_once;
}

-- new objects, whose numbers are behind all that were drawn
pub bounded_more : (frames : List Frame) (ids news : List Id) (last more : ℕ) (dones : List Done)
    → ((x : Id) → Among news x → last < x.number) → CountedBounded frames ids last dones
    → CountedBounded frames (ids ++ news) (last + more) dones
bounded_more frames ids news last more dones past b = record {
  counted = λ d g. (let le : d.object ≤ last = b.counted d g in omega arith);
  below = λ x d fr h g e here. elim (among_join ids news x h) [
    | inl old ↦ b.below x d fr old g e here
    | inr new ↦ (let lt : last < x.number = past x new in let le : d.object ≤ last = b.counted d g in
        absurd (omega arith))
  ];
  counted_once = b.counted_once;
}

pub object_past : (last f : ℕ) (x : Id) → Among (record { number = last + 1; frame = f } ∷ []) x → last < x.number
object_past last f x (inl e) = (let n : x.number ≡ last + 1 = ap (λ (v : Id). v.number) e in omega arith)
object_past last f x (inr h) = absurd h

pub bounded_object : (frames : List Frame) (ids : List Id) (last f : ℕ) (dones : List Done)
    → CountedBounded frames ids last dones
    → CountedBounded frames (ids ++ record { number = last + 1; frame = f } ∷ []) (last + 1) dones
bounded_object frames ids last f dones b = bounded_more frames ids (record { number = last + 1; frame = f } ∷ [])
    last 1 dones (object_past last f) b

pub opened_past : (last f : ℕ) (ds : List DocObject) (x : Id) → Among (map id_of (opened_objects last f ds)) x
    → last < x.number
opened_past last f [] x h = absurd h
opened_past last f (d ∷ ds) x (inl e) = (let n : x.number ≡ last + 1 = ap (λ (v : Id). v.number) e in omega arith)
opened_past last f (d ∷ ds) x (inr h) = (let lt : last + 1 < x.number = opened_past (last + 1) f ds x h in omega arith)

-- an object goes
pub bounded_fewer : (frames : List Frame) (ids fewer : List Id) (last : ℕ) (dones : List Done)
    → ((x : Id) → Among fewer x → Among ids x) → CountedBounded frames ids last dones
    → CountedBounded frames fewer last dones
bounded_fewer frames ids fewer last dones sub b =
    record {
      counted = b.counted;
      below = λ x d frame h g e at. b.below x d frame (sub x h) g e at;
      counted_once = b.counted_once;
    }

pub among_without : {A B : Type 0} (f : A → B) (test : A → Bool) (xs : List A) (y : B)
    → Among (map f (without_first test xs)) y → Among (map f xs) y
among_without f test [] y h = absurd h
among_without f test (x ∷ xs) y h =
    elim (test x) as (λ b. Among (map f (if b then xs else x ∷ without_first test xs)) y
    → Among (map f (x ∷ xs)) y) [
      | true ↦ (λ g. inr g)
      | false ↦ (λ g. elim g [ inl e ↦ inl e | inr k ↦ inr (among_without f test xs y k) ])
    ] h

-- what a commit counts
pub parts_of_frame : (f k : ℕ) (os : List Object) (e : Done) → Among (map (done_entry k) (parts_in f os)) e
    → (o : Object) × Among os o × (o.frame ≡ f) × (e.object ≡ o.number) × (e.k ≡ k)
parts_of_frame f k [] e h = absurd h
parts_of_frame f k (o ∷ os) e h =
    elim (o.frame == f) as (λ b. (o.frame == f) ≡ b
    → Among (map (done_entry k) (if b then part_of o ∷ parts_in f os else parts_in f os)) e
    → (x : Object) × Among (o ∷ os) x × (x.frame ≡ f) × (e.object ≡ x.number) × (e.k ≡ k)) [
      | true ↦ (λ t g. elim g [
        | inl is ↦ (o, inl refl, eqb-true o.frame f t, ap (λ (d : Done). d.object) is, ap (λ (d : Done). d.k) is)
        | inr more ↦ (let r = parts_of_frame f k os e more in (r.0, inr r.1, r.2, r.3, r.4))
      ])
      | false ↦ (λ t g. let r = parts_of_frame f k os e g in (r.0, inr r.1, r.2, r.3, r.4))
    ] refl h

once_parts : (f k : ℕ) (os : List Object) → Distinct (map id_of os) → CountedOnce (map (done_entry k) (parts_in f os))
once_parts f k [] d = tt
once_parts f k (o ∷ os) d =
    elim (o.frame == f) as (λ b. CountedOnce
    (map (done_entry k) (if b then part_of o ∷ parts_in f os else parts_in f os))) [
      | true ↦ (
        (λ e g q. (let r = parts_of_frame f k os e g in
            absurd (d.0 (id_of r.0) (among_map id_of os r.0 r.1) (q ∙ r.3)))),
        once_parts f k os d.1,
      )
      | false ↦ once_parts f k os d.1
    ]

once_join : (xs ys : List Done) → CountedOnce xs → CountedOnce ys
    → ((d e : Done) → Among xs d → Among ys e → IsAnother d e) → CountedOnce (xs ++ ys)
once_join [] ys p q h = q
once_join (x ∷ xs) ys p q h = (
  (λ e g. elim (among_join xs ys e g) [ inl old ↦ p.0 e old | inr new ↦ h x e (inl refl) new ]),
  once_join xs ys p.1 q (λ d e g. h d e (inr g)),
)

-- two objects of one number are one
pub one_numbered : (xs : List Id) (x y : Id) → Distinct xs → Among xs x → Among xs y → x.number ≡ y.number → x ≡ y
one_numbered [] x y d h g e = absurd h
one_numbered (z ∷ zs) x y d (inl a) (inl b) e = a ∙ sym b
one_numbered (z ∷ zs) x y d (inl a) (inr g) e = absurd (d.0 y g (ap (λ (v : Id). v.number) (sym a) ∙ e))
one_numbered (z ∷ zs) x y d (inr h) (inl b) e = absurd (d.0 x h (ap (λ (v : Id). v.number) (sym b) ∙ sym e))
one_numbered (z ∷ zs) x y d (inr h) (inr g) e = one_numbered zs x y d.1 h g e

-- a commit of a frame that is committing
module _ (frames : List Frame) (f : ℕ) (frame : Frame) (os : List Object) (last : ℕ) (dones : List Done)
    (at : nth frames f ≡ Some frame) (committing : frame.phase ≢ Idle) (a : AreNumbered frames (map id_of os) last)
    (b : CountedBounded frames (map id_of os) last dones) where
  abbrev pub entries : List Done
  entries = map (done_entry frame.k) (parts_in f os)

  -- no object of the frame has a save of this number counted
  under : (d : Done) (o : Object) → Among dones d → Among os o → o.frame ≡ f → d.object ≡ o.number → d.k < frame.k
  under d o g h e q = (b.below (id_of o) d frame (among_map id_of os o h) g q (ap (nth frames) e ∙ at)).under committing

  below_after : (x : Id) (d : Done) (fr : Frame) → Among (map id_of os) x → Among (dones ++ entries) d
      → d.object ≡ x.number → nth (set_nth frames f (committed_frame frame)) x.frame ≡ Some fr → IsBelow fr d.k
  below_after x d fr h g e here =
      elim (among_join dones entries d g) [
        | inl old ↦ elim (nth_set_apart frames f x.frame (committed_frame frame) fr here) [
          | inl s ↦ (let w = b.below x d frame h old e (ap (nth frames) s.0 ∙ at) in
              let le : d.k ≤ frame.k = w.last in
              subst (λ v. IsBelow v d.k) (sym s.1) (record { last = le; under = λ ne. absurd (ne refl) }))
          | inr s ↦ b.below x d fr h old e s.1
        ]
        | inr one ↦ (let r = parts_of_frame f frame.k os d one in
            let is : x ≡ id_of r.0 = one_numbered (map id_of os) x (id_of r.0) a.distinct h
            (among_map id_of os r.0 r.1) (sym e ∙ r.3) in
            let on : x.frame ≡ f = ap (λ (v : Id). v.frame) is ∙ r.2 in
            elim (nth_set_apart frames f x.frame (committed_frame frame) fr here) [
              | inl s ↦ (let k : d.k ≡ frame.k = r.4 in
                  subst (λ v. IsBelow v d.k) (sym s.1)
                  (record { last = omega arith; under = λ ne. absurd (ne refl) }))
              | inr s ↦ absurd (s.0 on)
            ])
      ]

  pub bounded_committed : CountedBounded (set_nth frames f (committed_frame frame)) (map id_of os) last
      (dones ++ entries)
  bounded_committed = record {
    counted = λ d g. elim (among_join dones entries d g) [
      | inl old ↦ b.counted d old
      | inr one ↦ (let r = parts_of_frame f frame.k os d one in
          let le : r.0.number ≤ last = a.drawn (id_of r.0) (among_map id_of os r.0 r.1) in
          let e : d.object ≡ r.0.number = r.3 in omega arith)
    ];
    below = below_after;
    counted_once = once_join dones entries b.counted_once (once_parts f frame.k os a.distinct)
        (λ d e g h q z. (let r = parts_of_frame f frame.k os e h in
        let lt : d.k < frame.k = under d r.0 g r.1 r.2 (q ∙ r.3) in
        let k : e.k ≡ frame.k = r.4 in
        absurd (omega arith)));
  }
