-- Commits in turn, after each step.
use Rattle.std.proofs.Common.{◌≡◌, ◌≢◌, ◌⊎◌, ◌==◌, ℕ, ◌+◌, ◌<◌, ◌≤◌, true, false, List, [], ◌∷◌, ◌++◌, length, map}
use Rattle.std.proofs.Common.{Some, None, refl, sym, ap, ◌∙◌, inl, inr, arith, subst, if◌then◌else◌}
use Rattle.std.specs.List.{flat_map}
use Rattle.std.proofs.lemmas.Bool.{eqb-true}
use Rattle.message_values.specs.Found.{nth, set_nth}
use Rattle.container_model.specs.Saves.{parts_in, committed_frame, session_after}
use Rattle.container_model.specs.declared.answer.Part.{Part}
use Rattle.container_model.specs.declared.record.Frame.{Frame}
use Rattle.container_model.specs.declared.record.Object.{Object}
use Rattle.container_model.specs.declared.record.Phase.TheVariants.{Idle}
use Rattle.container_model.specs.declared.answer.Done.{Done}
use Rattle.world_model.specs.declared.logs.Document.{Document}
use Rattle.world_model.specs.World.{done_entry}
use Rattle.world_model.specs.Safe.{Among, AreInTurn, Commit, Precedes, commit_of, committed, entries_of, last_commit}
use Rattle.world_model.specs.Safe.{or_else}
use Rattle.world_files.specs.Files.{Id, id_of, IsBelow, AreNumbered, CommitsBounded, AreSameFrames}
use Rattle.world_facts.proofs.Lookups.{among_join, among_map, among_mapped, length_set_nth, nth_aligned, nth_old}
use Rattle.world_facts.proofs.Lookups.{nth_set_apart}
use Rattle.world_files.proofs.Bounding.{one_numbered, parts_of_frame}

-- frames whose last saves are as they were, or later ones
pub turns_by : (frames after : List Frame) (ids : List Id) (last : ℕ) (cs : List Commit) → length after ≡ length frames
    → ((f : ℕ) (frame : Frame) → nth after f ≡ Some frame → (before : Frame) × (nth frames f ≡ Some before)
    × ((n : ℕ) → IsBelow before n → IsBelow frame n))
    → CommitsBounded frames ids last cs → CommitsBounded after ids last cs
turns_by frames after ids last cs many s b = record {
  drawn = b.drawn;
  owned = b.owned;
  placed = λ c g. (let p = b.placed c g in nth_aligned frames after c.frame p.0 (sym many) p.1);
  below = λ c frame g at. (let old = s c.frame frame at in old.2 c.k (b.below c old.0 g old.1));
  in_turn = b.in_turn;
}

pub turns_same : (frames after : List Frame) (ids : List Id) (last : ℕ) (cs : List Commit)
    → AreSameFrames frames after → CommitsBounded frames ids last cs → CommitsBounded after ids last cs
turns_same frames after ids last cs s b = turns_by frames after ids last cs s.many
    (λ f frame at. (let old = s.from f frame at in (old.0, old.1, old.2.below))) b

-- a frame asks for a name
pub turns_asking : (frames : List Frame) (f : ℕ) (frame : Frame) (name : List ℕ) (ids : List Id) (last : ℕ)
    (cs : List Commit) → nth frames f ≡ Some frame → CommitsBounded frames ids last cs
    → CommitsBounded (set_nth frames f (record frame { asked = Some name })) ids last cs
turns_asking frames f frame name ids last cs at b =
    turns_by frames (set_nth frames f (record frame { asked = Some name })) ids last cs
    (length_set_nth frames f (record frame { asked = Some name }))
    (λ g x e. elim (nth_set_apart frames f g (record frame { asked = Some name }) x e) [
      | inl h ↦ (
        frame,
        ap (nth frames) h.0
            ∙ at,
        (λ n w. subst (λ v. IsBelow v n) (sym h.1) (record { last = w.last; under = w.under })),
      )
      | inr h ↦ (x, h.1, (λ n w. w))
    ]) b

-- a new frame
pub turns_framed : (frames : List Frame) (new : Frame) (ids : List Id) (last : ℕ) (cs : List Commit)
    → CommitsBounded frames ids last cs → CommitsBounded (frames ++ new ∷ []) ids last cs
turns_framed frames new ids last cs b = record {
  drawn = b.drawn;
  owned = b.owned;
  placed = λ c g. (let p = b.placed c g in (p.0, nth_old frames (new ∷ []) c.frame p.0 p.1));
  below = λ c frame g at. (let p = b.placed c g in
      let same : Some p.0 ≡ Some frame = sym (nth_old frames (new ∷ []) c.frame p.0 p.1) ∙ at in
      let is : p.0 ≡ frame = cc in
      subst (λ v. IsBelow v c.k) is (b.below c p.0 g p.1));
  in_turn = b.in_turn;
}

-- new objects, whose numbers are behind all that were drawn
pub turns_more : (frames : List Frame) (ids news : List Id) (last more : ℕ) (cs : List Commit)
    → ((x : Id) → Among news x → last < x.number) → CommitsBounded frames ids last cs
    → CommitsBounded frames (ids ++ news) (last + more) cs
turns_more frames ids news last more cs past b = record {
  drawn = λ c p g h. (let le : p.object ≤ last = b.drawn c p g h in omega arith);
  owned = λ x c p h g q e. elim (among_join ids news x h) [
    | inl old ↦ b.owned x c p old g q e
    | inr new ↦ (let lt : last < x.number = past x new in let le : p.object ≤ last = b.drawn c p g q in
        absurd (omega arith))
  ];
  placed = b.placed;
  below = b.below;
  in_turn = b.in_turn;
}

-- an object goes
pub turns_fewer : (frames : List Frame) (ids fewer : List Id) (last : ℕ) (cs : List Commit)
    → ((x : Id) → Among fewer x → Among ids x) → CommitsBounded frames ids last cs
    → CommitsBounded frames fewer last cs
turns_fewer frames ids fewer last cs sub b =
    record {
      drawn = b.drawn;
      owned = λ x c p h g q e. b.owned x c p (sub x h) g q e;
      placed = b.placed;
      below = b.below;
      in_turn = b.in_turn;
    }

-- one more, behind all others
pub among_one : (cs : List Commit) (c d : Commit) → Among (cs ++ c ∷ []) d → Among cs d ⊎ (d ≡ c)
among_one cs c d g = elim (among_join cs (c ∷ []) d g) [
  | inl old ↦ inl old
  | inr new ↦
      elim new [ inl e ↦ inr e | inr z ↦ absurd z ]
]

turn_more : (cs : List Commit) (c : Commit) → AreInTurn cs → ((d : Commit) → Among cs d → Precedes d c)
    → AreInTurn (cs ++ c ∷ [])
turn_more [] c t h = ((λ d g. absurd g), tt)
turn_more (b ∷ cs) c t h = (
  (λ d g. elim (among_one cs c d g) [ inl old ↦ t.0 d old | inr e ↦ subst (Precedes b) (sym e) (h b (inl refl)) ]),
  turn_more cs c t.1 (λ d g. h d (inr g)),
)

-- a commit of a frame that is committing
module _ (frames : List Frame) (f : ℕ) (frame : Frame) (os : List Object) (last : ℕ) (cs : List Commit)
    (at : nth frames f ≡ Some frame) (committing : frame.phase ≢ Idle) (a : AreNumbered frames (map id_of os) last)
    (b : CommitsBounded frames (map id_of os) last cs) where
  abbrev pub made : Commit
  made = record { frame = f; k = frame.k; session = session_after frame.session frame.raised; parts = parts_in f os }

  -- its parts are of objects of the frame
  part_from : (p : Part) → Among (parts_in f os) p → (o : Object) × Among (map id_of os) (id_of o) × (o.frame ≡ f)
      × (p.object ≡ o.number)
  part_from p g = (let r = parts_of_frame f frame.k os (done_entry frame.k p)
      (among_map (done_entry frame.k) (parts_in f os) p g) in (r.0, among_map id_of os r.0 r.1, r.2, r.3))

  part_of_it : (c : Commit) (p : Part)
      → c ≡ record {
        frame = f;
        k = frame.k;
        session = session_after frame.session frame.raised;
        parts = parts_in f os;
      } → Among c.parts p → (o : Object) × Among (map id_of os) (id_of o) × (o.frame ≡ f)
      × (p.object ≡ o.number)
  part_of_it c p e g = part_from p (subst (λ ps. Among ps p) (ap (λ (v : Commit). v.parts) e) g)

  precedes : (c : Commit) → Among cs c
      → Precedes c (record {
        frame = f;
        k = frame.k;
        session = session_after frame.session frame.raised;
        parts = parts_in f os;
      })
  precedes c g = record {
    rising = λ e. (b.below c frame g (ap (nth frames) e ∙ at)).under committing;
    apart = λ p q h i e. (let r = part_from q i in sym (b.owned (id_of r.0) c p r.1 g h (e ∙ r.3)) ∙ r.2);
  }

  below_after : (c : Commit) (fr : Frame) → Among (cs ++ made ∷ []) c
      → nth (set_nth frames f (committed_frame frame)) c.frame ≡ Some fr → IsBelow fr c.k
  below_after c fr g here = elim (among_one cs made c g) [
    | inl old ↦ elim (nth_set_apart frames f c.frame (committed_frame frame) fr here) [
      | inl s ↦ (let w = b.below c frame old (ap (nth frames) s.0 ∙ at) in
          let le : c.k ≤ frame.k = w.last in
          subst (λ v. IsBelow v c.k) (sym s.1) (record { last = le; under = λ ne. absurd (ne refl) }))
      | inr s ↦ b.below c fr old s.1
    ]
    | inr is ↦ elim (nth_set_apart frames f c.frame (committed_frame frame) fr here) [
      | inl s ↦ (let k : c.k ≡ frame.k = ap (λ (v : Commit). v.k) is in
          subst (λ v. IsBelow v c.k) (sym s.1) (record { last = omega arith; under = λ ne. absurd (ne refl) }))
      | inr s ↦ absurd (s.0 (ap (λ (v : Commit). v.frame) is))
    ]
  ]

  pub turns_committed : CommitsBounded (set_nth frames f (committed_frame frame)) (map id_of os) last
      (cs ++ record {
        frame = f;
        k = frame.k;
        session = session_after frame.session frame.raised;
        parts = parts_in f os;
      } ∷ [])
  turns_committed = record {
    drawn = λ c p g h. elim (among_one cs made c g) [
      | inl old ↦ b.drawn c p old h
      | inr is ↦ (let r = part_of_it c p is h in
          let le : r.0.number ≤ last = a.drawn (id_of r.0) r.1 in
          let e : p.object ≡ r.0.number = r.3 in omega arith)
    ];
    owned = λ x c p h g q e. elim (among_one cs made c g) [
      | inl old ↦ b.owned x c p h old q e
      | inr is ↦ (let r = part_of_it c p is q in
          let same : x ≡ id_of r.0 = one_numbered (map id_of os) x (id_of r.0) a.distinct h r.1 (sym e ∙ r.3) in
          ap (λ (v : Id). v.frame) same ∙ (r.2 ∙ sym (ap (λ (v : Commit). v.frame) is)))
    ];
    placed = λ c g. elim (among_one cs made c g) [
      | inl old ↦ (let p = b.placed c old in nth_aligned frames (set_nth frames f (committed_frame frame)) c.frame
          p.0 (sym (length_set_nth frames f (committed_frame frame))) p.1)
      | inr is ↦ nth_aligned frames (set_nth frames f (committed_frame frame)) c.frame frame
          (sym (length_set_nth frames f (committed_frame frame))) (ap (λ (v : Commit). nth frames v.frame) is ∙ at)
    ];
    below = below_after;
    in_turn = turn_more cs made b.in_turn precedes;
  }

-- two commits of one frame and one number are one
pub one_commit : (cs : List Commit) (c d : Commit) → AreInTurn cs → Among cs c → Among cs d → c.frame ≡ d.frame
    → c.k ≡ d.k → c ≡ d
one_commit [] c d t h g e q = absurd h
one_commit (x ∷ xs) c d t (inl a) (inl b) e q = a ∙ sym b
one_commit (x ∷ xs) c d t (inl a) (inr g) e q =
    let lt : x.k < d.k = (t.0 d g).rising (ap (λ (v : Commit). v.frame) (sym a) ∙ e) in
    let k : x.k ≡ d.k = ap (λ (v : Commit). v.k) (sym a) ∙ q in
    absurd (omega arith)
one_commit (x ∷ xs) c d t (inr h) (inl b) e q =
    let lt : x.k < c.k = (t.0 c h).rising (ap (λ (v : Commit). v.frame) (sym b) ∙ sym e) in
    let k : x.k ≡ c.k = ap (λ (v : Commit). v.k) (sym b) ∙ sym q in
    absurd (omega arith)
one_commit (x ∷ xs) c d t (inr h) (inr g) e q = one_commit xs c d t.1 h g e q

-- the last commit of a frame is one of them
pub last_is : (f : ℕ) (cs : List Commit) (doc : Document) → last_commit f cs ≡ Some doc → (d : Commit) × Among cs d
    × (d.frame ≡ f) × (committed d ≡ doc)
last_is f [] doc e = cc
last_is f (c ∷ cs) doc e =
    elim (last_commit f cs) as (λ x. last_commit f cs ≡ x → or_else x (commit_of f c) ≡ Some doc
    → (d : Commit) × Among (c ∷ cs) d × (d.frame ≡ f) × (committed d ≡ doc)) [
      | Some y ↦ (λ t g. let r = last_is f cs doc (t ∙ g) in (r.0, inr r.1, r.2, r.3))
      | None ↦
          (λ t g. elim (c.frame == f) as (λ b. (c.frame == f) ≡ b → (if b then Some (committed c) else None)
          ≡ Some doc → (d : Commit) × Among (c ∷ cs) d × (d.frame ≡ f) × (committed d ≡ doc)) [
            | true ↦ (λ u k. let is : committed c ≡ doc = cc in (c, inl refl, eqb-true c.frame f u, is))
            | false ↦ (λ u k. cc)
          ] refl g)
    ] refl e

-- what is counted is counted in one of them
pub entry_from : (cs : List Commit) (e : Done) → Among (flat_map entries_of cs) e → (c : Commit) × Among cs c
    × (p : Part) × Among c.parts p × (e ≡ done_entry c.k p)
entry_from [] e h = absurd h
entry_from (c ∷ cs) e h = elim (among_join (entries_of c) (flat_map entries_of cs) e h) [
  | inl own ↦ (let m = among_mapped (done_entry c.k) c.parts e own in (c, inl refl, m.0, m.1, m.2))
  | inr more ↦ (let r = entry_from cs e more in (r.0, inr r.1, r.2, r.3, r.4))
]
