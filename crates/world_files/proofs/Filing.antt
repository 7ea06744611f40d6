-- The files of frames after each step.
use Rattle.std.proofs.Common.{◌≡◌, ◌≢◌, ◌⊎◌, ◌&&◌, ◌||◌, ◌==◌, ◌+◌, not, ℕ, zero, suc, Bool, true, false, List, [], ◌∷◌}
use Rattle.std.proofs.Common.{◌++◌, length, map, Option, Some, None, refl, sym, ap, ◌∙◌, inl, inr, arith, subst}
use Rattle.std.proofs.Common.{slice_get, if◌then◌else◌, bytes_eq}
use Rattle.std.proofs.lemmas.Bool.{ne_eqb}
use Rattle.std.proofs.lemmas.Bool.Decides.{eqb_tells}
use Rattle.std.proofs.lemmas.Slice.Eq.{bytes_eq-Decides}
use Rattle.message_values.specs.Found.{find, nth, set_nth}
use Rattle.cfb_file.specs.Denotes.{Denotes}
use Rattle.ole_model.specs.DocOf.{DocOf}
use Rattle.container_model.specs.Saves as saves
use Rattle.container_model.specs.Saves.{document_tree, committed_frame, name_after}
use Rattle.container_model.specs.Commands.{is_named, is_named_beside, is_name}
use Rattle.container_model.specs.declared.answer.FrameDocument.{FrameDocument}
use Rattle.container_steady.proofs.SteadyRecords.{or_false}
use Rattle.container_model.specs.declared.record.Frame.{Frame}
use Rattle.container_model.specs.declared.answer.Done.{Done}
use Rattle.world_model.specs.declared.logs.Document.{Document}
use Rattle.world_model.specs.declared.logs.File.{File}
use Rattle.world_model.specs.World.{done_entry, is_file, put_file}
use Rattle.world_model.specs.Safe.{Among}
use Rattle.world_files.specs.Files.{Bears, IsFiled, FilesCounted, IsSameFrame, AreSameFrames}
use Rattle.world_facts.proofs.Lookups.{among_old, among_new, among_map, nth_old, nth_one, nth_aligned, nth_set_apart}
use Rattle.world_facts.proofs.Lookups.{length_set_nth}

-- what is counted stays counted
filed_more : (files : List File) (frame : Frame) (document : Document) (dones more : List Done)
    → IsFiled files frame document dones → IsFiled files frame document (dones ++ more)
filed_more files frame document dones more s = record {
  stored = s.stored;
  file = s.file;
  found = s.found;
  denotes = s.denotes;
  holds = s.holds;
  counted_with = λ p g. among_old dones more (done_entry document.k p)
      (s.counted_with p g);
}

filed_same : (files : List File) (old new : Frame) (document : Document) (dones : List Done) → IsSameFrame old new
    → IsFiled files old document dones → IsFiled files new document dones
filed_same files old new document dones e s = record {
  stored = e.stored ∙ s.stored;
  file = s.file;
  found = ap (λ n. find (is_file n) files) e.name ∙ s.found;
  denotes = s.denotes;
  holds = s.holds;
  counted_with = s.counted_with;
}

bears_same : (old new : Frame) (name : List ℕ) → IsSameFrame old new → Bears new name → Bears old name
bears_same old new name e (inl h) = inl (sym e.name ∙ h)
bears_same old new name e (inr h) = inr (e.asked name h)

pub stored_same : (frames after : List Frame) (files : List File) (counted : List (Option Document))
    (dones : List Done) → AreSameFrames frames after → FilesCounted frames files counted dones
    → FilesCounted after files counted dones
stored_same frames after files counted dones s h = record {
  aligned = h.aligned ∙ sym s.many;
  names_apart = λ f g a b name fa gb x y. (let p = s.from f a fa in let q = s.from g b gb in
      h.names_apart f g p.0 q.0 name p.1 q.1 (bears_same p.0 a name p.2 x) (bears_same q.0 b name q.2 y));
  file_counted = λ f document frame c at. (let p = s.from f frame at in
      filed_same files p.0 frame document dones p.2 (h.file_counted f document p.0 c p.1));
}

-- a name that no frame bears
unborne_at : (name : List ℕ) (asked : Option (List ℕ)) → is_name name asked ≡ false → asked ≡ Some name → ⊥
unborne_at name None e h = cc
unborne_at name (Some a) e h = (let is : a ≡ name = cc in let t = (bytes_eq-Decides a name).1 is in cc)

if_false : (a b : Bool) → (if a then true else b) ≡ false → (a ≡ false) × (b ≡ false)
if_false true b e = cc
if_false false b e = (refl, e)

unborne_by : (name : List ℕ) (frame : Frame) → (bytes_eq frame.name name || is_name name frame.asked) ≡ false
    → Bears frame name → ⊥
unborne_by name frame e (inl h) = (let t = (bytes_eq-Decides frame.name name).1 h in
    let f = (or_false (bytes_eq frame.name name) (is_name name frame.asked) e).0 in cc)
unborne_by name frame e (inr h) = unborne_at name frame.asked
    (or_false (bytes_eq frame.name name) (is_name name frame.asked) e).1 h

unborne_in : (name : List ℕ) (frames : List Frame) (i : ℕ) (frame : Frame) → is_named name frames ≡ false
    → slice_get frames i ≡ Some frame → Bears frame name → ⊥
unborne_in name [] i frame e at h = cc
unborne_in name (x ∷ xs) zero frame e at h =
    (let is : x ≡ frame = cc in
    unborne_by name x (if_false (bytes_eq x.name name || is_name name x.asked) (is_named name xs) e).0
    (subst (λ v. Bears v name) (sym is) h))
unborne_in name (x ∷ xs) (suc i) frame e at h = unborne_in name xs i frame
    (if_false (bytes_eq x.name name || is_name name x.asked) (is_named name xs) e).1 at h

unborne : (name : List ℕ) (frames : List Frame) (f : ℕ) (frame : Frame) → is_named name frames ≡ false
    → nth frames f ≡ Some frame → Bears frame name → ⊥
unborne name frames zero frame e at h = cc
unborne name frames (suc i) frame e at h = unborne_in name frames i frame e at h

-- a frame that asks for no name
bears_own : (new : Frame) (other : List ℕ) → new.asked ≡ None → Bears new other → new.name ≡ other
bears_own new other own (inl e) = e
bears_own new other own (inr e) = (let z : None ≡ Some other = sym own ∙ e in cc)

pub length_more : {A : Type 0} (xs : List A) (y : A) → length (xs ++ y ∷ []) ≡ suc (length xs)
length_more [] y = refl
length_more (x ∷ xs) y = ap suc (length_more xs y)

-- a new frame, which has no counted commit
pub stored_framed : (frames : List Frame) (new : Frame) (files : List File) (counted : List (Option Document))
    (dones : List Done) → is_named new.name frames ≡ false → new.asked ≡ None
    → FilesCounted frames files counted dones → FilesCounted (frames ++ new ∷ []) files (counted ++ None ∷ []) dones
stored_framed frames new files counted dones un own s =
    record {
      aligned = length_more counted None ∙ (ap suc s.aligned ∙ sym (length_more frames new));
      names_apart = λ f g a b other fa gb x y. elim (nth_one frames new f a fa) [
        | inl fo ↦ elim (nth_one frames new g b gb) [
          | inl go ↦ s.names_apart f g a b other fo go x y
          | inr gn ↦
              absurd (unborne new.name frames f a un fo
              (subst (Bears a) (sym (bears_own new other own (subst (λ v. Bears v other) gn.0 y))) x))
        ]
        | inr fn ↦ elim (nth_one frames new g b gb) [
          | inl go ↦
              absurd (unborne new.name frames g b un go
              (subst (Bears b) (sym (bears_own new other own (subst (λ v. Bears v other) fn.0 x))) y))
          | inr gn ↦ fn.1 ∙ sym gn.1
        ]
      ];
      file_counted = λ f document frame c at. elim (nth_one counted None f (Some document) c) [
        | inl old ↦ (let p = nth_aligned counted frames f (Some document) s.aligned old in
            let same : Some p.0 ≡ Some frame = sym (nth_old frames (new ∷ []) f p.0 p.1) ∙ at in
            let is : p.0 ≡ frame = cc in
            subst (λ v. IsFiled files v document dones) is (s.file_counted f document p.0 old p.1))
        | inr none ↦ absurd (let e = none.0 in cc)
      ];
    }

-- a name that no other frame bears; of these frames the first has number i
unborne_from : (f : ℕ) (name : List ℕ) (i : ℕ) (frames : List Frame) (k : ℕ) (frame : Frame)
    → is_named_beside f name i frames ≡ false → slice_get frames k ≡ Some frame → i + k ≢ f → Bears frame name → ⊥
unborne_from f name i [] k frame e at ne h = cc
unborne_from f name i (x ∷ xs) zero frame e at ne h =
    let apart : i ≢ f = λ q. ne (let z : i + 0 ≡ f = omega arith in z) in
    let own = (if_false (not (i == f) && (bytes_eq x.name name || is_name name x.asked))
    (is_named_beside f name (i + 1) xs) e).0 in
    let free : (bytes_eq x.name name || is_name name x.asked) ≡ false =
    subst (λ b. (not b && (bytes_eq x.name name || is_name name x.asked)) ≡ false) (ne_eqb i f apart) own in
    let is : x ≡ frame = cc in
    unborne_by name x free (subst (λ v. Bears v name) (sym is) h)
unborne_from f name i (x ∷ xs) (suc k) frame e at ne h =
    unborne_from f name (i + 1) xs k frame
    (if_false (not (i == f) && (bytes_eq x.name name || is_name name x.asked))
    (is_named_beside f name (i + 1) xs) e).1 at (λ q. ne (let z : i + suc k ≡ f = omega arith in z)) h

unborne_beside : (f : ℕ) (name : List ℕ) (frames : List Frame) (g : ℕ) (frame : Frame)
    → is_named_beside f name 1 frames ≡ false → nth frames g ≡ Some frame → g ≢ f → Bears frame name → ⊥
unborne_beside f name frames zero frame e at ne h = cc
unborne_beside f name frames (suc k) frame e at ne h = unborne_from f name 1 frames k frame e at
    (λ q. ne (let z : suc k ≡ f = omega arith in z)) h

-- a frame asks for a name that no other frame bears or asked for
module _ (frames : List Frame) (f : ℕ) (frame : Frame) (name : List ℕ) (files : List File)
    (counted : List (Option Document)) (dones : List Done) (at : nth frames f ≡ Some frame)
    (free : is_named_beside f name 1 frames ≡ false)
    (s : FilesCounted frames files counted dones) where
  abbrev pub asks : Frame
  asks = record frame { asked = Some name }

  -- what a frame bears then it bore before, or it is the name asked for
  bore : (g : ℕ) (a : Frame) (n : List ℕ) → nth (set_nth frames f (record frame { asked = Some name })) g ≡ Some a
      → Bears a n → ((b : Frame) × (nth frames g ≡ Some b) × Bears b n) ⊎ ((g ≡ f) × (name ≡ n))
  bore g a n e x = elim (nth_set_apart frames f g asks a e) [
    | inl h ↦ elim (subst (λ v. Bears v n) h.1 x) [
      | inl own ↦ inl (frame, ap (nth frames) h.0 ∙ at, inl own)
      | inr new ↦ inr (h.0, (let z : Some name ≡ Some n = new in cc))
    ]
    | inr h ↦ inl (a, h.1, x)
  ]

  -- whoever bears the name that is asked for is the frame itself
  own_name : (g : ℕ) (b : Frame) (n : List ℕ) → nth frames g ≡ Some b → Bears b n → name ≡ n → g ≡ f
  own_name g b n e x is = elim (eqb_tells g f) [
    | inl h ↦ h.1
    | inr h ↦ absurd (unborne_beside f name frames g b free e h.1 (subst (Bears b) (sym is) x))
  ]

  asks_filed : (d : Document) → IsFiled files frame d dones → IsFiled files (record frame { asked = Some name }) d dones
  asks_filed d h = record {
    stored = h.stored;
    file = h.file;
    found = h.found;
    denotes = h.denotes;
    holds = h.holds;
    counted_with = h.counted_with;
  }

  pub stored_asking : FilesCounted (set_nth frames f (record frame { asked = Some name })) files counted dones
  stored_asking = record {
    aligned = s.aligned ∙ sym (length_set_nth frames f asks);
    names_apart = λ g h a b n ga hb x y. elim (bore g a n ga x) [
      | inl p ↦ elim (bore h b n hb y) [
        | inl q ↦ s.names_apart g h p.0 q.0 n p.1 q.1 p.2 q.2
        | inr q ↦ own_name g p.0 n p.1 p.2 q.1 ∙ sym q.0
      ]
      | inr p ↦ elim (bore h b n hb y) [
        | inl q ↦ p.0 ∙ sym (own_name h q.0 n q.1 q.2 p.1)
        | inr q ↦ p.0 ∙ sym q.0
      ]
    ];
    file_counted = λ g d fr c e. elim (nth_set_apart frames f g asks fr e) [
      | inl h ↦ subst (λ v. IsFiled files v d dones) (sym h.1)
          (asks_filed d (s.file_counted g d frame c (ap (nth frames) h.0 ∙ at)))
      | inr h ↦ s.file_counted g d fr c h.1
    ];
  }

-- files by name
found_put : (name bytes : List ℕ) (files : List File) → find (is_file name) (put_file name bytes files)
    ≡ Some (record { name = name; bytes = bytes })
found_put name bytes [] = rw ((bytes_eq-Decides name name).1 refl) refl
found_put name bytes (file ∷ files) =
    elim (is_file name file) as (λ b. is_file name file ≡ b
    → find (is_file name) (if b then record { name = name; bytes = bytes } ∷ files
    else file ∷ put_file name bytes files) ≡ Some (record { name = name; bytes = bytes })) [
      | true ↦ (λ t. rw ((bytes_eq-Decides name name).1 refl) refl)
      | false ↦ (λ t. rw t (found_put name bytes files))
    ] refl

not_equal : (a b : List ℕ) → a ≢ b → bytes_eq a b ≡ false
not_equal a b ne = elim (bytes_eq a b) as (λ x. bytes_eq a b ≡ x → x ≡ false) [
  | true ↦
      (λ t. absurd (ne ((bytes_eq-Decides a b).0 t)))
  | false ↦ (λ t. refl)
] refl

found_other : (name other bytes : List ℕ) (files : List File) → other ≢ name
    → find (is_file other) (put_file name bytes files) ≡ find (is_file other) files
found_other name other bytes [] ne = rw (not_equal name other (λ e. ne (sym e))) refl
found_other name other bytes (file ∷ files) ne =
    elim (is_file name file) as (λ b. is_file name file ≡ b
    → find (is_file other) (if b then record { name = name; bytes = bytes } ∷ files
    else file ∷ put_file name bytes files) ≡ find (is_file other) (file ∷ files)) [
      | true ↦ (λ t. let e : file.name ≡ name = (bytes_eq-Decides file.name name).0 t in
          rw (not_equal name other (λ q. ne (sym q)), not_equal file.name other (λ q. ne (sym q ∙ e))) refl)
      | false ↦ (λ t. ap (λ v. if is_file other file then Some file else v) (found_other name other bytes files ne))
    ] refl

-- a file after a commit is the one that it made, or it was there
pub put_one : (name bytes : List ℕ) (files : List File) (file : File) → Among (put_file name bytes files) file
    → (file ≡ record { name = name; bytes = bytes }) ⊎ Among files file
put_one name bytes [] file (inl e) = inl e
put_one name bytes [] file (inr z) = absurd z
put_one name bytes (old ∷ files) file h =
    elim (is_file name old) as (λ b. Among (if b then record { name = name; bytes = bytes } ∷ files
    else old ∷ put_file name bytes files) file → (file ≡ record { name = name; bytes = bytes }) ⊎ (file ≡ old)
    ⊎ Among files file) [
      | true ↦ (λ g. elim g [ inl e ↦ inl e | inr k ↦ inr (inr k) ])
      | false ↦ (λ g. elim g [
        | inl e ↦ inr (inl e)
        | inr k ↦ elim (put_one name bytes files file k) [ inl e ↦ inl e | inr m ↦ inr (inr m) ]
      ])
    ] h

-- the name after a commit was the frame's
bears_after : (frame : Frame) (name : List ℕ) → Bears (committed_frame frame) name → Bears frame name
bears_after frame name (inl e) = elim frame.asked as (λ v. frame.asked ≡ v → name_after frame.name v ≡ name
    → Bears frame name) [ None ↦ (λ q g. inl g) | Some a ↦ (λ q g. inr (q ∙ ap Some g)) ] refl e
bears_after frame name (inr e) = cc

-- a commit of a frame
module _ (frames : List Frame) (f : ℕ) (frame : Frame) (files : List File) (counted : List (Option Document))
    (dones : List Done) (saved : FrameDocument) (bytes : List ℕ)
    (at : nth frames f ≡ Some frame) (denotes : ∥ Denotes bytes (document_tree saved) ∥₁)
    (holds : DocOf (document_tree saved) (saves.document saved))
    (s : FilesCounted frames files counted dones) where
  abbrev pub name : List ℕ
  name = name_after frame.name frame.asked

  abbrev pub entries : List Done
  entries = map (done_entry frame.k) saved.parts

  abbrev pub document : Document
  document = record { k = frame.k; session = saved.session; parts = saved.parts }

  here : IsFiled (put_file name bytes files) (committed_frame frame) document (dones ++ entries)
  here = record {
    stored = refl;
    file = record { name = name; bytes = bytes };
    found = found_put name bytes files;
    denotes = denotes;
    holds = holds;
    counted_with = λ p g. among_new dones entries (done_entry frame.k p)
        (among_map (done_entry frame.k) saved.parts p g);
  }

  elsewhere : (g : ℕ) (d : Document) (other : Frame) → g ≢ f → nth frames g ≡ Some other
      → IsFiled files other d dones → IsFiled (put_file name bytes files) other d (dones ++ entries)
  elsewhere g d other ne e h = (let more = filed_more files other d dones entries h in record {
    stored = more.stored;
    file = more.file;
    found = found_other name other.name bytes files
        (λ q. ne (s.names_apart g f other frame name e at (inl q) (bears_after frame name (inl refl))))
        ∙ more.found;
    denotes = more.denotes;
    holds = more.holds;
    counted_with = more.counted_with;
  })

  bears_at : (g : ℕ) (a : Frame) (n : List ℕ) → nth (set_nth frames f (committed_frame frame)) g ≡ Some a
      → Bears a n → (b : Frame) × (nth frames g ≡ Some b) × Bears b n
  bears_at g a n e x = elim (nth_set_apart frames f g (committed_frame frame) a e) [
    | inl h ↦ (frame, ap (nth frames) h.0 ∙ at, bears_after frame n (subst (λ v. Bears v n) h.1 x))
    | inr h ↦ (a, h.1, x)
  ]

  pub stored_committed : FilesCounted (set_nth frames f (committed_frame frame)) (put_file name bytes files)
      (set_nth counted f (Some document)) (dones ++ entries)
  stored_committed = record {
    aligned = length_set_nth counted f (Some document)
        ∙ (s.aligned ∙ sym (length_set_nth frames f (committed_frame frame)));
    names_apart = λ g h a b n ga hb x y. (let p = bears_at g a n ga x in let q = bears_at h b n hb y in
        s.names_apart g h p.0 q.0 n p.1 q.1 p.2 q.2);
    file_counted = λ g d fr c e. elim (nth_set_apart counted f g (Some document) (Some d) c) [
      | inl x ↦ elim (nth_set_apart frames f g (committed_frame frame) fr e) [
        | inl y ↦ (let is : d ≡ document = (let q = x.1 in cc) in
            subst (λ v. IsFiled (put_file name bytes files) v d (dones ++ entries)) (sym y.1)
            (subst (λ v. IsFiled (put_file name bytes files) (committed_frame frame) v (dones ++ entries))
            (sym is) here))
        | inr y ↦ absurd (y.0 x.0)
      ]
      | inr x ↦ elim (nth_set_apart frames f g (committed_frame frame) fr e) [
        | inl y ↦ absurd (x.0 y.0)
        | inr y ↦ elsewhere g d fr x.0 y.1 (s.file_counted g d fr x.1 y.1)
      ]
    ];
  }
