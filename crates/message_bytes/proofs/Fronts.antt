-- What stands at the front of bytes.
use Rattle.std.proofs.Common.{◌≡◌, ◌≢◌, ℕ, suc, zero, ◌+◌, ◌-◌, ◌≤◌, ◌<◌, true, false, cond, rules, List, [], ◌∷◌, ◌++◌}
use Rattle.std.proofs.Common.{length, take, drop, Option, Some, None, Ok, refl, sym, ap, subst, ◌∙◌, append_assoc}
use Rattle.std.proofs.Common.{arith, nat_lt}
use Rattle.std.specs.Prelude.{is_some}
use Rattle.std.specs.List.{AllByRecursion}
use Rattle.std.proofs.lemmas.Bool.{le-ltb}
use Rattle.std.proofs.lemmas.List.{take_at, take-append-drop, append-nil, length-append, length-take, length-drop}
use Rattle.message_model.specs.declared.codes.Kind.{Kind}
use Rattle.message_bytes.specs.declared.decoder.Decoder.{Decoder}
use Rattle.message_model.specs.declared.fault.WireFault.{WireFault}
use Rattle.message_model.specs.declared.fault.WireFault.TheVariants.{BadKind, TooLong, BadField}
use Rattle.message_model.specs.declared.frame.Frame.{Frame}
use Rattle.message_model.specs.Codes.{kind_number}
use Rattle.message_model.specs.Spelling as spelling
use Rattle.message_model.specs.Spelling.{four_bytes, body, head, spell, joined}
use Rattle.message_model.specs.Frames.{IsFrame, Reads, number_in, shown, shown_body, shown_length}
use Rattle.message_model.specs.Reading.{read_body}
use Rattle.message_bytes.specs.Fronts.{BeginsNone, IsFaulty, IsWhole, Keeps, Stands, AreRead, HandsOut, Took, Leaves}
use Rattle.message_bytes.specs.Fronts.{Fed}
use Rattle.message_bytes.specs.Holding.{IsHead, Rest, Holds}
use Rattle.message_model.proofs.Fields.{IsBytes, IsBytes-take, IsBytes-drop, length-four_bytes, number_in-four_bytes}
use Rattle.message_model.proofs.Fields.{four_bytes-number_in}
use Rattle.message_model.proofs.Bodies.{IsRead, kind_in, kind_in-number, kind_again, same_kind, body_again, body_found}
use Rattle.message_model.proofs.Lengths.{length-body}
use Rattle.message_model.proofs.Readings.{same_front, AreHeadsAlike, heads_alike, spell-parts}

shown_length-cells : (cells rest : List ℕ) → length cells ≡ 4 → shown_length (cells ++ rest)
    ≡ shown_body (number_in cells) rest
shown_length-cells [] rest len = absurd (omega arith)
shown_length-cells (a ∷ []) rest len = absurd (omega arith)
shown_length-cells (a ∷ b ∷ []) rest len = absurd (omega arith)
shown_length-cells (a ∷ b ∷ c ∷ []) rest len = absurd (omega arith)
shown_length-cells (a ∷ b ∷ c ∷ d ∷ []) rest len = refl
shown_length-cells (a ∷ b ∷ c ∷ d ∷ e ∷ cells) rest len = absurd (omega arith)

-- what a head and the bytes behind it show
shown-head : (k : Kind) (cells rest : List ℕ) (len : ℕ) → length cells ≡ 4 → number_in cells ≡ len → len ≤ 1048576
    → len ≤ length rest
    → shown ((79 ∷ 76 ∷ 67 ∷ 77 ∷ 2 ∷ kind_number k ∷ cells) ++ rest) ≡ Some BadField
shown-head k cells rest len four says short enough =
    let not_long : nat_lt 1048576 len ≡ false = le-ltb _ _ short in
    let all_there : nat_lt (length rest) len ≡ false = le-ltb _ _ enough in
    ap (λ o. cond (is_some o) (shown_length (cells ++ rest)) (Some BadKind)) (kind_again k)
    ∙ shown_length-cells cells rest four
    ∙ ap (λ n. shown_body n rest) says
    ∙ ap (λ b. cond b (Some TooLong) (cond (nat_lt (length rest) len) None (Some BadField))) not_long
    ∙ ap (λ b. cond b None (Some BadField)) all_there

shown-begun : (k : Kind) (cells rest : List ℕ) (len : ℕ) → length cells ≡ 4 → number_in cells ≡ len → len ≤ 1048576
    → length rest < len
    → shown ((79 ∷ 76 ∷ 67 ∷ 77 ∷ 2 ∷ kind_number k ∷ cells) ++ rest) ≡ None
shown-begun k cells rest len four says short few =
    let not_long : nat_lt 1048576 len ≡ false = le-ltb _ _ short in
    let lacks : nat_lt (length rest) len ≡ true = search rules in
    ap (λ o. cond (is_some o) (shown_length (cells ++ rest)) (Some BadKind)) (kind_again k)
    ∙ shown_length-cells cells rest four
    ∙ ap (λ n. shown_body n rest) says
    ∙ ap (λ b. cond b (Some TooLong) (cond (nat_lt (length rest) len) None (Some BadField))) not_long
    ∙ ap (λ b. cond b None (Some BadField)) lacks

-- a frame's byte form shows no fault before it ends
pub begun : (f : Frame) (more : List ℕ) → IsFrame f → shown (spell f ++ more) ≡ Some BadField
begun f more h =
    let short : length (body f) ≤ 1048576 = length-body f h in
    let enough : length (body f) ≤ length (body f ++ more) = omega (arith, length-append (body f) more) in
    ap shown (spell-parts f more)
    ∙ ap (λ k. shown ((79 ∷ 76 ∷ 67 ∷ 77 ∷ 2 ∷ k ∷ four_bytes (length (body f))) ++ (body f ++ more)))
    (kind_in-number f)
    ∙ shown-head (kind_in f) (four_bytes (length (body f))) (body f ++ more) (length (body f))
    (length-four_bytes (length (body f))) (number_in-four_bytes (length (body f)) (omega arith)) short enough

pub not_begun : (bytes : List ℕ) → shown bytes ≡ None → BeginsNone bytes
not_begun bytes h f more is_frame e = let c : None ≡ Some BadField = sym h ∙ ap shown e ∙ begun f more is_frame in
    absurd cc

some_same : {A : Type 0} (x y : A) → Some x ≡ Some y → x ≡ y
some_same x y h = cc

pub faulty_head : (fault : WireFault) (bytes : List ℕ) → fault ≢ BadField
    → ((more : List ℕ) → shown (bytes ++ more) ≡ Some fault) → IsFaulty fault bytes
faulty_head fault bytes other stays = record {
  stays = stays;
  none = λ more f behind h e. other (some_same fault BadField (sym (stays more) ∙ ap shown e ∙ begun f behind h));
}

record Headed (k : Kind) (len : ℕ) (bytes : List ℕ) : Type 0 where
  cells : List ℕ
  rest : List ℕ
  parts : bytes ≡ (79 ∷ 76 ∷ 67 ∷ 77 ∷ 2 ∷ kind_number k ∷ cells) ++ rest
  rest_is : drop 10 bytes ≡ rest
  four : length cells ≡ 4
  says : number_in cells ≡ len
  short : len ≤ 1048576
  cells_bytes : IsBytes cells
  rest_bytes : IsBytes rest
  head_is : take 10 bytes ≡ 79 ∷ 76 ∷ 67 ∷ 77 ∷ 2 ∷ kind_number k ∷ cells

headed : (k : Kind) (len : ℕ) (bytes : List ℕ) → IsBytes bytes → IsHead k len bytes → Headed k len bytes
headed k len bytes are h =
    let long : 10 ≤ length bytes = h.long in
    record {
      cells = take 4 (drop 6 bytes);
      rest = drop 10 bytes;
      parts = sym (take-append-drop 10 bytes) ∙ ap (λ a. a ++ drop 10 bytes) h.parts;
      rest_is = refl;
      four = omega (arith, length-take 4 (drop 6 bytes), length-drop 6 bytes);
      says = h.says;
      short = h.short;
      cells_bytes = IsBytes-take 4 (drop 6 bytes) (IsBytes-drop 6 bytes are);
      rest_bytes = IsBytes-drop 10 bytes are;
      head_is = h.parts;
    }

take_both : (n m : ℕ) (xs : List ℕ) → n ≤ length xs → take (n + m) xs ≡ take n xs ++ take m (drop n xs)
take_both zero m xs h = let e : zero + m ≡ m = omega arith in ap (λ k. take k xs) e
take_both (suc n) m [] h = absurd (omega arith)
take_both (suc n) m (x ∷ xs) h = let e : suc n + m ≡ suc (n + m) = omega arith in
    ap (λ k. take k (x ∷ xs)) e ∙ ap (λ a. x ∷ a) (take_both n m xs (omega arith))

pub whole_front : (k : Kind) (len : ℕ) (bytes : List ℕ) (f : Frame) → IsBytes bytes → IsHead k len bytes
    → len ≤ length bytes - 10 → read_body k (take len (drop 10 bytes)) ≡ Some f → IsWhole f (10 + len) bytes
whole_front k len bytes f are is_head enough read =
    let h : Headed k len bytes = headed k len bytes are is_head in
    let long : 10 ≤ length bytes = is_head.long in
    let r : IsRead k (take len (drop 10 bytes)) f = body_found k (take len (drop 10 bytes)) f
    (IsBytes-take len (drop 10 bytes) (IsBytes-drop 10 bytes are)) read in
    let size : length (body f) ≡ len = sym (ap length r.body_is)
    ∙ omega (arith, length-take len (drop 10 bytes), length-drop 10 bytes) in
    let cells : h.cells ≡ four_bytes (length (body f)) = sym (four_bytes-number_in h.cells h.four h.cells_bytes)
    ∙ ap four_bytes (h.says ∙ sym size) in
    record {
      frame = r.frame;
      some = omega arith;
      within = omega arith;
      spelled =
          take_both 10 len bytes long
          ∙ ap (λ a. a ++ take len (drop 10 bytes)) h.head_is
          ∙ ap (λ a. (79 ∷ 76 ∷ 67 ∷ 77 ∷ 2 ∷ kind_number k ∷ a) ++ take len (drop 10 bytes)) cells
          ∙ ap (λ a. (79 ∷ 76 ∷ 67 ∷ 77 ∷ 2 ∷ a ∷ four_bytes (length (body f))) ++ take len (drop 10 bytes))
          (sym r.kind_is)
          ∙ ap (λ a. head (spelling.kind f) (length (body f)) ++ a) r.body_is;
    }

spelled_otherwise : (k : Kind) (len : ℕ) (cells rest more : List ℕ) (f : Frame) (behind : List ℕ) → length cells ≡ 4
    → number_in cells ≡ len → len ≤ length rest → read_body k (take len rest) ≡ None → IsFrame f
    → (79 ∷ 76 ∷ 67 ∷ 77 ∷ 2 ∷ kind_number k ∷ cells) ++ (rest ++ more) ≡ spell f ++ behind → ⊥
spelled_otherwise k len cells rest more f behind four says there read is_frame e =
    let short : length (body f) ≤ 1048576 = length-body f is_frame in
    let h : AreHeadsAlike (kind_number k) cells (rest ++ more) (spelling.kind f) (four_bytes (length (body f)))
    (body f ++ behind) = heads_alike _ _ _ _ _ _ four (length-four_bytes (length (body f)))
    (e ∙ spell-parts f behind) in
    let size : len ≡ length (body f) = sym says ∙ ap number_in h.lengths
    ∙ number_in-four_bytes (length (body f)) (omega arith) in
    let front : length (take len rest) ≡ len = omega (arith, length-take len rest) in
    let split : take len rest ++ (drop len rest ++ more) ≡ body f ++ behind =
    sym (append_assoc (take len rest) (drop len rest) more) ∙ ap (λ a. a ++ more) (take-append-drop len rest)
    ∙ h.behind in
    let bodies : take len rest ≡ body f = same_front (take len rest) (body f) (drop len rest ++ more) behind
    (front ∙ size) split in
    let kinds : k ≡ kind_in f = same_kind k (kind_in f) (h.kinds ∙ kind_in-number f) in
    let told : None ≡ Some f = sym read ∙ ap (read_body k) bodies ∙ ap (λ j. read_body j (body f)) kinds
    ∙ body_again f is_frame in
    absurd cc

pub partial_body : (k : Kind) (len : ℕ) (bytes : List ℕ) → IsBytes bytes → IsHead k len bytes
    → length bytes < 10 + len → shown bytes ≡ None
partial_body k len bytes are is_head few =
    let h : Headed k len bytes = headed k len bytes are is_head in
    let long : 10 ≤ length bytes = is_head.long in
    ap shown h.parts ∙ shown-begun k h.cells h.rest len h.four h.says h.short
    (omega (arith, length-drop 10 bytes, ap length h.rest_is))

pub faulty_body : (k : Kind) (len : ℕ) (bytes : List ℕ) → IsBytes bytes → IsHead k len bytes
    → len ≤ length bytes - 10 → read_body k (take len (drop 10 bytes)) ≡ None → IsFaulty BadField bytes
faulty_body k len bytes are is_head enough read =
    let h : Headed k len bytes = headed k len bytes are is_head in
    let long : 10 ≤ length bytes = is_head.long in
    let there : len ≤ length h.rest = omega (arith, length-drop 10 bytes, ap length h.rest_is) in
    let parts = λ (more : List ℕ). ap (λ a. a ++ more) h.parts
    ∙ append_assoc (79 ∷ 76 ∷ 67 ∷ 77 ∷ 2 ∷ kind_number k ∷ h.cells) h.rest more in
    record {
      stays = λ more. ap shown (parts more) ∙ shown-head k h.cells (h.rest ++ more) len h.four h.says h.short
          (omega (arith, length-append h.rest more));
      none = λ more f behind is_frame e. spelled_otherwise k len h.cells h.rest more f behind h.four h.says there
          (ap (λ a. read_body k (take len a)) (sym h.rest_is) ∙ read) is_frame (sym (parts more) ∙ e);
    }

-- ---- a decoder

pub reads_kept : (fault : Option WireFault) (kept : Rest) (rest fed : List ℕ) (frames : List Frame)
    → fed ≡ joined frames ++ rest → AllByRecursion IsFrame frames → Keeps fault kept rest → Reads fed frames fault
reads_kept None kept rest fed frames whole each keeps =
    record { rest = rest; whole = whole; each = each; last = not_begun rest keeps.1; shows = keeps.1 }
reads_kept (Some fault) kept rest fed frames whole each keeps = record {
  rest = rest;
  whole = whole;
  each = each;
  last = λ f more h e. keeps.none [] f more h (append-nil rest ∙ e);
  shows = ap shown (sym (append-nil rest)) ∙ keeps.stays [];
}

pub reads : (d : Decoder) (fed : List ℕ) (taken : List Frame) → Stands d fed taken
    → Reads fed (taken ++ d.waiting.items) d.fault
reads d fed taken s = reads_kept d.fault d.bytes s.rest fed (taken ++ d.waiting.items) s.whole s.each s.keeps

pub next_some : (old new : Decoder) (f : Frame) (fed : List ℕ) (taken : List Frame)
    → old.waiting.items ≡ f ∷ new.waiting.items → old.bytes ≡ new.bytes → old.fault ≡ new.fault
    → Stands old fed taken → HandsOut (Ok (Some f)) fed taken new
next_some old new f fed taken first bytes fault s =
    let moved : taken ++ old.waiting.items ≡ (taken ++ f ∷ []) ++ new.waiting.items = ap (λ a. taken ++ a) first
    ∙ sym (append_assoc taken (f ∷ []) new.waiting.items) in
    let stands : Stands new fed (taken ++ f ∷ []) = record {
      rest = s.rest;
      whole = s.whole ∙ ap (λ a. joined a ++ s.rest) moved;
      each = subst (AllByRecursion IsFrame) moved s.each;
      keeps = subst (λ (e : Option WireFault). Keeps e new.bytes s.rest) fault
          (subst (λ (b : Rest). Keeps old.fault b s.rest) bytes s.keeps);
    } in
    (stands, (new.fault, (new.waiting.items, reads new fed (taken ++ f ∷ []) stands)))

pub next_none : (old new : Decoder) (fed : List ℕ) (taken : List Frame) → old.waiting.items ≡ new.waiting.items
    → new.waiting.items ≡ [] → old.bytes ≡ new.bytes → old.fault ≡ new.fault → Stands old fed taken
    → Stands new fed taken × Reads fed taken new.fault
next_none old new fed taken same none bytes fault s =
    let stands : Stands new fed taken = record {
      rest = s.rest;
      whole = s.whole ∙ ap (λ a. joined (taken ++ a) ++ s.rest) same;
      each = subst (λ (a : List Frame). AllByRecursion IsFrame (taken ++ a)) same s.each;
      keeps = subst (λ (e : Option WireFault). Keeps e new.bytes s.rest) fault
          (subst (λ (b : Rest). Keeps old.fault b s.rest) bytes s.keeps);
    } in
    let all : taken ++ new.waiting.items ≡ taken = ap (λ a. taken ++ a) none ∙ append-nil taken in
    (stands, subst (λ (a : List Frame). Reads fed a new.fault) all (reads new fed taken stands))

pub emptied : {A : Type 0} (xs : List A) → xs ≡ drop 1 xs → xs ≡ []
emptied [] h = refl
emptied (x ∷ xs) h = let e : suc (length xs) ≡ length xs = ap length h in absurd (omega arith)

-- ---- feeding

pub joined-append : (fs gs : List Frame) → joined (fs ++ gs) ≡ joined fs ++ joined gs
joined-append [] gs = refl
joined-append (f ∷ fs) gs = ap (λ a. spell f ++ a) (joined-append fs gs)
    ∙ sym (append_assoc (spell f) (joined fs) (joined gs))

pub all_both : (fs gs : List Frame) → AllByRecursion IsFrame fs → AllByRecursion IsFrame gs
    → AllByRecursion IsFrame (fs ++ gs)
all_both [] gs p q = q
all_both (f ∷ fs) gs p q = (p.0, all_both fs gs p.1 q)

pub took_none : (old : List Frame) (bytes : List ℕ) → Took old old bytes 0
took_none old bytes = record { added = []; grew = sym (append-nil old); each = tt; parts = refl; within = omega arith }

drop_nil : (m : ℕ) → drop {A = ℕ} m [] ≡ []
drop_nil zero = refl
drop_nil (suc m) = refl

pub drop_more : (n m : ℕ) (xs : List ℕ) → drop (n + m) xs ≡ drop m (drop n xs)
drop_more zero m xs = let e : zero + m ≡ m = omega arith in ap (λ k. drop k xs) e
drop_more (suc n) m [] = let e : suc n + m ≡ suc (n + m) = omega arith in ap (λ k. drop k []) e ∙ sym (drop_nil m)
drop_more (suc n) m (x ∷ xs) = let e : suc n + m ≡ suc (n + m) = omega arith in
    ap (λ k. drop k (x ∷ xs)) e ∙ drop_more n m xs

-- one more frame
pub took_more : (old now new : List Frame) (bytes : List ℕ) (used n : ℕ) (f : Frame) → Took old now bytes used
    → IsWhole f n (drop used bytes) → new ≡ now ++ f ∷ [] → Took old new bytes (used + n)
took_more old now new bytes used n f t w pushed =
    let within : n ≤ length (drop used bytes) = w.within in
    let le : used ≤ length bytes = t.within in
    let behind : drop used bytes ≡ spell f ++ drop (used + n) bytes = sym (take-append-drop n (drop used bytes))
    ∙ ap (λ a. a ++ drop n (drop used bytes)) w.spelled ∙ ap (λ a. spell f ++ a)
    (sym (drop_more used n bytes)) in
    record {
      added = t.added ++ f ∷ [];
      grew = pushed ∙ ap (λ a. a ++ f ∷ []) t.grew ∙ append_assoc old t.added (f ∷ []);
      each = all_both t.added (f ∷ []) t.each (w.frame, tt);
      parts = t.parts ∙ ap (λ a. joined t.added ++ a) behind
          ∙ sym (append_assoc (joined t.added) (spell f) (drop (used + n) bytes))
          ∙ ap (λ a. a ++ drop (used + n) bytes) (ap (λ a. joined t.added ++ a) (sym (append-nil (spell f)))
          ∙ sym (joined-append t.added (f ∷ [])));
      within = omega (arith, length-drop used bytes);
    }

pub took_back : (old now : List Frame) (bytes : List ℕ) (used : ℕ) → Took old now bytes used
    → take (length old) now ≡ old
took_back old now bytes used t = ap (take (length old)) t.grew ∙ take_at old t.added (length old) refl

pub keeps_none : (fault : Option WireFault) (kept : Rest) (rest : List ℕ) → fault ≡ None → Keeps fault kept rest
    → Holds kept rest × (shown rest ≡ None)
keeps_none fault kept rest e keeps = subst (λ (f : Option WireFault). Keeps f kept rest) e keeps

-- a piece that was taken
pub fed_more : (old new : Decoder) (fault : Option WireFault) (piece fed : List ℕ) (taken : List Frame)
    → old.fault ≡ None → Fed old.bytes new.bytes old.waiting.items new.waiting.items piece new.fault
    → new.fault ≡ fault → Stands old fed taken
    → Stands new (fed ++ piece) taken × AreRead (fed ++ piece) taken fault
fed_more old new fault piece fed taken none f told s =
    let all : List Frame = taken ++ old.waiting.items in
    let k = keeps_none old.fault old.bytes s.rest none s.keeps in
    let l : Leaves old.waiting.items new.waiting.items (s.rest ++ piece) new.bytes new.fault = f s.rest k.0 k.1 in
    let grown : all ++ l.added ≡ taken ++ new.waiting.items = append_assoc taken old.waiting.items l.added
    ∙ ap (λ a. taken ++ a) (sym l.grew) in
    let stands : Stands new (fed ++ piece) taken = record {
      rest = l.rest;
      whole =
          ap (λ a. a ++ piece) s.whole ∙ append_assoc (joined all) s.rest piece
          ∙ ap (λ a. joined all ++ a) l.parts ∙ sym (append_assoc (joined all) (joined l.added) l.rest)
          ∙ ap (λ a. a ++ l.rest) (sym (joined-append all l.added)) ∙ ap (λ a. joined a ++ l.rest) grown;
      each = subst (AllByRecursion IsFrame) grown (all_both all l.added s.each l.each);
      keeps = l.keeps;
    } in (
      stands,
      (
        new.waiting.items,
        subst (λ (x : Option WireFault). Reads (fed ++ piece) (taken ++ new.waiting.items)
            x) told (reads new (fed ++ piece) taken stands),
      ),
    )

-- a piece that was refused for want of memory
pub fed_nothing : (old new : Decoder) (fed : List ℕ) (taken : List Frame) → old.fault ≡ None
    → new.waiting.items ≡ old.waiting.items → ((rest : List ℕ) → Holds old.bytes rest → Holds new.bytes rest)
    → new.fault ≡ old.fault → Stands old fed taken → Stands new fed taken
fed_nothing old new fed taken none waiting bytes fault s =
    let k = keeps_none old.fault old.bytes s.rest none s.keeps in
    record {
      rest = s.rest;
      whole = s.whole ∙ ap (λ a. joined (taken ++ a) ++ s.rest) (sym waiting);
      each = subst (λ (a : List Frame). AllByRecursion IsFrame (taken ++ a)) (sym waiting) s.each;
      keeps = subst (λ (e : Option WireFault). Keeps e new.bytes s.rest) (sym (fault ∙ none)) (bytes s.rest k.0, k.1);
    }

pub faulty_more : (fault : WireFault) (rest piece : List ℕ) → IsFaulty fault rest → IsFaulty fault (rest ++ piece)
faulty_more fault rest piece h = record {
  stays = λ more. ap shown (append_assoc rest piece more) ∙ h.stays (piece ++ more);
  none = λ more f behind is_frame e. h.none (piece ++ more) f behind is_frame (sym (append_assoc rest piece more) ∙ e);
}

keeps_faulty : (told : Option WireFault) (fault : WireFault) (kept : Rest) (rest piece : List ℕ) → told ≡ Some fault
    → Keeps told kept rest → Keeps told kept (rest ++ piece)
keeps_faulty None fault kept rest piece e keeps = absurd cc
keeps_faulty (Some f) fault kept rest piece e keeps = faulty_more f rest piece keeps

pub fed_faulty : (d : Decoder) (fault : WireFault) (piece fed : List ℕ) (taken : List Frame) → d.fault ≡ Some fault
    → Stands d fed taken → Stands d (fed ++ piece) taken × AreRead (fed ++ piece) taken (Some fault)
fed_faulty d fault piece fed taken e s =
    let stands : Stands d (fed ++ piece) taken = record {
      rest = s.rest ++ piece;
      whole = ap (λ a. a ++ piece) s.whole ∙ append_assoc (joined (taken ++ d.waiting.items)) s.rest piece;
      each = s.each;
      keeps = keeps_faulty d.fault fault d.bytes s.rest piece e s.keeps;
    } in (
      stands,
      (
        d.waiting.items,
        subst (λ (x : Option WireFault). Reads (fed ++ piece) (taken ++ d.waiting.items) x) e
            (reads d (fed ++ piece) taken stands),
      ),
    )
