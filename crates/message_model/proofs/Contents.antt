-- Contents: what was spelled is read, and what is read was spelled.
use Rattle.std.proofs.Common.{◌≡◌, ℕ, zero, suc, ◌+◌, ◌-◌, ◌^◌, ◌<◌, ◌≤◌, Bool, true, false, cond, ◌&&◌, ◌||◌, List, []}
use Rattle.std.proofs.Common.{◌∷◌, ◌++◌, length, Some, Result, Ok, Err, refl, sym, ap, subst, ◌∙◌, append_assoc, arith}
use Rattle.std.proofs.Common.{rules, lit<, nat_le, nat_lt, nat_eq}
use Rattle.std.specs.Prelude.{not}
use Rattle.std.specs.List.{list_any, AllByRecursion}
use Rattle.std.specs.Ordering.{is_lt}
use Rattle.std.proofs.lemmas.Bool.{ltb-false, le-ltb, ne_eqb}
use Rattle.std.proofs.lemmas.List.{append-nil}
use Rattle.cfb_names.specs.Names.{IsName, name_read, is_forbidden}
use Rattle.tree_streams.specs.Limits.{is_within, is_ole_name, has_ole_name, total}
use Rattle.tree_streams.specs.Streams.{AreInOrder, is_next}
use Rattle.tree_streams.specs.declared.streams.NamedStream.{NamedStream}
use Rattle.tree_streams.specs.declared.stored.Stored.{Stored}
use Rattle.tree_streams.proofs.Ordered.{in_order-last}
use Rattle.message_model.specs.declared.frame.Frame.{Frame}
use Rattle.message_model.specs.Spelling as spelling
use Rattle.message_model.specs.Spelling.{text, streams}
use Rattle.message_model.specs.Frames.{IsContent}
use Rattle.message_model.specs.Reading.{Reader, bad, bytes, blob, named, name, name_of, more, may_follow, pictured}
use Rattle.message_model.specs.Reading.{counted, stored}
use Rattle.message_model.proofs.Fields.{both, first_of, second_of, le_told, le_passes, IsBytes, bytes_again}
use Rattle.message_model.proofs.Fields.{bytes_found, Taken, TakenByte, byte_found, TakenBlob, blob_again, blob_found}
use Rattle.message_model.proofs.Fields.{tested}

not_false : (b : Bool) → not b ≡ true → b ≡ false
not_false true h = absurd cc
not_false false h = refl

pub or_false : (a b : Bool) → a ≡ false → b ≡ false → (a || b) ≡ false
or_false false b p q = q
or_false true b p q = absurd cc

or_first : (a b : Bool) → (a || b) ≡ false → a ≡ false
or_first true b h = absurd cc
or_first false b h = refl

or_second : (a b : Bool) → (a || b) ≡ false → b ≡ false
or_second true b h = absurd cc
or_second false b h = h

-- ---- names

name_read-name : (n : List ℕ) → IsName n → name_read n ≡ Ok n
name_read-name n h =
    let some : nat_eq (length n) 0 ≡ false = ne_eqb (length n) 0 (λ e. let z : length n ≡ 0 = e in
    let l : 0 < length n = h.some in absurd (omega arith)) in
    let short : nat_lt 31 (length n) ≡ false = le-ltb _ _ h.short in
    rw (some, short, h.ascii, h.allowed) refl

refused : {A : Type 0} (P : Type 0) (b : Bool) (e : A) (x y : Result (List ℕ) A) → cond b (Err e) x ≡ y
    → (b ≡ false → x ≡ y → P) → (b ≡ true → Err e ≡ y → P) → P
refused P true e x y h p q = q refl h
refused P false e x y h p q = p refl h

abbrev fine : {A : Type 0} → List ℕ → Result (List ℕ) A
fine n = Ok n

name-name_read : (bs n : List ℕ) → name_read bs ≡ Ok n → (bs ≡ n) × IsName bs
name-name_read bs n h =
    refused ((bs ≡ n) × IsName bs) (nat_eq (length bs) 0) _ _ _ h (λ some h1.
    refused ((bs ≡ n) × IsName bs) (nat_lt 31 (length bs)) _ _ _ h1 (λ short h2.
    refused ((bs ≡ n) × IsName bs) (list_any (nat_le 128) bs) _ _ _ h2 (λ ascii h3.
    refused ((bs ≡ n) × IsName bs) (list_any is_forbidden bs) _ _ _ h3 (λ allowed h4.
    let le : length bs ≤ 31 = ltb-false _ _ short in
    let has : 0 < length bs = search rules in
    let e : bs ≡ n = cc in
    (e, record { some = has; short = le; ascii = ascii; allowed = allowed }))
    (λ t h4. absurd cc)) (λ t h3. absurd cc)) (λ t h2. absurd cc)) (λ t h1. absurd cc)

name_again : (k : List ℕ → Reader) (n rest : List ℕ) → IsName n → name k (text n ++ rest) ≡ k n rest
name_again k n rest h =
    let l : 0 < length n = h.some in
    let s : length n ≤ 31 = h.short in
    let within : (nat_le 1 (length n) && nat_le (length n) 31) ≡ true =
    both (nat_le 1 (length n)) (nat_le (length n) 31) (le_passes 1 (length n) (omega arith))
    (le_passes (length n) 31 s) in
    ap (λ b. cond b (bytes (length n) (λ bs. named k (name_read bs))) bad (n ++ rest)) within
    ∙ bytes_again (length n) (λ bs. named k (name_read bs)) n rest refl
    ∙ ap (λ r. named k r rest) (name_read-name n h)

record TakenName (k : List ℕ → Reader) (xs : List ℕ) (f : Frame) : Type 0 where
  value : List ℕ
  rest : List ℕ
  parts : xs ≡ text value ++ rest
  valid : IsName value
  rest_bytes : IsBytes rest
  next : k value rest ≡ Some f

named_found : (k : List ℕ → Reader) (bs : List ℕ) (r : Result (List ℕ) _) (rest : List ℕ) (f : Frame)
    → name_read bs ≡ r → named k r rest ≡ Some f → IsName bs × (k bs rest ≡ Some f)
named_found k bs (Ok n) rest f e h = let q = name-name_read bs n e in (q.1, ap (λ m. k m rest) q.0 ∙ h)
named_found k bs (Err d) rest f e h = absurd cc

name_found : (k : List ℕ → Reader) (xs : List ℕ) (f : Frame) → IsBytes xs → name k xs ≡ Some f → TakenName k xs f
name_found k xs f are e =
    let b : TakenByte (name_of k) xs f = byte_found (name_of k) xs f are e in
    let h = tested (nat_le 1 b.value && nat_le b.value 31) (bytes b.value (λ bs. named k (name_read bs))) b.rest f
    b.next in
    let t : Taken (λ bs. named k (name_read bs)) b.value b.rest f =
    bytes_found b.value (λ bs. named k (name_read bs)) b.rest f b.rest_bytes h.1 in
    let q = named_found k t.front (name_read t.front) t.rest f refl t.next in
    record {
      value = t.front;
      rest = t.rest;
      parts = b.parts ∙ ap (λ a. b.value ∷ a) t.parts ∙ ap (λ n. n ∷ (t.front ++ t.rest)) (sym t.len);
      valid = q.0;
      rest_bytes = t.rest_bytes;
      next = q.1;
    }

-- ---- streams

next_in : (before : List NamedStream) (s : NamedStream) (ss : List NamedStream) → AreInOrder (before ++ s ∷ ss)
    → is_next before s.name ≡ true
next_in [] s ss h = refl
next_in (t ∷ []) s ss h = ap is_lt h.0.0
next_in (t ∷ u ∷ ts) s ss h = next_in (u ∷ ts) s ss h.1

abbrev pub Names : List NamedStream → Type 0
Names ss = AllByRecursion (λ (t : NamedStream). IsName t.name) ss

-- what is read behind a stream's name, and behind its bytes
abbrev behind_bytes : ℕ → List NamedStream → ℕ → (List NamedStream → ℕ → Reader) → List ℕ → List ℕ → Reader
behind_bytes left before room k n bs = more left (before ++ record { name = n; bytes = bs } ∷ []) (room - length bs) k

abbrev behind_name : ℕ → List NamedStream → ℕ → (List NamedStream → ℕ → Reader) → List ℕ → Reader
behind_name left before room k n = cond (may_follow before n) (blob room (behind_bytes left before room k n)) bad

pub more_again : (ss before : List NamedStream) (room : ℕ) (k : List NamedStream → ℕ → Reader) (rest : List ℕ)
    → Names ss → AreInOrder (before ++ ss) → has_ole_name ss ≡ false → total ss ≤ room → room < 2 ^ 32
    → more (length ss) before room k (streams ss ++ rest) ≡ k (before ++ ss) (room - total ss) rest
unfolding more
more_again [] before room k rest names order no_ole fits lt =
    let z : room ≡ room - 0 = omega arith in
    ap (λ b. k b room rest) (sym (append-nil before)) ∙ ap (λ r. k (before ++ []) r rest) z
more_again (s ∷ ss) before room k rest names order no_ole fits lt =
    let follows : may_follow before s.name ≡ true = both (is_next before s.name) (not (is_ole_name s.name))
    (next_in before s ss order) (ap not (or_first (is_ole_name s.name) (has_ole_name ss) no_ole)) in
    let after : List NamedStream = before ++ s ∷ [] in
    let order_after : AreInOrder (after ++ ss) = subst AreInOrder (sym (append_assoc before (s ∷ []) ss)) order in
    let left : ℕ = room - length s.bytes in
    ap (name (behind_name (length ss) before room k))
    (append_assoc (text s.name) (spelling.blob s.bytes ++ streams ss) rest
    ∙ ap (λ a. text s.name ++ a) (append_assoc (spelling.blob s.bytes) (streams ss) rest))
    ∙ name_again (behind_name (length ss) before room k) s.name (spelling.blob s.bytes ++ (streams ss ++ rest)) names.0
    ∙ ap (λ b. cond b (blob room (behind_bytes (length ss) before room k s.name)) bad
    (spelling.blob s.bytes ++ (streams ss ++ rest))) follows
    ∙ blob_again room (behind_bytes (length ss) before room k s.name) s.bytes (streams ss ++ rest) (omega arith) lt
    ∙ more_again ss after left k rest names.1 order_after (or_second (is_ole_name s.name) (has_ole_name ss) no_ole)
    (omega arith) (omega arith)
    ∙ ap (λ b. k b (left - total ss) rest) (append_assoc before (s ∷ []) ss)
    ∙ ap (λ r. k (before ++ s ∷ ss) r rest) (omega arith)

pub record TakenStreams (left : ℕ) (before : List NamedStream) (room : ℕ) (k : List NamedStream → ℕ → Reader)
    (xs : List ℕ) (f : Frame) : Type 0 where
  pub value : List NamedStream
  pub rest : List ℕ
  pub parts : xs ≡ streams value ++ rest
  pub count : length value ≡ left
  pub names : Names value
  pub order : AreInOrder (before ++ value)
  pub no_ole : has_ole_name value ≡ false
  pub fits : total value ≤ room
  pub rest_bytes : IsBytes rest
  pub next : k (before ++ value) (room - total value) rest ≡ Some f

pub more_found : (left : ℕ) (before : List NamedStream) (room : ℕ) (k : List NamedStream → ℕ → Reader) (xs : List ℕ)
    (f : Frame) → IsBytes xs → AreInOrder before → more left before room k xs ≡ Some f
    → TakenStreams left before room k xs f
unfolding more
more_found zero before room k xs f are order e =
    let z : room ≡ room - 0 = omega arith in
    record {
      value = [];
      rest = xs;
      parts = refl;
      count = refl;
      names = tt;
      order = subst AreInOrder (sym (append-nil before)) order;
      no_ole = refl;
      fits = omega arith;
      rest_bytes = are;
      next = ap (λ b. k b (room - 0) xs) (append-nil before) ∙ ap (λ r. k before r xs) (sym z) ∙ e;
    }
more_found (suc left) before room k xs f are order e =
    let n : TakenName (behind_name left before room k) xs f = name_found (behind_name left before room k) xs f are e in
    let h = tested (may_follow before n.value) (blob room (behind_bytes left before room k n.value)) n.rest f n.next in
    let b : TakenBlob room (behind_bytes left before room k n.value) n.rest f =
    blob_found room (behind_bytes left before room k n.value) n.rest f n.rest_bytes h.1 in
    let s : NamedStream = record { name = n.value; bytes = b.value } in
    let after : List NamedStream = before ++ s ∷ [] in
    let order_after : AreInOrder after = in_order-last before s order
    (first_of (is_next before n.value) (not (is_ole_name n.value)) h.0) in
    let t : TakenStreams left after (room - length b.value) k b.rest f =
    more_found left after (room - length b.value) k b.rest f b.rest_bytes order_after b.next in
    let short : length b.value ≤ room = b.short in
    let others : total t.value ≤ room - length b.value = t.fits in
    let less : (room - length b.value) - total t.value ≡ room - total (s ∷ t.value) = omega arith in
    record {
      value = s ∷ t.value;
      rest = t.rest;
      parts = n.parts ∙ ap (λ a. text n.value ++ a) (b.parts ∙ ap (λ a. spelling.blob b.value ++ a) t.parts)
          ∙ sym (append_assoc (text n.value) (spelling.blob b.value ++ streams t.value) t.rest
          ∙ ap (λ a. text n.value ++ a) (append_assoc (spelling.blob b.value) (streams t.value) t.rest));
      count = ap suc t.count;
      names = (n.valid, t.names);
      order = subst AreInOrder (append_assoc before (s ∷ []) t.value) t.order;
      no_ole = or_false (is_ole_name n.value) (has_ole_name t.value)
          (not_false (is_ole_name n.value) (second_of (is_next before n.value) (not (is_ole_name n.value)) h.0))
          t.no_ole;
      fits = omega arith;
      rest_bytes = t.rest_bytes;
      next = ap (λ r. k (before ++ s ∷ t.value) r t.rest) (sym less)
          ∙ ap (λ a. k a ((room - length b.value) - total t.value) t.rest)
          (sym (append_assoc before (s ∷ []) t.value)) ∙ t.next;
    }

-- ---- contents

pub stored_again : (k : Stored → Reader) (s : Stored) (rest : List ℕ) → IsContent s → is_within s ≡ true
    → stored k (spelling.stored s ++ rest) ≡ k s rest
stored_again k s rest is_content within =
    let few : nat_le (length s.streams) 8 ≡ true = first_of (nat_le (length s.streams) 8)
    (nat_le (total s.streams + length s.picture) 262144 && not (has_ole_name s.streams)) within in
    let others = second_of (nat_le (length s.streams) 8)
    (nat_le (total s.streams + length s.picture) 262144 && not (has_ole_name s.streams)) within in
    let room : total s.streams + length s.picture ≤ 262144 =
    le_told _ _ (first_of (nat_le (total s.streams + length s.picture) 262144) (not (has_ole_name s.streams))
    others) in
    let no_ole : has_ole_name s.streams ≡ false =
    not_false _ (second_of (nat_le (total s.streams + length s.picture) 262144) (not (has_ole_name s.streams))
    others) in
    ap (λ a. counted k (length s.streams) a) (append_assoc (streams s.streams) (spelling.blob s.picture) rest)
    ∙ ap (λ b. cond b (more (length s.streams) [] 262144 (pictured k)) bad
    (streams s.streams ++ (spelling.blob s.picture ++ rest))) few
    ∙ more_again s.streams [] 262144 (pictured k) (spelling.blob s.picture ++ rest) is_content.names
    is_content.order no_ole (omega arith) (lit< tt)
    ∙ blob_again (262144 - total s.streams) (λ bs. k (record { streams = s.streams; picture = bs })) s.picture rest
    (omega arith) (omega arith)

pub record TakenContent (k : Stored → Reader) (xs : List ℕ) (f : Frame) : Type 0 where
  pub value : Stored
  pub rest : List ℕ
  pub parts : xs ≡ spelling.stored value ++ rest
  pub is_content : IsContent value
  pub within : is_within value ≡ true
  pub rest_bytes : IsBytes rest
  pub next : k value rest ≡ Some f

pub stored_found : (k : Stored → Reader) (xs : List ℕ) (f : Frame) → IsBytes xs → stored k xs ≡ Some f
    → TakenContent k xs f
stored_found k xs f are e =
    let c : TakenByte (counted k) xs f = byte_found (counted k) xs f are e in
    let h = tested (nat_le c.value 8) (more c.value [] 262144 (pictured k)) c.rest f c.next in
    let t : TakenStreams c.value [] 262144 (pictured k) c.rest f =
    more_found c.value [] 262144 (pictured k) c.rest f c.rest_bytes tt h.1 in
    let p : TakenBlob (262144 - total t.value) (λ bs. k (record { streams = t.value; picture = bs })) t.rest f =
    blob_found (262144 - total t.value) (λ bs. k (record { streams = t.value; picture = bs })) t.rest f
    t.rest_bytes t.next in
    let room : total t.value ≤ 262144 = t.fits in
    let short : length p.value ≤ 262144 - total t.value = p.short in
    let few : nat_le (length t.value) 8 ≡ true = ap (λ n. nat_le n 8) t.count ∙ h.0 in
    record {
      value = record { streams = t.value; picture = p.value };
      rest = p.rest;
      parts = c.parts ∙ ap (λ n. n ∷ c.rest) (sym t.count) ∙ ap (λ a. length t.value ∷ a)
          (t.parts ∙ ap (λ a. streams t.value ++ a) p.parts
          ∙ sym (append_assoc (streams t.value) (spelling.blob p.value) p.rest));
      is_content = record { names = t.names; order = t.order };
      within = both _ _ few (both _ _ (le_passes (total t.value + length p.value) 262144 (omega arith))
          (ap not t.no_ole));
      rest_bytes = p.rest_bytes;
      next = p.next;
    }
