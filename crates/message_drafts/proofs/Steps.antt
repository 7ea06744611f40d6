-- What is read of a body before a step and after it.
use Rattle.std.proofs.Common.{◌≡◌, ℕ, zero, suc, ◌-◌, ◌+◌, ◌<◌, ◌≤◌, Bool, true, false, cond, List, [], ◌∷◌, ◌++◌}
use Rattle.std.proofs.Common.{length, take, drop, Some, None, refl, sym, ap, subst, ◌∙◌, append_assoc, arith}
use Rattle.std.proofs.lemmas.List.{append-nil, length-take}
use Rattle.tree_streams.specs.declared.streams.NamedStream.{NamedStream}
use Rattle.message_model.specs.Frames.{number_in}
use Rattle.message_model.specs.Reading.{Reader, bad, blob, may_follow, more, name, sized, whole}
use Rattle.message_drafts.specs.declared.draft.Opening.{Opening}
use Rattle.message_drafts.specs.declared.draft.Phase.TheVariants.{Fields, Picture, Bad}
use Rattle.message_drafts.specs.Drafts.{IsStreamField, frame_of, last, lengthened, longer, read_on}
use Rattle.message_drafts.proofs.Streams.{lengthened_nil, lengthened_last, lengthened_more}
use Rattle.message_drafts.proofs.Plans.{blob_begun, sized_above, sized_short, sized_there, take_over, drop_over}

pub on_stream : (l r m : ℕ) (o : Opening) (ss : List NamedStream) (pic x ys : List ℕ) → length x ≤ m
    → read_on Fields l r m [] o ss pic (x ++ ys) ≡ read_on Fields l r (m - length x) [] o (lengthened ss x) pic ys
on_stream l r m o ss pic x ys le =
    ap (λ (t : List ℕ). more l (lengthened ss t) r (last o) (drop m (x ++ ys))) (take_over x ys m le)
    ∙ ap (λ (t : List ℕ). more l (lengthened ss (x ++ take (m - length x) ys)) r (last o) t) (drop_over x ys m le)
    ∙ ap (λ (t : List NamedStream). more l t r (last o) (drop (m - length x) ys))
    (sym (lengthened_more ss x (take (m - length x) ys)))

pub on_picture : (l r m : ℕ) (h : List ℕ) (o : Opening) (ss : List NamedStream) (pic x ys : List ℕ) → length x ≤ m
    → read_on Picture l r m h o ss pic (x ++ ys) ≡ read_on Picture l r (m - length x) h o ss (pic ++ x) ys
on_picture l r m h o ss pic x ys le =
    ap (λ (t : List ℕ). whole (frame_of o ss (pic ++ t)) (drop m (x ++ ys))) (take_over x ys m le)
    ∙ ap (λ (t : List ℕ). whole (frame_of o ss (pic ++ (x ++ take (m - length x) ys))) t) (drop_over x ys m le)
    ∙ ap (λ (t : List ℕ). whole (frame_of o ss t) (drop (m - length x) ys))
    (sym (append_assoc pic x (take (m - length x) ys)))

pub on_held : (l r : ℕ) (h : List ℕ) (o : Opening) (ss : List NamedStream) (pic x ys : List ℕ)
    → read_on Fields l r 0 h o ss pic (x ++ ys) ≡ read_on Fields l r 0 (h ++ x) o ss pic ys
on_held l r h o ss pic x ys = ap (λ (t : List ℕ). more l (lengthened ss []) r (last o) t) (sym (append_assoc h x ys))

-- bytes behind the last one that a frame has
pub on_more : (l r : ℕ) (h : List ℕ) (o : Opening) (ss : List NamedStream) (pic x ys : List ℕ) → 0 < length x
    → read_on Picture l r 0 h o ss pic (x ++ ys) ≡ None
on_more l r h o ss pic [] ys some = absurd (omega arith)
on_more l r h o ss pic (b ∷ x) ys some = refl

-- ---- the picture's length

picture_sized : (r : ℕ) (o : Opening) (ss : List NamedStream) (cells ys : List ℕ) → length cells ≡ 4
    → read_on Fields 0 r 0 cells o ss [] ys ≡ sized r (λ bs. whole (frame_of o ss bs)) (number_in cells) ys
unfolding more
picture_sized r o ss cells ys four =
    ap (λ (t : List NamedStream). blob r (λ bs. whole (frame_of o t bs)) (cells ++ ys)) (lengthened_nil ss)
    ∙ blob_begun r (λ bs. whole (frame_of o ss bs)) cells ys four

pub picture_begun : (l r n : ℕ) (h : List ℕ) (o : Opening) (ss : List NamedStream) (cells ys : List ℕ)
    → length cells ≡ 4 → number_in cells ≡ n → n ≤ r → n ≤ length ys
    → read_on Fields 0 r 0 cells o ss [] ys ≡ read_on Picture l r n h o ss [] ys
picture_begun l r n h o ss cells ys four is le there =
    picture_sized r o ss cells ys four
    ∙ ap (λ (m : ℕ). sized r (λ bs. whole (frame_of o ss bs)) m ys) is
    ∙ sized_there r n (λ bs. whole (frame_of o ss bs)) ys le there

pub picture_above : (r n : ℕ) (o : Opening) (ss : List NamedStream) (cells ys : List ℕ) → length cells ≡ 4
    → number_in cells ≡ n → r < n → read_on Fields 0 r 0 cells o ss [] ys ≡ None
picture_above r n o ss cells ys four is above =
    picture_sized r o ss cells ys four
    ∙ ap (λ (m : ℕ). sized r (λ bs. whole (frame_of o ss bs)) m ys) is
    ∙ sized_above r n (λ bs. whole (frame_of o ss bs)) ys above

pub picture_short : (r n : ℕ) (o : Opening) (ss : List NamedStream) (cells ys : List ℕ) → length cells ≡ 4
    → number_in cells ≡ n → length ys < n → read_on Fields 0 r 0 cells o ss [] ys ≡ None
picture_short r n o ss cells ys four is short =
    picture_sized r o ss cells ys four
    ∙ ap (λ (m : ℕ). sized r (λ bs. whole (frame_of o ss bs)) m ys) is
    ∙ sized_short r n (λ bs. whole (frame_of o ss bs)) ys short

-- ---- a stream's name and length

abbrev behind : ℕ → List NamedStream → ℕ → Opening → List ℕ → List ℕ → Reader
behind l ss r o m bs = more l (ss ++ record { name = m; bytes = bs } ∷ []) (r - length bs) (last o)

named_stream : (l r : ℕ) (o : Opening) (ss : List NamedStream) (held ys : List ℕ)
    → read_on Fields (suc l) r 0 held o ss [] ys
    ≡ name (λ m. cond (may_follow ss m) (blob r (behind l ss r o m)) bad) (held ++ ys)
unfolding more
named_stream l r o ss held ys =
    ap (λ (t : List NamedStream). name (λ m. cond (may_follow t m) (blob r (behind l t r o m)) bad) (held ++ ys))
    (lengthened_nil ss)

pub stream_none : (l r n : ℕ) (o : Opening) (ss : List NamedStream) (rest ys : List ℕ) → IsStreamField None n rest
    → read_on Fields (suc l) r 0 (n ∷ rest) o ss [] ys ≡ None
stream_none l r n o ss rest ys none = named_stream l r o ss (n ∷ rest) ys
    ∙ none (λ m. cond (may_follow ss m) (blob r (behind l ss r o m)) bad) ys

stream_sized : (l r n : ℕ) (o : Opening) (ss : List NamedStream) (rest ys nm : List ℕ) (len : ℕ)
    → IsStreamField (Some (nm, len)) n rest
    → read_on Fields (suc l) r 0 (n ∷ rest) o ss [] ys ≡ cond (may_follow ss nm) (sized r (behind l ss r o nm) len)
    bad ys
stream_sized l r n o ss rest ys nm len field = named_stream l r o ss (n ∷ rest) ys
    ∙ field (may_follow ss) r (behind l ss r o) ys

pub stream_unfit : (l r n : ℕ) (o : Opening) (ss : List NamedStream) (rest ys nm : List ℕ) (len : ℕ)
    → IsStreamField (Some (nm, len)) n rest → may_follow ss nm ≡ false
    → read_on Fields (suc l) r 0 (n ∷ rest) o ss [] ys ≡ None
stream_unfit l r n o ss rest ys nm len field unfit = stream_sized l r n o ss rest ys nm len field
    ∙ ap (λ (b : Bool). cond b (sized r (behind l ss r o nm) len) bad ys) unfit

cond_none : (b : Bool) (x : Reader) (ys : List ℕ) → x ys ≡ None → cond b x bad ys ≡ None
cond_none true x ys h = h
cond_none false x ys h = refl

pub stream_above : (l r n : ℕ) (o : Opening) (ss : List NamedStream) (rest ys nm : List ℕ) (len : ℕ)
    → IsStreamField (Some (nm, len)) n rest → r < len
    → read_on Fields (suc l) r 0 (n ∷ rest) o ss [] ys ≡ None
stream_above l r n o ss rest ys nm len field above =
    stream_sized l r n o ss rest ys nm len field ∙ cond_none (may_follow ss nm) (sized r (behind l ss r o nm) len)
    ys (sized_above r len (behind l ss r o nm) ys above)

pub stream_short : (l r n : ℕ) (o : Opening) (ss : List NamedStream) (rest ys nm : List ℕ) (len : ℕ)
    → IsStreamField (Some (nm, len)) n rest → length ys < len
    → read_on Fields (suc l) r 0 (n ∷ rest) o ss [] ys ≡ None
stream_short l r n o ss rest ys nm len field short =
    stream_sized l r n o ss rest ys nm len field ∙ cond_none (may_follow ss nm) (sized r (behind l ss r o nm) len)
    ys (sized_short r len (behind l ss r o nm) ys short)

pub stream_begun : (l r n : ℕ) (o : Opening) (ss : List NamedStream) (rest ys nm : List ℕ) (len : ℕ)
    → IsStreamField (Some (nm, len)) n rest → may_follow ss nm ≡ true → len ≤ r → len ≤ length ys
    → read_on Fields (suc l) r 0 (n ∷ rest) o ss [] ys ≡ read_on Fields l (r - len) len [] o
    (ss ++ record { name = nm; bytes = [] } ∷ []) [] ys
stream_begun l r n o ss rest ys nm len field follows le there =
    let size : length (take len ys) ≡ len = omega (arith, length-take len ys) in
    let grown : lengthened (ss ++ record { name = nm; bytes = [] } ∷ []) (take len ys)
    ≡ ss ++ record { name = nm; bytes = take len ys } ∷ [] =
    lengthened_last ss (record { name = nm; bytes = [] }) (take len ys) in
    stream_sized l r n o ss rest ys nm len field
    ∙ ap (λ (b : Bool). cond b (sized r (behind l ss r o nm) len) bad ys) follows
    ∙ sized_there r len (behind l ss r o nm) ys le there
    ∙ ap (λ (k : ℕ). more l (ss ++ record { name = nm; bytes = take len ys } ∷ []) (r - k) (last o) (drop len ys)) size
    ∙ ap (λ (t : List NamedStream). more l t (r - len) (last o) (drop len ys)) (sym grown)
