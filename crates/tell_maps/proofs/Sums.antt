-- Counts and sums.
use Rattle.std.proofs.Common.{◌≡◌, ◌<◌, ◌≤◌, ◌+◌, ◌-◌, ◌*◌, ◌^◌, ◌++◌, ◌∙◌, ℕ, Bool, true, false, cond}
use Rattle.std.proofs.Common.{List, [], ◌∷◌, length, get_or, set, drop, min, nat_eq, refl, sym, ap, subst, arith}
use Rattle.std.proofs.lemmas.Bool.{eqb-false, eqb-true}
use Rattle.std.proofs.lemmas.List.{drop_all, drop_more, get_or-set_other, get_or-set_same}
use Rattle.cfb_file.specs.Outline as model
use Rattle.cfb_file.specs.Outline.{Parts, nested, part, sized}
use Rattle.read_outlines.specs.View.{outline_step, outline_view, part_step, part_view, parts_view}
use Rattle.read_outlines.specs.declared.outline.Outline as raw
use Rattle.read_outlines.specs.declared.outline.Outline.{fold_out-Outline}
use Rattle.read_outlines.specs.declared.outline.Part.{Part}
use Rattle.std.specs.Prelude.{codes}
use Rattle.tell_maps.specs.Maps.{BEYOND, FREE, LAST, MINI_STREAM, STREAM, behind, count_of, legend, map_text, said}
use Rattle.tell_maps.specs.Maps.{sizes, sizes_of, table}
use Rattle.tell_maps.specs.Sizes.{MOST, part_size}

-- ---- counts
pub count_step : (mark : ℕ) (cs : List ℕ) (i count x one : ℕ) → i < length cs → x ≡ get_or cs i 0
    → one ≡ cond (nat_eq x mark) 1 0 → count + count_of mark (drop i cs) ≡ count_of mark cs
    → (count + one) + count_of mark (drop (i + 1) cs) ≡ count_of mark cs
count_step mark cs i count x one some at is h =
    let cut : drop i cs ≡ x ∷ drop (i + 1) cs = drop_more cs i 0 some ∙ ap (λ y. y ∷ drop (i + 1) cs) (sym at) in
    let e : count_of mark (drop i cs) ≡ one + count_of mark (drop (i + 1) cs) = ap (count_of mark) cut
    ∙ ap (λ z. z + count_of mark (drop (i + 1) cs)) (sym is) in
    omega (arith, e, h)

pub count_end : (mark : ℕ) (cs : List ℕ) (i count : ℕ) → length cs ≤ i → count + count_of mark (drop i cs)
    ≡ count_of mark cs → count ≡ count_of mark cs
count_end mark cs i count all h =
    let e : count_of mark (drop i cs) ≡ 0 = ap (count_of mark) (drop_all i cs all) in
    omega (arith, e, h)

few_one : (b : Bool) → cond b 1 0 ≤ 1
few_one true = omega arith
few_one false = omega arith

pub count_few : (mark : ℕ) (cs : List ℕ) → count_of mark cs ≤ length cs
count_few mark [] = omega arith
count_few mark (x ∷ xs) =
    let a : count_of mark xs ≤ length xs = count_few mark xs in
    let b : cond (nat_eq x mark) 1 0 ≤ 1 = few_one (nat_eq x mark) in
    omega (arith, a, b)

-- one sector more, counted by its character
tally_by : (counts cs : List ℕ) (i x c : ℕ) (b : Bool) → nat_eq x c ≡ b → c < length counts → i < length cs
    → x ≡ get_or cs i 0
    → get_or counts c 0 ≤ i → get_or counts c 0 + count_of c (drop i cs) ≡ count_of c cs
    → (get_or (set counts x (get_or counts x 0 + 1)) c 0 ≤ i + 1)
    × (get_or (set counts x (get_or counts x 0 + 1)) c 0 + count_of c (drop (i + 1) cs) ≡ count_of c cs)
tally_by counts cs i x c true is lt some at few h =
    let same : x ≡ c = eqb-true x c is in
    let e : get_or (set counts x (get_or counts x 0 + 1)) c 0 ≡ get_or counts c 0 + 1 =
    ap (λ n. get_or (set counts n (get_or counts n 0 + 1)) c 0) same
    ∙ get_or-set_same counts c (get_or counts c 0 + 1) 0 lt in
    let one : 1 ≡ cond (nat_eq x c) 1 0 = ap (λ b. cond b 1 0) (sym is) in (
      omega (arith, e, few),
      ap (λ n. n + count_of c (drop (i + 1) cs)) e
          ∙ count_step c cs i (get_or counts c 0) x 1 some at one h,
    )
tally_by counts cs i x c false is lt some at few h =
    let e : get_or (set counts x (get_or counts x 0 + 1)) c 0 ≡ get_or counts c 0 =
    get_or-set_other counts x c (get_or counts x 0 + 1) 0 (λ z. eqb-false x c is (sym z)) in
    let none : 0 ≡ cond (nat_eq x c) 1 0 = ap (λ b. cond b 1 0) (sym is) in
    let whole : get_or counts c 0 + 0 + count_of c (drop (i + 1) cs) ≡ count_of c cs =
    count_step c cs i (get_or counts c 0) x 0 some at none h in
    (omega (arith, e, few), omega (arith, e, whole))

pub tallied : (counts cs : List ℕ) (i x c : ℕ) → c < length counts → i < length cs → x ≡ get_or cs i 0
    → get_or counts c 0 ≤ i → get_or counts c 0 + count_of c (drop i cs) ≡ count_of c cs
    → (get_or (set counts x (get_or counts x 0 + 1)) c 0 ≤ i + 1)
    × (get_or (set counts x (get_or counts x 0 + 1)) c 0 + count_of c (drop (i + 1) cs) ≡ count_of c cs)
tallied counts cs i x c lt some at few h = tally_by counts cs i x c (nat_eq x c) refl lt some at few h

-- no sector has two characters
three_at : (x : ℕ) (a b d : Bool) → nat_eq x STREAM ≡ a → nat_eq x LAST ≡ b → nat_eq x MINI_STREAM ≡ d
    → cond a 1 0 + cond b 1 0 + cond d 1 0 ≤ 1
three_at x false false true p q r = omega arith
three_at x false false false p q r = omega arith
three_at x false true false p q r = omega arith
three_at x true false false p q r = omega arith
three_at x true true d p q r = absurd (let e : x ≡ 115 = eqb-true x 115 p in let f : x ≡ 101 = eqb-true x 101 q in
    omega (arith, e, f))
three_at x true false true p q r = absurd (let e : x ≡ 115 = eqb-true x 115 p in
    let f : x ≡ 109 = eqb-true x 109 r in omega (arith, e, f))
three_at x false true true p q r = absurd (let e : x ≡ 101 = eqb-true x 101 q in
    let f : x ≡ 109 = eqb-true x 109 r in omega (arith, e, f))

pub three_few : (cs : List ℕ) → count_of STREAM cs + count_of LAST cs + count_of MINI_STREAM cs ≤ length cs
three_few [] = omega arith
three_few (x ∷ xs) =
    let a : count_of STREAM xs + count_of LAST xs + count_of MINI_STREAM xs ≤ length xs = three_few xs in
    let b : cond (nat_eq x STREAM) 1 0 + cond (nat_eq x LAST) 1 0 + cond (nat_eq x MINI_STREAM) 1 0 ≤ 1 =
    three_at x (nat_eq x STREAM) (nat_eq x LAST) (nat_eq x MINI_STREAM) refl refl refl in
    omega (arith, a, b)

-- ---- the bytes of streams
saturated : (most total size more new rest : ℕ) → size ≡ min most more → new ≡ min most (total + size)
    → min most (new + rest) ≡ min most (total + (more + rest))
saturated most total size more new rest e f = omega (arith, e, f)

each_size : (name : List ℕ) (q : model.Part) (ps : Parts) → sizes_of (part name q ps) ≡ part_size q + sizes_of ps
each_size name (sized size) ps = refl
each_size name (nested o) ps = refl

pub sized_step : (items parts : List (List ℕ × Part)) (k : ℕ) (p : List ℕ × Part) (total size new whole : ℕ)
    → items ≡ parts → k < length items → get_or items k p ≡ p
    → size ≡ min MOST (part_size (part_view p.1)) → new ≡ min MOST (total + size)
    → min MOST (total + sizes_of (parts_view (drop k parts))) ≡ whole
    → min MOST (new + sizes_of (parts_view (drop (k + 1) parts))) ≡ whole
sized_step items parts k p total size new whole same some here is then h =
    let cut : drop k items ≡ p ∷ drop (k + 1) items = drop_more items k p some
    ∙ ap (λ x. x ∷ drop (k + 1) items) here in
    let cut' : drop k parts ≡ p ∷ drop (k + 1) parts =
    subst (λ (xs : List (List ℕ × Part)). drop k xs ≡ p ∷ drop (k + 1) xs) same cut in
    saturated MOST total size (part_size (part_view p.1)) new (sizes_of (parts_view (drop (k + 1) parts))) is then
    ∙ ap (λ n. min MOST (total + n)) (sym (each_size p.0 (part_view p.1) (parts_view (drop (k + 1) parts))))
    ∙ ap (λ xs. min MOST (total + sizes_of (parts_view xs))) (sym cut')
    ∙ h

pub sized_out : (o : raw.Outline) → sizes (outline_view o) ≡ sizes_of (parts_view o.parts.items)
sized_out o = ap sizes (fold_out-Outline model.Part model.Outline part_step outline_step o)

least : (most n : ℕ) → n ≤ most → min most (n + 0) ≡ n
least most n le = omega (arith, le)

pub sized_end : (o : raw.Outline) (k total : ℕ) (items : List (List ℕ × Part)) → items ≡ o.parts.items
    → length items ≤ k → total ≤ MOST
    → min MOST (total + sizes_of (parts_view (drop k o.parts.items)))
    ≡ min MOST (sizes_of (parts_view o.parts.items)) → total ≡ min MOST (sizes (outline_view o))
sized_end o k total items same all le h =
    let none : drop k o.parts.items ≡ [] = drop_all k o.parts.items
    (subst (λ (xs : List (List ℕ × Part)). length xs ≤ k) same all) in
    sym (least MOST total le) ∙ ap (λ xs. min MOST (total + sizes_of (parts_view xs))) (sym none) ∙ h
    ∙ ap (min MOST) (sym (sized_out o))

-- ---- what is behind the ends of streams, where no more can be than is counted to
least_behind : (most k n : ℕ) → 512 * k ≤ most → 512 * k - min most n ≡ 512 * k - n
least_behind most k n le = omega (arith, le)

pub behind_same : (cs : List ℕ) (n : ℕ) → length cs < 2 ^ 55 → behind cs (min MOST n) ≡ behind cs n
behind_same cs n few =
    let a : count_of STREAM cs + count_of LAST cs + count_of MINI_STREAM cs ≤ length cs = three_few cs in
    least_behind MOST (count_of STREAM cs + count_of LAST cs + count_of MINI_STREAM cs) n (omega (arith, a, few))

-- the text of a map by the sum as it was counted
abbrev text_with : List ℕ → ℕ → List ℕ
text_with cs n = table cs
    ++ (legend cs ++ (said (codes "bytes free ") (512 * count_of FREE cs)
    ++ (said (codes ", behind the ends of streams ") n
    ++ (said (codes ", past the FAT ") (512 * count_of BEYOND cs) ++ 10 ∷ []))))

pub told : (cs seen text : List ℕ) (n bytes : ℕ) → text ≡ map_text seen bytes → seen ≡ cs → bytes ≡ min MOST n
    → length seen < 2 ^ 55 → text ≡ map_text cs n
told cs seen text n bytes is same sum few =
    is ∙ ap (map_text seen) sum ∙ ap (text_with seen) (behind_same seen n few) ∙ ap (λ xs. map_text xs n) same
