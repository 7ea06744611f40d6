-- Buffers that are filled, a part at a time.
use Rattle.std.proofs.Common.{◌≡◌, ◌<◌, ◌≤◌, ◌+◌, ◌-◌, ◌*◌, ◌∙◌, ℕ, List, Option, [], ◌++◌, length, take, drop}
use Rattle.std.proofs.Common.{replicate, get_or, min, sym, ap, subst, arith}
use Rattle.std.proofs.lemmas.List.{append-nil, drop_all, get_or-drop, get_or-take, length-append, length-drop}
use Rattle.std.proofs.lemmas.List.{length-take, length-take-le, take_all, take_min}
use Rattle.std.proofs.lemmas.Slice.{take-put_mid}
use Rattle.std.proofs.KnownBytes.{Appends-trans}
use Rattle.std.proofs.Math.Seq.{drop-append_seam}
use Rattle.std.specs.Io.KnownBytes.{Appends}
use borrow.Rule.Slice.PartMut.{post_of, put_mid, same_len_mid}
use Rattle.cfb_bytes.specs.Bytes.{block}
use Rattle.cfb_header.specs.Bytes.{joined, sector}
use Rattle.cfb_chains.proofs.Blocks.{length_block, length_joined}
use Rattle.read_streams.proofs.Filled.{block_front, filled_by, run_block}
use Rattle.read_streams.proofs.Joined.{both_cut, drop_cut, joined_cut, joined_dropped, take_plus}

-- the front was read, and what is behind it was cleared
pub filled_end : (a old zs buffer : List ℕ) (at there : ℕ) → there ≡ min (length a - at) (length old)
    → buffer ≡ take (length (take there (put_mid there (length old - there) old zs))) (drop at a)
    → zs ≡ replicate (length old - there) 0
    → buffer ++ drop there (put_mid there (length old - there) old zs) ≡ block (length old) a at
filled_end a old zs buffer at there is eb ez =
    let front : length (take there old) ≡ there = length-take-le there old (omega (arith, is)) in
    let rest : List ℕ = zs ++ post_of there (length old - there) old in
    let em : length (take there (take there old ++ rest)) ≡ there =
    length-take-le there (take there old ++ rest) (omega (arith, front, length-append (take there old) rest)) in
    let none : post_of there (length old - there) old ≡ [] = drop_all (length old - there) (drop there old)
    (omega (arith, length-drop there old)) in
    let behind : drop there (put_mid there (length old - there) old zs) ≡ zs =
    ap (λ k. drop k (put_mid there (length old - there) old zs)) (sym front)
    ∙ drop-append_seam (take there old) (zs ++ post_of there (length old - there) old)
    ∙ ap (λ ys. zs ++ ys) none ∙ append-nil zs in
    (λ i. eb i ++ behind i) ∙ (λ i. take (em i) (drop at a) ++ ez i) ∙ filled_by a (length old) at there is

-- a part that is as long as what it takes the place of
pub same_long : (start many : ℕ) (old part : List ℕ) → length part ≡ length (take many (drop start old))
    → length (put_mid start many old part) ≡ length old
same_long start many old part h = same_len_mid start many old part h

wide : (a : List ℕ) (n : ℕ) → length (sector a n) ≡ 512
wide a n = length_block 512 a (512 + 512 * n)

-- more sectors were read, which stand one after another
pub more_filled : (a ns old part : List ℕ) (done count start end : ℕ) → start ≡ 512 * done → start < length old
    → end ≡ min (512 * (done + count)) (length old)
    → done + count ≤ length ns
    → ((k : ℕ) → k < count → get_or ns (done + k) 0 ≡ get_or ns done 0 + k)
    → part ≡ block (length (take (end - start) (drop start old))) a (512 * (get_or ns done 0 + 1))
    → take (512 * done) old ≡ take (min (512 * done) (length old)) (joined (sector a) ns)
    → take (512 * (done + count)) (put_mid start (end - start) old part)
    ≡ take (min (512 * (done + count)) (length (put_mid start (end - start) old part))) (joined (sector a) ns)
more_filled a ns old part done count start end es ls ee room turn eq inv =
    let all : List ℕ = joined (sector a) ns in
    let new : List ℕ = put_mid start (end - start) old part in
    let first : ℕ = get_or ns done 0 in
    let run : List ℕ = take count (drop done ns) in
    let k : ℕ = 512 * (done + count) in
    let after : start ≤ end = omega (arith, es, ls, ee) in
    let within : end ≤ length old = omega (arith, ee) in
    let lent : length (take (end - start) (drop start old)) ≡ end - start =
    length-take-le (end - start) (drop start old) (omega (arith, length-drop start old, within)) in
    let ep : part ≡ block (end - start) a (512 * (first + 1)) = eq ∙ ap (λ n. block n a (512 * (first + 1))) lent in
    let size : length part ≡ end - start = ap length ep ∙ length_block (end - start) a (512 * (first + 1)) in
    let long : length new ≡ length old = same_len_mid start (end - start) old part (size ∙ sym lent) in
    let cut : min (512 * (done + count)) (length new) ≡ end = omega (arith, ee, long) in
    let mine : take (512 * (done + count)) new ≡ take start old ++ part =
    sym (take_min (512 * (done + count)) new) ∙ ap (λ n. take n new) cut
    ∙ take-put_mid start (end - start) old part end (omega (arith, size, after)) (omega (arith, ls)) in
    let front : take start old ≡ take start all =
    ap (λ n. take n old) es ∙ inv ∙ ap (λ n. take n all) (omega (arith, es, ls)) in
    let left : length (drop done ns) ≡ length ns - done = length-drop done ns in
    let counted : length run ≡ count = length-take-le count (drop done ns) (omega (arith, left, room)) in
    let in_turn : (j : ℕ) → j < length run → get_or run j 0 ≡ first + j =
    λ j lt. let lj : j < count = omega (arith, lt, counted) in get_or-take count (drop done ns) j 0 lj
    ∙ get_or-drop done ns j 0 ∙ turn j lj in
    let read : part ≡ take (end - start) (joined (sector a) run) =
    ep ∙ sym (block_front (end - start) (512 * length run) a (512 * (first + 1)) (omega (arith, ee, es, counted)))
    ∙ ap (take (end - start)) (sym (run_block a first run in_turn)) in
    let back : take (end - start) (drop start all) ≡ take (end - start) (joined (sector a) run) =
    ap (λ n. take (end - start) (drop n all)) es
    ∙ ap (take (end - start)) (joined_dropped 512 (sector a) (wide a) done ns (omega (arith, room)))
    ∙ joined_cut 512 (sector a) (wide a) (end - start) count (drop done ns) (omega (arith, left, room))
    (omega (arith, ee, es)) in
    let whole : start + (end - start) ≡ min (512 * (done + count)) (length new) = omega (arith, after, ee, long) in
    mine ∙ (λ i. front i ++ read i) ∙ ap (λ ys. take start all ++ ys) (sym back)
    ∙ sym (take_plus start (end - start) all) ∙ ap (λ n. take n all) whole

-- a piece more of the first bytes of sectors
pub piece_more : (a ns : List ℕ) (size done many : ℕ) → 65536 * done < min size (512 * length ns)
    → many ≡ min 65536 (min size (512 * length ns) - 65536 * done)
    → take (65536 * (done + 1)) (take size (joined (sector a) ns))
    ≡ take (65536 * done) (take size (joined (sector a) ns))
    ++ take many (joined (sector a) (drop (128 * done) ns))
piece_more a ns size done many lt em =
    let all : List ℕ = joined (sector a) ns in
    let t : List ℕ = take size all in
    let rest : List ℕ = joined (sector a) (drop (128 * done) ns) in
    let long : length rest ≡ 512 * length (drop (128 * done) ns) =
    length_joined (sector a) 512 (drop (128 * done) ns) (wide a) in
    let left : length (drop (128 * done) ns) ≡ length ns - 128 * done = length-drop (128 * done) ns in
    let e : 65536 * (done + 1) ≡ 65536 * done + 65536 = omega arith in
    let at : 65536 * done ≡ 512 * (128 * done) = omega arith in
    let behind : drop (65536 * done) t ≡ take (size - 65536 * done) rest =
    drop_cut (65536 * done) size all
    ∙ ap (λ n. take (size - 65536 * done) (drop n all)) at
    ∙ ap (take (size - 65536 * done)) (joined_dropped 512 (sector a) (wide a) (128 * done) ns (omega (arith, lt))) in
    let n : ℕ = min 65536 (size - 65536 * done) in
    let cut : min n (length rest) ≡ many = omega (arith, em, lt, long, left) in
    let piece : take 65536 (take (size - 65536 * done) rest) ≡ take many rest =
    both_cut 65536 (size - 65536 * done) rest ∙ sym (take_min n rest) ∙ ap (λ k. take k rest) cut in
    ap (λ k. take k t) e ∙ take_plus (65536 * done) 65536 t ∙ ap (λ ys. take (65536 * done) t ++ ys)
    (ap (take 65536) behind ∙ piece)

pub copied_more : (x y z : Option (List ℕ)) (a ns buffer : List ℕ) (size done many at : ℕ) → length buffer ≡ 65536
    → at ≡ 128 * done
    → 65536 * done < min size (512 * length ns) → many ≡ min 65536 (min size (512 * length ns) - 65536 * done)
    → Appends x y (take (65536 * done) (take size (joined (sector a) ns)))
    → Appends y z (take (length (take many buffer)) (joined (sector a) (take (length ns - at) (drop at ns))))
    → Appends x z (take (65536 * (done + 1)) (take size (joined (sector a) ns)))
copied_more x y z a ns buffer size done many at long ea lt em h r =
    let f : ℕ → List ℕ = sector a in
    let lent : length (take many buffer) ≡ many = length-take-le many buffer (omega (arith, long, em)) in
    let rest : take (length ns - at) (drop at ns) ≡ drop (128 * done) ns =
    take_all (length ns - at) (drop at ns) (omega (arith, length-drop at ns)) ∙ ap (λ k. drop k ns) ea in
    let same : take (length (take many buffer)) (joined (sector a) (take (length ns - at) (drop at ns)))
    ≡ take many (joined (sector a) (drop (128 * done) ns)) =
    λ i. take (lent i) (joined (sector a) (rest i)) in
    subst (Appends x z) (sym (piece_more a ns size done many lt em))
    (Appends-trans x y z (take (65536 * done) (take size (joined (sector a) ns)))
    (take many (joined (sector a) (drop (128 * done) ns))) h (subst (Appends y z) same r))

pub copied_all : (x y : Option (List ℕ)) (a ns : List ℕ) (size done : ℕ) → min size (512 * length ns) ≤ 65536 * done
    → Appends x y (take (65536 * done) (take size (joined (sector a) ns)))
    → Appends x y (take size (joined (sector a) ns))
copied_all x y a ns size done le h =
    let all : List ℕ = joined (sector a) ns in
    let long : length all ≡ 512 * length ns = length_joined (sector a) 512 ns (wide a) in
    subst (Appends x y) (take_all (65536 * done) (take size all) (omega (arith, length-take size all, long, le))) h
