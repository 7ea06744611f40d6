-- Long streams, a piece at a time.
use Rattle.std.proofs.Common.{◌≡◌, ◌<◌, ◌≤◌, ◌+◌, ◌-◌, ◌*◌, ◌∙◌, ℕ, List, Option, [], ◌++◌, length, length-drop, take}
use Rattle.std.proofs.Common.{drop, min, sym, ap, subst, arith}
use Rattle.std.proofs.lemmas.List.{length-take, take_all}
use Rattle.cfb_header.specs.Bytes.{joined, sector}
use Rattle.write_parts.specs.Sends.{Sends}
use Rattle.write_parts.proofs.Sent.{sends_both, sends_into, sends_nothing}
use Rattle.read_streams.proofs.Buffers.{piece_more}

module _ (a ns : List ℕ) (size : ℕ) where
  abbrev pub sector_bytes : List ℕ
  sector_bytes = take size (joined (sector a) ns)

  -- nothing was sent
  pub none_sent : (w : Option (List ℕ)) (b : List ℕ) → Sends w w b b (take (65536 * 0) sector_bytes)
  none_sent w b = let e : 65536 * 0 ≡ 0 = omega arith in
      sends_nothing w b (take (65536 * 0) sector_bytes) (ap (λ n. take n sector_bytes) e)

  -- a piece more
  pub piece_sent : (x y z : Option (List ℕ)) (b c m d : List ℕ) (done many at : ℕ) → size ≤ 512 * length ns
      → 65536 * done < size → many ≡ min 65536 (size - 65536 * done) → at ≡ 128 * done
      → Sends x y b c (take (65536 * done) sector_bytes) → Sends y z c m []
      → d ≡ m ++ take many (joined (sector a) (take (length ns - at) (drop at ns)))
      → Sends x z b d (take (65536 * (done + 1)) sector_bytes)
  piece_sent x y z b c m d done many at enough lt em ea h r put =
      let piece : List ℕ = take many (joined (sector a) (drop (128 * done) ns)) in
      let rest : take (length ns - at) (drop at ns) ≡ drop (128 * done) ns =
      take_all (length ns - at) (drop at ns) (omega (arith, length-drop at ns)) ∙ ap (λ k. drop k ns) ea in
      let into : d ≡ m ++ piece = put ∙ ap (λ xs. m ++ take many (joined (sector a) xs)) rest in
      subst (Sends x z b d)
      (sym (piece_more a ns size done many (omega (arith, lt, enough)) (omega (arith, em, enough))))
      (sends_both x y z b c d (take (65536 * done) sector_bytes) piece h (sends_into y z c m d piece r into))

  -- all of them
  pub all_sent : (x y : Option (List ℕ)) (b c : List ℕ) (done : ℕ) → size ≤ 65536 * done
      → Sends x y b c (take (65536 * done) sector_bytes) → Sends x y b c sector_bytes
  all_sent x y b c done le h =
      subst (Sends x y b c) (take_all (65536 * done) sector_bytes
      (omega (arith, length-take size (joined (sector a) ns), le))) h
