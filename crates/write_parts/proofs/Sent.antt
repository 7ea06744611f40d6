-- What goes on its way to a writer, piece by piece.
use Rattle.std.proofs.Common.{◌≡◌, ◌≤◌, ◌*◌, ◌∙◌, ℕ, List, Option, [], ◌∷◌, ◌++◌, ap, append_assoc, arith, drop}
use Rattle.std.proofs.Common.{drop_of_length-le, length, refl, subst, sym}
use Rattle.std.proofs.lemmas.List.{append-nil}
use Rattle.std.proofs.KnownBytes.{Appends-nil, Appends-trans}
use Rattle.std.specs.Io.KnownBytes.{Appends}
use Rattle.std.specs.List.{sum}
use Rattle.cfb_entries.specs.Tree.{Tree}
use Rattle.cfb_file.specs.Need.{long_sectors, mini_sectors}
use Rattle.cfb_layout.specs.Directory.{long_streams, short_streams}
use Rattle.cfb_layout.specs.Image.{pieces_of, whole_pieces}
use Rattle.cfb_layout.proofs.ContentsNext.{longs-sum, shorts-sum}
use Rattle.cfb_layout.proofs.ContentsPieces.{length-whole, width-512, width-64}
use Rattle.cfb_layout.proofs.Tables.{numbers_bytes}
use Rattle.write_parts.specs.Sends.{Sends}

-- nothing went
pub sends_none : (w : Option (List ℕ)) (b : List ℕ) → Sends w w b b []
sends_none w b = record { gone = []; written = Appends-nil w; all = sym (append-nil b) }

pub sends_nothing : (w : Option (List ℕ)) (b x : List ℕ) → x ≡ [] → Sends w w b b x
sends_nothing w b x e = subst (λ (zs : List ℕ). Sends w w b b zs) (sym e) (sends_none w b)

-- bytes wait behind the others
pub sends_wait : (w : Option (List ℕ)) (b c x : List ℕ) → c ≡ b ++ x → Sends w w b c x
sends_wait w b c x e = record { gone = []; written = Appends-nil w; all = e }

-- what waited was written, and the bytes behind it
pub sends_through : (w v u : Option (List ℕ)) (b c x : List ℕ) → c ≡ [] → Appends w v b → Appends v u x
    → Sends w u b c x
sends_through w v u b c x none h k = record {
  gone = b ++ x;
  written = Appends-trans w v u b x h k;
  all = ap (λ zs. (b ++ x) ++ zs) none ∙ append-nil (b ++ x);
}

-- room was made, and bytes wait there
pub sends_into : (w v : Option (List ℕ)) (b c d x : List ℕ) → Sends w v b c [] → d ≡ c ++ x → Sends w v b d x
sends_into w v b c d x h e = record {
  gone = h.gone;
  written = h.written;
  all = ap (λ zs. h.gone ++ zs) e ∙ sym (append_assoc h.gone c x) ∙ ap (λ zs. zs ++ x) (h.all ∙ append-nil b);
}

-- one after another
pub sends_both : (w v u : Option (List ℕ)) (b c d x y : List ℕ) → Sends w v b c x → Sends v u c d y
    → Sends w u b d (x ++ y)
sends_both w v u b c d x y h k = record {
  gone = h.gone ++ k.gone;
  written = Appends-trans w v u h.gone k.gone h.written k.written;
  all = append_assoc h.gone k.gone d
      ∙ ap (λ zs. h.gone ++ zs) k.all
      ∙ sym (append_assoc h.gone c y)
      ∙ ap (λ zs. zs ++ y) h.all
      ∙ append_assoc b x y;
}

-- all that went, and what waited last
pub sent_all : (w v u : Option (List ℕ)) (b c d x : List ℕ) → Sends w v b c x → d ≡ c → Appends v u d
    → Appends w u (b ++ x)
sent_all w v u b c d x h e k =
    subst (λ zs. Appends w u zs) (ap (λ zs. h.gone ++ zs) e ∙ h.all) (Appends-trans w v u h.gone d h.written k)

-- how many bytes the short streams have in whole mini sectors
pub short_bytes : (t : Tree) (minis : ℕ) → minis ≡ mini_sectors t → length (whole_pieces 64 (short_streams t))
    ≡ 64 * minis
short_bytes t minis counted =
    let whole : length (whole_pieces 64 (short_streams t)) ≡ 64 * sum (pieces_of 64 (short_streams t)) =
    length-whole 64 width-64 (short_streams t) in
    omega (arith, counted, whole, shorts-sum t)

-- where streams take no room there are no bytes of them
no_bytes : (bytes : List ℕ) → length bytes ≡ 0 → bytes ≡ []
no_bytes [] e = refl
no_bytes (x ∷ xs) e = absurd (omega (arith, e))

pub no_shorts : (t : Tree) (minis : ℕ) → minis ≡ mini_sectors t → minis ≡ 0 → whole_pieces 64 (short_streams t) ≡ []
no_shorts t minis counted none = no_bytes (whole_pieces 64 (short_streams t))
    (omega (arith, short_bytes t minis counted, none))

pub no_longs : (t : Tree) (longs : ℕ) → longs ≡ long_sectors t → longs ≡ 0 → whole_pieces 512 (long_streams t) ≡ []
no_longs t longs counted none =
    let whole : length (whole_pieces 512 (long_streams t)) ≡ 512 * sum (pieces_of 512 (long_streams t)) =
    length-whole 512 width-512 (long_streams t) in
    no_bytes (whole_pieces 512 (long_streams t)) (omega (arith, whole, longs-sum t, counted, none))

-- all numbers were sent
pub numbers_sent : (numbers : List ℕ) (k : ℕ) (sent whole : List ℕ) → length numbers ≤ k
    → sent ++ numbers_bytes (drop k numbers) ≡ whole → sent ≡ whole
numbers_sent numbers k sent whole all h =
    sym (append-nil sent) ∙ ap (λ ns. sent ++ numbers_bytes ns) (sym (drop_of_length-le numbers all)) ∙ h
