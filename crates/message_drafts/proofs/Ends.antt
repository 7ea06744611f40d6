-- A body whose last field isn't whole makes no frame.
use Rattle.std.proofs.Common.{◌≡◌, ◌⊎◌, ℕ, zero, suc, ◌-◌, ◌+◌, ◌<◌, ◌≤◌, Bool, true, false, cond, ◌&&◌, List, [], ◌∷◌}
use Rattle.std.proofs.Common.{◌++◌, length, take, drop, Some, None, Result, Ok, Err, refl, sym, ap, subst, ◌∙◌}
use Rattle.std.proofs.Common.{append_assoc, arith, inl, inr, nat_le}
use Rattle.std.proofs.lemmas.Bool.{cases_lt}
use Rattle.std.proofs.lemmas.List.{append-nil, length-drop}
use Rattle.cfb_names.specs.Names.{name_read}
use Rattle.cfb_names.specs.declared.fault.DirFault.{DirFault}
use Rattle.tree_streams.specs.declared.streams.NamedStream.{NamedStream}
use Rattle.message_model.specs.Reading.{Reader, bad, blob, bytes, may_follow, more, name, name_of, named, whole}
use Rattle.message_drafts.specs.declared.draft.Opening.{Opening}
use Rattle.message_drafts.specs.Drafts.{last, need, frame_of}
use Rattle.message_drafts.proofs.Plans.{blob_short, bytes_long, bytes_short}

cond_bad : (b : Bool) (r : Reader) (ys : List ℕ) → r ys ≡ None → cond b r bad ys ≡ None
cond_bad true r ys h = h
cond_bad false r ys h = refl

named_bad : (r : Result (List ℕ) DirFault) (k : List ℕ → Reader) (ys : List ℕ) → ((m : List ℕ) → k m ys ≡ None)
    → named k r ys ≡ None
named_bad (Ok m) k ys h = h m
named_bad (Err e) k ys h = refl

-- a name behind which no length is
name_short : (n : ℕ) (rest : List ℕ) (follows : List ℕ → Bool) (room : ℕ) (k : List ℕ → List ℕ → Reader)
    → length rest < n + 4
    → name (λ m. cond (follows m) (blob room (k m)) bad) (n ∷ rest) ≡ None
name_short n rest follows room k short =
    let inner : List ℕ → Reader = λ m. cond (follows m) (blob room (k m)) bad in
    cond_bad (nat_le 1 n && nat_le n 31) (bytes n (λ bs. named inner (name_read bs))) rest
    (elim (cases_lt (length rest) n) [
      | inl lt ↦ bytes_short n (λ bs. named inner (name_read bs)) rest lt
      | inr le ↦ bytes_long n (λ bs. named inner (name_read bs)) rest le
          ∙ named_bad (name_read (take n rest)) inner (drop n rest)
          (λ m. cond_bad (follows m) (blob room (k m)) (drop n rest)
          (blob_short room (k m) (drop n rest) (omega (arith, length-drop n rest))))
    ])

pub fields_short : (left : ℕ) (held : List ℕ) (o : Opening) (ss : List NamedStream) (room : ℕ)
    → length held < need left held → more left ss room (last o) held ≡ None
unfolding more
fields_short zero held o ss room short = blob_short room (λ bs. whole (frame_of o ss bs)) held short
fields_short (suc left) [] o ss room short = refl
fields_short (suc left) (n ∷ rest) o ss room short =
    name_short n rest (may_follow ss) room (λ m bs. more left (ss ++ record { name = m; bytes = bs } ∷ [])
    (room - length bs) (last o)) (omega arith)
