use Rattle.std.proofs.Common.{◌≡◌, ℕ, zero, suc, nat_le, length, List, [], ◌∷◌, refl, sym, ◌∙◌, ap, subst, true, false}
use Rattle.std.proofs.Common.{cond, Option, Some, None, Ok, Err, inl, inr, rules}
use Rattle.std.specs.Ordering.{is_eq}
use Rattle.cfb_names.specs.Names.{key, key_eq}
use Rattle.cfb_entries.specs.Tree.{Children, none, stream, storage, tree}
use Rattle.tree_storage.specs.Change.{child, Seen, bytes, inner, find, place, without, on_ok, found, change, edited}
use Rattle.tree_storage.specs.Change.{removing, moving, renaming, look}
use Rattle.cfb_entries.specs.Whole.{AreAbove, AreTrees}
use Rattle.tree_storage.specs.Laws.{Frees, IsGone}
use Rattle.tree_storage.specs.Kept.{Kept, beginning, committing, committed, reverting, reverted}
use Rattle.tree_storage.specs.Transactions.{Within, nothing, changes, commits, reverts, RevertGivesBack}
use Rattle.tree_storage.specs.declared.fault.TreeFault.TheVariants.{NotFound, Exists, WrongKind, TooDeep}
use Rattle.tree_storage.specs.declared.storage.Edit.{Edit}
use Rattle.tree_storage.specs.declared.storage.Edit.TheVariants.{Put, Add, Make, Remove, Rename}
use Rattle.tree_storage.proofs.Entries.{find-child, without-child, reflexive, key_eq-flip}
use Rattle.tree_storage.proofs.Lawful.{err_ok, ok_is, from_map, from_found, find-place, find-place-other}
use Rattle.tree_storage.proofs.Wholes.{from, tied, find-whole}

-- nothing is found below all keys
find-above : (k : List ℕ) (cs : Children) → AreAbove k cs → find k cs ≡ None
find-above k none a = refl
find-above k (stream q n b cs) a = ap (λ o. cond (is_eq o) (Some (n, bytes b)) (find k cs)) a.0 ∙ find-above k cs a.1
find-above k (storage q n t cs) a = ap (λ o. cond (is_eq o) (Some (n, inner t)) (find k cs)) a.0 ∙ find-above k cs a.1

gone-step : (k q : List ℕ) (c : List ℕ × Seen) (cs : Children) → AreAbove q cs → find k (without k cs) ≡ None
    → find k (without k (child q c cs)) ≡ None
gone-step k q c cs a ih = ap (find k) (without-child k q c cs)
    ∙ (elim (key_eq k q) as (λ b. key_eq k q ≡ b → find k (cond b cs (child q c (without k cs))) ≡ None) [
      | true ↦ λ e. subst (λ x. find x cs ≡ None) (sym (tied k q e)) (find-above q cs a)
      | false ↦ λ e. find-child k q c (without k cs) ∙ ap (λ b. cond b (Some c) (find k (without k cs))) e ∙ ih
    ] refl)

find-gone : (d : ℕ) (k : List ℕ) (cs : Children) → AreTrees d cs → find k (without k cs) ≡ None
find-gone d k none all = refl
find-gone d k (stream q n b cs) all = let p = from d q n (bytes b) cs all in
    gone-step k q (n, bytes b) cs p.above (find-gone d k cs p.rest)
find-gone d k (storage q n t cs) all = let p = from d q n (inner t) cs all in
    gone-step k q (n, inner t) cs p.above (find-gone d k cs p.rest)

removed-gone : (d : ℕ) (name : List ℕ) (cs cs' : Children) (o : Option (List ℕ × Seen)) → AreTrees d cs
    → removing name cs o ≡ Ok cs' → find (key name) cs' ≡ None
removed-gone d name cs cs' None all h = err_ok NotFound cs' h
removed-gone d name cs cs' (Some c) all h = ap (find (key name)) (sym (ok_is _ _ h)) ∙ find-gone d (key name) cs all

moved-gone : (d : ℕ) (name new : List ℕ) (cs cs' : Children) (s : Seen) (o : Option (List ℕ × Seen)) → AreTrees d cs
    → key_eq (key name) (key new) ≡ false
    → moving name new cs s o ≡ Ok cs' → find (key name) cs' ≡ None
moved-gone d name new cs cs' s None all e h = ap (find (key name)) (sym (ok_is _ _ h))
    ∙ find-place-other (key name) (key new) (new, s) (without (key name) cs) e ∙ find-gone d (key name) cs all
moved-gone d name new cs cs' s (Some c) all e h = err_ok Exists cs' h

renamed-gone : (d : ℕ) (name new : List ℕ) (cs cs' : Children) (o : Option (List ℕ × Seen)) → AreTrees d cs
    → key_eq (key name) (key new) ≡ false
    → renaming name new cs o ≡ Ok cs' → find (key name) cs' ≡ None
renamed-gone d name new cs cs' None all e h = err_ok NotFound cs' h
renamed-gone d name new cs cs' (Some c) all e h =
    moved-gone d name new cs cs' c.1 (find (key new) cs) all e
    (ap (λ b. cond b (Ok (place (key name) (new, c.1) cs)) (moving name new cs c.1 (find (key new) cs)))
    (sym (key_eq-flip (key name) (key new) e)) ∙ h)

edited-gone : (e : Edit) (d : ℕ) (name : List ℕ) (cs cs' : Children) → AreTrees d cs → Frees e (name ∷ [])
    → edited e name cs ≡ Ok cs' → find (key name) cs' ≡ None
edited-gone (Put new) d name cs cs' all f h = absurd f
edited-gone (Add new) d name cs cs' all f h = absurd f
edited-gone (Make class state fits) d name cs cs' all f h = absurd f
edited-gone Remove d name cs cs' all f h = removed-gone d name cs cs' (find (key name) cs) all h
edited-gone (Rename new) d name cs cs' all (inl e) h = renamed-gone d name new cs cs' (find (key name) cs) all e h
edited-gone (Rename new) d name cs cs' all (inr f) h = absurd f

not_other : {P : Type 0} (k : List ℕ) → key_eq k k ≡ false → P
not_other k h = let e : key_eq k k ≡ true = ap is_eq (reflexive k) in absurd (search (rules))

frees-below : (e : Edit) (n x : List ℕ) (rest : List (List ℕ)) → Frees e (n ∷ x ∷ rest) → Frees e (x ∷ rest)
frees-below (Put new) n x rest f = f
frees-below (Add new) n x rest f = f
frees-below (Make class state fits) n x rest f = f
frees-below Remove n x rest f = f
frees-below (Rename new) n x rest (inl h) = not_other (key n) h
frees-below (Rename new) n x rest (inr f) = f

pub is_gone : IsGone
is_gone e path (bytes b) t d f w h = err_ok WrongKind t h
is_gone e [] (inner s) t d f w h = err_ok WrongKind t h
is_gone e (n ∷ []) (inner (tree class state cs)) t zero f w h = absurd w
is_gone e (n ∷ []) (inner (tree class state cs)) t (suc d) f w h =
    let m = from_map _ (edited e n cs) t h in
    ap (look (n ∷ [])) (sym m.2) ∙ ap (λ o. on_ok (λ c. look [] c.1) (found o)) (edited-gone e d n cs m.0 w f m.1)
is_gone e (n ∷ x ∷ rest) (inner (tree class state cs)) t zero f w h = absurd w
is_gone e (n ∷ x ∷ rest) (inner (tree class state cs)) t (suc d) f w h =
    let u = from_found _ (find (key n) cs) t h in
    let m = from_map _ (change e (x ∷ rest) u.0.1) t u.2 in
    ap (look (n ∷ x ∷ rest)) (sym m.2) ∙ ap (λ o. on_ok (λ c. look (x ∷ rest) c.1) (found o))
    (find-place (key n) (u.0.0, m.0) cs)
    ∙ is_gone e (x ∷ rest) u.0.1 m.0 d (frees-below e n x rest f) (find-whole d (key n) cs u.0 w u.1) m.1

-- the trees of open transactions
began : (k first : Kept) → beginning k ≡ Ok first → first.saved ≡ k.now ∷ k.saved
began k first h =
    elim (nat_le 8 (length k.saved)) as (λ b. cond b (Err TooDeep)
    (Ok (record { now = k.now; saved = k.now ∷ k.saved })) ≡ Ok first → first.saved ≡ k.now ∷ k.saved)
    [ true ↦ λ g. err_ok TooDeep first g | false ↦ λ g. ap (λ r. r.saved) (sym (ok_is _ _ g)) ] h

ended : (k end m : Kept) → end.saved ≡ k.now ∷ k.saved → committing end ≡ Ok m → m.saved ≡ k.saved
ended k end m e h = ap (λ r. r.saved) (sym (ok_is _ _ (ap (committed end.now) (sym e) ∙ h)))

gave : (k end m : Kept) → end.saved ≡ k.now ∷ k.saved → reverting end ≡ Ok m → m ≡ k
gave k end m e h = sym (ok_is _ _ (ap reverted (sym e) ∙ h))

within : (k last : Kept) → Within k last → last.saved ≡ k.saved
within _ _ (nothing k) = refl
within _ _ (changes e path k m last h w) = within m last w
    ∙ sym (ap (λ r. r.saved) (from_map _ (change e path (inner k.now)) m h).2)
within _ _ (commits k first end m last b v c w) = within m last w
    ∙ ended k end m (within first end v ∙ began k first b) c
within _ _ (reverts k first end m last b v c w) = within m last w
    ∙ ap (λ r. r.saved) (gave k end m (within first end v ∙ began k first b) c)

pub revert_gives_back : RevertGivesBack
revert_gives_back k first end last b v c = gave k end last (within first end v ∙ began k first b) c
