-- Changes one after another.
use Rattle.std.proofs.Common.{◌≡◌, ◌++◌, ◌∙◌, ℕ, List, [], ◌∷◌, Result, Ok, Err, refl, sym, ap, subst, rules}
use Rattle.std.specs.Prelude.{IsOk}
use Rattle.tree_storage.specs.Kept.{Kept}
use Rattle.tree_descriptions.specs.Description.{Refuses, at_line, then_by}
use Rattle.tree_descriptions.specs.declared.fault.LineFault.{LineFault}
use Rattle.tree_descriptions.specs.declared.fault.LineFault.TheVariants.{Bad, Name, Tree, NoMemory}
use Rattle.tree_edits.specs.declared.change.Change.{Change}
use Rattle.tree_edits.specs.Edited.{Does, MayLackRoom, RefusesEdit, changed, edited}

edited_behind : (before others : List (ℕ × Change)) (k : Kept) → edited (before ++ others) k
    ≡ then_by (edited before k) (edited others)
edited_behind [] others k = refl
edited_behind ((n, change) ∷ before) others k =
    elim (at_line n (changed change k)) as (λ r. then_by r (edited (before ++ others))
    ≡ then_by (then_by r (edited before)) (edited others))
    [ Ok next ↦ edited_behind before others next | Err fault ↦ refl ]

-- one more change
pub edited_more : (before : List (ℕ × Change)) (n : ℕ) (change : Change) (k mid next : Kept)
    → edited before k ≡ Ok mid → changed change mid ≡ Ok next
    → edited (before ++ (n, change) ∷ []) k ≡ Ok next
edited_more before n change k mid next so is =
    edited_behind before ((n, change) ∷ []) k
    ∙ ap (λ r. then_by r (edited ((n, change) ∷ []))) so
    ∙ ap (λ r. then_by (at_line n r) (edited [])) is

-- what a call did
pub did : (r : Result (Unit {0}) LineFault) (u : Unit {0}) (told : Result Kept LineFault) (k : Kept) → r ≡ Ok u
    → Does r told k → told ≡ Ok k
did r u told k is does = subst (λ x. Does x told k) is does

no_ok : (fault : LineFault) → IsOk {T = Kept} (Err fault) → ⊥
no_ok fault h = search rules

ok_at : (n : ℕ) (r : Result Kept LineFault) → IsOk r → IsOk (then_by (at_line n r) (edited []))
ok_at n (Ok k) is = refl
ok_at n (Err fault) is = absurd (no_ok fault is)

-- the first change that is refused
first : (before behind : List (ℕ × Change)) (n : ℕ) (change : Change) (k mid : Kept) (fault : LineFault)
    → edited before k ≡ Ok mid → changed change mid ≡ Err fault
    → edited (before ++ (n, change) ∷ behind) k ≡ Err (n, fault)
first before behind n change k mid fault so is =
    edited_behind before ((n, change) ∷ behind) k
    ∙ ap (λ r. then_by r (edited ((n, change) ∷ behind))) so
    ∙ ap (λ r. then_by (at_line n r) (edited behind)) is

lacking : (before behind : List (ℕ × Change)) (n : ℕ) (change : Change) (k mid : Kept) → edited before k ≡ Ok mid
    → IsOk (changed change mid)
    → MayLackRoom (before ++ (n, change) ∷ behind) k n
lacking before behind n change k mid so is =
    let P : Result Kept (ℕ × LineFault) → Type 0 = IsOk in
    let upto : edited (before ++ (n, change) ∷ []) k ≡ then_by (at_line n (changed change mid)) (edited []) =
    edited_behind before ((n, change) ∷ []) k ∙ ap (λ r. then_by r (edited ((n, change) ∷ []))) so in
    record {
      before = before;
      change = change;
      behind = behind;
      all = refl;
      made = subst P (sym upto) (ok_at n (changed change mid) is);
    }

stopped : (before behind : List (ℕ × Change)) (n : ℕ) (change : Change) (k mid : Kept) (fault : LineFault)
    → edited before k ≡ Ok mid → Refuses (changed change mid) fault
    → RefusesEdit (before ++ (n, change) ∷ behind) k (n, fault)
stopped before behind n change k mid Bad so told = first before behind n change k mid Bad so told
stopped before behind n change k mid (Name fault) so told = first before behind n change k mid (Name fault) so told
stopped before behind n change k mid (Tree fault) so told = first before behind n change k mid (Tree fault) so told
stopped before behind n change k mid NoMemory so told = lacking before behind n change k mid so told

pub refused_at : (changes before behind : List (ℕ × Change)) (n : ℕ) (change : Change) (k mid new : Kept)
    (fault : LineFault) (r : Result (Unit {0}) LineFault)
    → before ++ (n, change) ∷ behind ≡ changes → edited before k ≡ Ok mid → r ≡ Err fault
    → Does r (changed change mid) new → RefusesEdit changes k (n, fault)
refused_at changes before behind n change k mid new fault r all so is does =
    subst (λ cs. RefusesEdit cs k (n, fault)) all
    (stopped before behind n change k mid fault so (subst (λ x. Does x (changed change mid) new) is does))
