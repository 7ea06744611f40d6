-- What was found in a folder, one after another.
use Rattle.std.proofs.Common.{◌≡◌, ◌++◌, ℕ, List, [], ◌∷◌, Result, Ok, Err, refl, sym, ap, subst, ◌∙◌}
use Rattle.tree_storage.specs.Change.{Outcome, on_ok}
use Rattle.tree_storage.specs.Kept.{Kept}
use Rattle.tree_storage.specs.declared.fault.TreeFault.{TreeFault}
use Rattle.tree_storage.specs.declared.fault.TreeFault.TheVariants.{NotFound, Exists, WrongKind, NoTransaction, TooDeep}
use Rattle.tree_storage.specs.declared.fault.TreeFault.TheVariants.{NoMemory}
use Rattle.folder_commands.specs.Packing.{IsRefused, RefusesFound, packed, put_content, put_found}
use Rattle.folder_commands.specs.declared.packing.Found.{Found}

packed_behind : (before others : List Found) (k : Kept) → packed (before ++ others) k
    ≡ on_ok (packed others) (packed before k)
packed_behind [] others k = refl
packed_behind (item ∷ before) others k =
    elim (put_found item k) as (λ r. on_ok (packed (before ++ others)) r
    ≡ on_ok (packed others) (on_ok (packed before) r))
    [ Ok next ↦ packed_behind before others next | Err fault ↦ refl ]

pub packed_more : (before : List Found) (item : Found) (k mid next : Kept) → packed before k ≡ Ok mid
    → put_found item mid ≡ Ok next → packed (before ++ item ∷ []) k ≡ Ok next
packed_more before item k mid next so is =
    packed_behind before (item ∷ []) k ∙ ap (on_ok (packed (item ∷ []))) so ∙ ap (on_ok (packed [])) is

refused_found : (item : Found) (k new : Kept) (fault : TreeFault)
    → Outcome {A = Kept} (Err fault) (put_found item k) k new → RefusesFound item k fault
refused_found item k new NotFound told = told.0
refused_found item k new Exists told = told.0
refused_found item k new WrongKind told = told.0
refused_found item k new NoTransaction told = told.0
refused_found item k new TooDeep told = told.0
refused_found item k new NoMemory told = told.0

-- what was put
pub done : (r : Result (Unit {0}) TreeFault) (u : Unit {0}) (told : Result Kept TreeFault) (old new : Kept)
    → r ≡ Ok u → Outcome r told old new → told ≡ Ok new
done r u told old new is o = subst (λ x. Outcome x told old new) is o

pub refused_at : (found before behind : List Found) (item : Found) (slice : List (List ℕ)) (k mid new : Kept)
    (fault : TreeFault) (r : Result (Unit {0}) TreeFault) → before ++ item ∷ behind ≡ found
    → packed before k ≡ Ok mid → slice ≡ item.path.items → r ≡ Err fault
    → Outcome r (put_content slice item.content mid) mid new → IsRefused found k item.path.items fault
refused_at found before behind item slice k mid new fault r all so same is o = record {
  before = before;
  item = item;
  behind = behind;
  all = sym all;
  at = refl;
  next = mid;
  holds = so;
  told = refused_found item mid new fault
      (subst (λ x. Outcome x (put_content item.path.items item.content mid) mid new) is
      (subst (λ p. Outcome r (put_content p item.content mid) mid new) same o));
}
