use Rattle.std.proofs.Common.{rules, ◌≡◌, ℕ, sym, refl, ap, ◌∙◌, Bool, false, true, is_eq, List, Result, Ok, Err}
use Rattle.std.specs.Result.{is_ok, OnOk, OnErr}
use Rattle.std.specs.declared.cmp.Ordering.{Ordering}
use Rattle.tree_storage.specs.declared.nodes.Node.TheVariants.{Stream}
use Rattle.cfb_names.specs.Names.{key, key_cmp, key_eq}
use Rattle.tree_storage.proofs.Entries.{none_from, view-out, view-roll}
use Rattle.tree_storage.proofs.Renames.{respelled, rename-none, rename-exists, rename-can, rename-moved, some_of}
use Rattle.tree_storage.proofs.storage.rename_child.Goals as goal

from_ok : {A E : Type 0} {P : Type 0} (r : Result A E) → is_ok r ≡ true → OnOk r P → P
from_ok (Ok a) h p = p
from_ok (Err e) h p = absurd (search rules)

from_err : {A E : Type 0} {P : Type 0} (r : Result A E) → is_ok r ≡ false → OnErr r P → P
from_err (Ok a) h p = absurd (search rules)
from_err (Err e) h p = p

-- the test of the keys
same_keys : (a b n k : List ℕ) (o : Ordering) (t : Bool) → t ≡ is_eq o → o ≡ key_cmp a b → a ≡ key n → b ≡ key k
    → key_eq (key n) (key k) ≡ t
same_keys a b n k o t h q e f = sym (h ∙ ap is_eq q ∙ ap (λ x. key_eq x b) e ∙ ap (key_eq (key n)) f)

pub returns-in-Some-clause-change : goal.returns-in-Some-clause-change
returns-in-Some-clause-change c =
    rw (
      view-out c.args.storage.now,
      view-roll c.args.storage.now.class c.args.storage.now.state
          (c.get_mut.follows.lender (c.args.new, c.in-Some.child.now.1)),
    )
    (respelled c.args.name.now c.args.new c.args.storage.now.class c.args.storage.now.state
    c.args.storage.now.children.entries c.in-Some.child.now
    (c.get_mut.follows.lender (c.args.new, c.in-Some.child.now.1)).entries c.get_mut.ensures.ordered
    (same_keys _ _ c.args.new c.args.name.now c.cmp.result true c.if-is_eq.ensures c.cmp.ensures
    c.key_of-new_key.ensures.key c.key-key.ensures)
    (rw c.key-key.ensures at (sym c.in-Some.ensures.value))
    (rw c.key-key.ensures at ((c.get_mut.follows.holds (c.args.new, c.in-Some.child.now.1)).0)))

pub returns-in-None-clause-change : goal.returns-in-None-clause-change
returns-in-None-clause-change c =
    rw (
      view-out c.args.storage.now,
      view-roll c.args.storage.now.class c.args.storage.now.state
          c.get_mut.follows.lender-at-none,
      c.get_mut.follows.holds-at-none,
    ) (
      rename-none c.args.name.now c.args.new c.args.storage.now.class c.args.storage.now.state
          c.args.storage.now.children.entries (rw c.key-key.ensures at (sym c.in-None.ensures.value)),
      refl,
    )

pub returns-then-not-contains_key-clause-change : goal.returns-then-not-contains_key-clause-change
returns-then-not-contains_key-clause-change c =
    rw (view-out c.args.storage.now) (
      rename-none c.args.name.now c.args.new c.args.storage.now.class c.args.storage.now.state
          c.args.storage.now.children.entries
          (none_from _ (rw c.key-key.ensures at (sym c.if-not-contains_key.ensures))),
      refl,
    )

pub returns-then-contains_key-clause-change : goal.returns-then-contains_key-clause-change
returns-then-contains_key-clause-change c =
    let x = some_of _ (rw c.key-key.ensures at (sym c.if-not-contains_key.ensures)) in
    let y = some_of _ (rw c.key_of-new_key.ensures.key at (sym c.if-contains_key.ensures)) in
    rw (view-out c.args.storage.now) (
      rename-exists c.args.name.now c.args.new c.args.storage.now.class c.args.storage.now.state
          c.args.storage.now.children.entries x.0 y.0
          (same_keys _ _ c.args.new c.args.name.now c.cmp.result false c.if-is_eq.ensures c.cmp.ensures
          c.key_of-new_key.ensures.key c.key-key.ensures) x.1 y.1,
      refl,
    )

pub returns-then-is_err-clause-change : goal.returns-then-is_err-clause-change
returns-then-is_err-clause-change c =
    let x = some_of _ (rw c.key-key.ensures at (sym c.if-not-contains_key.ensures)) in
    rw (view-out c.args.storage.now, view-roll c.args.storage.now.class c.args.storage.now.state c.insert.new.self) (
      rename-can c.args.name.now c.args.new c.args.storage.now.class c.args.storage.now.state
          c.args.storage.now.children.entries x.0
          (same_keys _ _ c.args.new c.args.name.now c.cmp.result false c.if-is_eq.ensures c.cmp.ensures
          c.key_of-new_key.ensures.key c.key-key.ensures) x.1
          (none_from _ (rw c.key_of-new_key.ensures.key at (sym c.if-contains_key.ensures))),
      rw (from_err c.insert.result c.if-is_err.ensures.negation c.insert.ensures.err) refl,
    )

pub returns-clause-change : goal.returns-clause-change
returns-clause-change c =
    let x = some_of _ (rw c.key-key.ensures at (sym c.if-not-contains_key.ensures)) in
    let b = same_keys _ _ c.args.new c.args.name.now c.cmp.result false c.if-is_eq.ensures c.cmp.ensures
    c.key_of-new_key.ensures.key c.key-key.ensures in
    let made = from_ok c.insert.result c.if-is_err.ensures.negation c.insert.ensures.entries in
    let looks = from_ok c.insert.result c.if-is_err.ensures.negation c.insert.ensures.updates in
    rw (
      view-out c.args.storage.now,
      view-out c.move_child.new.storage,
      c.move_child.ensures.class,
      c.move_child.ensures.state,
    )
    (rename-moved c.args.name.now c.args.new c.args.storage.now.class c.args.storage.now.state
    c.args.storage.now.children.entries x.0 (Stream c.new.result)
    c.insert.new.self.entries c.move_child.new.storage.children.entries c.insert.ensures.was_ordered b x.1
    (none_from _ (rw c.key_of-new_key.ensures.key at (sym c.if-contains_key.ensures)))
    (rw c.key_of-new_key.ensures.key at made)
    (looks.2 (key c.args.name.now) (ap (λ n. key_eq n (key c.args.name.now)) c.key_of-new_key.ensures.key ∙ b)
    ∙ x.1) (rw (c.key-key.ensures, c.key_of-new_key.ensures.key) at c.move_child.ensures.entries))
