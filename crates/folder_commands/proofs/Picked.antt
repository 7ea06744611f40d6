-- What is made of what paths choose of an outline's parts, one after another.
use Rattle.std.proofs.Common.{◌≡◌, ◌<◌, ◌+◌, ◌++◌, ◌∷◌, [], ◌∙◌, ℕ, Err, Global, IfOk, List, Ok, OnOk, Result, Vec}
use Rattle.std.proofs.Common.{arith, eqb, false, refl, sym, ap, subst, append_assoc, get_or, length, take, true}
use Rattle.std.proofs.lemmas.Bool.Decides.{nat_tests}
use Rattle.std.proofs.lemmas.List.{append-nil, flat_map_more, take_more}
use Rattle.std.specs.List.{flat_map}
use Rattle.cfb_names.specs.Names.{key, key_eq}
use Rattle.cfb_entries.specs.Tree.{Tree, Children, tree, none, stream, storage}
use Rattle.tree_storage.specs.Change.{Seen, bytes, child, inner}
use Rattle.folder_commands.specs.Plan.{Entry, below_plan, folder, folder_plan, plan}
use Rattle.read_outlines.specs.View.{shown, shown_part, shown_parts}
use Rattle.read_outlines.specs.declared.outline.Outline.{Outline}
use Rattle.read_outlines.specs.declared.outline.Part.{Part}
use Rattle.read_outlines.specs.declared.outline.Place.{Place}
use Rattle.read_outlines.proofs.Outlines.{shown-out}
use Rattle.folder_commands.specs.Planned.{entries_of}
use Rattle.folder_commands.specs.declared.planning.Planned.{Planned}
use Rattle.folder_commands.specs.Chosen.{asked, chosen, chosen_of, chosen_plan, left_of, one, picked_plan, step}
use Rattle.folder_commands.specs.Chosen.{where_any}

pub where_none : {A : Type 0} (paths : List (List (List ℕ))) (a b : A) → eqb (length paths) 0 ≡ true
    → b ≡ where_any paths a b
where_none [] a b h = refl
where_none (p ∷ ps) a b h = absurd (grind (arith, nat_tests, h))

pub where_some : {A : Type 0} (paths : List (List (List ℕ))) (a b : A) → eqb (length paths) 0 ≡ false
    → a ≡ where_any paths a b
where_some [] a b h = absurd (grind (arith, nat_tests, h))
where_some (p ∷ ps) a b h = refl

one_more : (path : List ℕ) (paths : List (List (List ℕ))) (k n : List ℕ) (s : Seen) (cs : Children)
    → below_plan path (chosen_of paths (child k (n, s) cs)) ≡ chosen_plan path (left_of k paths) (n, s)
    ++ below_plan path (chosen_of paths cs)
one_more path paths k n (bytes b) cs =
    (elim (left_of k paths) as (λ left. below_plan path
    (where_any left (stream k n b (chosen_of paths cs)) (chosen_of paths cs))
    ≡ where_any left (picked_plan path left (n, bytes b)) [] ++ below_plan path (chosen_of paths cs)) [
      | [] ↦
          refl
      | (p ∷ ps) ↦ refl
    ])
one_more path paths k n (inner t) cs =
    (elim (left_of k paths) as (λ left. below_plan path
    (where_any left (storage k n (chosen left t) (chosen_of paths cs)) (chosen_of paths cs))
    ≡ where_any left (picked_plan path left (n, inner t)) [] ++ below_plan path (chosen_of paths cs)) [
      | [] ↦
          refl
      | (p ∷ ps) ↦ refl
    ])

-- a part of which nothing is made, and one of which all that is left is
pub none_added : (path : List ℕ) (left : List (List (List ℕ))) (c : List ℕ × Seen) (before : List Entry)
    → eqb (length left) 0 ≡ true → before ≡ before ++ chosen_plan path left c
none_added path left c before empty = sym (append-nil before)
    ∙ ap (λ es. before ++ es) (where_none left (picked_plan path left c) [] empty)

pub picked_added : (path : List ℕ) (left : List (List (List ℕ))) (c : List ℕ × Seen) (before after : List Entry)
    → eqb (length left) 0 ≡ false
    → after ≡ before ++ picked_plan path left c → after ≡ before ++ chosen_plan path left c
picked_added path left c before after some added = added ∙ ap (λ es. before ++ es)
    (where_some left (picked_plan path left c) [] some)

module _ (content : Place → List ℕ) (path : List ℕ) (paths : List (List (List ℕ))) where
  -- what is made of parts
  abbrev pub made_of : List (List ℕ × Part) → List Entry
  made_of ps = below_plan path (chosen_of paths (shown_parts content ps))

  pub part_added : (left : List (List (List ℕ))) (p : List ℕ × Part) (items rest : List (List ℕ × Part))
      (before after whole : List Entry)
      → items ≡ p ∷ rest → left ≡ left_of (key p.0) paths
      → after ≡ before ++ chosen_plan path left (p.0, shown_part content p.1)
      → before ++ made_of items ≡ whole → after ++ made_of rest ≡ whole
  part_added left p items rest before after whole steps is added so =
      let s : Seen = shown_part content p.1 in
      ap (λ t. t ++ made_of rest) (added ∙ ap (λ l. before ++ chosen_plan path l (p.0, s)) is)
      ∙ append_assoc before (chosen_plan path (left_of (key p.0) paths) (p.0, s)) (made_of rest)
      ∙ ap (λ t. before ++ t) (sym (one_more path paths (key p.0) p.0 s (shown_parts content rest))
      ∙ ap made_of (sym steps)) ∙ so

  -- a folder, and what stands below it, once no part is left
  pub storage_added : (copy : List ℕ) (o : Outline) (items rest : List (List ℕ × Part))
      (before first after : List Entry) → copy ≡ path
      → first ≡ before ++ folder copy o.class o.state ∷ [] → items ≡ o.parts.items → rest ≡ []
      → after ++ made_of rest ≡ first ++ made_of items
      → after ≡ before ++ folder_plan path (chosen paths (shown content o))
  storage_added copy o items rest before first after same made are done below =
      sym (append-nil after) ∙ ap (λ xs. after ++ made_of xs) (sym done) ∙ below
      ∙ ap (λ t. t ++ made_of items) (made ∙ ap (λ p. before ++ folder p o.class o.state ∷ []) same)
      ∙ append_assoc before (folder path o.class o.state ∷ []) (made_of items)
      ∙ ap (λ xs. before ++ (folder path o.class o.state ∷ made_of xs)) are
      ∙ ap (λ t. before ++ folder_plan path (chosen paths t)) (sym (shown-out content o))

-- ---- what is left of paths
pub step_on : {A E : Type 0} (k : List ℕ) (path : List (List ℕ)) (name : List ℕ) (rest : List (List ℕ))
    (told : Result A E) (before after : List (List (List ℕ)))
    → path ≡ name ∷ rest → key_eq (key name) k ≡ true → OnOk told (after ≡ before ++ rest ∷ [])
    → OnOk told (after ≡ before ++ one (step k path))
step_on k path name rest told before after is on pushed = rw (is, on) pushed

pub step_off : (k : List ℕ) (path : List (List ℕ)) (name : List ℕ) (rest : List (List ℕ))
    (before : List (List (List ℕ))) → path ≡ name ∷ rest → key_eq (key name) k ≡ false
    → before ≡ before ++ one (step k path)
step_off k path name rest before is off = rw (is, off) (sym (append-nil before))

pub left_next : (f : List (List ℕ) → List (List (List ℕ))) (paths : List (List (List ℕ))) (k : ℕ)
    (path : List (List ℕ)) (before after : List (List (List ℕ))) → k < length paths
    → get_or paths k path ≡ path → before ≡ flat_map f (take k paths) → after ≡ before ++ f path
    → after ≡ flat_map f (take (k + 1) paths)
left_next f paths k path before after less here so pushed =
    pushed ∙ ap (λ b. b ++ f path) so ∙ flat_map_more f [] (take k paths) path
    ∙ ap (flat_map f) (sym (take_more paths k path less ∙ ap (λ x. take k paths ++ x ∷ []) here))

-- ---- what is asked for: the path of the root chooses all
mutual
  all_chosen : (t : Tree) → chosen ([] ∷ []) t ≡ t
  all_chosen (tree class state cs) = ap (tree class state) (each_chosen cs)

  each_chosen : (cs : Children) → chosen_of ([] ∷ []) cs ≡ cs
  each_chosen none = refl
  each_chosen (stream k n b cs) = ap (stream k n b) (each_chosen cs)
  each_chosen (storage k n t cs) = λ i. storage k n (all_chosen t i) (each_chosen cs i)

all_asked : (paths : List (List (List ℕ))) (t : Tree) → eqb (length paths) 0 ≡ true → chosen ([] ∷ []) t ≡ asked paths t
all_asked paths t empty = all_chosen t ∙ where_none paths (chosen paths t) t empty

pub planned_all : {E : Type 0} (paths : List (List (List ℕ))) (o : Outline) (told : Result (Vec Planned Global) E)
    (all : List (List ℕ)) → eqb (length paths) 0 ≡ true → all ≡ []
    → IfOk told (λ planned. (content : Place → List ℕ) → entries_of content planned.items
    ≡ plan (chosen (all ∷ []) (shown content o)))
    → IfOk told (λ planned. (content : Place → List ℕ) → entries_of content planned.items
    ≡ plan (asked paths (shown content o)))
planned_all paths o (Ok planned) all empty root h =
    λ content. h content ∙ ap plan (ap (λ path. chosen (path ∷ []) (shown content o)) root
    ∙ all_asked paths (shown content o) empty)
planned_all paths o (Err e) all empty root h = h
