-- A walk over the children of a storage, of which each has an id and leads somewhere.
use Rattle.std.proofs.Common.{◌≡◌, ◌≤◌, ◌<◌, ◌+◌, ℕ, min, List, [], ◌∷◌, refl, sym, ◌∙◌, ap, arith, ◌++◌, append_assoc}
use Rattle.cfb_entries.specs.Tree.{Tree, Children}
use Rattle.tree_storage.specs.Child.{Seen, bytes, inner, child}
use Rattle.cfb_file.specs.Need.{entries, entries_of, over_streams_of, short_pieces, long_pieces, mini_sectors}
use Rattle.cfb_file.specs.Need.{long_sectors}
use Rattle.cfb_layout.specs.Directory.{entries_with, ids_from}
use Rattle.write_parts.specs.Leads.{each_lead, leads_below, storage_leads}
use Rattle.write_parts.specs.Streams.{minis_with, sectors_with}
use Rattle.write_parts.specs.declared.leads.Lead.{Lead}
use Rattle.write_parts.proofs.Children.{entries-child}
use Rattle.write_files.specs.Siblings.{past}
use Rattle.write_files.specs.Walked.{child_leads, sibling_leads}
use Rattle.write_files.specs.declared.entries.Cursor.{Cursor}
use Rattle.write_files.specs.Walks.{Steps}
use Rattle.write_files.specs.declared.walks.What.{What}

ids-child : (id : ℕ) (k n : List ℕ) (s : Seen) (cs : Children) → ids_from id (child k (n, s) cs)
    ≡ id ∷ ids_from (id + entries_with s) cs
ids-child id k n (bytes b) cs = refl
ids-child id k n (inner t) cs = let e : id + 1 + entries t ≡ id + (1 + entries t) = omega arith in
    ap (λ x. id ∷ ids_from x cs) e

minis-child : (k n : List ℕ) (s : Seen) (cs : Children) → over_streams_of short_pieces (child k (n, s) cs)
    ≡ minis_with s + over_streams_of short_pieces cs
minis-child k n (bytes b) cs = refl
minis-child k n (inner t) cs = refl

sectors-child : (k n : List ℕ) (s : Seen) (cs : Children) → over_streams_of long_pieces (child k (n, s) cs)
    ≡ sectors_with s + over_streams_of long_pieces cs
sectors-child k n (bytes b) cs = refl
sectors-child k n (inner t) cs = refl

leads-child : (ids : List ℕ) (place : ℕ) (at : Cursor) (k n : List ℕ) (s : Seen) (cs : Children)
    → sibling_leads ids place at (child k (n, s) cs) ≡ child_leads ids place at s
    ++ sibling_leads ids (place + 1) (past at s) cs
leads-child ids place at k n (bytes b) cs = refl
leads-child ids place at k n (inner t) cs =
    let e : at.id + 1 + entries t ≡ at.id + (1 + entries t) = omega arith in
    let one : Lead = storage_leads ids place at.id t in
    let more : List Lead = leads_below at.id at.mini at.sector t in
    ap (λ x. one ∷ (more ++ each_lead ids (place + 1) x (at.mini + mini_sectors t) (at.sector + long_sectors t) cs)) e

one-entry : (s : Seen) → 1 ≤ entries_with s
one-entry (bytes b) = omega arith
one-entry (inner t) = omega arith

module _ {B : Type 0} {stands : B → Tree} {old new : Children} {name : List ℕ} {what : What B}
    (step : Steps stands old name what new) where
  pub entries-first : entries_of old ≡ entries_with step.seen + entries_of new
  entries-first = ap entries_of step.first ∙ entries-child child (λ k n b cs. refl) (λ k n t cs. refl) step.key name
      step.seen new

  pub ids-first : (id : ℕ) → ids_from id old ≡ id ∷ ids_from (id + entries_with step.seen) new
  ids-first id = ap (ids_from id) step.first ∙ ids-child id step.key name step.seen new

  pub minis-first : over_streams_of short_pieces old ≡ minis_with step.seen + over_streams_of short_pieces new
  minis-first = ap (over_streams_of short_pieces) step.first ∙ minis-child step.key name step.seen new

  pub sectors-first : over_streams_of long_pieces old ≡ sectors_with step.seen + over_streams_of long_pieces new
  sectors-first = ap (over_streams_of long_pieces) step.first ∙ sectors-child step.key name step.seen new

  pub leads-first : (ids : List ℕ) (place : ℕ) (at : Cursor) → sibling_leads ids place at old
      ≡ child_leads ids place at step.seen ++ sibling_leads ids (place + 1) (past at step.seen) new
  leads-first ids place at = ap (sibling_leads ids place at) step.first
      ∙ leads-child ids place at step.key name step.seen new

  -- one more child has an id
  module _ (first id count all most : ℕ) (before : id + entries_of old ≡ first + all) (few : first + all < most)
      (counted : count ≡ min most (entries_with step.seen)) where
    whole-count : count ≡ entries_with step.seen
    whole-count = omega (arith, entries-first, before, few, counted)

    pub ids-counted : id + count + entries_of new ≡ first + all
    ids-counted = omega (arith, entries-first, before, whole-count)

    pub ids-few : (len more : ℕ) → more ≡ len + 1 → len + first ≤ id → more + first ≤ id + count
    ids-few len more m h = omega (arith, one-entry step.seen, whole-count, m, h)

    pub ids-listed : (ids longer whole : List ℕ) → longer ≡ ids ++ id ∷ [] → ids ++ ids_from id old ≡ whole
        → longer ++ ids_from (id + count) new ≡ whole
    ids-listed ids longer whole pushed h =
        ap (λ o. o ++ ids_from (id + count) new) pushed ∙ append_assoc ids (id ∷ []) (ids_from (id + count) new)
        ∙ ap (λ r. ids ++ r) (ap (λ n. id ∷ ids_from (id + n) new) whole-count ∙ sym (ids-first id)) ∙ h
