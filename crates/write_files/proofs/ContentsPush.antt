-- A step of pushing the entries of siblings.
use Rattle.std.proofs.Common.{◌≡◌, ◌<◌, ◌+◌, ◌^◌, ℕ, List, [], ◌∷◌, ◌++◌, length, sym, ◌∙◌, ap, subst, arith}
use Rattle.std.proofs.Common.{append_assoc}
use Rattle.cfb_entries.specs.Tree.{Tree, Children}
use Rattle.tree_storage.specs.Child.{Seen, bytes, inner, child}
use Rattle.cfb_file.specs.Need.{entries_of, over_streams_of, short_pieces, long_pieces}
use Rattle.cfb_layout.specs.Directory.{AreSpelled, IsSpelled, entries_with, ids_from, long_streams, short_streams}
use Rattle.cfb_layout.specs.Image.{pieces_of, runs}
use Rattle.write_parts.specs.Leads.{stream_leads}
use Rattle.write_parts.specs.Streams.{long_within, minis_with, sectors_with, short_within}
use Rattle.write_files.specs.Siblings.{past, past_all, past_stream}
use Rattle.write_files.specs.Walked.{child_leads, sibling_leads}
use Rattle.write_parts.specs.declared.leads.Lead.{Lead}
use Rattle.write_parts.specs.declared.tables.Tables.{Tables}
use Rattle.write_files.specs.declared.entries.Cursor.{Cursor}
use Rattle.write_files.specs.Walks.{Is, Steps}
use Rattle.write_files.specs.declared.walks.What.{What}
use Rattle.write_files.specs.declared.walks.What.TheVariants.{Stream, Storage}
use Rattle.write_files.proofs.ContentsWalk.{entries-first, ids-first, minis-first, sectors-first, leads-first}

-- what is said of a child once it is pushed
pub record IsPushed (ids : List ℕ) (place : ℕ) (at next : Cursor) (out more : List Lead) (old new : Tables)
    (s : Seen) : Type 0 where
  pub after : next ≡ past at s
  pub leads : more ≡ out ++ child_leads ids place at s
  pub minis : new.minis.items ≡ old.minis.items ++ runs at.mini (pieces_of 64 (short_within s))
  pub fat : new.fat.items ≡ old.fat.items ++ runs at.sector (pieces_of 512 (long_within s))
  pub spelled : (k n : List ℕ) (cs : Children) → AreSpelled cs → AreSpelled (child k (n, s) cs)

module _ (ids : List ℕ) (place : ℕ) (at next : Cursor) (out more : List Lead) (old new : Tables) where
  -- a stream of so many bytes is pushed, and a child that is one
  pub leaf-pushed : {B : Type 0} (stands : B → Tree) (size : ℕ) → next ≡ past_stream at size
      → more ≡ out ++ stream_leads ids place at.mini at.sector size ∷ []
      → ((b : List ℕ) → length b ≡ size → new.minis.items ≡ old.minis.items
      ++ runs at.mini (pieces_of 64 (short_within (bytes b))))
      → ((b : List ℕ) → length b ≡ size → new.fat.items ≡ old.fat.items ++ runs at.sector
      (pieces_of 512 (long_within (bytes b))))
      → size < 2 ^ 32 → (s : Seen) → Is stands (Stream size) s → IsPushed ids place at next out more old new s
  leaf-pushed stands size after leads minis fat few (bytes b) is = record {
    after = after ∙ ap (past_stream at) is;
    leads = leads ∙ ap (λ n. out ++ stream_leads ids place at.mini at.sector n ∷ []) is;
    minis = minis b (sym is);
    fat = fat b (sym is);
    spelled = λ k n cs others. (subst (λ (count : ℕ). count < 2 ^ 32) is few, others);
  }
  leaf-pushed stands size after leads minis fat few (inner t) is = absurd is

  -- and a storage is, and a child that is that one
  pub storage-pushed : {B : Type 0} (stands : B → Tree) (x : B) → next ≡ past at (inner (stands x))
      → more ≡ out ++ child_leads ids place at (inner (stands x))
      → new.minis.items ≡ old.minis.items ++ runs at.mini (pieces_of 64 (short_streams (stands x)))
      → new.fat.items ≡ old.fat.items ++ runs at.sector (pieces_of 512 (long_streams (stands x)))
      → IsSpelled (stands x) → (s : Seen) → Is stands (Storage x) s → IsPushed ids place at next out more old new s
  storage-pushed stands x after leads minis fat spelled (bytes b) is = absurd is
  storage-pushed stands x after leads minis fat spelled (inner t) is =
      subst (λ (u : Tree). IsPushed ids place at next out more old new (inner u)) is
      (record { after = after; leads = leads; minis = minis; fat = fat; spelled = λ k n cs others. (spelled, others) })

  -- which is told where what was made is moved to
  pub moved : (made : Cursor) (longer : List Lead) (last : Tables) (s : Seen) → made ≡ next → longer ≡ more → last ≡ new
      → IsPushed ids place at next out more old new s → IsPushed ids place at made out longer old last s
  moved made longer last s a b c h = record {
    after = a ∙ h.after;
    leads = b ∙ h.leads;
    minis = ap (λ (ts : Tables). ts.minis.items) c ∙ h.minis;
    fat = ap (λ (ts : Tables). ts.fat.items) c ∙ h.fat;
    spelled = h.spelled;
  }

module _ {B : Type 0} {stands : B → Tree} {old new : Children} {name : List ℕ} {what : What B}
    (step : Steps stands old name what new) where
  pub step-spelled : ((k n : List ℕ) (cs : Children) → AreSpelled cs → AreSpelled (child k (n, step.seen) cs))
      → AreSpelled new → AreSpelled old
  step-spelled h i = subst AreSpelled (sym step.first) (h step.key name new i)

  module _ (at next : Cursor) (after : next ≡ past at step.seen) where
    pub step-places : (place n : ℕ) → place + length (ids_from at.id old) ≡ n
        → place + 1 + length (ids_from next.id new) ≡ n
    step-places place n h =
        let e : length (ids_from at.id old) ≡ length (at.id ∷ ids_from (at.id + entries_with step.seen) new) =
        ap length (ids-first step at.id) in
        let f : length (ids_from next.id new) ≡ length (ids_from (at.id + entries_with step.seen) new) =
        ap (λ c. length (ids_from c.id new)) after in
        omega arith

    pub step-next : (last : Cursor) → past_all at old ≡ last → past_all next new ≡ last
    step-next last h =
        let i : at.id + entries_with step.seen + entries_of new ≡ at.id + entries_of old =
        omega (arith, entries-first step) in
        let m : at.mini + minis_with step.seen + over_streams_of short_pieces new
        ≡ at.mini + over_streams_of short_pieces old = omega (arith, minis-first step) in
        let s : at.sector + sectors_with step.seen + over_streams_of long_pieces new
        ≡ at.sector + over_streams_of long_pieces old = omega (arith, sectors-first step) in
        ap (λ c. past_all c new) after ∙ (λ t. record { id = i t; mini = m t; sector = s t }) ∙ h

    pub step-pushed : (ids : List ℕ) (place : ℕ) (out more whole : List Lead)
        → more ≡ out ++ child_leads ids place at step.seen
        → out ++ sibling_leads ids place at old ≡ whole → more ++ sibling_leads ids (place + 1) next new ≡ whole
    step-pushed ids place out more whole pushed h =
        let one : List Lead = child_leads ids place at step.seen in
        let others : List Lead = sibling_leads ids (place + 1) (past at step.seen) new in
        (λ t. pushed t ++ sibling_leads ids (place + 1) (after t) new) ∙ append_assoc out one others
        ∙ ap (λ x. out ++ x) (sym (leads-first step ids place at)) ∙ h
