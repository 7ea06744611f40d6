-- A walk over the children of a storage, whose entries are sent.
use Rattle.std.proofs.Common.{◌≡◌, ◌≤◌, ◌+◌, ◌*◌, ℕ, length, length-append, List, Option, [], refl, sym, ◌∙◌, ap, subst}
use Rattle.std.proofs.Common.{arith, ◌++◌, append_assoc}
use Rattle.cfb_entries.specs.Tree.{Children, Tree, tree}
use Rattle.tree_storage.specs.Child.{Seen, bytes, inner, child}
use Rattle.cfb_file.specs.Need.{entries, entries_of}
use Rattle.cfb_layout.specs.Directory.{children_in}
use Rattle.cfb_entries.specs.Written.{entry_bytes}
use Rattle.cfb_entries.specs.declared.entries.EntryFields.{EntryFields}
use Rattle.cfb_entries.proofs.Fields.{length-entry_bytes}
use Rattle.write_parts.specs.Leads.{each_led, lead_in, led_below, storage_led, stream_led}
use Rattle.write_parts.specs.declared.leads.Lead.{Lead}
use Rattle.write_parts.specs.Sends.{Sends}
use Rattle.write_parts.proofs.Sent.{sends_both, sends_none}
use Rattle.write_files.specs.Walks.{Is, Steps}
use Rattle.write_files.specs.declared.walks.What.{What}
use Rattle.write_files.specs.declared.walks.What.TheVariants as variant

-- the first of these children has so many entries with those below it, whose bytes are these where its lead stands here
pub record Begins (leads : List Lead) (at : ℕ) (old : Children) (sent : List ℕ) (count : ℕ) (new : Children) : Type
    0 where
  pub led : each_led leads at old ≡ sent ++ each_led leads (at + count) new
  pub counted : entries_of old ≡ count + entries_of new

-- all of a storage is below it
all-led : (leads : List Lead) (at : ℕ) (t : Tree) (cs : Children) → cs ≡ children_in t
    → each_led leads at cs ≡ led_below leads at t
all-led leads at (tree class state es) cs e = ap (each_led leads at) e

all-entries : (t : Tree) (cs : Children) → cs ≡ children_in t → entries_of cs ≡ entries t
all-entries (tree class state es) cs e = ap entries_of e

module _ {B : Type 0} (stands : B → Tree) (leads : List Lead) (at : ℕ) where
  stream-seen : (size : ℕ) (k n : List ℕ) (s : Seen) (new : Children) → Is stands (variant.Stream size) s
      → Begins leads at (child k (n, s) new) (entry_bytes n (stream_led (lead_in leads at) size)) 1 new
  stream-seen size k n (bytes b) new is = record {
    led = ap (λ z. entry_bytes n (stream_led (lead_in leads at) z) ++ each_led leads (at + 1) new) (sym is);
    counted = refl;
  }
  stream-seen size k n (inner t) new is = absurd is

  storage-seen : (s : B) (k n : List ℕ) (z : Seen) (new : Children) → Is stands (variant.Storage s) z
      → Begins leads at (child k (n, z) new) (entry_bytes n (storage_led (lead_in leads at) (stands s))
      ++ led_below leads (at + 1) (stands s)) (1 + entries (stands s)) new
  storage-seen s k n (bytes b) new is = absurd is
  storage-seen s k n (inner t) new is =
      let one : Tree → List ℕ = λ u. entry_bytes n (storage_led (lead_in leads at) u) in
      let more : Tree → List ℕ = λ u. led_below leads (at + 1) u in
      let next : at + 1 + entries t ≡ at + (1 + entries t) = omega arith in record {
        led = ap (λ x. one t ++ (more t ++ each_led leads x new)) next
            ∙ sym (append_assoc (one t) (more t) (each_led leads (at + (1 + entries t)) new))
            ∙ ap (λ u. (one u ++ more u) ++ each_led leads (at + (1 + entries u)) new) (sym is);
        counted = ap (λ u. 1 + entries u + entries_of new) (sym is);
      }

  -- a walk steps over a stream, and over a storage, of which this entry is made
  module _ (old new : Children) (n name : List ℕ) (what : What B) (lead : Lead)
      (steps : Steps stands old n what new) (named : name ≡ n) (there : lead ≡ lead_in leads at) where
    pub stream-first : (size : ℕ) (e : EntryFields) → what ≡ variant.Stream size → e ≡ stream_led lead size
        → Begins leads at old (entry_bytes name e) 1 new
    stream-first size e is says =
        let all : e ≡ stream_led (lead_in leads at) size = says ∙ ap (λ (l : Lead). stream_led l size) there in
        subst (λ (cs : Children). Begins leads at cs (entry_bytes name e) 1 new) (sym steps.first)
        (subst (λ (zs : List ℕ). Begins leads at (child steps.key (n, steps.seen) new) zs 1 new)
        (λ i. entry_bytes (sym named i) (sym all i))
        (stream-seen size steps.key n steps.seen new (subst (λ (w : What B). Is stands w steps.seen) is steps.is)))

    pub storage-first : (s : B) (e : EntryFields) → what ≡ variant.Storage s → e ≡ storage_led lead (stands s)
        → Begins leads at old (entry_bytes name e ++ led_below leads (at + 1) (stands s)) (1 + entries (stands s)) new
    storage-first s e is says =
        let all : e ≡ storage_led (lead_in leads at) (stands s) = says ∙ ap (λ (l : Lead). storage_led l (stands s))
        there in
        let more : List ℕ = led_below leads (at + 1) (stands s) in
        subst (λ (cs : Children). Begins leads at cs (entry_bytes name e ++ more) (1 + entries (stands s)) new)
        (sym steps.first)
        (subst (λ (zs : List ℕ). Begins leads at (child steps.key (n, steps.seen) new) zs (1 + entries (stands s))
        new) (λ i. entry_bytes (sym named i) (sym all i) ++ more)
        (storage-seen s steps.key n steps.seen new (subst (λ (w : What B). Is stands w steps.seen) is steps.is)))

-- what a walk has sent of a storage whose leads stand from a place on, where these children are still before it
abbrev pub Sent : (w v : Option (List ℕ)) (waited waits : List ℕ) (leads : List Lead) (from : ℕ) (t : Tree) (at : ℕ)
    (cs : Children) → Type 0
Sent w v waited waits leads from t at cs = (sent : List ℕ)
    × Sends w v waited waits sent
    × (sent ++ each_led leads at cs ≡ led_below leads from t)
    × (at + entries_of cs ≡ from + entries t)
    × (entries_of cs ≤ entries t)
    × (length (each_led leads at cs) ≡ 128 * entries_of cs → length (led_below leads from t) ≡ 128 * entries t)

pub none-sent : (w : Option (List ℕ)) (b : List ℕ) (leads : List Lead) (at : ℕ) (t : Tree) (cs : Children)
    → cs ≡ children_in t → Sent w w b b leads at t at cs
none-sent w b leads at t cs e =
    let led : each_led leads at cs ≡ led_below leads at t = all-led leads at t cs e in
    let counted : entries_of cs ≡ entries t = all-entries t cs e in (
      [],
      sends_none w b,
      led,
      ap (λ n. at + n) counted,
      omega (arith, counted),
      λ h. ap length (sym led) ∙ h
          ∙ ap (λ n. 128 * n) counted,
    )

-- one more child is sent
pub one-sent : (w v u : Option (List ℕ)) (a b d : List ℕ) (leads : List Lead) (from : ℕ) (t : Tree) (at next : ℕ)
    (old new : Children) (more : List ℕ) (count : ℕ)
    → Sent w v a b leads from t at old → Begins leads at old more count new → next ≡ at + count → Sends v u b d more
    → length more ≡ 128 * count
    → Sent w u a d leads from t next new
one-sent w v u a b d leads from t at next old new more count i first after went one =
    let led : each_led leads at old ≡ more ++ each_led leads next new = first.led
    ∙ ap (λ n. more ++ each_led leads n new) (sym after) in
    let both : length (more ++ each_led leads next new) ≡ length more + length (each_led leads next new) =
    length-append more (each_led leads next new) in (
      i.0 ++ more,
      sends_both w v u a b d i.0 more i.1 went,
      append_assoc i.0 more (each_led leads next new) ∙ ap (λ r. i.0 ++ r) (sym led) ∙ i.2,
      omega (arith, i.3, after, first.counted),
      omega (arith, i.4, first.counted),
      λ h. i.5 (omega (arith, ap length led, both, one, h, first.counted)),
    )

-- the entry of a stream, and that of a storage with those below it, which take 128 bytes each
pub one-long : (name : List ℕ) (e : EntryFields) (lead : Lead) (size : ℕ) → length name ≤ 31
    → e ≡ stream_led lead size → length (entry_bytes name e) ≡ 128 * 1
one-long name e lead size short says = length-entry_bytes name e short (ap (λ (x : EntryFields). length x.class) says)

pub both-long : (name : List ℕ) (e : EntryFields) (more : List ℕ) (count : ℕ) → length name ≤ 31
    → length e.class ≡ 16 → length more ≡ 128 * count
    → length (entry_bytes name e ++ more) ≡ 128 * (1 + count)
both-long name e more count short class below =
    let both : length (entry_bytes name e ++ more) ≡ length (entry_bytes name e) + length more =
    length-append (entry_bytes name e) more in
    omega (arith, both, length-entry_bytes name e short class, below)
