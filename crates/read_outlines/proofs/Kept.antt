-- What is kept of an outline, part by part.
use Rattle.std.proofs.Common.{◌≡◌, ◌∙◌, ℕ, Bool, true, false, cond, List, [], ◌∷◌, ◌++◌, Option, Some, None, Result}
use Rattle.std.proofs.Common.{length, ap, refl, sym, subst}
use Rattle.std.specs.Global.{Vec}
use Rattle.cfb_names.specs.Names.{key, key_eq}
use Rattle.tree_storage.proofs.Entries.{find-child}
use Rattle.cfb_entries.specs.Tree.{Children, none, storage, stream}
use Rattle.tree_storage.specs.Change.{Seen, bytes, child, find, found, inner, look, on_ok}
use Rattle.tree_storage.specs.declared.fault.TreeFault.{TreeFault}
use Rattle.read_outlines.specs.Keeping.{AreKeptOf, IsChildKeptOf, IsKeptOf, IsPartKeptOf, Wanted, all, below}
use Rattle.read_outlines.specs.Keeping.{below_child, nothing, on_path, stream_below, stream_under}
use Rattle.read_outlines.specs.Streams.{stream_at, stream_bytes}
use Rattle.read_outlines.specs.View.{shown_part, shown_parts}
use Rattle.read_outlines.specs.declared.outline.Outline.{Outline}
use Rattle.read_outlines.specs.declared.outline.Part.{Part}
use Rattle.read_outlines.specs.declared.outline.Part.TheVariants.{Storage}
use Rattle.read_outlines.specs.declared.outline.Part.TheViews.{roll-Outline}
use Rattle.read_outlines.specs.declared.outline.Place.{Place}
use Rattle.read_outlines.proofs.Followed.{followed}
use Rattle.read_outlines.proofs.Outlines.{shown-nested, shown-push, shown-roll}

-- ---- the stream below the child of a name, among children and those behind them
abbrev or_behind : {A : Type 0} → Option A → Option A → Option A
or_behind None o = o
or_behind (Some a) o = Some a

under_followed : (name : List ℕ) (rest : List (List ℕ)) (cs ds : Children)
    → stream_under name rest (followed cs ds) ≡ or_behind (stream_under name rest cs) (stream_under name rest ds)
under_followed name rest none ds = refl
under_followed name rest (stream k n b cs) ds =
    elim (key_eq (key name) k) as (λ x. below_child rest (cond x (Some (n, bytes b)) (find (key name) (followed cs ds)))
    ≡ or_behind (below_child rest (cond x (Some (n, bytes b)) (find (key name) cs))) (stream_under name rest ds)) [
      | true ↦ refl
      | false ↦ under_followed name rest cs ds
    ]
under_followed name rest (storage k n t cs) ds =
    elim (key_eq (key name) k) as (λ x. below_child rest (cond x (Some (n, inner t)) (find (key name) (followed cs ds)))
    ≡ or_behind (below_child rest (cond x (Some (n, inner t)) (find (key name) cs))) (stream_under name rest ds)) [
      | true ↦ refl
      | false ↦ under_followed name rest cs ds
    ]

-- a child alone
abbrev one : Bool → List (List ℕ) → Seen → Option (Result (List ℕ) TreeFault)
one b rest s = cond b (Some (stream_below rest s)) None

under_one : (name : List ℕ) (rest : List (List ℕ)) (k n : List ℕ) (s : Seen)
    → stream_under name rest (child k (n, s) none) ≡ one (key_eq (key name) k) rest s
under_one name rest k n s =
    ap (below_child rest) (find-child (key name) k (n, s) none)
    ∙ (elim (key_eq (key name) k) as (λ b. below_child rest (cond b (Some (n, s)) None) ≡ one b rest s) [
      | true ↦
          refl
      | false ↦ refl
    ])

module _ (content : Place → List ℕ) (name : List ℕ) (rest : List (List ℕ)) where
  abbrev here : List (List ℕ × Part) → Option (Result (List ℕ) TreeFault)
  here ps = stream_under name rest (shown_parts content ps)

  here_push : (ps : List (List ℕ × Part)) (n : List ℕ) (p : Part) → here (ps ++ (n, p) ∷ [])
      ≡ or_behind (here ps) (one (key_eq (key name) (key n)) rest (shown_part content p))
  here_push ps n p =
      ap (stream_under name rest) (shown-push content ps (n, p))
      ∙ under_followed name rest (shown_parts content ps) (child (key n) (n, shown_part content p) none)
      ∙ ap (or_behind (here ps)) (under_one name rest (key n) n (shown_part content p))

nothing_behind : {A : Type 0} (o : Option A) → or_behind o None ≡ o
nothing_behind None = refl
nothing_behind (Some a) = refl

one_kept : (b : Bool) (rest : List (List ℕ)) (content : Place → List ℕ) (whole part : Part)
    → IsPartKeptOf (cond b (on_path rest) nothing) whole part
    → one b rest (shown_part content part) ≡ one b rest (shown_part content whole)
one_kept true rest content whole part h = ap (λ r. Some r) (h content)
one_kept false rest content whole part h = refl

one_left : (b : Bool) (rest : List (List ℕ)) (s : Seen) → ◌≡◌ {A = Wanted} (cond b (on_path rest) nothing) nothing
    → one b rest s ≡ None
one_left true rest s h = absurd (cc h)
one_left false rest s h = refl

-- ---- one part more, kept or left out
pub kept_none : (w : Wanted) → AreKeptOf w [] []
kept_none all = refl
kept_none (on_path []) = tt
kept_none (on_path (name ∷ rest)) = λ content. refl
kept_none nothing = tt

kept_push : (w : Wanted) (whole parts : List (List ℕ × Part)) (name : List ℕ) (full part : Part)
    → AreKeptOf w whole parts → IsPartKeptOf (below name w) full part
    → AreKeptOf w (whole ++ (name, full) ∷ []) (parts ++ (name, part) ∷ [])
kept_push all whole parts name full part h p = λ i. h i ++ (name, p i) ∷ []
kept_push (on_path []) whole parts name full part h p = tt
kept_push (on_path (first ∷ rest)) whole parts name full part h p = λ content.
    here_push content first rest parts name part
    ∙ (λ i. or_behind (h content i) (one_kept (key_eq (key first) (key name)) rest content full part p i))
    ∙ sym (here_push content first rest whole name full)
kept_push nothing whole parts name full part h p = tt

pub kept_left : (w : Wanted) (whole parts : List (List ℕ × Part)) (name : List ℕ) (full : Part)
    → AreKeptOf w whole parts → below name w ≡ nothing
    → AreKeptOf w (whole ++ (name, full) ∷ []) parts
kept_left all whole parts name full h e = absurd (cc e)
kept_left (on_path []) whole parts name full h e = tt
kept_left (on_path (first ∷ rest)) whole parts name full h e = λ content.
    h content
    ∙ sym (nothing_behind (stream_under first rest (shown_parts content whole)))
    ∙ ap (or_behind (stream_under first rest (shown_parts content whole)))
    (sym (one_left (key_eq (key first) (key name)) rest (shown_part content full) e))
    ∙ sym (here_push content first rest whole name full)
kept_left nothing whole parts name full h e = tt

pub kept_child : (w : Wanted) (whole parts : List (List ℕ × Part)) (name : List ℕ) (full : Part) (c : List ℕ × Part)
    → AreKeptOf w whole parts
    → IsChildKeptOf w name full (Some c) → AreKeptOf w (whole ++ (name, full) ∷ []) (parts ++ c ∷ [])
kept_child w whole parts name full c h k =
    subst (λ (n : List ℕ). AreKeptOf w (whole ++ (name, full) ∷ []) (parts ++ (n, c.1) ∷ [])) (sym k.0)
    (kept_push w whole parts name full c.1 h k.1)

-- ---- what is kept of a storage, and of a part
below_found : (rest : List (List ℕ)) (o : Option (List ℕ × Seen)) (r : Option (List ℕ × Seen))
    → below_child rest o ≡ below_child rest r
    → on_ok stream_bytes (on_ok (λ c. look rest c.1) (found o)) ≡ on_ok stream_bytes
    (on_ok (λ c. look rest c.1) (found r))
below_found rest None None h = refl
below_found rest None (Some c) h = absurd (cc h)
below_found rest (Some c) None h = absurd (cc h)
below_found rest (Some c) (Some d) h = cc

-- as many parts as a list has that was made
abbrev vec_of : {A X : Type 0} (ids : Vec A) (xs : List X) → length xs ≡ length ids.items → Vec X
vec_of ids xs long = record {
  ptr = ids.ptr;
  len = ids.len;
  cap = ids.cap;
  alloc = ids.alloc;
  items = xs;
  ok = (ids.ok.0 ∙ sym long, ids.ok.1);
  small = ids.small;
}

module _ (class : List ℕ) (state : ℕ) where
  -- the outline with these parts, of which another one is kept
  pub record IsWholeOf (w : Wanted) (whole : List (List ℕ × Part)) (parts : Vec (List ℕ × Part)) : Type 0 where
    pub all_parts : Vec (List ℕ × Part)
    pub items_are : all_parts.items ≡ whole
    pub is_kept : IsKeptOf w (roll-Outline (record { class = class; state = state; parts = all_parts }))
        (roll-Outline (record { class = class; state = state; parts = parts }))

  pub kept_whole : {A : Type 0} (w : Wanted) (ids : Vec A) (whole : List (List ℕ × Part))
      (parts : Vec (List ℕ × Part)) → length whole ≡ length ids.items
      → AreKeptOf w whole parts.items → IsWholeOf w whole parts
  kept_whole all ids whole parts long h = record { all_parts = parts; items_are = h; is_kept = refl }
  kept_whole (on_path []) ids whole parts long h = record {
    all_parts = vec_of ids whole long;
    items_are = refl;
    is_kept = λ content. refl;
  }
  kept_whole (on_path (name ∷ rest)) ids whole parts long h = record {
    all_parts = vec_of ids whole long;
    items_are = refl;
    is_kept = λ content.
        ap (stream_at (name ∷ rest)) (shown-roll content class state parts)
        ∙ below_found rest (find (key name) (shown_parts content parts.items))
        (find (key name) (shown_parts content whole)) (h content)
        ∙ sym (ap (stream_at (name ∷ rest)) (shown-roll content class state (vec_of ids whole long)));
  }
  kept_whole nothing ids whole parts long h = record {
    all_parts = vec_of ids whole long;
    items_are = refl;
    is_kept = tt;
  }

pub kept_inner : (w : Wanted) (whole o : Outline) → IsKeptOf w whole o → IsPartKeptOf w (Storage whole) (Storage o)
kept_inner all whole o h = ap (λ x. Storage x) h
kept_inner (on_path names) whole o h = λ content.
    ap (stream_below names) (shown-nested content o)
    ∙ h content
    ∙ sym (ap (stream_below names) (shown-nested content whole))
kept_inner nothing whole o h = tt

pub kept_same : (w : Wanted) (part : Part) → IsPartKeptOf w part part
kept_same all part = refl
kept_same (on_path names) part = λ content. refl
kept_same nothing part = tt
