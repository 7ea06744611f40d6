-- Writes of a front of some bytes.
use Rattle.std.proofs.Common.{◌≡◌, ◌≤◌, ◌+◌, ◌-◌, ℕ, List, length, drop, take, length-take, sym, ◌∙◌, ap, arith}
use Rattle.std.proofs.lemmas.List.{drop-drop}
use Rattle.store_model.specs.Crash.{Follows, InArea, Torn}
use Rattle.store_model.specs.Image.{Image}
use Rattle.store_model.specs.declared.area.Area.{Area}
use Rattle.store_model.specs.declared.area.Area.TheVariants.{Document, Journal}

-- a write is one of more bytes of which the rest is not done
wider : (at n m : ℕ) (old new : List ℕ) → n ≤ m → Torn at n old new → Torn at m old new
wider at n m old new le torn =
    let most = torn.no_longer in
    let sum : at + n + (m - n) ≡ at + m = omega (arith, le) in
    record {
      before = torn.before;
      after = ap (λ (k : ℕ). drop k new) (sym sum) ∙ sym (drop-drop (m - n) (at + n) new)
          ∙ ap (λ (l : List ℕ). drop (m - n) l) torn.after ∙ drop-drop (m - n) (at + n) old
          ∙ ap (λ (k : ℕ). drop k old) sum;
      no_shorter = torn.no_shorter;
      no_longer = omega (arith, le, most);
    }

wider_in : (area : Area) (at n m : ℕ) (old new : Image) → n ≤ m → InArea area (Torn at n) old new
    → InArea area (Torn at m) old new
wider_in Document at n m old new le is = (wider at n m old.document new.document le is.0, is.1)
wider_in Journal at n m old new le is = (is.0, wider at n m old.journal new.journal le is.1)

pub follows_wider : (area : Area) (at n m : ℕ) (old new : Image → Type 0) → n ≤ m
    → Follows (InArea area (Torn at n)) old new → Follows (InArea area (Torn at m)) old new
follows_wider area at n m old new le follows = λ c now. let d = follows c now in
    (d.0, d.1, wider_in area at n m d.0 c le d.2)

pub front_follows : (area : Area) (at : ℕ) (bytes : List ℕ) (n : ℕ) (old new : Image → Type 0)
    → Follows (InArea area (Torn at (length (take n bytes)))) old new
    → Follows (InArea area (Torn at (length bytes))) old new
front_follows area at bytes n old new follows = follows_wider area at (length (take n bytes)) (length bytes) old new
    (omega (arith, length-take n bytes)) follows
