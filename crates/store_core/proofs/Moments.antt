-- How a run of device calls goes on.
use Rattle.std.proofs.Common.{inl, inr, ⊎_elim, ℕ, arith}
use Rattle.store_model.specs.Crash.{Elapses, Quiet, StaysIn}
use Rattle.store_model.specs.Image.{Image}

module _ {D : Type 0} (may_leave : D → Image → Type 0) (moment : D → ℕ) (left_since : D → ℕ → Image → Type 0) where
  -- before the first call
  pub begun : (old : D) (P : Image → Type 0) → ((c : Image) → left_since old (moment old) c → may_leave old c)
      → ((c : Image) → may_leave old c → P c) → StaysIn may_leave moment left_since old old P
  begun old P only_now here =
      record {
        any_moment = record {
          later = omega arith;
          each = λ c since. here c (only_now c since);
          before = λ t c le left. inl left;
        };
        now = here;
      }

  -- one call more, after which a crash leaves what has P
  pub goes_on : (old mid new : D) (P : Image → Type 0) → StaysIn may_leave moment left_since old mid P
      → Elapses (moment mid) (moment new) (left_since mid) (left_since new) (may_leave new)
      → ((c : Image) → may_leave new c → P c) → StaysIn may_leave moment left_since old new P
  goes_on old mid new P so_far time here = record {
    any_moment = record {
      later = let first = so_far.any_moment.later in let second = time.later in omega (arith, first, second);
      each = λ c left. ⊎_elim (so_far.any_moment.each c) (here c)
          (time.nothing_else (moment old) c so_far.any_moment.later left);
      before = λ t c le left. ⊎_elim (so_far.any_moment.before t c le) (λ now. inr (here c now))
          (time.nothing_else t c (let first = so_far.any_moment.later in omega (arith, le, first)) left);
    };
    now = here;
  }

  -- one call
  pub one_call : (old new : D) (P : Image → Type 0)
      → ((c : Image) → left_since old (moment old) c → may_leave old c) → ((c : Image) → may_leave old c → P c)
      → Elapses (moment old) (moment new) (left_since old) (left_since new) (may_leave new)
      → ((c : Image) → may_leave new c → P c) → StaysIn may_leave moment left_since old new P
  one_call old new P only_now before time here = goes_on old old new P (begun old P only_now before) time here

  -- one run after another
  pub joined : (old mid new : D) (P : Image → Type 0) → StaysIn may_leave moment left_since old mid P
      → StaysIn may_leave moment left_since mid new P → StaysIn may_leave moment left_since old new P
  joined old mid new P first second = record {
    any_moment = record {
      later = let a = first.any_moment.later in let b = second.any_moment.later in omega (arith, a, b);
      each = λ c left. ⊎_elim (first.any_moment.each c) (λ has. has)
          (second.any_moment.before (moment old) c first.any_moment.later left);
      before = λ t c le left. ⊎_elim (first.any_moment.before t c le) (λ has. inr has)
          (second.any_moment.before t c (let a = first.any_moment.later in omega (arith, le, a)) left);
    };
    now = second.now;
  }

  -- what has P has Q
  pub weaker : (old new : D) (P Q : Image → Type 0) → ((c : Image) → P c → Q c)
      → StaysIn may_leave moment left_since old new P → StaysIn may_leave moment left_since old new Q
  weaker old new P Q then run = record {
    any_moment = record {
      later = run.any_moment.later;
      each = λ c left. then c (run.any_moment.each c left);
      before = λ t c le left. ⊎_elim (λ was. inl was) (λ has. inr (then c has)) (run.any_moment.before t c le left);
    };
    now = λ c left. then c (run.now c left);
  }

  -- a run in which a crash leaves P, and so Q, behind one in which it leaves Q
  pub then_leaves : (old mid new : D) (P Q : Image → Type 0) → StaysIn may_leave moment left_since old mid Q
      → StaysIn may_leave moment left_since mid new P → ((c : Image) → P c → Q c)
      → StaysIn may_leave moment left_since old new Q
  then_leaves old mid new P Q so_far run then = joined old mid new Q so_far (weaker mid new P Q then run)

  -- calls that change no byte
  pub then_quiet : (old mid new : D) (P : Image → Type 0) → StaysIn may_leave moment left_since old mid P
      → Quiet may_leave moment left_since mid new → StaysIn may_leave moment left_since old new P
  then_quiet old mid new P so_far quiet = then_leaves old mid new (may_leave mid) P so_far quiet so_far.now

  -- calls that change no byte, from a disk of which a crash leaves P
  pub quietly : (old new : D) (P : Image → Type 0) → ((c : Image) → may_leave old c → P c)
      → Quiet may_leave moment left_since old new → StaysIn may_leave moment left_since old new P
  quietly old new P before quiet = weaker old new (may_leave old) P before quiet
