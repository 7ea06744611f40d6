-- Calls of files one after another.
use Rattle.std.proofs.Common.{◌≡◌, ◌≤◌, inl, inr, ⊎_elim, ℕ, Bool, true, false, Err, Ok, refl, arith}
use Rattle.std.specs.declared.io.Error.{Error}
use Rattle.store_model.specs.Crash.{Elapses, IsWithin}
use Rattle.store_model.specs.Image.{Image}
use Rattle.store_disk.specs.Sound.{StaysSound, WritesSound}

module _ {F : Type 0} (may_leave : F → Image → Type 0) (moment : F → ℕ) (left_since : F → ℕ → Image → Type 0) where
  -- no call
  pub no_time : (old : F) → Elapses (moment old) (moment old) (left_since old) (left_since old) (may_leave old)
  no_time old = record { later = omega arith; nothing_else = λ t c le since. inl since; keeps = λ t c le past. past }

  -- one call more, where what a crash might have left in between was known
  pub then_time : (old mid new : F) → ((t : ℕ) (c : Image) → t ≤ moment old → may_leave mid c → left_since old t c)
      → Elapses (moment old) (moment mid) (left_since old) (left_since mid) (may_leave mid)
      → Elapses (moment mid) (moment new) (left_since mid) (left_since new) (may_leave new)
      → Elapses (moment old) (moment new) (left_since old) (left_since new) (may_leave new)
  then_time old mid new known first second =
      let a = first.later in
      let b = second.later in
      record {
        later = omega (arith, a, b);
        nothing_else = λ t c le since. ⊎_elim
            (λ was. ⊎_elim (λ past. inl past) (λ here. inl (known t c le here)) (first.nothing_else t c le was))
            (λ now. inr now)
            (second.nothing_else t c (omega (arith, a, le)) since);
        keeps = λ t c le past. second.keeps t c (omega (arith, a, le)) (first.keeps t c le past);
      }

  -- one call more, which leaves a crash all that it might have left in between
  pub grown_time : (old mid new : F) → IsWithin (may_leave new) (may_leave mid)
      → Elapses (moment old) (moment mid) (left_since old) (left_since mid) (may_leave mid)
      → Elapses (moment mid) (moment new) (left_since mid) (left_since new) (may_leave new)
      → Elapses (moment old) (moment new) (left_since old) (left_since new) (may_leave new)
  grown_time old mid new grows first second =
      let a = first.later in
      let b = second.later in
      record {
        later = omega (arith, a, b);
        nothing_else = λ t c le since. ⊎_elim
            (λ was. ⊎_elim (λ past. inl past) (λ here. inr (grows c here)) (first.nothing_else t c le was))
            (λ now. inr now)
            (second.nothing_else t c (omega (arith, a, le)) since);
        keeps = λ t c le past. second.keeps t c (omega (arith, a, le)) (first.keeps t c le past);
      }

module _ {F : Type 0} (sync_may_lie has_names : F → Bool) where
  pub same_sound : (files : F) → StaysSound sync_may_lie has_names files files
  same_sound files = record { sound = λ was. was; named = λ was. was }

  pub then_sound : (old mid new : F) → StaysSound sync_may_lie has_names old mid
      → StaysSound sync_may_lie has_names mid new → StaysSound sync_may_lie has_names old new
  then_sound old mid new first second = record {
    sound = λ was. second.sound (first.sound was);
    named = λ was. second.named (first.named was);
  }

  -- a write more, which is done, and one that is refused
  pub then_written : {T : Type 0} (old mid new : F) (value : T) → StaysSound sync_may_lie has_names old mid
      → WritesSound sync_may_lie has_names mid new (Ok value) → StaysSound sync_may_lie has_names old new
  then_written old mid new value first second = record {
    sound = λ was. second.written (first.sound was);
    named = λ was. second.named (first.named was);
  }

  pub then_refused : {T U : Type 0} (old mid new : F) (error : Error) → StaysSound sync_may_lie has_names old mid
      → WritesSound {T = T} sync_may_lie has_names mid new (Err error)
      → WritesSound {T = U} sync_may_lie has_names old new (Err error)
  then_refused old mid new error first second =
      record {
        written = tt;
        refused = λ room was. second.refused room (first.sound was);
        named = λ was. second.named (first.named was);
      }

  -- writes that are all done
  pub written_sound : {T : Type 0} {value : T} (old new : F) → StaysSound sync_may_lie has_names old new
      → WritesSound sync_may_lie has_names old new (Ok value)
  written_sound old new stays = record { written = stays.sound; refused = tt; named = stays.named }

-- what follows from a test, whatever it answers
pub either_way : (b : Bool) (P : Type 0) → (b ≡ true → P) → (b ≡ false → P) → P
either_way true P when_true when_false = when_true refl
either_way false P when_true when_false = when_false refl
