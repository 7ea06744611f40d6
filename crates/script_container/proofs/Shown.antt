-- What a history shows of an error.
use Rattle.std.proofs.Common.{◌≡◌, inl, inr, ℕ, List, ◌∷◌, Some, None, Result, Ok, Err, IfErr, sym, ap, ◌∙◌, subst}
use Rattle.std.specs.Result.{IsErrAnd}
use Rattle.message_values.specs.Found.{nth}
use Rattle.container_model.specs.Record.{Record}
use Rattle.container_model.specs.declared.record.Frame.{Frame}
use Rattle.container_model.specs.Saves.{image as image_of}
use Rattle.store_model.specs.declared.disk.Disk.{Ghosts as Disks}
use Rattle.store_model.specs.declared.fault.StoreFault.{StoreFault}
use Rattle.script_model.specs.Errors.{IsUnknown, IsUnopened, IsUntoldFor}
use Rattle.script_model.specs.Events.{Event, Opened, Shut}
use Rattle.script_model.specs.Saved.{IsMissing, file_name}
use Rattle.script_container.specs.Shown.{Shows}
use Rattle.script_container.specs.Told.{IsImage, IsTold}
use Rattle.script_container.specs.declared.fault.ScriptFault.{ScriptFault}
use Rattle.script_container.specs.declared.fault.ScriptFault.TheVariants as fault

-- ---- errors

module _ {D : Type 0} (disks : Disks D) where
  -- want of memory alone
  pub memory_shown : {A : Type 0} (r : Result A ScriptFault) (es : List (Event D))
      → IfErr r (λ e. e ≡ fault.NoMemory) → IfErr r (λ e. Shows disks es e)
  memory_shown (Ok x) es lacking = tt
  memory_shown (Err e) es lacking = subst (λ (x : ScriptFault). Shows disks es x) (sym lacking) tt

  -- an error that is handed on
  pub passed_on : {X : Type 0} (r : Result X ScriptFault) (e : ScriptFault) (es : List (Event D))
      → IsErrAnd r (λ x. x ≡ e) → Shows disks es e → IfErr r (λ x. Shows disks es x)
  passed_on (Ok x) e es is shown = tt
  passed_on (Err x) e es is shown = subst (λ (f : ScriptFault). Shows disks es f) (sym is) shown

  pub memory_on : {X : Type 0} (r : Result X ScriptFault) (es : List (Event D))
      → IsErrAnd r (λ x. x ≡ fault.NoMemory) → IfErr r (λ x. Shows disks es x)
  memory_on r es is = passed_on r fault.NoMemory es is tt

  pub lacking_on : {X : Type 0} (r : Result X ScriptFault) (e : ScriptFault) (es : List (Event D))
      → IsErrAnd r (λ x. x ≡ e) → e ≡ fault.NoMemory → IfErr r (λ x. Shows disks es x)
  lacking_on r e es is lacking = passed_on r e es is (subst (λ (f : ScriptFault). Shows disks es f) (sym lacking) tt)

-- want of memory, where nothing else is told
pub lacks : {X : Type 0} (r : Result X ScriptFault) → IsErrAnd r (λ x. x ≡ fault.NoMemory)
    → IfErr r (λ x. x ≡ fault.NoMemory)
lacks (Ok x) is = tt
lacks (Err x) is = is

pub lacks_on : {X : Type 0} (r : Result X ScriptFault) (e : ScriptFault) → IsErrAnd r (λ x. x ≡ e)
    → e ≡ fault.NoMemory → IfErr r (λ x. x ≡ fault.NoMemory)
lacks_on (Ok x) e is lacking = tt
lacks_on (Err x) e is lacking = is ∙ lacking

-- ---- saves

module _ {D : Type 0} (disks : Disks D) where
  pub missing_twice : (name : List ℕ) (why : StoreFault) (es after : List (Event D)) → IsMissing name es
      → after ≡ Opened name None ∷ es → IsUnopened disks name why after
  missing_twice name why es after missing twice = inl (missing.0, twice ∙ ap (λ h. Opened name None ∷ h) missing.1)

  pub given_back : {X : Type 0} (r : Result X StoreFault) (name : List ℕ) (es mid after : List (Event D))
      (given disk : D) → mid ≡ Opened name (Some given) ∷ es → after ≡ Shut name disk ∷ mid
      → IfErr r (λ e. IsUntoldFor disks given disk e) → IfErr r (λ e. IsUnopened disks name e after)
  given_back (Ok x) name es mid after given disk opened shut untold = tt
  given_back (Err e) name es mid after given disk opened shut untold =
      inr (record {
        given = given;
        disk = disk;
        before = es;
        last = shut ∙ ap (λ h. Shut name disk ∷ h) opened;
        cause = untold;
      })

  pub unknown_by : (es : List (Event D)) (r : Record) (f : ℕ) (frame : Frame) (name bytes : List ℕ)
      (why : StoreFault) → IsTold disks es r → IsUnopened disks name why es → nth r.frames f ≡ Some frame
      → name ≡ file_name frame → IsImage r f bytes → IsUnknown disks es name why
  unknown_by es r f frame name bytes why t last found named image = record {
    f = f;
    frame = frame;
    found = ap (λ (q : Record). nth q.frames f) t.recorded ∙ found;
    named = named;
    saved = image.0;
    counted = ap (λ (q : Record). image_of q f) t.recorded ∙ image.1;
    last = last;
  }
