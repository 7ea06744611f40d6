-- What is known where servers were left as they were, once `servers` and `turned` are opened.
use Rattle.std.proofs.Common.{◌≡◌, ℕ, Bool, ap}
use Rattle.script_container.specs.Servers.{Servers, Turned}

pub still_of : {a b : Servers} → a ≡ b → (s : ℕ) → a.runs s ≡ b.runs s
still_of same s = ap (λ (o : Servers). o.runs s) same

pub quiet_of : {a b : Servers} → a ≡ b → (s : ℕ) → a.passing s ≡ b.passing s
quiet_of same s = ap (λ (o : Servers). o.passing s) same

pub turned_of : {a b : Servers} → a ≡ b → a.turns ≡ b.turns
turned_of same = ap (λ (o : Servers). o.turns) same

pub paced_of : {a b : Turned} → a ≡ b → (s : ℕ) → a.pacing s ≡ b.pacing s
paced_of same s = ap (λ (t : Turned). t.pacing s) same

pub handing_of : {a b : Turned} → a ≡ b → (f : ℕ → Bool) → a.handing f ≡ b.handing f
handing_of same f = ap (λ (t : Turned). t.handing f) same
