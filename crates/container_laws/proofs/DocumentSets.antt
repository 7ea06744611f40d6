-- Documents are equal or not, so there is at most one proof that two of them are equal.
use Rattle.std.proofs.Common.{◌≡◌, ℕ, List, ap}
use Rattle.std.proofs.Math.Decide.{ℕ_discrete}
use mathlib.Core.HLevel.{Discrete, hedberg}
use mathlib.Core.List.{List-discrete}
use Rattle.tree_streams.specs.declared.area.Area.{Area}
use Rattle.tree_streams.specs.declared.stored.Stored.{Stored}
use Rattle.tree_streams.specs.declared.streams.NamedStream.{NamedStream}
use Rattle.ole_model.specs.Documents.{Doc}
use Rattle.ole_model.specs.declared.object.DocObject.{DocObject}

text_decided : Discrete (List ℕ)
text_decided = List-discrete ℕ_discrete

both_decided : {P Q R : Type 0} → Dec P → Dec Q → (P → Q → R) → (R → P) → (R → Q) → Dec R
both_decided (yes p) (yes q) k f g = yes (k p q)
both_decided (yes p) (no n) k f g = no (λ r. n (g r))
both_decided (no n) q k f g = no (λ r. n (f r))

pair_decided : {P Q : Type 0} → Dec P → Dec Q → Dec (P × Q)
pair_decided p q = both_decided p q (λ x y. (x, y)) (λ r. r.0) (λ r. r.1)

area_made : (a b : Area) → (a.x ≡ b.x) × (a.y ≡ b.y) → (a.w ≡ b.w) × (a.h ≡ b.h) → a ≡ b
area_made a b p q = λ i. record { x = p.0 i; y = p.1 i; w = q.0 i; h = q.1 i }

area_decided : Discrete Area
area_decided a b = both_decided (pair_decided (ℕ_discrete a.x b.x) (ℕ_discrete a.y b.y))
    (pair_decided (ℕ_discrete a.w b.w) (ℕ_discrete a.h b.h)) (area_made a b)
    (λ e. (ap (λ (z : Area). z.x) e, ap (λ (z : Area). z.y) e))
    (λ e. (ap (λ (z : Area). z.w) e, ap (λ (z : Area). z.h) e))

stream_made : (a b : NamedStream) → a.name ≡ b.name → a.bytes ≡ b.bytes → a ≡ b
stream_made a b p q = λ i. record { name = p i; bytes = q i }

stream_decided : Discrete NamedStream
stream_decided a b = both_decided (text_decided a.name b.name) (text_decided a.bytes b.bytes) (stream_made a b)
    (ap (λ (z : NamedStream). z.name)) (ap (λ (z : NamedStream). z.bytes))

stored_made : (a b : Stored) → a.streams ≡ b.streams → a.picture ≡ b.picture → a ≡ b
stored_made a b p q = λ i. record { streams = p i; picture = q i }

stored_decided : Discrete Stored
stored_decided a b = both_decided (List-discrete stream_decided a.streams b.streams)
    (text_decided a.picture b.picture) (stored_made a b) (ap (λ (z : Stored). z.streams))
    (ap (λ (z : Stored). z.picture))

object_made : (a b : DocObject) → (a.class ≡ b.class) × (a.user_type ≡ b.user_type) → (a.area ≡ b.area)
    × (a.stored ≡ b.stored) → a ≡ b
object_made a b p q = λ i. record { class = p.0 i; user_type = p.1 i; area = q.0 i; stored = q.1 i }

object_decided : Discrete DocObject
object_decided a b =
    both_decided (pair_decided (text_decided a.class b.class) (text_decided a.user_type b.user_type))
    (pair_decided (area_decided a.area b.area) (stored_decided a.stored b.stored)) (object_made a b)
    (λ e. (ap (λ (z : DocObject). z.class) e, ap (λ (z : DocObject). z.user_type) e))
    (λ e. (ap (λ (z : DocObject). z.area) e, ap (λ (z : DocObject). z.stored) e))

document_made : (a b : Doc) → a.session ≡ b.session → a.objects ≡ b.objects → a ≡ b
document_made a b p q = λ i. record { session = p i; objects = q i }

document_decided : Discrete Doc
document_decided a b = both_decided (ℕ_discrete a.session b.session)
    (List-discrete object_decided a.objects b.objects) (document_made a b) (ap (λ (z : Doc). z.session))
    (ap (λ (z : Doc). z.objects))

pub Document-set : IsSet Doc
Document-set = hedberg document_decided
