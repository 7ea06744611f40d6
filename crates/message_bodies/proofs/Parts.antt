-- Parts of a body that are read one after another.
use Rattle.std.proofs.Common.{◌≡◌, ℕ, suc, ◌-◌, ◌+◌, ◌<◌, ◌≤◌, true, cond, List, [], ◌∷◌, ◌++◌, length, refl, sym, ap}
use Rattle.std.proofs.Common.{subst, ◌∙◌, Result, arith}
use Rattle.tree_streams.specs.declared.streams.NamedStream.{NamedStream}
use Rattle.tree_streams.specs.declared.stored.Stored.{Stored}
use Rattle.message_bodies.specs.declared.body.BodyFault.{BodyFault}
use Rattle.message_bodies.specs.declared.body.BodyFault.TheVariants.{Bad, Memory}
use Rattle.message_bodies.specs.Decoding.{Fails, Lacks, Makes, Stops}
use Rattle.message_model.specs.declared.codes.Kind.{Kind}
use Rattle.message_model.specs.declared.codes.Kind.TheVariants as kind
use Rattle.message_model.specs.declared.frame.Frame.{Frame}
use Rattle.message_model.specs.Reading.{Reader, ask_in, bad, byte, blob, call_in, name, more, may_follow, number}
use Rattle.message_model.specs.Reading.{pictured, counted, read_body, reply_in, stored, write_in}
use Rattle.message_model.proofs.Fields.{le_passes}

abbrev behind_bytes : ℕ → List NamedStream → ℕ → (List NamedStream → ℕ → Reader) → List ℕ → List ℕ → Reader
behind_bytes left before room k n bs = more left (before ++ record { name = n; bytes = bs } ∷ []) (room - length bs) k

abbrev behind_name : ℕ → List NamedStream → ℕ → (List NamedStream → ℕ → Reader) → List ℕ → Reader
behind_name left before room k n = cond (may_follow before n) (blob room (behind_bytes left before room k n)) bad

pub stops : (e : BodyFault) (streams : List NamedStream) (room : ℕ) (xs n rest : List ℕ)
    → ((k : List ℕ → Reader) → name k xs ≡ k n rest) → may_follow streams n ≡ true → Lacks e (blob room) rest
    → Stops e streams room xs
unfolding more
stops Bad streams room xs n rest named follows lacks =
    λ left k. named (behind_name left streams room k)
    ∙ ap (λ b. cond b (blob room (behind_bytes left streams room k n)) bad rest) follows
    ∙ lacks (behind_bytes left streams room k n)
stops Memory streams room xs n rest named follows lacks = tt

abbrev streams_of : ℕ → (List NamedStream × ℕ → Reader) → Reader
streams_of n k = more n [] 262144 (λ ss room. k (ss, room))

pub streams_stop : (e : BodyFault) (count i : ℕ) (streams : List NamedStream) (room : ℕ) (rest xs : List ℕ) → i < count
    → ((k : List NamedStream → ℕ → Reader) → more (count - i) streams room k rest ≡ more count [] 262144 k xs)
    → Stops e streams room rest → Lacks e (streams_of count) xs
streams_stop Bad count i streams room rest xs lt so_far stop =
    let next : count - i ≡ suc (count - (i + 1)) = omega arith in
    λ k. sym (so_far (λ ss r. k (ss, r))) ∙ ap (λ m. more m streams room (λ ss r. k (ss, r)) rest) next
    ∙ stop (count - (i + 1)) (λ ss r. k (ss, r))
streams_stop Memory count i streams room rest xs lt so_far stop = tt

pub streams_end : (count i : ℕ) (streams : List NamedStream) (room : ℕ) (rest xs : List ℕ) → count ≤ i
    → ((k : List NamedStream → ℕ → Reader) → more (count - i) streams room k rest ≡ more count [] 262144 k xs)
    → (k : List NamedStream × ℕ → Reader) → streams_of count k xs ≡ k (streams, room) rest
unfolding more
streams_end count i streams room rest xs le so_far k =
    let over : count - i ≡ 0 = omega arith in
    sym (so_far (λ ss r. k (ss, r))) ∙ ap (λ m. more m streams room (λ ss r. k (ss, r)) rest) over

counted_is : (n : ℕ) (xs rest : List ℕ) (k : Stored → Reader) → ((k : ℕ → Reader) → byte k xs ≡ k n rest) → n ≤ 8
    → stored k xs ≡ streams_of n (λ p. pictured k p.0 p.1) rest
counted_is n xs rest k first le = first (counted k) ∙ ap (λ t. cond t (more n [] 262144 (pictured k)) bad rest)
    (le_passes n 8 le)

pub stored_stops : (e : BodyFault) (n : ℕ) (xs rest : List ℕ) → ((k : ℕ → Reader) → byte k xs ≡ k n rest) → n ≤ 8
    → Lacks e (streams_of n) rest → Lacks e stored xs
stored_stops Bad n xs rest first le lacks = λ k. counted_is n xs rest k first le ∙ lacks (λ p. pictured k p.0 p.1)
stored_stops Memory n xs rest first le lacks = tt

pub stored_unpictured : (e : BodyFault) (n : ℕ) (xs rest : List ℕ) (ss : List NamedStream) (room : ℕ)
    (behind : List ℕ) → ((k : ℕ → Reader) → byte k xs ≡ k n rest) → n ≤ 8
    → ((k : List NamedStream × ℕ → Reader) → streams_of n k rest ≡ k (ss, room) behind) → Lacks e (blob room) behind
    → Lacks e stored xs
stored_unpictured Bad n xs rest ss room behind first le read lacks =
    λ k. counted_is n xs rest k first le ∙ read (λ p. pictured k p.0 p.1)
    ∙ lacks (λ bs. k (record { streams = ss; picture = bs }))
stored_unpictured Memory n xs rest ss room behind first le read lacks = tt

pub stored_read : (n : ℕ) (xs rest : List ℕ) (ss : List NamedStream) (room : ℕ) (behind pic last : List ℕ)
    → ((k : ℕ → Reader) → byte k xs ≡ k n rest) → n ≤ 8
    → ((k : List NamedStream × ℕ → Reader) → streams_of n k rest ≡ k (ss, room) behind)
    → ((k : List ℕ → Reader) → blob room k behind ≡ k pic last) → (k : Stored → Reader)
    → stored k xs ≡ k (record { streams = ss; picture = pic }) last
stored_read n xs rest ss room behind pic last first le read pictures k =
    counted_is n xs rest k first le ∙ read (λ p. pictured k p.0 p.1)
    ∙ pictures (λ bs. k (record { streams = ss; picture = bs }))

-- ---- a session, and what is said behind it

pub call_said : (xs : List ℕ) → read_body kind.Call xs ≡ number call_in xs
unfolding read_body
call_said xs = refl

pub reply_said : (xs : List ℕ) → read_body kind.Reply xs ≡ number reply_in xs
unfolding read_body
reply_said xs = refl

pub write_said : (xs : List ℕ) → read_body kind.Write xs ≡ number write_in xs
unfolding read_body
write_said xs = refl

pub ask_said : (xs : List ℕ) → read_body kind.Ask xs ≡ number ask_in xs
unfolding read_body
ask_said xs = refl

pub unsaid : (e : BodyFault) (k : Kind) (xs : List ℕ) → (k ≡ kind.Turn → ⊥) → Lacks e number xs
    → Fails e (read_body k xs)
unsaid Memory k xs other lacks = tt
unsaid Bad kind.Call xs other lacks = call_said xs ∙ lacks call_in
unsaid Bad kind.Reply xs other lacks = reply_said xs ∙ lacks reply_in
unsaid Bad kind.Write xs other lacks = write_said xs ∙ lacks write_in
unsaid Bad kind.Ask xs other lacks = ask_said xs ∙ lacks ask_in
unsaid Bad kind.Turn xs other lacks = absurd (other refl)

-- what is made of what stands behind a session is made of the body
pub made : (r : Result Frame BodyFault) (k : Kind) (said : ℕ → Reader) (session : ℕ) (xs rest : List ℕ)
    → read_body k xs ≡ number said xs → ((f : ℕ → Reader) → number f xs ≡ f session rest)
    → Makes r (said session rest) → Makes r (read_body k xs)
made r k said session xs rest is given makes = subst (Makes r) (sym (is ∙ given said)) makes
