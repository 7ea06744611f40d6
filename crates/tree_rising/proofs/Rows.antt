-- Names and bytes in a row.
use Rattle.std.proofs.Common.{◌≡◌, ◌∙◌, ◌++◌, ℕ, List, [], ◌∷◌, ap, arith, length, map, refl}
use Rattle.std.specs.List.{zip}
use Rattle.std.specs.Map.{keys_of}
use Rattle.cfb_names.specs.Names.{key}
use Rattle.tree_rising.specs.Row.{entries_of}

-- the keys of the children are those of the names
pub keys-zip : (names contents : List (List ℕ)) → length contents ≡ length names
    → keys_of (entries_of (zip names contents)) ≡ map key names
keys-zip [] contents long = refl
keys-zip (n ∷ names) [] long = absurd (omega (arith, long))
keys-zip (n ∷ names) (c ∷ contents) long = ap (λ ks. key n ∷ ks) (keys-zip names contents (omega (arith, long)))

zip-push : (names contents : List (List ℕ)) (name bytes : List ℕ) → length contents ≡ length names
    → zip (names ++ name ∷ []) (contents ++ bytes ∷ []) ≡ zip names contents ++ (name, bytes) ∷ []
zip-push [] [] name bytes long = refl
zip-push [] (c ∷ contents) name bytes long = absurd (omega (arith, long))
zip-push (n ∷ names) [] name bytes long = absurd (omega (arith, long))
zip-push (n ∷ names) (c ∷ contents) name bytes long =
    ap (λ row. (n, c) ∷ row) (zip-push names contents name bytes (omega (arith, long)))

-- what a name and its bytes that are pushed leave
pub pushed : (names held more contents filled : List (List ℕ)) (name bytes : List ℕ)
    → length contents ≡ length names → held ≡ names → more ≡ held ++ name ∷ [] → filled ≡ contents ++ bytes ∷ []
    → zip more filled ≡ zip names contents ++ (name, bytes) ∷ []
pushed names held more contents filled name bytes long same named put =
    ap (zip more) put
    ∙ ap (λ ns. zip ns (contents ++ bytes ∷ [])) (named ∙ ap (λ ns. ns ++ name ∷ []) same)
    ∙ zip-push names contents name bytes long
