-- The listing of a file as one JSON value (RFC 8259): an array of objects, one for the root and then one for each
-- storage and stream, depth first in name order.
use Rattle.std.specs.Prelude.{◌++◌, ℕ, List, [], ◌∷◌, codes, cond, nat_eq}
use Rattle.std.specs.Fmt.{decimal}
use Rattle.json.specs.Print.{print}
use Rattle.json.specs.Token.{Token, begin_array, begin_object, end_array, end_object, key, number, string}
use Rattle.read_outlines.specs.declared.outline.Place.{Place}
use Rattle.text_words.specs.Spelled.{class_text, name_text}
use Rattle.tell_forms.specs.Placed.{Part, Parts, Placed, lies, nested, no_parts, placed, storage_part, stream_part}

-- a member of a text, and one of a number
abbrev pub text_member : List ℕ → List ℕ → List Token
text_member name text = key name ∷ string text ∷ []

abbrev pub number_member : List ℕ → ℕ → List Token
number_member name n = key name ∷ number (decimal n) ∷ []

-- what is told of the root and of a storage: what it is, its path, its class id and its state bits
abbrev pub storage_tokens : List ℕ → List ℕ → List ℕ → ℕ → List Token
storage_tokens type path class state = begin_object
    ∷ (text_member (codes "type") type ++ text_member (codes "path") path
    ++ text_member (codes "class") (class_text class) ++ number_member (codes "state") state ++ end_object ∷ [])

-- the sector that a stream begins with, or its mini sector; an empty one begins with none
abbrev pub first_member : Place → List Token
first_member place = cond (nat_eq place.size 0) [] (number_member (codes "first") place.first)

-- what is told of a stream: its path, its size, and where it begins
abbrev pub stream_tokens : List ℕ → Place → List Token
stream_tokens path place = begin_object
    ∷ (text_member (codes "type") (codes "stream") ++ text_member (codes "path") path
    ++ number_member (codes "size") place.size ++ first_member place ++ end_object ∷ [])

-- What is told of what stands below a storage, before whose names the text `within` stands: nothing for the root, and
-- else the storage's path and a slash.
abbrev mutual
  pub inner_tokens : List ℕ → Placed → List Token
  inner_tokens path (placed class state ps) = storage_tokens (codes "storage") path class state
      ++ each_tokens (path ++ 47 ∷ []) ps

  pub each_tokens : List ℕ → Parts → List Token
  each_tokens within no_parts = []
  each_tokens within (stream_part name place ps) = stream_tokens (within ++ name_text name) place
      ++ each_tokens within ps
  each_tokens within (storage_part name o ps) = inner_tokens (within ++ name_text name) o ++ each_tokens within ps

abbrev pub below_tokens : List ℕ → Placed → List Token
below_tokens within (placed class state ps) = each_tokens within ps

-- the whole array
abbrev pub json_tokens : Placed → List Token
json_tokens (placed class state ps) = begin_array
    ∷ (storage_tokens (codes "root") [] class state ++ (each_tokens [] ps ++ end_array ∷ []))

-- the line of these tokens, with no space between them
abbrev pub json_listed : Placed → List ℕ
json_listed o = print (json_tokens o) ++ 10 ∷ []

-- what is told of one child
abbrev pub child_tokens : List ℕ → List ℕ → Part → List Token
child_tokens within name (lies place) = stream_tokens (within ++ name_text name) place
child_tokens within name (nested o) = inner_tokens (within ++ name_text name) o
