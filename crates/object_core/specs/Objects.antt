-- What an embedded object does with an edit and with streams.
use Rattle.std.specs.Prelude.{◌≡◌, ℕ, true, List, [], ◌∷◌, Option, Some, None, option_and_then, Result, Ok, Err, IsOk}
use Rattle.std.specs.Prelude.{cond}
use Rattle.cfb_names.specs.Names.{key, key_eq}
use Rattle.tree_streams.specs.declared.streams.NamedStream.{NamedStream}
use Rattle.object_core.specs.Content.{Content, is_content, stream_name, stream_bytes, stored}
use Rattle.object_core.specs.Kinds.{Kind, kind_of, empty}
use Rattle.object_core.specs.Edits.{Edit, edited}
use Rattle.object_core.specs.Reading.{edit_of, content_of}
use Rattle.object_core.specs.declared.fault.EmbedFault.{EmbedFault}
use Rattle.object_core.specs.declared.fault.EmbedFault.TheVariants.{BadEdit, BadContent, NoMemory}

-- the content after the edit that bytes spell
abbrev pub edit_told : Content → Option Edit → Result Content EmbedFault
edit_told c None = Err BadEdit
edit_told c (Some e) = edited e c

abbrev pub edit : Content → List ℕ → Result Content EmbedFault
edit c bytes = edit_told c (edit_of (kind_of c) bytes)

-- the bytes of the only stream, where its name is this one, whatever the case
abbrev pub sole_bytes : List ℕ → List NamedStream → Option (List ℕ)
sole_bytes name (s ∷ []) = cond (key_eq (key s.name) (key name)) (Some s.bytes) None
sole_bytes name _ = None

-- the content that streams hold: the one stream of the kind, whatever the case of its name, within the kind's sizes
abbrev pub load_told : Option Content → Result Content EmbedFault
load_told None = Err BadContent
load_told (Some c) = cond (is_content c) (Ok c) (Err BadContent)

abbrev pub load : Kind → List NamedStream → Result Content EmbedFault
load k streams = load_told (option_and_then (content_of k) (sole_bytes (stream_name (empty k)) streams))

-- a call answers what it is told to, or that no memory is left where it would have succeeded
abbrev pub Refuses : {A : Type 0} → Result A EmbedFault → EmbedFault → Type 0
Refuses told NoMemory = IsOk told
Refuses told fault = told ≡ Err fault

-- Laws.

-- what is stored is loaded again
abbrev pub StoredIsLoaded : Type 0
StoredIsLoaded = (c : Content) → is_content c ≡ true → load (kind_of c) (stored c) ≡ Ok c

-- what is loaded was so stored, but for the case of the stream's name
abbrev pub LoadedWasStored : Type 0
LoadedWasStored = (k : Kind) (s : NamedStream) (c : Content) → load k (s ∷ []) ≡ Ok c → (kind_of c ≡ k)
    × (is_content c ≡ true) × (stream_bytes c ≡ s.bytes)

-- no edit changes the kind, or leaves its sizes
abbrev pub EditsStay : Type 0
EditsStay = (c d : Content) (bytes : List ℕ) → edit c bytes ≡ Ok d → is_content c ≡ true → (kind_of d ≡ kind_of c)
    × (is_content d ≡ true)
