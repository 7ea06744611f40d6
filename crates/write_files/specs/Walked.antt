-- Where the entries of children lead, in the order in which the writer meets them.
use Rattle.std.specs.Prelude.{◌∷◌, [], ℕ, List, length}
use Rattle.cfb_entries.specs.Tree.{Children}
use Rattle.tree_storage.specs.Child.{Seen, bytes, inner}
use Rattle.write_parts.specs.Leads.{each_lead, leads_below, storage_leads, stream_leads}
use Rattle.write_parts.specs.declared.leads.Lead.{Lead}
use Rattle.write_files.specs.declared.entries.Cursor.{Cursor}

-- where the entry of a child leads, and those below it
abbrev pub child_leads : List ℕ → ℕ → Cursor → Seen → List Lead
child_leads ids place at (bytes b) = stream_leads ids place at.mini at.sector (length b) ∷ []
child_leads ids place at (inner t) = storage_leads ids place at.id t ∷ leads_below at.id at.mini at.sector t

-- where those of siblings lead
abbrev pub sibling_leads : List ℕ → ℕ → Cursor → Children → List Lead
sibling_leads ids place at cs = each_lead ids place at.id at.mini at.sector cs
