-- Where a label stands.
use Rattle.std.specs.Prelude.{ℕ, List, [], ◌∷◌, ◌++◌, Option, Some, None, is_some, if◌then◌else◌}
use Rattle.mv_asmtext.specs.declared.labels.Site.{Site}
use Rattle.mv_asmtext.specs.declared.source.Line.{Line}
use Rattle.mv_asmtext.specs.Sites.{Sites, named}

abbrev pub with_site : Sites → List ℕ → Site → Sites
with_site sites name site = if is_some (named name sites) then sites else sites ++ (name, site) ∷ []

abbrev pub with_name : Sites → Line → Option (List ℕ) → Sites
with_name sites l None = sites
with_name sites l (Some name) = with_site sites name (record { line = l.number; address = l.address })

-- labels with those of more lines, each where it stands first
unfoldable pub labels_from : Sites → List Line → Sites
labels_from sites [] = sites
labels_from sites (l ∷ ls) = labels_from (with_name sites l l.label) ls

abbrev pub labels_of : List Line → Sites
labels_of lines = labels_from [] lines
