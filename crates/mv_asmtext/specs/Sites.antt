-- The labels of a text with their sites, in order: a plain list, and the two maps that hold it.
use Rattle.std.specs.Prelude.{◌≡◌, ℕ, ◌<◌, ◌≤◌, List, [], ◌∷◌, length, Option, Some, None, nat_eq, option_map, if◌then◌else◌}
use Rattle.std.specs.BTreeMap.{BTreeMap, get_by}
use Rattle.std.specs.Cmp.Lexicographic.{pointwise, slice_cmp}
use Rattle.std.specs.Map.{lookup}
use Rattle.std.specs.Ordering.{nat_cmp}
use Rattle.std.specs.declared.vec.Vec.{Vec}
use Rattle.std.specs.declared.alloc.Global.{Global}
use Rattle.mv_asmtext.specs.declared.labels.Site.{Site}

abbrev pub Sites : Type 0
Sites = List (List ℕ × Site)

-- the site of a name among some
abbrev pub named : List ℕ → Sites → Option Site
named name [] = None
named name (s ∷ sites) = if pointwise nat_eq name s.0 then Some s.1 else named name sites

-- what the map of sites has: under its number each name and its site
abbrev pub Entries : Type 0
Entries = List (ℕ × (Vec ℕ Global × Site))

-- the labels that these entries hold
abbrev pub sites_of : Entries → Sites
sites_of [] = []
sites_of (e ∷ es) = (e.1.0.items, e.1.1) ∷ sites_of es

-- the number of a name
abbrev pub number_of : BTreeMap (Vec ℕ Global) ℕ → List ℕ → Option ℕ
number_of numbers name = get_by (λ k. slice_cmp nat_cmp name k.items) numbers

-- the site under a number
abbrev pub site_at : Entries → Option ℕ → Option Site
site_at es None = None
site_at es (Some n) = option_map (λ v. v.1) (lookup (nat_eq n) es)

-- the number of the next label has no site
abbrev pub IsFresh : Entries → Type 0
IsFresh es = (n : ℕ) → length es ≤ n → lookup (nat_eq n) es ≡ None

-- the numbers of names are below it
abbrev pub IsBelow : BTreeMap (Vec ℕ Global) ℕ → Entries → Type 0
IsBelow numbers es = (name : List ℕ) (n : ℕ) → number_of numbers name ≡ Some n → n < length es

-- by way of its number each name has its site
abbrev pub IsFound : BTreeMap (Vec ℕ Global) ℕ → Entries → Type 0
IsFound numbers es = (name : List ℕ) → site_at es (number_of numbers name) ≡ named name (sites_of es)
