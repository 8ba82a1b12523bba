-- What the rows and the variants of a function are to be.
use Rattle.std.specs.Prelude.{ℕ, ◌<◌, ◌≡◌, ◌↔◌, ◌⊎◌, Bool, true, List, [], ◌∷◌, length, map, slice_get, slice_index, Some}
use Rattle.mv_num.specs.Kinds.{kind_number, is_at_most}
use Rattle.mv_num.specs.Bytes.{AreWords}
use Rattle.mv_ir.specs.declared.body.Body.{Body}
use Rattle.mv_ir.specs.Combinations.{In, AllApart, IsCombination}
use Rattle.mv_descriptors.specs.declared.rows.GuardRow.{GuardRow}
use Rattle.mv_descriptors.specs.Guards.{holds}
use Rattle.mv_descriptors.specs.Rows.{ZerosFrom}
use Rattle.mv_merge.specs.declared.rows.Domain.{Domain}
use Rattle.mv_merge.specs.declared.rows.Bound.{Bound}
use Rattle.mv_merge.specs.declared.rows.Guarded.{Guarded}
use Rattle.mv_merge.specs.declared.rows.Variants.{Variants}

-- ---- when a row holds

-- the numbers of the kinds of some switches
abbrev pub kinds : List Domain → List ℕ
kinds = map (λ d. kind_number d.kind)

-- the values that each may be bound to
abbrev pub domain_values : List Domain → List (List ℕ)
domain_values = map (λ d. d.values)

abbrev pub row_holds : List Domain → GuardRow → List ℕ → Bool
row_holds domains row vs = holds (kinds domains) vs row

-- a word for each switch
pub record AreValues (domains : List Domain) (vs : List ℕ) : Type 0 where
  pub each : length vs ≡ length domains
  pub words : AreWords vs

-- ---- what a merge gives

abbrev pub all_values : List Bound → List (List ℕ)
all_values = map (λ r. r.assignment.values)

abbrev pub bodies_led_to : List Guarded → List ℕ
bodies_led_to = map (λ g. g.body)

-- some row holds of these values
abbrev pub SomeHolds : List Domain → List Guarded → List ℕ → Type 0
SomeHolds domains [] vs = ⊥
SomeHolds domains (g ∷ guards) vs = (row_holds domains g.row vs ≡ true) ⊎ SomeHolds domains guards vs

-- at most one row holds of these values
abbrev pub AtMostOne : List Domain → List Guarded → List ℕ → Type 0
AtMostOne domains [] vs = Unit {0}
AtMostOne domains (g ∷ guards) vs = (row_holds domains g.row vs ≡ true → SomeHolds domains guards vs → ⊥) × AtMostOne domains guards vs

-- each row that holds of these values leads to this body
abbrev pub LeadsTo : List Domain → List Body → List Guarded → List ℕ → Body → Type 0
LeadsTo domains bodies [] vs body = Unit {0}
LeadsTo domains bodies (g ∷ guards) vs body =
    (row_holds domains g.row vs ≡ true → slice_get bodies g.body ≡ Some body) × LeadsTo domains bodies guards vs body

abbrev pub EachLeads : List Domain → List Body → List Guarded → List Bound → Type 0
EachLeads domains bodies guards [] = Unit {0}
EachLeads domains bodies guards (r ∷ rows) = LeadsTo domains bodies guards r.assignment.values r.body × EachLeads domains bodies guards rows

-- a fact of each row
abbrev pub EachRow : (GuardRow → Type 0) → List Guarded → Type 0
EachRow P [] = Unit {0}
EachRow P (g ∷ guards) = P g.row × EachRow P guards

-- the words of a row that belong to no switch are 0
abbrev pub IsClean : List Domain → GuardRow → Type 0
IsClean domains row = ZerosFrom (length domains) row.low × ZerosFrom (length domains) row.high

-- a range goes from one value of a domain up to another
pub record IsRange (domain : Domain) (low high : ℕ) : Type 0 where
  pub lowest : In low domain.values
  pub highest : In high domain.values
  pub ordered : is_at_most (kind_number domain.kind) low high ≡ true

-- those of a row that belong to a switch are a range of its domain
abbrev pub HasRanges : List Domain → GuardRow → Type 0
HasRanges domains row = (i : ℕ) (d : Domain) → slice_get domains i ≡ Some d → IsRange d (slice_index row.low i) (slice_index row.high i)

-- Of any words for the switches some row holds exactly where they are a combination of the domains' values, and at
-- most one; each assignment's row leads to the body that came with it; each body came with an assignment, no two are
-- equal, and each has a row; there are as many rows as assignments, they give ranges of the domains, and their unused
-- words are 0.
pub record IsMerged (domains : List Domain) (rows : List Bound) (variants : Variants) : Type 0 where
  pub exact : (vs : List ℕ) → AreValues domains vs → SomeHolds domains variants.guards vs ↔ IsCombination (domain_values domains) vs
  pub disjoint : (vs : List ℕ) → AreValues domains vs → AtMostOne domains variants.guards vs
  pub leads : EachLeads domains variants.bodies variants.guards rows
  pub came : (i : ℕ) → i < length variants.bodies → (r : Bound) × In r rows × (slice_get variants.bodies i ≡ Some r.body)
  pub apart : AllApart variants.bodies
  pub used : (i : ℕ) → i < length variants.bodies → In i (bodies_led_to variants.guards)
  pub count : length variants.guards ≡ length rows
  pub ranges : EachRow (HasRanges domains) variants.guards
  pub clean : EachRow (IsClean domains) variants.guards
