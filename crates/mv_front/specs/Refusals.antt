-- Refusals, and how they are printed.
use Rattle.std.specs.Prelude.{ℕ, Bool, nat_eq, if◌then◌else◌, List, [], ◌∷◌, ◌++◌, codes}
use Rattle.std.specs.Fmt.{decimal}
use Rattle.mv_num.specs.Lists.{is_among}
use Rattle.mv_syntax.specs.declared.place.Place.{Place}
use Rattle.mv_front.specs.Codes as refusals
use Rattle.mv_front.specs.declared.refusal.Refusal.{Refusal}

-- ---- the refusals of a source

-- a refusal that names a place
abbrev pub at_place : (code : ℕ) → Place → Refusal
at_place code place = record { code = code; place = place; detail = 0; count = 0 }

-- a rule that is broken at a place
abbrev pub of_rule : Place → (rule : ℕ) → Refusal
of_rule place rule = record { code = refusals.rule; place = place; detail = rule; count = 0 }

-- a count that is too great
abbrev pub counted : (code detail count : ℕ) → Refusal
counted code detail count = record { code = code; place = record { line = 0; column = 0 }; detail = detail; count = count }

-- ---- the text of a refusal

abbrev pub place_text : Place → List ℕ
place_text place = decimal place.line ++ (codes ":" ++ decimal place.column)

-- the refusals that name a place alone
abbrev pub has_place : ℕ → Bool
has_place code = is_among code (refusals.token ∷ refusals.unsupported ∷ refusals.unit ∷ refusals.nesting ∷ [])

abbrev pub cause_text : Refusal → List ℕ
cause_text r =
    if has_place r.code then place_text r.place else (
    if nat_eq r.code refusals.rule then place_text r.place ++ (codes " rule " ++ decimal r.detail) else (
    if nat_eq r.code refusals.limit then codes "limit " ++ (decimal r.detail ++ (codes " count " ++ decimal r.count)) else (
    if nat_eq r.code refusals.frame then codes "function " ++ (decimal r.detail ++ (codes " count " ++ decimal r.count)) else
    codes "count " ++ decimal r.count)))

abbrev pub refusal_text : Refusal → List ℕ
refusal_text r = codes "refused " ++ (decimal r.code ++ (codes " " ++ cause_text r))
