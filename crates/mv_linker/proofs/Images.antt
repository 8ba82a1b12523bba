-- The image of parts: its text, and the addresses in its data and its tables.
use Rattle.std.proofs.Common.{◌≡◌, ℕ, zero, suc, ◌+◌, ◌<◌, ◌≤◌, Bool, true, false, cond, nat_lt, List, [], ◌∷◌, Some, length, map, slice_get, slice_index, All, refl, ap, sym, subst, ◌∙◌, arith, eq-eqb}
use Rattle.std.proofs.lemmas.List.{get_or-map, length-append, length-map}
use Rattle.std.proofs.lemmas.Bool.Decides.{nat_tests}
use Rattle.std.proofs.lemmas.List.Elements.{All-head, All-tail, All-weaker, All-from_get_or}
use Rattle.mv_isa.specs.declared.labelled.Labelled.{Labelled}
use Rattle.mv_isa.specs.declared.labelled.Line.{Line}
use Rattle.mv_isa.specs.declared.labelled.Line.TheVariants.{Word, Label, Jump, Branch, Entry, Slot, Point}
use Rattle.mv_isa.specs.Code.{CodeFits, line_at, label_index, label_address, address, text_start}
use Rattle.mv_asm.specs.Outcome.{ArePlaced}
use Rattle.mv_asm.proofs.Standing.{index_once}
use Rattle.mv_descriptors.specs.declared.rows.FunctionRow.{FunctionRow}
use Rattle.mv_descriptors.specs.declared.rows.VariantRow.{VariantRow}
use Rattle.mv_descriptors.specs.declared.rows.SiteRow.{SiteRow}
use Rattle.mv_descriptors.specs.declared.rows.PointRow.{PointRow}
use Rattle.mv_descriptors.specs.declared.rows.TargetRow.{TargetRow}
use Rattle.mv_image.specs.Spelling.{Fields}
use Rattle.mv_linker.specs.declared.joined.Joined.{Joined}
use Rattle.mv_linker.specs.declared.parts.Parts.{Parts}
use Rattle.mv_linker.specs.declared.parts.PartFunction.{PartFunction}
use Rattle.mv_linker.specs.declared.parts.PartVariant.{PartVariant}
use Rattle.mv_linker.specs.declared.parts.Datum.{Datum}
use Rattle.mv_linker.specs.declared.parts.Datum.TheVariants.{Number, Function}
use Rattle.mv_linker.specs.Linked.{codes, function_variants, linked_lines, has_pointers, check_label, check_index, part_index, IsDatum, AreParts, IsJoined}
use Rattle.mv_linker.specs.Tables.{function_row, variant_row, variant_rows, sites_from, points_from, target_rows, point_count, place_among, attributed_numbers, pointer_addresses, FitsPartFunction, FitTables}
use Rattle.mv_linker.specs.Outcome.{datum_word, image_with}
use Rattle.mv_linker.proofs.Fits.{lines_fit, within_codes}
use Rattle.mv_linker.proofs.Places.{check_law, function_law}
use Rattle.mv_linker.proofs.Sited.{points_have_pointers}

-- ---- what has the same addresses is the same

module _ (n : ℕ) (address_of other : ℕ → ℕ) (same : (f : ℕ) → f < n → address_of f ≡ other f) where
  same_word : (d : Datum) → IsDatum n d → datum_word address_of d ≡ datum_word other d
  same_word (Number m) h = refl
  same_word (Function f) h = same f h

  same_words : (globals : List Datum) → All (IsDatum n) globals → map (datum_word address_of) globals ≡ map (datum_word other) globals
  same_words [] all = refl
  same_words (datum ∷ rest) all =
      let here = same_word datum (All-head (IsDatum n) datum rest all) in
      let later = same_words rest (All-tail (IsDatum n) datum rest all) in
      cc

  same_functions : (attributed : List PartFunction) → All (λ (a : PartFunction). a.function < n) attributed → map (function_row address_of) attributed ≡ map (function_row other) attributed
  same_functions [] all = refl
  same_functions (a ∷ rest) all =
      let here = same a.function (All-head (λ (x : PartFunction). x.function < n) a rest all) in
      let later = same_functions rest (All-tail (λ (x : PartFunction). x.function < n) a rest all) in
      ap (λ e. record (function_row other a) { entry = e } ∷ map (function_row address_of) rest) here ∙ ap (λ rows. function_row other a ∷ rows) later

  same_variants : (k : ℕ) (vs : List PartVariant) → k + length vs ≤ n → variant_rows address_of k vs ≡ variant_rows other k vs
  same_variants k [] le = refl
  same_variants k (v ∷ vs) le =
      ap (λ a. variant_row a v ∷ variant_rows address_of (suc k) vs) (same k (omega arith)) ∙ ap (λ rows. variant_row (other k) v ∷ rows) (same_variants (suc k) vs (omega arith))

  same_sites : (numbers : List ℕ) (k : ℕ) (ls : List Line) → k + length ls ≤ n → sites_from address_of numbers k ls ≡ sites_from other numbers k ls
  same_sites numbers k [] le = refl
  same_sites numbers k (Word i ∷ ls) le = same_sites numbers (suc k) ls (omega arith)
  same_sites numbers k (Label l ∷ ls) le = same_sites numbers (suc k) ls (omega arith)
  same_sites numbers k (Jump rd l ∷ ls) le = same_sites numbers (suc k) ls (omega arith)
  same_sites numbers k (Branch funct3 a b l ∷ ls) le = same_sites numbers (suc k) ls (omega arith)
  same_sites numbers k (Entry rd f ∷ ls) le = same_sites numbers (suc k) ls (omega arith)
  same_sites numbers k (Slot f ∷ ls) le =
      ap (λ a. record { address = a; function = place_among numbers f } ∷ sites_from address_of numbers (suc k) ls) (same k (omega arith))
      ∙ ap (λ rows. record { address = other k; function = place_among numbers f } ∷ rows) (same_sites numbers (suc k) ls (omega arith))
  same_sites numbers k (Point a ∷ ls) le = same_sites numbers (suc k) ls (omega arith)

  same_points : (pointers : List ℕ) (k : ℕ) (ls : List Line) → k + length ls ≤ n → points_from address_of pointers k ls ≡ points_from other pointers k ls
  same_points pointers k [] le = refl
  same_points pointers k (Word i ∷ ls) le = same_points pointers (suc k) ls (omega arith)
  same_points pointers k (Label l ∷ ls) le = same_points pointers (suc k) ls (omega arith)
  same_points pointers k (Jump rd l ∷ ls) le = same_points pointers (suc k) ls (omega arith)
  same_points pointers k (Branch funct3 a b l ∷ ls) le = same_points pointers (suc k) ls (omega arith)
  same_points pointers k (Entry rd f ∷ ls) le = same_points pointers (suc k) ls (omega arith)
  same_points pointers k (Slot f ∷ ls) le = same_points pointers (suc k) ls (omega arith)
  same_points pointers k (Point p ∷ ls) le =
      ap (λ a. record { address = a; pointer = place_among pointers p } ∷ points_from address_of pointers (suc k) ls) (same k (omega arith))
      ∙ ap (λ rows. record { address = other k; pointer = place_among pointers p } ∷ rows) (same_points pointers (suc k) ls (omega arith))

  same_targets : (k : ℕ) (names : List (List ℕ)) → k + length names ≤ n → target_rows address_of k names ≡ target_rows other k names
  same_targets k [] le = refl
  same_targets k (name ∷ names) le =
      ap (λ a. record { length = length name; entry = a } ∷ target_rows address_of (suc k) names) (same k (omega arith))
      ∙ ap (λ rows. record { length = length name; entry = other k } ∷ rows) (same_targets (suc k) names (omega arith))

-- an image whose lists are the same is the same
same_image : (image : Fields) {globals : List ℕ} {functions : List FunctionRow} {variants : List VariantRow} {sites : List SiteRow} {points : List PointRow} {targets : List TargetRow} {check : ℕ}
    → globals ≡ image.globals → functions ≡ image.functions → variants ≡ image.variants → sites ≡ image.sites → points ≡ image.points → targets ≡ image.targets → check ≡ image.check
    → record image { globals = globals; functions = functions; variants = variants; sites = sites; points = points; targets = targets; check = check } ≡ image
same_image image g f v s p t c = rw (g, f, v, s, p, t, c) refl

-- a function that data names is among the codes
pub datum_within : (parts : Parts) (d : Datum) → IsDatum (length parts.functions) d → IsDatum (length (codes parts)) d
datum_within parts (Number m) h = tt
datum_within parts (Function f) h = within_codes parts f h

-- the function of a number
found_at : (functions : List Labelled) (f : ℕ) → f < length functions → (code : Labelled) × (slice_get functions f ≡ Some code)
found_at [] f below = absurd (omega arith)
found_at (code ∷ rest) zero below = (code, refl)
found_at (code ∷ rest) (suc f) below = found_at rest f (omega arith)

module _ (parts : Parts) (are : AreParts parts) where
  part_index_within : (f : ℕ) → f < length (codes parts) → part_index (has_pointers parts) (codes parts) f < length (linked_lines parts)
  part_index_within f below =
      let found = found_at (codes parts) f below in
      let stands = function_law parts are f found.0 found.1 in
      omega (arith, stands.part.within)

  -- the label of an entry stands where the function's part begins
  pub entry_index : (f : ℕ) → f < length (codes parts) → label_index (linked_lines parts) f ≡ part_index (has_pointers parts) (codes parts) f
  entry_index f below =
      let found = found_at (codes parts) f below in
      let stands = function_law parts are f found.0 found.1 in
      let index = part_index (has_pointers parts) (codes parts) f in
      let here : line_at (linked_lines parts) (index + 0) ≡ Label f = stands.part.each 0 (omega arith) in
      let same : index + 0 ≡ index = omega arith in
      let here' : line_at (linked_lines parts) index ≡ Label f = rw same at here in
      index_once (linked_lines parts) f index stands.entry (part_index_within f below) (rw here' (eq-eqb f f refl))

  module _ (checks : has_pointers parts ≡ true) where
    pub check_within : check_index < length (linked_lines parts)
    check_within = let stands = check_law parts are checks in omega (arith, stands.stub.within)

    -- the label of the stub of calls through pointer switches stands where the stub begins
    pub check_stub : label_index (linked_lines parts) check_label ≡ check_index
    check_stub =
        let stands = check_law parts are checks in
        let here : line_at (linked_lines parts) check_index ≡ Label check_label = stands.stub.each 0 (omega arith) in
        index_once (linked_lines parts) check_label check_index stands.label check_within (rw here (eq-eqb check_label check_label refl))

  module _ (joined : Joined) (is : IsJoined parts joined) where
    pub joined_fits : CodeFits joined.code.items
    joined_fits = subst CodeFits (sym is.lines) (lines_fit parts are)

    module _ (words addresses : List ℕ) (placed : ArePlaced text_start joined.code.items words addresses) where
      pub linked : ArePlaced text_start (linked_lines parts) words addresses
      linked = subst (λ (lines : List Line). ArePlaced text_start lines words addresses) is.lines placed

      pub entries_within : All (λ (entry : ℕ). entry < length addresses) joined.entries
      entries_within =
          let one_more = linked.under.addresses_are.one_more in
          let one_each = linked.least.fits.sizes.one_each in
          All-from_get_or (λ (entry : ℕ). entry < length addresses) joined.entries 0
          (λ f below. omega (arith, is.each f (omega (arith, is.one_each)), part_index_within f (omega (arith, is.one_each)), one_more, one_each))

      address_is : (k : ℕ) → k < length (linked_lines parts) → slice_index addresses k ≡ address text_start linked.sizing k
      address_is k below =
          let one_each = linked.least.fits.sizes.one_each in
          linked.under.addresses_are.each k (omega (arith, below, one_each))

      -- where each code begins
      module _ (starts : List ℕ) (starts_are : starts ≡ map (slice_index addresses) joined.entries) where
        pub start_count : length starts ≡ length (codes parts)
        start_count = ap length starts_are ∙ length-map joined.entries (slice_index addresses) ∙ is.one_each

        start_is : (f : ℕ) → f < length (codes parts) → slice_index starts f ≡ label_address text_start (linked_lines parts) linked.sizing f
        start_is f below =
            let within = part_index_within f below in
            ap (λ (xs : List ℕ). slice_index xs f) starts_are
            ∙ get_or-map (slice_index addresses) joined.entries f 0 0 (omega (arith, below, is.one_each))
            ∙ ap (slice_index addresses) (is.each f below)
            ∙ address_is (part_index (has_pointers parts) (codes parts) f) within
            ∙ ap (address text_start linked.sizing) (sym (entry_index f below))

        -- the address of the stub of calls through pointer switches
        check_same : FitTables parts → (some : Bool) → nat_lt 0 (point_count (linked_lines parts)) ≡ some
            → cond some (slice_index addresses check_index) 0 ≡ cond some (label_address text_start (linked_lines parts) linked.sizing check_label) 0
        check_same tables false e = refl
        check_same tables true e =
            let checks = points_have_pointers parts tables (grind (arith, nat_tests, e)) in
            address_is check_index (check_within checks) ∙ ap (address text_start linked.sizing) (sym (check_stub checks))

        pub image_is : FitTables parts → (check : ℕ) → check ≡ cond (nat_lt 0 (point_count (linked_lines parts))) (slice_index addresses check_index) 0
            → record (image_with (slice_index starts) (slice_index addresses) words parts) { check = check }
            ≡ image_with (label_address text_start (linked_lines parts) linked.sizing) (address text_start linked.sizing) words parts
        image_is tables check check_is =
            let n = length (codes parts) in
            let one = slice_index starts in
            let other = label_address text_start (linked_lines parts) linked.sizing in
            let at = address text_start linked.sizing in
            let functions = within_codes parts in
            let words_same = same_words n one other start_is parts.globals (All-weaker (IsDatum (length parts.functions)) (IsDatum n) (datum_within parts) parts.globals are.globals) in
            let rows = same_functions n one other start_is parts.attributed
            (All-weaker (FitsPartFunction parts) (λ (a : PartFunction). a.function < n) (λ a h. functions a.function h.there) parts.attributed tables.functions) in
            let variants = same_variants n one other start_is (length parts.functions) (function_variants parts.attributed) (omega (arith, code_count)) in
            let sites = same_sites (length (linked_lines parts)) (slice_index addresses) at address_is (attributed_numbers parts.attributed) 0 (linked_lines parts) (omega arith) in
            let points = same_points (length (linked_lines parts)) (slice_index addresses) at address_is (pointer_addresses parts.pointers) 0 (linked_lines parts) (omega arith) in
            let targets = same_targets n one other start_is 0 parts.targets (omega (arith, code_count, tables.targets_there)) in
            let stub = check_is ∙ check_same tables (nat_lt 0 (point_count (linked_lines parts))) refl in
            same_image (image_with other at words parts) words_same rows variants sites points targets stub
          where
            code_count : length (codes parts) ≡ length parts.functions + length (function_variants parts.attributed)
            code_count =
                length-append parts.functions (map (λ (v : PartVariant). v.code) (function_variants parts.attributed))
                ∙ ap (λ k. length parts.functions + k) (length-map (function_variants parts.attributed) (λ (v : PartVariant). v.code))
