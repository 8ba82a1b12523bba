use Rattle.std.proofs.Common.{◌≡◌, ℕ, suc, ◌++◌, List, [], ◌∷◌, length, map, All, refl, ap, sym, subst, ◌∙◌, arith}
use Rattle.std.proofs.lemmas.List.Elements.{All-head, All-tail}
use Rattle.mv_image.specs.Spelling.{Fields}
use Rattle.mv_isa.specs.declared.labelled.Labelled.{Labelled}
use Rattle.mv_isa.specs.declared.labelled.Line.{Line}
use Rattle.mv_isa.specs.declared.labelled.Line.TheVariants.{Word, Label, Jump, Branch, Entry, Slot, Point}
use Rattle.mv_isa.specs.Code.{address, label_address, text_start}
use Rattle.mv_isa.specs.Standing.{PointStands}
use Rattle.mv_linker.specs.declared.parts.Parts.{Parts}
use Rattle.mv_linker.specs.declared.parts.PartFunction.{PartFunction}
use Rattle.mv_linker.specs.Linked.{function_variants, variant_codes, linked_lines, check_label}
use Rattle.mv_linker.specs.Tables.{function_row, attributed_numbers, pointer_addresses, sites_from, points_from, site_count, CallsAmong, GoesThrough, FitTables}
use Rattle.mv_linker.specs.Laws.{RenamedLinesStand, UnattributedPartsArePlain, SitesAreCounted}
use Rattle.mv_linker.proofs.Counting.{own_stays}
use Rattle.mv_linker.proofs.Fits.{lines_fit}
use Rattle.mv_linker.proofs.Places.{start_law, trap_law, commit_law, check_law, function_law}
use Rattle.mv_linker.proofs.Sited.{lines_call, lines_through, site_length, point_length, slots_of_codes}
use Rattle.mv_linker.proofs.laws.linking_law.Goals as goal

pub returns-clause-fits : goal.returns-clause-fits
returns-clause-fits c = lines_fit

pub returns-clause-stubs : goal.returns-clause-stubs
returns-clause-stubs c parts are = (start_law parts are, trap_law parts are, commit_law parts are, check_law parts are)

pub returns-clause-functions : goal.returns-clause-functions
returns-clause-functions c = function_law

renamed : RenamedLinesStand
renamed text place entry at end first count few (Word instr) h = h
renamed text place entry at end first count few (Label l) h = h
renamed text place entry at end first count few (Jump rd l) h = h
renamed text place entry at end first count few (Branch funct3 rs1 rs2 l) h = h
renamed text place entry at end first count few (Entry rd f) h = h
renamed text place entry at end first count few (Slot f) h = h
renamed text place entry at end first count few (Point a) h = subst (λ l. PointStands text at end (place l) a) (sym (own_stays first count check_label few (omega arith))) h

pub returns-clause-renamed : goal.returns-clause-renamed
returns-clause-renamed c = renamed

-- ---- parts without attributed functions and pointer switches

no_sites : (at : ℕ → ℕ) (k : ℕ) (ls : List Line) → All (CallsAmong []) ls → sites_from at [] k ls ≡ []
no_sites at k [] all = refl
no_sites at k (Word i ∷ ls) all = no_sites at (suc k) ls (All-tail (CallsAmong []) (Word i) ls all)
no_sites at k (Label l ∷ ls) all = no_sites at (suc k) ls (All-tail (CallsAmong []) (Label l) ls all)
no_sites at k (Jump rd l ∷ ls) all = no_sites at (suc k) ls (All-tail (CallsAmong []) (Jump rd l) ls all)
no_sites at k (Branch funct3 a b l ∷ ls) all = no_sites at (suc k) ls (All-tail (CallsAmong []) (Branch funct3 a b l) ls all)
no_sites at k (Entry rd f ∷ ls) all = no_sites at (suc k) ls (All-tail (CallsAmong []) (Entry rd f) ls all)
no_sites at k (Slot f ∷ ls) all = let called = All-head (CallsAmong []) (Slot f) ls all in absurd (let none = called.1 in let bad : ⊥ = cc in bad)
no_sites at k (Point p ∷ ls) all = no_sites at (suc k) ls (All-tail (CallsAmong []) (Point p) ls all)

no_points : (at : ℕ → ℕ) (k : ℕ) (ls : List Line) → All (GoesThrough []) ls → points_from at [] k ls ≡ []
no_points at k [] all = refl
no_points at k (Word i ∷ ls) all = no_points at (suc k) ls (All-tail (GoesThrough []) (Word i) ls all)
no_points at k (Label l ∷ ls) all = no_points at (suc k) ls (All-tail (GoesThrough []) (Label l) ls all)
no_points at k (Jump rd l ∷ ls) all = no_points at (suc k) ls (All-tail (GoesThrough []) (Jump rd l) ls all)
no_points at k (Branch funct3 a b l ∷ ls) all = no_points at (suc k) ls (All-tail (GoesThrough []) (Branch funct3 a b l) ls all)
no_points at k (Entry rd f ∷ ls) all = no_points at (suc k) ls (All-tail (GoesThrough []) (Entry rd f) ls all)
no_points at k (Slot f ∷ ls) all = no_points at (suc k) ls (All-tail (GoesThrough []) (Slot f) ls all)
no_points at k (Point p ∷ ls) all = let goes = All-head (GoesThrough []) (Point p) ls all in absurd (let none = goes.1 in let bad : ⊥ = cc in bad)

append_none : (xs : List Labelled) → xs ++ [] ≡ xs
append_none [] = refl
append_none (x ∷ xs) = ap (λ rest. x ∷ rest) (append_none xs)

module _ (parts : Parts) (tables : FitTables parts) (none : parts.attributed ≡ []) (no_pointer : parts.pointers ≡ []) (at : ℕ → ℕ) where
  sites_none : sites_from at (attributed_numbers parts.attributed) 0 (linked_lines parts) ≡ []
  sites_none =
      let numbers : attributed_numbers parts.attributed ≡ [] = ap attributed_numbers none in
      let calls = lines_call (attributed_numbers parts.attributed) parts tables.slots in
      ap (λ (ns : List ℕ). sites_from at ns 0 (linked_lines parts)) numbers
      ∙ no_sites at 0 (linked_lines parts) (subst (λ (ns : List ℕ). All (CallsAmong ns) (linked_lines parts)) numbers calls)

  points_none : points_from at (pointer_addresses parts.pointers) 0 (linked_lines parts) ≡ []
  points_none =
      let addresses : pointer_addresses parts.pointers ≡ [] = ap pointer_addresses no_pointer in
      let through = lines_through (pointer_addresses parts.pointers) parts tables.through in
      ap (λ (ns : List ℕ). points_from at ns 0 (linked_lines parts)) addresses
      ∙ no_points at 0 (linked_lines parts) (subst (λ (ns : List ℕ). All (GoesThrough ns) (linked_lines parts)) addresses through)

  -- so there is no slot
  none_counted : site_count parts ≡ 0
  none_counted =
      let sites = ap length sites_none in
      let points = ap length points_none in
      omega (
        arith,
        slots_of_codes parts,
        site_length at (attributed_numbers parts.attributed) (linked_lines parts) 0,
        point_length at (pointer_addresses parts.pointers) (linked_lines parts) 0,
        sites,
        points,
      )

plain : UnattributedPartsArePlain
plain parts tables none no_pointer = record {
  codes_are = ap (λ (attributed : List PartFunction). parts.functions ++ variant_codes (function_variants attributed)) none ∙ append_none parts.functions;
  no_slots = none_counted parts tables none no_pointer (λ k. k);
  no_functions = λ image linked.
      let rows = function_row (label_address text_start (linked_lines parts) linked.sizing) in
      ap (λ (i : Fields). i.functions) linked.image_is ∙ ap (λ (attributed : List PartFunction). map rows attributed) none;
  no_sites = λ image linked. ap (λ (i : Fields). i.sites) linked.image_is ∙ sites_none parts tables none no_pointer (address text_start linked.sizing);
  no_points = λ image linked. ap (λ (i : Fields). i.points) linked.image_is ∙ points_none parts tables none no_pointer (address text_start linked.sizing);
}

pub returns-clause-plain : goal.returns-clause-plain
returns-clause-plain c = plain

counted : SitesAreCounted
counted parts image linked =
    let at = address text_start linked.sizing in
    let sites = ap (λ (i : Fields). length i.sites) linked.image_is in
    let points = ap (λ (i : Fields). length i.points) linked.image_is in
    omega (
      arith,
      sites,
      points,
      site_length at (attributed_numbers parts.attributed) (linked_lines parts) 0,
      point_length at (pointer_addresses parts.pointers) (linked_lines parts) 0,
      slots_of_codes parts,
    )

pub returns-clause-sites : goal.returns-clause-sites
returns-clause-sites c = counted
