-- The tables of the image that is linked of a program have what its orders and polls ask for.
use Rattle.std.proofs.Common.{◌≡◌, ℕ, ◌+◌, ◌*◌, ◌<◌, ◌≤◌, Bool, true, false, ◌&&◌, ◌||◌, cond, nat_lt, if◌then◌else◌, List, [], ◌++◌, Option, Some, None, option_map, is_some, length, map, take, replicate, slice_get, All, refl, sym, ap, ap₂, ◌∙◌, subst, arith}
use Rattle.std.specs.Prelude.{sum}
use Rattle.std.specs.List.{range_with_len}
use Rattle.std.proofs.lemmas.Bool.{lt-ltb}
use Rattle.std.proofs.lemmas.List.{length-map, replicate-append-replicate}
use Rattle.std.proofs.lemmas.Option.{slice_get_within, slice_get-map, same_Some}
use Rattle.mv_num.specs.Kinds.{kind_number, is_value}
use Rattle.mv_ast.specs.declared.program.Program.{Program}
use Rattle.mv_ast.specs.declared.program.Function.{Function}
use Rattle.mv_ast.specs.declared.program.Switch.{Switch}
use Rattle.mv_ast.specs.declared.program.Known.TheVariants.{Plan}
use Rattle.mv_ast.specs.declared.program.CType.{CType}
use Rattle.mv_ast.specs.declared.program.CType.TheVariants.{Void, Scalar, Pointer}
use Rattle.mv_ast.specs.declared.program.Global.{Global}
use Rattle.mv_bindings.specs.declared.action.Action.{Action}
use Rattle.mv_bindings.specs.declared.action.Action.TheVariants.{Skip, Flip}
use Rattle.mv_ast.specs.Actions.{is_value_of, is_global_value, is_switch_value}
use Rattle.mv_ast.specs.Actions as source
use Rattle.mv_ast.specs.Counts as counts
use Rattle.mv_ast.specs.Counts.{is_attributed, words_of_size}
use Rattle.mv_ast.specs.Switches.{attributed_before, attributed_functions}
use Rattle.mv_bindings.specs.Bindings.{free}
use Rattle.mv_ir_worlds.proofs.Functions as fit
use Rattle.mv_descriptors.specs.declared.rows.SwitchRow.{SwitchRow}
use Rattle.mv_descriptors.specs.declared.rows.FunctionRow.{FunctionRow}
use Rattle.mv_descriptors.specs.declared.rows.PointerRow.{PointerRow}
use Rattle.mv_descriptors.specs.declared.rows.TargetRow.{TargetRow}
use Rattle.mv_image.specs.Spelling.{Fields}
use Rattle.mv_ir.specs.declared.body.Body.{Body}
use Rattle.mv_source_forms.specs.Names.{global_words, words_of_global}
use Rattle.mv_source_forms.specs.Uses.{known_is_there}
use Rattle.mv_source_forms.specs.WellFormed.{IsWellFormed, IsWellFormedPointer, IsWellFormedSwitch}
use Rattle.mv_patch.specs.Orders.{first_bindings, is_known_order}
use Rattle.mv_patch.specs.Tables.{patchable}
use Rattle.mv_machine.specs.Actions as machine
use Rattle.mv_machine.specs.Actions.{is_row_value}
use Rattle.mv_select.specs.Calls.Convention.{Layout}
use Rattle.mv_isa.specs.Code.{address, text_start}
use Rattle.mv_linker.specs.declared.parts.Parts.{Parts}
use Rattle.mv_linker.specs.Linked.{linked_lines}
use Rattle.mv_linker.specs.Outcome.{IsLinked}
use Rattle.mv_linker.specs.Tables.{data_start, switch_row, function_row, pointer_row, pointer_addresses, point_count, slot_count, FitsPartSwitch}
use Rattle.mv_linker.specs.Tables as linker
use Rattle.mv_linker.proofs.LinkedText.{linked_text}
use Rattle.mv_linker.proofs.Sited.{point_length, site_length, slots_of_codes}
use Rattle.mv_link_data.specs.FirstData.{global_sizes}
use Rattle.mv_link_text.proofs.Whole.{target_entries}
use Rattle.mv_variants.specs.declared.variant.Variant.{Variant}
use Rattle.mv_variants.specs.Domains.{integer_kind, kind_or_int}
use Rattle.mv_parts.specs.Laws.{PartsAreCounted}
use Rattle.mv_parts.specs.Numbers.{attributed_numbers}
use Rattle.mv_parts.specs.Parts.{ArePartsOf}
use Rattle.mv_parts.specs.Switches.{part_pointer, part_pointers, part_switch, part_switches}
use Rattle.mv_parts.proofs.LinkedNumbers.{as_many, number_of}
use Rattle.mv_parts.proofs.LinkedParts.{as_many_parts, part_there}
use Rattle.mv_parts.proofs.Lists.{map_at, one_of_all}
use Rattle.mv_parts.proofs.Numbers as numbers
use Rattle.mv_refine_machine.specs.Commits.Tabled.{IsTabled}
use Rattle.mv_refine_images.specs.Layouts.{numbers_of}
use Rattle.mv_refine_images.specs.Tables.Leads.{LeadsToVariants}
use Rattle.mv_refine_images.specs.Tables.Rows.{IsNth}
use Rattle.mv_refine_images.specs.Tables.Laws.{AttributedAreTabled, HaveTables, RowsLeadToVariants}
use Rattle.mv_refine_images.proofs.OfTables.Lists.{same_for_all}
use Rattle.mv_refine_images.proofs.OfTables.Tabled.{own_row, switch_rows, switches_there}
use Rattle.mv_num.proofs.Lists.{there_at as some_at}

-- ---- attributed functions and their tables

numbered : (p : Program) (bodies : List Body) (tables : List (List Variant)) (parts : Parts) → ArePartsOf p bodies tables parts → (n f : ℕ) → slice_get (attributed_numbers p) n ≡ Some f →
    (g : Function) → slice_get p.functions f ≡ Some g → (variants : List Variant) × IsNth p tables n f g variants
numbered p bodies tables parts are n f number g there =
    let within = slice_get_within (attributed_numbers p) n f number in
    let count = are.codes.are_tables.one_each in
    let table = some_at tables n (omega (arith, within, count)) in (table.0, record { number = number; there = there; table = table.1 })

pub attributed_tabled : AttributedAreTabled
attributed_tabled p bodies tables parts are f g there is =
    let found = number_of p f (ap is_attributed there ∙ is) in
    let place = numbers.place_of p found.0 f found.1 in
    numbered p bodies tables parts are (attributed_before p.functions f) f (subst (λ n. slice_get (attributed_numbers p) n ≡ Some f) (sym place) found.1) g there

-- ---- tests of orders

or_else : (b x : Bool) → cond b true x ≡ true → b || x ≡ true
or_else true x e = refl
or_else false x e = e

-- how many functions and switches there are decides on an order, where its code doesn't
abbrev is_counted : (code index functions addressed : ℕ) → Bool
is_counted code index functions addressed = cond (nat_lt code 4) (nat_lt index functions) (nat_lt code 6 && nat_lt index addressed)

same_orders : (p : Program) (image : Fields) → length image.functions ≡ length (attributed_functions p) →
    length image.switches + length image.pointers ≡ length p.switches + length p.pointers → (code index : ℕ) →
    known_is_there p (Plan code index) ≡ true → is_known_order image code index ≡ true
unfolding is_known_order
same_orders p image functions addressed code index is =
    let same = ap₂ (is_counted code index) functions addressed in
    or_else (nat_lt code 2) (is_counted code index (length image.functions) (length image.switches + length image.pointers)) (ap (cond (nat_lt code 2) true) same ∙ is)

-- ---- values of switches

-- a type that has a value is an integer type
of_integer : (t : CType) (w v : ℕ) → is_value_of t w ≡ true → is_value (kind_number (integer_kind t)) v ≡ is_value_of t v
of_integer Void w v e = absurd (let bad : ⊥ = cc in bad)
of_integer (Scalar kind) w v e = refl
of_integer (Pointer signature) w v e = absurd (let bad : ⊥ = cc in bad)

-- ---- of a program

module _ (leads : RowsLeadToVariants) (counted : PartsAreCounted) (p : Program) (formed : IsWellFormed p) (bodies : List Body) (tables : List (List Variant)) (parts : Parts)
    (are : ArePartsOf p bodies tables parts) (image : Fields) (linked : IsLinked parts image) where
  open linked_text parts linked.sizing linked.text use {entry}

  record IsOne (n : ℕ) (g : Function) : Type 0 where
    f : ℕ
    variants : List Variant
    nth : IsNth p tables n f g variants

  -- the function with a place among the attributed ones
  one_at : (n : ℕ) (g : Function) → slice_get (attributed_functions p) n ≡ Some g → IsOne n g
  one_at n g at =
      let within = slice_get_within (attributed_functions p) n g at in
      let many : length (attributed_numbers p) ≡ length (attributed_functions p) = as_many 0 p.functions in
      let number = some_at (attributed_numbers p) n (omega (arith, within, many)) in
      let h = numbers.attributed_at p n number.0 number.1 in
      let place = numbers.place_of p n number.0 number.1 in
      let there = subst (λ k. slice_get (attributed_functions p) k ≡ Some h.function) place (fit.attributed_at p.functions number.0 h.function h.there h.attributed) in
      let same = same_Some h.function g (sym there ∙ at) in
      let table = numbered p bodies tables parts are n number.0 number.1 g (h.there ∙ ap (λ (x : Function). Some x) same) in
      record { f = number.0; variants = table.0; nth = table.1 }

  functions_count : length image.functions ≡ length (attributed_functions p)
  functions_count =
      ap (λ (i : Fields). length i.functions) linked.image_is ∙ length-map parts.attributed (function_row entry) ∙
      as_many_parts p bodies tables parts.functions parts.attributed are.codes

  abbrev rows : image.switches ≡ map switch_row (part_switches p)
  rows = switch_rows p bodies tables parts are image linked

  switches_count : length image.switches ≡ length p.switches
  switches_count = ap length rows ∙ length-map (part_switches p) switch_row ∙ length-map p.switches (part_switch p)

  switch_address : (n : ℕ) (s : Switch) (row : SwitchRow) → slice_get p.switches n ≡ Some s → slice_get image.switches n ≡ Some row → row.address ≡ (switch_row (part_switch p s)).address
  switch_address n s row at there =
      let own = map_at switch_row (part_switches p) n (part_switch p s) (map_at (part_switch p) p.switches n s at) in
      let found = subst (λ (all : List SwitchRow). slice_get all n ≡ Some (switch_row (part_switch p s))) (sym rows) own in
      ap (λ (r : SwitchRow). r.address) (same_Some row (switch_row (part_switch p s)) (sym there ∙ found))

  one_word : (n : ℕ) (s : Switch) → slice_get p.switches n ≡ Some s → global_words p s.global ≡ 1
  one_word n s at =
      let h = one_of_all (IsWellFormedSwitch p) p.switches formed.switches n s at in ap words_of_global h.there ∙ ap words_of_size h.scalar

  switch_fits : (s : ℕ) (x : Switch) → slice_get p.switches s ≡ Some x → FitsPartSwitch (length parts.globals) (part_switch p x)
  switch_fits s x at =
      one_of_all (FitsPartSwitch (length parts.globals)) (part_switches p) (subst (All (FitsPartSwitch (length parts.globals))) are.switches are.fit.switches) s (part_switch p x)
      (map_at (part_switch p) p.switches s x at)

  same_values : (s v : ℕ) (o : Option Switch) → slice_get p.switches s ≡ o → is_row_value (option_map switch_row (option_map (part_switch p) o)) v ≡ is_switch_value p o v
  same_values s v None at = refl
  same_values s v (Some x) at =
      let h = one_of_all (IsWellFormedSwitch p) p.switches formed.switches s x at in
      let some = (switch_fits s x at).some in
      let one = some_at x.values 0 (omega (arith, some)) in
      let is = one_of_all (λ w. is_value_of h.global.ctype w ≡ true) x.values h.values 0 one.0 one.1 in
      subst (λ (o : Option Global). is_value (kind_number (kind_or_int o)) v ≡ is_global_value o v) (sym h.there) (of_integer h.global.ctype one.0 v is)

  same_actions : (action : Action) → machine.fits_rows image.switches action ≡ source.fits p action
  same_actions Skip = refl
  same_actions (Flip s v) =
      let row = ap (λ (all : List SwitchRow). slice_get all s) rows ∙ slice_get-map switch_row (part_switches p) s ∙ ap (option_map switch_row) (slice_get-map (part_switch p) p.switches s) in
      ap (λ (o : Option SwitchRow). is_row_value o v) row ∙ same_values s v (slice_get p.switches s) refl

  pointers : image.pointers ≡ map pointer_row (part_pointers p)
  pointers = ap (λ (i : Fields). i.pointers) linked.image_is ∙ ap (map pointer_row) are.pointers

  pointers_count : length image.pointers ≡ length p.pointers
  pointers_count = ap length pointers ∙ length-map (part_pointers p) pointer_row ∙ length-map p.pointers (part_pointer p)

  pointer_at : (q g : ℕ) (row : PointerRow) → slice_get p.pointers q ≡ Some g → slice_get image.pointers q ≡ Some row → row.address ≡ (pointer_row (part_pointer p g)).address
  pointer_at q g row at there =
      let own = map_at pointer_row (part_pointers p) q (part_pointer p g) (map_at (part_pointer p) p.pointers q g at) in
      let found = subst (λ (all : List PointerRow). slice_get all q ≡ Some (pointer_row (part_pointer p g))) (sym pointers) own in
      ap (λ (r : PointerRow). r.address) (same_Some row (pointer_row (part_pointer p g)) (sym there ∙ found))

  one_word_of_pointer : (q g : ℕ) → slice_get p.pointers q ≡ Some g → global_words p g ≡ 1
  one_word_of_pointer q g at =
      let h = one_of_all (IsWellFormedPointer p) p.pointers formed.pointers q g at in ap words_of_global h.there ∙ ap words_of_size h.scalar

  -- where there is a pointer switch, the targets are all functions
  targets : 0 < length p.pointers → map (λ (target : TargetRow). target.entry) image.targets ≡ numbers_of parts linked.sizing
  targets some =
      let names = are.targets ∙ ap (λ b. if b then map (λ (g : Function). g.name) p.functions else []) (lt-ltb 0 (length p.pointers) some) in
      let count : length parts.targets ≡ length parts.functions =
      ap length names ∙ length-map p.functions (λ (g : Function). g.name) ∙ sym are.codes.code.one_each in
      ap (λ (i : Fields). map (λ (target : TargetRow). target.entry) i.targets) linked.image_is ∙ target_entries entry 0 parts.targets ∙
      ap (λ n. map entry (range_with_len 0 n)) count

  leads_at : (n : ℕ) (g : Function) (one : IsOne n g) → LeadsToVariants p g image one.variants n
  leads_at n g one = leads p bodies tables parts are image linked n one.f g one.variants one.nth

  named_at : (n : ℕ) (g : Function) (row : FunctionRow) → IsOne n g → slice_get image.functions n ≡ Some row → take row.count row.switches ≡ g.switches
  named_at n g row one there =
      let own = own_row p bodies tables parts are image linked n one.f g one.variants one.nth in
      ap (λ (r : FunctionRow). take r.count r.switches) (same_Some row own.row (sym there ∙ own.there)) ∙ own.switches.named

  there_at : (n : ℕ) (g : Function) → IsOne n g → All (λ s. s < length p.switches) g.switches
  there_at n g one =
      let a = part_there p bodies tables parts.functions parts.attributed are.codes n one.f one.nth.number in switches_there p bodies tables parts are n one.f g one.variants one.nth a.0 a.1

  tabled : (y : Layout) → ((x : ℕ) → y.place x ≡ data_start + 4 * sum (take x (global_sizes p))) → ((x : ℕ) → y.size x ≡ global_words p x) → IsTabled p (numbers_of parts linked.sizing) y image
  tabled y place size = record {
    switches = switches_count;
    switch = λ n s row at there. switch_address n s row at there ∙ sym (place s.global);
    sizes = λ n s at. let word = size s.global ∙ one_word n s at in omega (arith, word);
    functions = functions_count;
    function = λ n g row at there. named_at n g row (one_at n g at) there;
    there = λ n g at. there_at n g (one_at n g at);
    combinations = λ n g vs at is. ap is_some ((leads_at n g (one_at n g at)).assignments vs is).fits;
    others = λ n g vs at. (leads_at n g (one_at n g at)).others vs;
    pointers = pointers_count;
    pointer = λ q g row at there. pointer_at q g row at there ∙ sym (place g);
    pointer_sizes = λ q g at. let word = size g ∙ one_word_of_pointer q g at in omega (arith, word);
    targets = targets;
  }

  few_places : patchable image ≤ counts.patchable_places p
  unfolding patchable
  few_places =
      let functions : length image.functions ≡ length parts.attributed =
      ap (λ (i : Fields). length i.functions) linked.image_is ∙ length-map parts.attributed (function_row entry) in
      let sites : length image.sites ≡ slot_count (linked_lines parts) =
      ap (λ (i : Fields). length i.sites) linked.image_is ∙ site_length (address text_start linked.sizing) (linker.attributed_numbers parts.attributed) (linked_lines parts) 0 in
      let points : length image.points ≡ point_count (linked_lines parts) =
      ap (λ (i : Fields). length i.points) linked.image_is ∙ point_length (address text_start linked.sizing) (pointer_addresses parts.pointers) (linked_lines parts) 0 in
      let places = (counted p formed bodies tables parts are.codes).places in omega (arith, functions, sites, points, slots_of_codes parts, places)

  first_bindings_free : map (λ (g : Function). free) (attributed_functions p) ++ map (λ (g : ℕ). free) p.pointers ≡ first_bindings image
  first_bindings_free =
      ap₂ ◌++◌ (same_for_all free (attributed_functions p)) (same_for_all free p.pointers) ∙ replicate-append-replicate (length (attributed_functions p)) (length p.pointers) free ∙
      ap₂ (λ n m. replicate (n + m) free) (sym functions_count) (sym pointers_count)

  pub have_tables : HaveTables p (numbers_of parts linked.sizing) image
  have_tables = record {
    tabled = tabled;
    places = few_places;
    orders = same_orders p image functions_count (ap₂ ◌+◌ switches_count pointers_count);
    fits = same_actions;
    bindings = λ numbers hart bytes acts. first_bindings_free;
  }
