-- The code of a body: what its lines name, and how it begins.
use Rattle.std.proofs.Common.{◌≡◌, ◌⊎◌, ⊎_elim, ℕ, suc, ◌<◌, ◌≤◌, Bool, true, false, nat_lt, List, ◌∷◌, length, get_or, slice_get, All, inl, inr, refl, sym, ap, ◌∙◌, subst, arith}
use Rattle.std.proofs.lemmas.List.Elements.{All-weaker, All-contains, All-contains_itself}
use Rattle.std.proofs.lemmas.List.{length-map}
use Rattle.std.proofs.lemmas.Bool.{cases_lt, ltb-true, lt-ltb}
use Rattle.std.proofs.lemmas.Option.{slice_get_within}
use Rattle.std.specs.Prelude.{Contains}
use Rattle.mv_ast.specs.declared.program.Program.{Program}
use Rattle.mv_ast.specs.declared.program.Function.{Function}
use Rattle.mv_ast.specs.Counts.{is_attributed, is_pointer}
use Rattle.mv_isa.specs.declared.labelled.Labelled.{Labelled}
use Rattle.mv_isa.specs.declared.labelled.Line.{Line}
use Rattle.mv_isa.specs.declared.labelled.Line.TheVariants.{Word, Label, Jump, Branch, Entry, Slot, Point}
use Rattle.mv_isa.specs.Code.{StandsOnce, LineFits, line_at, least_words}
use Rattle.mv_ir.specs.declared.body.Body.{Body}
use Rattle.mv_ir.specs.declared.body.Room.{Room}
use Rattle.mv_ir.specs.WellFormed.{has_room}
use Rattle.mv_lower_spec.specs.Functions.{lower_function, lower_function_code, names_global}
use Rattle.mv_lower_spec.specs.Shape.Calls.{code_through}
use Rattle.mv_lower_spec.specs.Shape.Law.{IsFunctionOf, LoweredAreWellFormed}
use Rattle.mv_lower_names.specs.Laws.{FunctionsAreThere, PointersAreThere}
use Rattle.mv_num.proofs.Lists.{contains_all}
use Rattle.mv_select_code.specs.Trees.Rooms.{place_in}
use Rattle.mv_select_code.specs.Control.Layouts.{size_in}
use Rattle.mv_select_code.specs.Control.FlowCode.{code_of}
use Rattle.mv_select_code.specs.Control.Labels.{functions, pointers}
use Rattle.mv_select.specs.Calls.CallCode.{is_marked}
use Rattle.mv_select.specs.Functions.FunctionCode.{Shape, plan, function_lines}
use Rattle.mv_select.specs.Functions.Functions.{shape_of}
use Rattle.mv_num.specs.Regions.{data_limit}
use Rattle.mv_select.specs.Bodies.Lines.{NamesThese, IsGoal, IsCalled, LinesAreNamed}
use Rattle.mv_select.proofs.OfBodies.SamePlaces.{known_arrays}
use Rattle.mv_variants.specs.Bound.Meant.{MadeAreVariants}
use Rattle.mv_variants.specs.Bound.Programs.{IsGeneralOf, IsMadeOf}
use Rattle.mv_variants.specs.Bound.Names.{ReadAsWords}
use Rattle.mv_variants.specs.Bound.Variants.{MadeNameNoMore}
use Rattle.mv_variants.specs.Bound.Slots.{points_where}
use Rattle.mv_variants.proofs.OfBound.FewSlots.{marked_attributed}
use Rattle.mv_variants.proofs.OfBound.Slots.{points_are_calls}
use Rattle.mv_variants.proofs.OfBound.Variants.{CountsNoMore, made_no_more}
use Rattle.mv_variants.proofs.OfBound.Generals.{kept, general_no_more}
use Rattle.mv_variants.proofs.OfBound.Weights.{throughs, throughs_of_calls}
use Rattle.mv_select.specs.Laws.{SelectedIsEncoded, SelectedLabelsAreOwn, IsPlain, SelectedOpens}
use Rattle.mv_select.specs.Selected.{selected_lines, selected_labels}
use Rattle.mv_linker.specs.Linked.{IsFunction, IsEntryLabel, IsTarget, NamesAreThere}
use Rattle.mv_link_data.specs.FirstData.{data_words}
use Rattle.mv_linker.specs.Tables.{is_point, is_slot, pointer_address, pointer_addresses, BeginsWithWords, CallsAmong, GoesThrough}
use Rattle.mv_parts.specs.Codes.{IsCodeOf}
use Rattle.mv_parts.specs.Numbers.{attributed_numbers}
use Rattle.mv_parts.specs.Switches.{part_pointers}
use Rattle.mv_parts.proofs.Functions.{shorts_have_words}
use Rattle.mv_parts.proofs.LinkedNumbers.{number_of}
use Rattle.mv_parts.proofs.Lists.{all_by_index}
use Rattle.mv_parts.proofs.PointedLines.{all_both, all_through, calls_known, is_elsewhere, is_here, none_elsewhere, place_is, pointer_here, word_below}

-- what is known of lowered bodies, of the variants that are made of them, and of selected code
pub record Laws : Type 0 where
  pub there : FunctionsAreThere
  pub pointers : PointersAreThere
  pub well_formed : LoweredAreWellFormed
  pub name_no_more : MadeNameNoMore
  pub made : MadeAreVariants
  pub encoded : SelectedIsEncoded
  pub labels_own : SelectedLabelsAreOwn
  pub opens : SelectedOpens
  pub named : LinesAreNamed

-- ---- what bodies name

-- no line is a slot of four words for another address than those of the program's pointer switches
abbrev pub PointsHere : Program → List Line → Type 0
PointsHere p lines = points_where (is_elsewhere (is_here p)) lines ≡ 0

-- a body names functions of the program, and marks attributed ones, and its code calls through pointer switches of the program
pub record NamesProgram (p : Program) (b : Body) : Type 0 where
  pub functions : All (λ k. k < length p.functions) (functions b.code)
  pub marked : (k : ℕ) → is_marked b.marked k ≡ true → is_attributed (slice_get p.functions k) ≡ true
  pub points : (sizes : ℕ → ℕ) (is_attributed : ℕ → Bool) (shape : Shape) → PointsHere p (function_lines (place_in b.rooms) sizes is_attributed shape b.code)

-- a function of the program
abbrev is_function : Program → ℕ → Bool
is_function p f = nat_lt f (length p.functions)

all_functions : (p : Program) (fs : List ℕ) → All (λ f. f < length p.functions) fs → All (λ f. is_function p f ≡ true) fs
all_functions p = All-weaker (λ f. f < length p.functions) (λ f. is_function p f ≡ true) (λ f h. lt-ltb f (length p.functions) h)

module _ (laws : Laws) (p : Program) (few : data_words p ≤ data_limit) (f : ℕ) (g : Function) (of_program : IsFunctionOf p f g) where
  abbrev lowered : Body
  lowered = lower_function p g

  -- each pointer switch through which the lowered code calls has a room, which is at its address
  all_here : All (λ x. is_here p (place_in lowered.rooms x) ≡ true) (pointers lowered.code)
  all_here =
      all_both (λ x. has_room lowered.rooms x ≡ true) (λ x. is_pointer p x ≡ true) (λ x. is_here p (place_in lowered.rooms x) ≡ true)
      (λ x room pointer. subst (λ a. is_here p a ≡ true) (sym (place_is p x (word_below p few x) (names_global (lower_function_code p.pointers g).code) room)) (pointer_here p x pointer))
      (pointers lowered.code) (calls_known (has_room lowered.rooms) lowered.code (known_arrays lowered (laws.well_formed p f g of_program))) (laws.pointers p f g of_program)

  -- and so it is of code that has no more calls
  points_here : (b : Body) → b.rooms ≡ lowered.rooms → CountsNoMore lowered b → (sizes : ℕ → ℕ) (is_attributed : ℕ → Bool) (shape : Shape) →
      PointsHere p (function_lines (place_in b.rooms) sizes is_attributed shape b.code)
  points_here b same no_more sizes is_attributed shape =
      let place = place_in b.rooms in
      let other = is_elsewhere (is_here p) in
      let here = subst (λ (rooms : List Room). All (λ x. is_here p (place_in rooms x) ≡ true) (pointers lowered.code)) (sym same) all_here in
      let lines = laws.named place sizes is_attributed shape lowered.code (is_function p) (is_here p) (all_functions p (functions lowered.code) (laws.there p f g of_program)) here in
      let none =
      none_elsewhere (suc (code_of (plan place sizes is_attributed shape) lowered.code).labels) (is_function p) is_attributed (is_here p) (function_lines place sizes is_attributed shape lowered.code) lines
      in
      let of_lowered = points_are_calls place sizes is_attributed shape lowered.code other in
      let of_body = points_are_calls place sizes is_attributed shape b.code other in
      let less : code_through (λ x. other (place x)) b.code ≤ code_through (λ x. other (place x)) lowered.code =
      no_more _ _ (throughs (λ x. other (place x))) (throughs_of_calls (λ x. other (place x)))
      in
      omega (arith, none, of_lowered, of_body, less)

  marks : (b : Body) → b.marked ≡ (lower_function p g).marked → (k : ℕ) → is_marked b.marked k ≡ true → is_attributed (slice_get p.functions k) ≡ true
  marks b same k e = marked_attributed p g k (subst (λ (ms : List ℕ). is_marked ms k ≡ true) same e)

  pub general_names : (b : Body) → IsGeneralOf p g b → NamesProgram p b
  general_names b h =
      let same = kept h.shorts (lower_function p g) b h.general in
      let names = same.names (shorts_have_words p h.shorts h.known) in
      record {
        functions = contains_all (λ k. k < length p.functions) (functions (lower_function p g).code) (functions b.code) names.functions (laws.there p f g of_program);
        marked = marks b same.marked;
        points = points_here b same.rooms (λ layer m of calls. general_no_more h.shorts (lower_function p g) b h.general of calls);
      }

  pub made_names : (ps : List (ℕ × ℕ)) → ReadAsWords ps → (b : Body) → IsMadeOf p g ps b → NamesProgram p b
  made_names ps words b h =
      let less = laws.name_no_more h.shorts ps (lower_function p g) b (shorts_have_words p h.shorts h.known) words h.made in
      let variant = laws.made h.shorts ps (lower_function p g) b h.made in
      record {
        functions =
            All-weaker (Contains (functions b.code)) (λ k. k < length p.functions) (λ k is. All-contains (λ n. n < length p.functions) (functions (lower_function p g).code) k (laws.there p f g of_program) (less.functions k is))
            (functions b.code) (All-contains_itself (functions b.code));
        marked = marks b variant.marked;
        points = points_here b variant.rooms (λ layer m of calls. made_no_more of calls h.shorts ps (lower_function p g) b h.made);
      }

-- ---- the code of a body

plain_line : (line : Line) → IsPlain line → (1 ≤ least_words line) × (is_slot line ≡ false) × (is_point line ≡ false)
plain_line (Word i) h = (omega arith, refl, refl)
plain_line (Label l) h = absurd h
plain_line (Jump rd l) h = (omega arith, refl, refl)
plain_line (Branch funct3 rs1 rs2 l) h = (omega arith, refl, refl)
plain_line (Entry rd f) h = (omega arith, refl, refl)
plain_line (Slot f) h = absurd h
plain_line (Point a) h = absurd h

first_is : (code : Labelled) (rest : List Line) (line : Line) → code.items ≡ line ∷ rest → IsPlain line → BeginsWithWords code
first_is code rest line e plain =
    let is = plain_line line plain in record {
      some = let size : least_words (line_at code.items 0) ≡ least_words line = ap (λ ls. least_words (line_at ls 0)) e in omega (arith, size, is.0);
      no_slot = ap (λ ls. is_slot (line_at ls 0)) e ∙ is.1;
      no_point = ap (λ ls. is_point (line_at ls 0)) e ∙ is.2;
    }

-- selected code begins with words that are no slot
pub begins_with_words : SelectedOpens → (attributed : Bool) (b : Body) (code : Labelled) → code.items ≡ selected_lines attributed b → BeginsWithWords code
begins_with_words law attributed b code is = let opens = law attributed b in first_is code opens.1 opens.0 (is ∙ opens.2) opens.3

-- whether there are pointer switches
abbrev pub has_some : Program → Bool
has_some p = nat_lt 0 (length (part_pointers p))

-- it can be linked, begins with words that are no slot, its slots call attributed functions, and those of four words go through pointer switches
pub record FitsCode (p : Program) (code : Labelled) : Type 0 where
  pub linkable : IsFunction (length p.functions) (has_some p) code
  pub begins : BeginsWithWords code
  pub slots : All (CallsAmong (attributed_numbers p)) code.items
  pub through : All (GoesThrough (pointer_addresses (part_pointers p))) code.items

module _ (laws : Laws) (p : Program) (attributed : Bool) (b : Body) (code : Labelled) (is : IsCodeOf attributed b code) (names : NamesProgram p b) where
  abbrev Named : Line → Type 0
  Named = NamesThese (selected_labels attributed b) (is_function p) (is_marked b.marked) (λ a. true)

  lines_named : All Named (selected_lines attributed b)
  lines_named =
      laws.named (place_in b.rooms) (size_in b.rooms) (is_marked b.marked) (shape_of attributed b) b.code (is_function p) (λ a. true) (all_functions p (functions b.code) names.functions)
      (all_by_index (λ x. true ≡ true) (pointers b.code) (λ i x at. refl))

  abbrev addresses : List ℕ
  addresses = pointer_addresses (part_pointers p)

  lines_through : All (GoesThrough addresses) (selected_lines attributed b)
  lines_through = all_through addresses (selected_lines attributed b) (names.points (size_in b.rooms) (is_marked b.marked) (shape_of attributed b))

  -- each label that selection takes is one of the code
  below : (l : ℕ) → l < selected_labels attributed b → l < code.labels
  below l h =
      let once = subst (λ ls. StandsOnce ls l) (sym is.selected.items) ((laws.labels_own attributed b).own l (omega arith) (omega (arith, h))) in
      ⊎_elim (λ lt. lt) (λ le. absurd (omega (arith, once, is.selected.labels.after l (omega (arith, le))))) (cases_lt l code.labels)

  once : (l : ℕ) → l < code.labels → StandsOnce code.items l
  once l h = is.selected.labels.own l (omega arith) (omega (arith, h))

  goal : (l : ℕ) → IsGoal (selected_labels attributed b) l → IsTarget code l
  goal l (inl own) = inl (below l own, once l (below l own))
  goal l (inr trap) = inr (inl trap)

  -- what is called is the stub of commits, or the entry of a function
  called : (l : ℕ) → IsCalled (is_function p) l → IsTarget code l ⊎ IsEntryLabel (length p.functions) l
  called l (inl commit) = inl (inr (inr commit))
  called l (inr entry) = let here = entry.1 in let few = ltb-true entry.0 (length p.functions) entry.2 in inr (omega (arith, here), omega (arith, here, few))

  there : (line : Line) → Named line → GoesThrough addresses line → NamesAreThere (length p.functions) (has_some p) code line
  there (Word i) h g = tt
  there (Label l) h g = below l h
  there (Jump rd l) (inl jump) g = inl (goal l jump.1)
  there (Jump rd l) (inr call) g = called l call.1
  there (Branch funct3 rs1 rs2 l) h g = goal l h
  there (Entry rd f) h g = ltb-true f (length p.functions) h
  there (Slot f) h g = ltb-true f (length p.functions) h.0
  there (Point a) h g =
      let within = slice_get_within addresses g.0 a g.1 in
      let long = length-map (part_pointers p) pointer_address in lt-ltb 0 (length (part_pointers p)) (omega (arith, within, long))

  slot : (line : Line) → Named line → CallsAmong (attributed_numbers p) line
  slot (Word i) h = tt
  slot (Label l) h = tt
  slot (Jump rd l) h = tt
  slot (Branch funct3 rs1 rs2 l) h = tt
  slot (Entry rd f) h = tt
  slot (Slot f) h = number_of p f (names.marked f h.1)
  slot (Point a) h = tt

  pub fits_code : FitsCode p code
  fits_code = record {
    linkable = record {
      fields = subst (All LineFits) (sym is.selected.items) (laws.encoded attributed b is.suitable is.selected.frame).0;
      names = subst (All (NamesAreThere (length p.functions) (has_some p) code)) (sym is.selected.items) (λ i line below. there (get_or (selected_lines attributed b) i line) (lines_named i line below) (lines_through i line below));
    };
    begins = begins_with_words laws.opens attributed b code is.selected.items;
    slots = subst (All (CallsAmong (attributed_numbers p))) (sym is.selected.items) (All-weaker Named (CallsAmong (attributed_numbers p)) slot (selected_lines attributed b) lines_named);
    through = subst (All (GoesThrough addresses)) (sym is.selected.items) lines_through;
  }
