-- Whole programs: the lowered one does what the source means.
use Rattle.std.proofs.Common.{inl, inr, ◌≡◌, ℕ, zero, suc, ◌-◌, ◌<◌, ◌≤◌, Bool, false, cond, List, [], ◌∷◌, map, length, replicate, Option, Some, None, refl, sym, ◌∙◌, subst, ap, arith}
use Rattle.std.specs.Prelude.{All, IsTrue, slice_get, slice_index_or, ◌&&◌, take}
use Rattle.std.proofs.lemmas.Bool.{ne_eqb, eq-eqb}
use Rattle.std.proofs.lemmas.List.{length-append, length-map, length-take, length-replicate}
use Rattle.mv_ast.specs.declared.program.CType.{CType}
use Rattle.mv_ast.specs.declared.program.CType.TheVariants as ctypes
use Rattle.mv_ast.specs.declared.program.Program.{Program}
use Rattle.mv_ast.specs.declared.program.Global.{Global}
use Rattle.mv_ast.specs.declared.program.Local.{Local}
use Rattle.mv_ast.specs.declared.program.Function.{Function}
use Rattle.mv_ast.specs.declared.program.Signature.{Signature}
use Rattle.mv_bindings.specs.declared.stop.Stop.{Stop}
use Rattle.mv_bindings.specs.declared.stop.Stop.TheVariants as stops
use Rattle.mv_ast.specs.Actions.{act_fits}
use Rattle.mv_ast.specs.Counts.{words_of_size}
use Rattle.mv_ast.specs.Switches.{attributed_before, binding_value, bound_value}
use Rattle.mv_bindings.specs.Bindings.{same_truth}
use Rattle.mv_ast.specs.Starts.{first_words, renumbered_at, first_words_under, first_world_under}
use Rattle.mv_ast.specs.Worlds.{World, Outcome, Came, Stopped, give, stop}
use Rattle.mv_bindings.specs.Acts.{Act}
use Rattle.mv_meaning.specs.declared.state.Frame.{Frame}
use Rattle.mv_meaning.specs.declared.state.Flow.{Flow}
use Rattle.mv_meaning.specs.declared.meant.Meant.{Meant}
use Rattle.mv_meaning.specs.declared.meant.End.TheVariants.{Trap}
use Rattle.mv_meaning.specs.Meaning.{Context, flow_of_all, frame_of, context_at, meaning_of, run_of_main, returned_value, hart_mean}
use Rattle.mv_source_forms.specs.Typing.{IsInteger}
use Rattle.mv_meaning_numbering.specs.Numberings.{IsNumbering, Admits, meaning_in}
use Rattle.mv_meaning_numbering.specs.Laws.{AnyNumberingServes, StraysDoNotShow}
use Rattle.mv_meaning_numbering.proofs.Lawful.{all_reached}
use Rattle.mv_ir.specs.World as code_world
use Rattle.mv_ir.specs.Outcome.{State, Returned, Call, Calls, Bound}
use Rattle.mv_ir.specs.Meaning.{Contents, cleared, entry_state, body_from}
use Rattle.mv_ir.specs.Levels.{Code}
use Rattle.mv_ir.specs.Programs.{setting_of, code_of, call_of_main, execution_of, ir_meaning}
use Rattle.mv_ir.specs.KnownFunctions.{seen}
use Rattle.mv_source_forms.specs.Names.{is_void, takes, words_of_global}
use Rattle.mv_lower_spec.specs.Correct.{resting, Shows, is_astray, astray}
use Rattle.mv_lower_spec.specs.Law.{fits_call, strict_context}
use Rattle.mv_lower_spec.specs.Statements as statements
use Rattle.mv_lower_spec.specs.Functions.{lower_function, lower_program}
use Rattle.mv_lower_spec.specs.Lowered.{unless_void}
use Rattle.mv_source_forms.specs.WellFormed.{parameters, IsWellFormed, IsWellFormedFunction, IsWellFormedGlobal}
use Rattle.mv_lower_spec.specs.Programs.Laws.{HasGlobals, IsExecution}
use Rattle.mv_source_forms.specs.Scopes.{Scope}
use Rattle.mv_lower_spec.proofs.OfPrograms.Agreement.{agree_refl, AlikeOutcome}
use Rattle.mv_lower_spec.proofs.OfPrograms.Leaves as leaves
use Rattle.mv_lower_spec.proofs.OfPrograms.AgreedStatements.{Leads}
use Rattle.mv_lower_spec.proofs.OfPrograms.Contexts.{function_flows}
use Rattle.mv_lower_spec.proofs.OfPrograms.Pairs.{Nothing, steady_same}
use Rattle.mv_lower_spec.proofs.OfPrograms.KnownAgree.{OwnIsLive}
use Rattle.mv_lower_spec.proofs.OfPrograms.Entry.{entry_frame, code_is, ground_of, entry_shown, agrees}
use Rattle.mv_lower_spec.proofs.OfPrograms.Knot.{BodyDoes, Agreed, body_does, lowered_calls, same_levels, all_agreed}
use Rattle.mv_num.proofs.Booleans.{from_falsity}
use Rattle.mv_bindings.proofs.Common.{truth_same}
use Rattle.mv_num.proofs.Lists.{all_tail, all_head}

-- ---- the first world

first_count : (numbers : List ℕ) (gs : List Global) (x : ℕ) → All IsWellFormedGlobal gs →
    length (slice_index_or (map (first_words_under numbers) gs) x []) ≡ words_of_global (slice_get gs x)
first_count numbers [] x h = refl
first_count numbers (g ∷ gs) zero h =
    let given = (all_head IsWellFormedGlobal g gs h).given in
    length-map (first_words g) (renumbered_at g.ctype numbers) ∙ length-append g.first (replicate (words_of_size g.size - length g.first) 0) ∙
    omega (arith, given, length-replicate {A = ℕ} (words_of_size g.size - length g.first) 0)
first_count numbers (g ∷ gs) (suc x) h = first_count numbers gs x (all_tail IsWellFormedGlobal g gs h)

-- ---- functions that fit

integer_result : (t : CType) → IsInteger t → is_void t ≡ false
integer_result ctypes.Void h = absurd h
integer_result (ctypes.Scalar kind) h = refl
integer_result (ctypes.Pointer s) h = refl

-- a call through a pointer may reach each function of the pointer's type
admitted : (p : Program) → IsWellFormed p → Admits p (fits_call p)
admitted p formed s f signature here typed =
    let g : Function = typed.function in
    let same : typed.signature ≡ signature = cc in
    let h : IsWellFormedFunction p f g = formed.functions f g typed.defined in
    let long : length signature.params ≡ g.params = ap (λ (x : Signature). length x.params) (sym same) ∙ ap length typed.parameters ∙
    length-map (take g.params g.locals) (λ (l : Local). l.ctype) ∙ length-take g.params g.locals ∙ omega (arith, h.parameters_there) in
    let void : is_void signature.result ≡ is_void g.result = ap (λ (x : Signature). is_void x.result) (sym same) ∙ ap is_void typed.result in
    ap (λ o. takes o (length signature.params) (is_void signature.result)) typed.defined ∙
    ap (λ b. b && same_truth (is_void g.result) (is_void signature.result)) (eq-eqb g.params (length signature.params) (sym long)) ∙
    ap (same_truth (is_void g.result)) void ∙ truth_same (is_void g.result)

-- ---- no program goes astray

-- to stop otherwise
abbrev NotAstray : Stop → Type 0
NotAstray why = is_astray why ≡ false

trap_not_astray : (n : ℕ) → n < 256 → NotAstray (stops.Trapped n)
trap_not_astray n lt = ne_eqb n 256 (λ e. absurd (omega (arith, lt, e)))

same_stop : (n : ℕ) (o : Outcome Frame Flow) (scope inner : Scope) (b c : Bool) → AlikeOutcome Nothing NotAstray Flow (Leads scope inner b c) o o → (meaning_of o).«end» ≡ Trap n → NotAstray (stops.Trapped n)
same_stop n (Came flow f w work) scope inner b c h e = absurd (cc)
same_stop n (Stopped (stops.Trapped m) w work) scope inner b c (inl h) e = absurd h
same_stop n (Stopped (stops.Trapped m) w work) scope inner b c (inr h) e =
    let same : m ≡ n = cc in
    subst (λ k. NotAstray (stops.Trapped k)) same h.may
same_stop n (Stopped stops.Unfinished w work) scope inner b c h e = absurd (cc)

stops_there : (why : Stop) (w : World) (work : ℕ) (o : Outcome Frame Flow) (scope inner : Scope) (b c : Bool) → AlikeOutcome Nothing NotAstray Flow (Leads scope inner b c) o o → meaning_of (Stopped why w work) ≡ meaning_of o → NotAstray why
stops_there (stops.Trapped n) w work o scope inner b c h e = same_stop n o scope inner b c h (sym (ap (λ (m : Meant). m.«end») e))
stops_there stops.Unfinished w work o scope inner b c h e = refl

-- ---- a run

executed_is : (p : Program) (first : code_world.World) (void : Bool) (before : World) (x : Call) (o q : Outcome Frame Flow) (scope inner : Scope)
    (b c : Bool) →
    void ≡ false → AlikeOutcome Nothing NotAstray Flow (Leads scope inner b c) q q → meaning_of o ≡ meaning_of q → BodyDoes p void 0 before x o →
    IsExecution (meaning_of o) (execution_of first x.cost x.end)
executed_is p first void before x (Came flow f w work) q scope inner b c nv k e h =
    subst (λ (y : Call). IsExecution (meaning_of (Came flow f w work)) (execution_of first y.cost y.end)) (sym (h.ends ∙ ap (λ z. record { cost = h.cost; end = Returned (unless_void z (returned_value flow)) (seen w) }) nv))
    (record { output = refl; taken = refl; ending = refl; bindings = refl; log = refl; paid = h.paid })
executed_is p first void before x (Stopped (stops.Trapped n) w work) q scope inner b c nv k e h =
    subst (λ (y : Call). IsExecution (meaning_of (Stopped (stops.Trapped n) w work)) (execution_of first y.cost y.end)) (sym (h.ends (stops_there (stops.Trapped n) w work q scope inner b c k e)))
    (record { output = refl; taken = refl; ending = refl; bindings = refl; log = refl; paid = h.paid })
executed_is p first void before x (Stopped stops.Unfinished w work) q scope inner b c nv k e h =
    subst (λ (y : Call). IsExecution (meaning_of (Stopped stops.Unfinished w work)) (execution_of first y.cost y.end)) (sym (h.ends refl))
    (record { output = refl; taken = refl; ending = refl; bindings = refl; log = refl; paid = h.paid })

-- Two calls end alike, and where they return they return a value.
pub record EndAlike (x z : Call) : Type 0 where
  pub same : x.end ≡ z.end
  pub valued : (w : code_world.World) → x.end ≡ Returned None w → ⊥

ends_alike : (p : Program) (void : Bool) (before : World) (x z : Call) (o q : Outcome Frame Flow) (scope inner : Scope) (b c : Bool) → void ≡ false →
    AlikeOutcome Nothing NotAstray Flow (Leads scope inner b c) q q → meaning_of o ≡ meaning_of q → BodyDoes p void 0 before x o →
    BodyDoes p void 0 before z o → EndAlike x z
ends_alike p void before x z (Came flow f w work) q scope inner b c nv k e h g =
    let ends = λ (y : Call) (d : BodyDoes p void 0 before y (Came flow f w work)). ap (λ (u : Call). u.end) d.ends ∙ ap (λ v. Returned (unless_void v (returned_value flow)) (seen w)) nv in
    record { same = ends x h ∙ sym (ends z g); valued = λ u none. some_value (returned_value flow) (seen w) u (sym (ends x h) ∙ none) }
  where
    some_value : (v : ℕ) (w u : code_world.World) → Returned (Some v) w ≡ Returned None u → ⊥
    some_value v w u same = cc
ends_alike p void before x z (Stopped (stops.Trapped n) w work) q scope inner b c nv k e h g =
    let there = stops_there (stops.Trapped n) w work q scope inner b c k e in
    let end = λ (y : Call) (d : BodyDoes p void 0 before y (Stopped (stops.Trapped n) w work)). ap (λ (u : Call). u.end) (d.ends there) in
    record { same = end x h ∙ sym (end z g); valued = λ u none. let bad = sym (end x h) ∙ none in cc }
ends_alike p void before x z (Stopped stops.Unfinished w work) q scope inner b c nv k e h g =
    let end = λ (y : Call) (d : BodyDoes p void 0 before y (Stopped stops.Unfinished w work)). ap (λ (u : Call). u.end) (d.ends refl) in
    record { same = end x h ∙ sym (end z g); valued = λ u none. let bad = sym (end x h) ∙ none in cc }

module _ (p : Program) (numbers : List ℕ) (formed : IsWellFormed p) (numbering : IsNumbering p numbers) (hart : ℕ) (input : List ℕ) (actions : List Act) (bound : ℕ)
    (any : AnyNumberingServes) (strays : StraysDoNotShow) (fit : All (λ a. IsTrue (act_fits p hart a)) actions) where
  abbrev main : Function
  main = formed.typed.entry.main

  abbrev here : slice_get p.functions p.main ≡ Some main
  here = formed.typed.entry.defined

  abbrev first : World
  first = first_world_under p numbers hart input actions

  abbrev frame : code_world.Frame
  frame = record { depth = 0; live = 0; bound = [] }

  abbrev start : Contents → State
  start contents = entry_state contents (lower_function p main) [] (seen first)

  no_arguments : length {A = ℕ} [] ≡ main.params
  no_arguments = sym formed.typed.entry.bare

  globals : HasGlobals p first
  globals x = first_count numbers p.globals x formed.globals

  -- `main` isn't attributed
  unbound : (x : ℕ) → None ≡ bound_value p first.bindings p.main (slice_get p.functions p.main) x
  unbound x =
      sym (ap (λ o. bound_value p first.bindings p.main o x) here ∙ ap (λ z. cond z (binding_value p main (slice_get first.bindings (attributed_before p.functions p.main)) x) None) (formed.entry main here))

  lively : OwnIsLive p frame p.main
  lively g e q = absurd (from_falsity (sym (formed.entry g e) ∙ q))

  shows_main : (contents : Contents) → Shows (resting (ground_of p numbers frame first p.main main)) (entry_frame p p.main main (start contents)) first (start contents)
  shows_main contents = entry_shown p p.main main here (formed.functions p.main main here) [] no_arguments contents first globals numbers frame first (record {
    world = refl;
    depth = refl;
    live = refl;
    pinned = λ lt. refl;
    function = refl;
    switches = unbound;
    globals = globals;
  })

  abbrev came : Context → Outcome Frame Flow
  came context = flow_of_all p context main.body (frame_of p.main main []) first

  -- the code of `main`, where the calls that it makes do what they do in the source
  abbrev pub main_from : (ℕ → Calls) → Contents → Call
  main_from calls contents = body_from (setting_of numbers p) frame contents (lower_function p main) [] (statements.levels calls bound) (seen first)

  main_does : (calls : ℕ → Calls) → ((i : ℕ) → i ≤ bound → Agreed p numbers formed.functions calls i) → (contents : Contents) → BodyDoes p (is_void main.result) 0 first (main_from calls contents) (came (strict_context p numbers bound))
  main_does calls agreed contents =
      body_does p numbers formed.functions calls bound agreed p.main main here frame lively contents [] no_arguments first first (shows_main contents)
      (agrees p p.main main here (formed.functions p.main main here) [] no_arguments contents first globals)

  -- under the numbering and where calls through pointers are strict the source means what it means
  abbrev begun : Frame
  begun = record { function = p.main; locals = [] }

  in_context : (context : Context) → meaning_in p context numbers hart input actions ≡ meaning_of (came context)
  in_context context = ap (λ o. meaning_of (run_of_main p context o begun first)) here

  strict_mean : meaning_of (came (strict_context p numbers bound)) ≡ hart_mean p hart input actions bound
  strict_mean = sym (in_context (strict_context p numbers bound)) ∙ strays p numbers (fits_call p) (stop astray) formed.typed numbering (admitted p formed) hart input actions bound fit

  plain_mean : meaning_of (came (context_at p numbers bound)) ≡ hart_mean p hart input actions bound
  plain_mean = sym (in_context (context_at p numbers bound)) ∙ any p numbers formed.typed numbering hart input actions bound fit

  zero_keeps : (scope : Scope) → leaves.Keeps p Nothing NotAstray trap_not_astray scope {A = ℕ} (λ z. give 0)
  zero_keeps scope = leaves.keeps_give p Nothing NotAstray trap_not_astray scope {A = ℕ} 0

  plain_stops : AlikeOutcome Nothing NotAstray Flow (Leads (parameters main) (parameters main) false false) (came (context_at p numbers bound)) (came (context_at p numbers bound))
  plain_stops =
      function_flows p formed.functions Nothing NotAstray trap_not_astray refl (λ z. context_at p numbers bound)
      (steady_same p formed.functions NotAstray trap_not_astray refl numbers all_reached (give 0) zero_keeps bound) p.main main
      (formed.functions p.main main here) (frame_of p.main main []) (frame_of p.main main []) first
      (agree_refl (parameters main) (frame_of p.main main []))

  -- so `main` does what the program means
  pub main_is_right : (calls : ℕ → Calls) → ((i : ℕ) → i ≤ bound → Agreed p numbers formed.functions calls i) → (contents : Contents) →
      IsExecution (hart_mean p hart input actions bound) (execution_of (seen first) (main_from calls contents).cost (main_from calls contents).end)
  main_is_right calls agreed contents =
      subst (λ (m : Meant). IsExecution m (execution_of (seen first) (main_from calls contents).cost (main_from calls contents).end)) strict_mean
      (executed_is p (seen first) (is_void main.result) first (main_from calls contents) (came (strict_context p numbers bound)) (came (context_at p numbers bound)) (parameters main) (parameters main) false false
      (integer_result main.result formed.typed.entry.result) plain_stops (strict_mean ∙ sym plain_mean) (main_does calls agreed contents))

  pub program_is_right : IsExecution (hart_mean p hart input actions bound) (ir_meaning numbers (lower_program p) hart input actions bound)
  program_is_right =
      subst (λ (o : Option Code). IsExecution (hart_mean p hart input actions bound) (let x = call_of_main (setting_of numbers p) (code_of (lower_program p)) o bound (seen first) in execution_of (seen first) x.cost x.end))
      (sym (code_is p p.main main here))
      (subst (λ (l : Bound). IsExecution (hart_mean p hart input actions bound) (let x = body_from (setting_of numbers p) frame cleared (lower_function p main) [] l (seen first) in execution_of (seen first) x.cost x.end))
      (same_levels p numbers formed.functions bound)
      (main_is_right (lowered_calls p numbers formed.functions) (λ i up. all_agreed p numbers formed.functions i) cleared))

  -- whatever calls that agree with the source's it makes, it ends as the lowered program does, and returns a value where it returns
  pub main_ends_alike : (calls : ℕ → Calls) → ((i : ℕ) → i ≤ bound → Agreed p numbers formed.functions calls i) → (contents : Contents) →
      EndAlike (main_from calls contents) (call_of_main (setting_of numbers p) (code_of (lower_program p)) (slice_get (code_of (lower_program p)) p.main) bound (seen first))
  main_ends_alike calls agreed contents =
      subst (λ (o : Option Code). EndAlike (main_from calls contents) (call_of_main (setting_of numbers p) (code_of (lower_program p)) o bound (seen first)))
      (sym (code_is p p.main main here))
      (subst (λ (l : Bound). EndAlike (main_from calls contents) (body_from (setting_of numbers p) frame cleared (lower_function p main) [] l (seen first)))
      (same_levels p numbers formed.functions bound)
      (ends_alike p (is_void main.result) first (main_from calls contents) (main_from (lowered_calls p numbers formed.functions) cleared) (came (strict_context p numbers bound)) (came (context_at p numbers bound))
      (parameters main) (parameters main) false false (integer_result main.result formed.typed.entry.result) plain_stops (strict_mean ∙ sym plain_mean) (main_does calls agreed contents)
      (main_does (lowered_calls p numbers formed.functions) (λ i up. all_agreed p numbers formed.functions i) cleared)))
