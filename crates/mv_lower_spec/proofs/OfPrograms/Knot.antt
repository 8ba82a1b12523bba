-- All functions at once, by induction on the bound.
use Rattle.std.proofs.Common.{inl, inr, ◌≡◌, ℕ, zero, suc, ◌+◌, ◌*◌, ◌<◌, ◌≤◌, Bool, true, false, List, [], ◌∷◌, ◌++◌, length, Option, Some, None, refl, sym, ◌∙◌, subst, ap, arith}
use Rattle.std.specs.Prelude.{slice_get, nat_eq}
use Rattle.std.proofs.lemmas.Bool.{eqb-true}
use Rattle.mv_ast.specs.declared.program.Program.{Program}
use Rattle.mv_ast.specs.declared.program.Function.{Function}
use Rattle.mv_bindings.specs.declared.stop.Stop.{Stop}
use Rattle.mv_bindings.specs.declared.stop.Stop.TheVariants as stops
use Rattle.mv_bindings.specs.Bindings.{same_truth}
use Rattle.mv_ast.specs.Switches.{attributed_before}
use Rattle.mv_ast.specs.Worlds.{World, Outcome, Came, Stopped, stop}
use Rattle.mv_meaning.specs.declared.state.Frame.{Frame}
use Rattle.mv_meaning.specs.declared.state.Flow.{Flow}
use Rattle.mv_meaning.specs.declared.state.Flow.TheVariants.{Goes, Breaks, Continues, Returns}
use Rattle.mv_meaning.specs.Meaning.{flow_of_all, frame_of, deeper, back_in, call_of, returned_value}
use Rattle.mv_ir.specs.declared.stm.Stm.{Stm}
use Rattle.mv_ir.specs.declared.stm.Stm.TheOpen as stm
use Rattle.mv_ir.specs.World as code_world
use Rattle.mv_ir.specs.Outcome.{State, Returned, Ends, Bound, Calls, Call, spend, then_do}
use Rattle.mv_ir.specs.Meaning.{Contents, entry_state, body_from, cleared, call_from}
use Rattle.mv_ir.specs.Levels.{Code, one_if, called, levels}
use Rattle.mv_ir.specs.Programs.{setting_of, place_if, code_of}
use Rattle.mv_ir.proofs.Keeping.{one_meaning}
use Rattle.mv_ir.specs.KnownFunctions.{seen}
use Rattle.mv_lower_spec.specs.Lowered.{number, unless_void}
use Rattle.mv_source_forms.specs.Names.{is_void, takes}
use Rattle.mv_lower_spec.specs.Statements as statements
use Rattle.mv_lower_spec.specs.Statements.{FlowShown, return_with, out_of}
use Rattle.mv_lower_spec.specs.Functions.{lower_body, lower_function, lower_program, outermost, ending}
use Rattle.mv_lower_spec.specs.Correct.{Ground, resting, val, Shows, CallShown, CallsAgree, ran, astray, IsStrict, CallHalted}
use Rattle.mv_lower_spec.specs.Law.{fits_call, strict_context}
use Rattle.mv_lower_spec.proofs.Running as run
use Rattle.mv_lower_spec.proofs.Running.{nodes_number}
use Rattle.mv_lower_spec.proofs.Flows.{code}
use Rattle.mv_lower_spec.proofs.AllStatements.{body_correct}
use Rattle.mv_source_forms.specs.Scopes.{Scope}
use Rattle.mv_source_forms.specs.WellFormed.{parameters, IsWellFormedFunction}
use Rattle.mv_lower_spec.specs.Programs.Laws.{HasGlobals}
use Rattle.mv_lower_spec.proofs.OfPrograms.Agreement.{Agree, AlikeOutcome}
use Rattle.mv_lower_spec.proofs.OfPrograms.Leaves as leaves
use Rattle.mv_lower_spec.proofs.OfPrograms.AgreedStatements.{Leads}
use Rattle.mv_lower_spec.proofs.OfPrograms.Contexts.{function_flows}
use Rattle.mv_lower_spec.proofs.OfPrograms.Pairs.{Nothing, steady_same}
use Rattle.mv_lower_spec.proofs.OfPrograms.KnownAgree.{OwnIsLive, same_reads, known_agrees, switched_agrees}
use Rattle.mv_lower_spec.proofs.OfPrograms.Entry.{entry_frame, ground_of, frame_for, code_for, code_is, shows_entry, agrees}
use Rattle.mv_num.proofs.Booleans.{and_cases, from_falsity}

-- ---- what a body comes to

-- the call of a function that is void or not, against its statements in the source, from a world with these bindings and so many live frames
pub record BodyReturned (p : Program) (void : Bool) (live : ℕ) (before : World) (x : Call) (flow : Flow) (left : World) (work : ℕ) : Type 0 where
  pub cost : ℕ
  pub ends : x ≡ record { cost = cost; end = Returned (unless_void void (returned_value flow)) (seen left) }
  pub nothing : void ≡ true → returned_value flow ≡ 0
  pub pinned : 0 < live → left.bindings ≡ before.bindings
  pub globals : HasGlobals p left
  pub paid : cost ≤ 20 + 100 * work

abbrev pub BodyDoes : Program → Bool → ℕ → World → Call → Outcome Frame Flow → Type 0
BodyDoes p void live before x (Came flow f left work) = BodyReturned p void live before x flow left work
BodyDoes p void live before x (Stopped why left work) = CallHalted x why left work

-- any way to stop
abbrev pub Any : Stop → Type 0
Any why = Unit {0}

pub any_trap : (n : ℕ) → n < 256 → Any (stops.Trapped n)
any_trap n lt = tt

-- the frames don't matter
same_body : (p : Program) (void : Bool) (live : ℕ) (before : World) (x : Call) (scope inner : Scope) (b c : Bool) (o q : Outcome Frame Flow) → AlikeOutcome Nothing Any Flow (Leads scope inner b c) o q →
    BodyDoes p void live before x o → BodyDoes p void live before x q
same_body p void live before x scope inner b c (Came flow f w n) (Came flow' f' w' n') h k =
    subst (λ (y : Flow). BodyReturned p void live before x y w' n') h.value (subst (λ (y : World). BodyReturned p void live before x flow y n') h.world (subst (λ y. BodyReturned p void live before x flow w y) h.work k))
same_body p void live before x scope inner b c (Came flow f w n) (Stopped why w' n') h k = absurd h
same_body p void live before x scope inner b c (Stopped why w n) (Came flow' f' w' n') h k = absurd h
same_body p void live before x scope inner b c (Stopped why w n) (Stopped why' w' n') (inl h) k = absurd h
same_body p void live before x scope inner b c (Stopped why w n) (Stopped why' w' n') (inr h) k =
    subst (λ (y : Stop). CallHalted x y w' n') h.why (subst (λ (y : World). CallHalted x why y n') h.world (subst (λ y. CallHalted x why w y) h.work k))

-- no jump leads out
abbrev Stays : Outcome Frame Flow → Type 0
Stays (Came Goes f w work) = Unit {0}
Stays (Came Breaks f w work) = ⊥
Stays (Came Continues f w work) = ⊥
Stays (Came (Returns v) f w work) = Unit {0}
Stays (Stopped why w work) = Unit {0}

stays : (scope inner : Scope) (o q : Outcome Frame Flow) → AlikeOutcome Nothing Any Flow (Leads scope inner false false) o q → Stays o
stays scope inner (Came Goes f w n) (Came b f' w' n') h = tt
stays scope inner (Came Breaks f w n) (Came b f' w' n') h = from_falsity h.frames.0
stays scope inner (Came Continues f w n) (Came b f' w' n') h = from_falsity h.frames.0
stays scope inner (Came (Returns v) f w n) (Came b f' w' n') h = tt
stays scope inner (Came a f w n) (Stopped why' w' n') h = absurd h
stays scope inner (Stopped why w n) q h = tt

module _ (p : Program) (numbers : List ℕ) (inner : code_world.Frame) (began : World) (f : ℕ) (g : Function) where
  abbrev ground : Ground
  ground = ground_of p numbers inner began f g

  -- the end that gives 0
  last : (b : Bound) (s : State) → code ground (return_with (number 0) ∷ []) b s ≡ ran 11 (Ends (Returned (Some 0) s.world))
  last b s =
      one_meaning (setting_of numbers p) inner (stm.Return (number 0)) b s ∙
      ap (λ k. ran (8 + 3 * k) (Ends (Returned (Some (val (resting ground) (number 0) s)) s.world))) (nodes_number 0) ∙
      ap (λ k. ran 11 (Ends (Returned (Some k) s.world))) (run.val_number (resting ground) 0 s)

  pub ended : (void : Bool) (b : Bound) (xs : List Stm) (s : State) (o : Outcome Frame Flow) → Stays o →
      FlowShown ground void (out_of void outermost) 0 (code ground xs b s) o →
      BodyDoes p void inner.live began (call_from (code ground (xs ++ ending void) b s)) o
  ended true b xs s (Came Goes f w work) k h = record {
    cost = h.cost + 0;
    ends = ap call_from (run.joined (setting_of numbers p) inner xs [] b s ∙ ap (λ r. then_do r (code ground [] b)) h.runs) ∙ ap (λ (y : code_world.World). record { cost = h.cost + 0; end = Returned None y }) h.shows.world;
    nothing = h.nothing;
    pinned = h.shows.pinned;
    globals = h.shows.globals;
    paid = omega (arith, h.paid);
  }
  ended false b xs s (Came Goes f w work) k h = record {
    cost = h.cost + 11;
    ends =
        ap call_from (run.joined (setting_of numbers p) inner xs (return_with (number 0) ∷ []) b s ∙ ap (λ r. then_do r (code ground (return_with (number 0) ∷ []) b)) h.runs ∙ ap (spend h.cost) (last b h.state)) ∙
        ap (λ (y : code_world.World). record { cost = h.cost + 11; end = Returned (Some 0) y }) h.shows.world;
    nothing = h.nothing;
    pinned = h.shows.pinned;
    globals = h.shows.globals;
    paid = omega (arith, h.paid);
  }
  ended void b xs s (Came Breaks f w work) k h = absurd k
  ended void b xs s (Came Continues f w work) k h = absurd k
  ended true b xs s (Came (Returns v) f w work) k h = record {
    cost = h.cost + 0;
    ends = ap call_from (run.joined (setting_of numbers p) inner xs [] b s ∙ ap (λ r. then_do r (code ground [] b)) h.runs) ∙ ap (λ (y : code_world.World). record { cost = h.cost + 0; end = Returned None y }) h.shows.world;
    nothing = h.nothing;
    pinned = h.shows.pinned;
    globals = h.shows.globals;
    paid = omega (arith, h.paid);
  }
  ended false b xs s (Came (Returns v) f w work) k h = record {
    cost = h.cost + 0;
    ends = ap call_from (run.joined (setting_of numbers p) inner xs (return_with (number 0) ∷ []) b s ∙
        ap (λ r. then_do r (code ground (return_with (number 0) ∷ []) b)) h.runs) ∙
        ap (λ (y : code_world.World). record { cost = h.cost + 0; end = Returned (Some v) y }) h.shows.world;
    nothing = h.nothing;
    pinned = h.shows.pinned;
    globals = h.shows.globals;
    paid = omega (arith, h.paid);
  }
  ended void b xs s (Stopped why w work) k h = record {
    cost = h.cost + 0;
    ends = λ ne. ap call_from (run.joined (setting_of numbers p) inner xs (ending void) b s ∙ ap (λ r. then_do r (code ground (ending void) b)) (h.runs ne));
    paid = omega (arith, h.paid);
  }

-- ---- the induction

module _ (p : Program) (numbers : List ℕ) (formed : (f : ℕ) (g : Function) → slice_get p.functions f ≡ Some g → IsWellFormedFunction p f g) where
  abbrev pub codes : List Code
  codes = code_of (lower_program p)

  -- What calls that code makes from any frame do at a bound is what they do in the source.
  abbrev pub Agreed : (ℕ → Calls) → ℕ → Type 0
  Agreed calls k =
      (frame : code_world.Frame) (own : ℕ) → OwnIsLive p frame own → CallsAgree p frame own (statements.levels calls k) (strict_context p numbers k)

  strict : (k : ℕ) → IsStrict p numbers (strict_context p numbers k)
  strict zero = record { numbers_are = refl; lets_are = refl; stray_is = refl }
  strict (suc k) = record { numbers_are = refl; lets_are = refl; stray_is = refl }

  strays_keep : (scope : Scope) → leaves.Keeps p Nothing Any any_trap scope {A = ℕ} (λ z. stop astray)
  strays_keep scope = leaves.keeps_stop p Nothing Any any_trap scope astray tt

  -- a function's body, whatever its frame holds when it begins, in some frame that goes with it
  pub body_does : (calls : ℕ → Calls) (j : ℕ) → ((i : ℕ) → i ≤ j → Agreed calls i) → (f : ℕ) (g : Function) → slice_get p.functions f ≡ Some g →
      (inner : code_world.Frame) → OwnIsLive p inner f → (contents : Contents) (vs : List ℕ) → length vs ≡ g.params → (began w : World) →
      Shows (resting (ground_of p numbers inner began f g)) (entry_frame p f g (entry_state contents (lower_function p g) vs (seen w))) w
      (entry_state contents (lower_function p g) vs (seen w)) →
      Agree (parameters g) (entry_frame p f g (entry_state contents (lower_function p g) vs (seen w))) (frame_of f g vs) →
      BodyDoes p (is_void g.result) inner.live began
      (body_from (setting_of numbers p) inner contents (lower_function p g) vs (statements.levels calls j) (seen w))
      (flow_of_all p (strict_context p numbers j) g.body (frame_of f g vs) w)
  body_does calls j ih f g here inner lively contents vs count began w shows same =
      let void = is_void g.result in
      let start = entry_state contents (lower_function p g) vs (seen w) in
      let from : Frame = entry_frame p f g start in
      let body = flow_of_all p (strict_context p numbers j) g.body in
      let h = formed f g here in
      let alike =
      function_flows p formed Nothing Any any_trap tt (λ z. strict_context p numbers j) (steady_same p formed Any any_trap tt numbers (fits_call p) (stop astray) strays_keep j) f g h from (frame_of f g vs) w same in
      let shown =
      body_correct (ground_of p numbers inner began f g) void j calls (strict_context p numbers) (omega arith) strict (λ s. refl) (λ k s. refl)
      (λ i up. ih i up inner f lively) (known_agrees p numbers inner f lively) (switched_agrees p numbers) g.body h.named h.labels outermost
      (omega arith) j (omega arith) from w start shows in
      same_body p void inner.live began _ (parameters g) (parameters g) false false (body from w) (body (frame_of f g vs) w) alike
      (ended p numbers inner began f g void (statements.levels calls j) (lower_body p.pointers g).code start (body from w) (stays (parameters g) (parameters g) (body from w) (body (frame_of f g vs) w) alike) shown)

  -- ---- calls of lowered functions

  abbrev below : ℕ → Bound
  below k = levels (setting_of numbers p) codes k

  abbrev pub lowered_calls : ℕ → Calls
  lowered_calls k f args depth live w = called (setting_of numbers p) (slice_get codes f) (below k) args depth live w

  pub same_levels : (k : ℕ) → statements.levels lowered_calls k ≡ below k
  same_levels zero = refl
  same_levels (suc k) = ap (λ l. lowered_calls k ∷ l) (same_levels k)

  -- the frame of an attributed function is live
  entry_is_live : (f : ℕ) (g : Function) (depth : ℕ) (w : World) → slice_get p.functions f ≡ Some g → OwnIsLive p (frame_for p f g depth w) f
  entry_is_live f g depth w here x e z =
      let same : x ≡ g = cc in
      let flag : g.attributed ≡ true = sym (ap (λ (y : Function). y.attributed) same) ∙ z in
      let one : one_if (place_if g.attributed (attributed_before p.functions f)) ≡ 1 = ap (λ z. one_if (place_if z (attributed_before p.functions f))) flag in
      omega (arith, one)

  -- a call of a function, whatever its frame holds
  pub called_does : (calls : ℕ → Calls) (j : ℕ) → ((i : ℕ) → i ≤ j → Agreed calls i) → (f : ℕ) (g : Function) → slice_get p.functions f ≡ Some g →
      (contents : Contents) (vs : List ℕ) → length vs ≡ g.params → (w : World) → HasGlobals p w →
      BodyDoes p (is_void g.result) (frame_for p f g w.depth w).live w
      (body_from (setting_of numbers p) (frame_for p f g w.depth w) contents (lower_function p g) vs (statements.levels calls j) (seen w))
      (flow_of_all p (strict_context p numbers j) g.body (frame_of f g vs) (deeper g w))
  called_does calls j ih f g here contents vs count w globals =
      body_does calls j ih f g here (frame_for p f g w.depth w) (entry_is_live f g w.depth w here) contents vs count w (deeper g w)
      (shows_entry p f g here (formed f g here) vs count contents w globals numbers)
      (agrees p f g here (formed f g here) vs count contents w globals)

  -- and where it calls lowered functions
  function_does : (j : ℕ) → ((i : ℕ) → i ≤ j → Agreed lowered_calls i) → (f : ℕ) (g : Function) → slice_get p.functions f ≡ Some g →
      (contents : Contents) (vs : List ℕ) → length vs ≡ g.params → (w : World) → HasGlobals p w →
      BodyDoes p (is_void g.result) (frame_for p f g w.depth w).live w
      (body_from (setting_of numbers p) (frame_for p f g w.depth w) contents (lower_function p g) vs (below j) (seen w))
      (flow_of_all p (strict_context p numbers j) g.body (frame_of f g vs) (deeper g w))
  function_does j ih f g here contents vs count w globals =
      subst (λ (l : Bound). BodyDoes p (is_void g.result) (frame_for p f g w.depth w).live w
      (body_from (setting_of numbers p) (frame_for p f g w.depth w) contents (lower_function p g) vs l (seen w))
      (flow_of_all p (strict_context p numbers j) g.body (frame_of f g vs) (deeper g w))) (same_levels j)
      (called_does lowered_calls j ih f g here contents vs count w globals)

  module _ (frame : code_world.Frame) (own : ℕ) (lively : OwnIsLive p frame own) where
    back : (void : Bool) (live : ℕ) (x : Call) (f : Frame) (w : World) (o : Outcome Frame Flow) → HasGlobals p w → frame.live ≤ live → BodyDoes p void live w x o → CallShown p frame own void x f w (back_in f w o)
    back void live x f w (Came flow a left work) globals up h =
        let pinned : 0 < frame.live → left.bindings ≡ w.bindings = λ lt. h.pinned (omega (arith, lt, up)) in
        record {
          ends = ap (λ (y : Call). y.end) h.ends;
          nothing = h.nothing;
          unmoved = record {
            globals = λ g. h.globals g ∙ sym (globals g);
            frame_same = refl;
            depth = refl;
            live = refl;
            pinned = pinned;
            switches = same_reads p frame own w.bindings left.bindings lively pinned;
          };
          paid = let e : x.cost ≡ h.cost = ap (λ (y : Call). y.cost) h.ends in omega (arith, e, h.paid);
        }
    back void live x f w (Stopped why left work) globals up h = record { cost = h.cost; ends = h.ends; paid = h.paid }

    -- the code's call of what the source calls
    entered : (j : ℕ) → ((i : ℕ) → i ≤ j → Agreed lowered_calls i) → (idx : ℕ) (void : Bool) (vs : List ℕ) (f : Frame) (w : World) → w.depth ≡ frame.depth → w.live ≡ frame.live → HasGlobals p w →
        (o : Option Function) → slice_get p.functions idx ≡ o → takes o (length vs) void ≡ true →
        CallShown p frame own void (called (setting_of numbers p) (slice_get codes idx) (below j) vs frame.depth frame.live (seen w)) f w (call_of p (strict_context p numbers j) idx o vs f w)
    entered j ih idx void vs f w hd hl globals None e t = from_falsity t
    entered j ih idx void vs f w hd hl globals (Some g) e t =
        let ts = and_cases (nat_eq g.params (length vs)) (same_truth (is_void g.result) void) t in
        let count : length vs ≡ g.params = sym (eqb-true g.params (length vs) ts.0) in
        let result : is_void g.result ≡ void = same (is_void g.result) void ts.1 in
        subst (λ v. CallShown p frame own v (called (setting_of numbers p) (slice_get codes idx) (below j) vs frame.depth frame.live (seen w)) f w
        (call_of p (strict_context p numbers j) idx (Some g) vs f w)) result
        (subst (λ (q : Option Code). CallShown p frame own (is_void g.result)
        (called (setting_of numbers p) q (below j) vs frame.depth frame.live (seen w)) f w
        (call_of p (strict_context p numbers j) idx (Some g) vs f w)) (sym (code_is p idx g e))
        (subst (λ d. CallShown p frame own (is_void g.result)
        (called (setting_of numbers p) (Some (code_for p g (attributed_before p.functions idx))) (below j) vs d frame.live (seen w)) f w
        (call_of p (strict_context p numbers j) idx (Some g) vs f w)) hd
        (subst (λ l. CallShown p frame own (is_void g.result)
        (called (setting_of numbers p) (Some (code_for p g (attributed_before p.functions idx))) (below j) vs w.depth l (seen w)) f w
        (call_of p (strict_context p numbers j) idx (Some g) vs f w)) hl
        (back (is_void g.result) (frame_for p idx g w.depth w).live _ f w
        (flow_of_all p (strict_context p numbers j) g.body (frame_of idx g vs) (deeper g w)) globals (omega (arith, hl))
        (function_does j ih idx g e cleared vs count w globals)))))
      where
        same : (a b : Bool) → same_truth a b ≡ true → a ≡ b
        same true b q = sym q
        same false true q = from_falsity q
        same false false q = refl

  at_zero : Agreed lowered_calls zero
  at_zero frame own lively g void vs f w can hf hd hl globals = record { cost = 0; ends = λ ne. refl; paid = omega arith }

  step : (j : ℕ) → ((i : ℕ) → i ≤ j → Agreed lowered_calls i) → Agreed lowered_calls (suc j)
  step j ih frame own lively g void vs f w can hf hd hl globals =
      entered frame own lively j ih g void vs f w hd hl globals (slice_get p.functions g) refl can

  upto : (limit k : ℕ) → k ≤ limit → Agreed lowered_calls k
  upto limit zero up = at_zero
  upto zero (suc k) up = absurd (omega (arith, up))
  upto (suc limit) (suc k) up = step k (λ i lower. upto limit i (omega (arith, up, lower)))

  -- At each bound the calls of lowered functions do what the source's do.
  pub all_agreed : (k : ℕ) → Agreed lowered_calls k
  all_agreed k = upto k k (omega arith)

  -- and so does a function, whatever its frame holds when it begins
  pub function_is_right : (k f : ℕ) (g : Function) → slice_get p.functions f ≡ Some g → (contents : Contents) (vs : List ℕ) → length vs ≡ g.params →
      (w : World) → HasGlobals p w →
      BodyDoes p (is_void g.result) (frame_for p f g w.depth w).live w
      (body_from (setting_of numbers p) (frame_for p f g w.depth w) contents (lower_function p g) vs (below k) (seen w))
      (flow_of_all p (strict_context p numbers k) g.body (frame_of f g vs) (deeper g w))
  function_is_right k f g here contents vs count w globals = function_does k (λ i up. all_agreed i) f g here contents vs count w globals
