-- A function of a well-formed program is within all limits, with the sets of the globals that it reads.
use Rattle.std.proofs.Common.{◌≡◌, ℕ, zero, suc, ◌≤◌, Bool, true, false, not, List, [], ◌∷◌, map, length, refl, sym, ◌∙◌, ap, subst, arith, Some}
use Rattle.std.specs.Prelude.{◌&&◌, ◌||◌, All, sum, nat_eq, nat_lt, slice_get}
use Rattle.std.proofs.lemmas.Bool.{lt-ltb, ltb-true, eqb-true, not-true, and_from, or_left, or_right}
use Rattle.std.proofs.lemmas.List.Elements.{All-nil, All-cons}
use Rattle.mv_ast.specs.declared.program.Program.{Program}
use Rattle.mv_ast.specs.declared.program.Function.{Function}
use Rattle.mv_ast.specs.declared.program.Stmt.{Stmt}
use Rattle.mv_ast.specs.Counts.{nodes}
use Rattle.mv_ast.specs.Names.{any_of}
use Rattle.mv_ast.specs.declared.program.CType.{CType}
use Rattle.mv_ast.specs.declared.program.CType.TheVariants.{Pointer}
use Rattle.mv_num.specs.Lists.{is_among}
use Rattle.mv_ast.specs.Switches.{switch_global, global_or_none}
use Rattle.mv_ir.specs.Live.{IsWhole}
use Rattle.mv_ir.specs.WellFormed.{IsWellFormed}
use Rattle.mv_ir.proofs.Induction.{Each}
use Rattle.mv_source_forms.specs.Typing.{IsInteger, IsIntegerSwitch, IsPointerSwitch, IsTypedFunction, IsTypedStmt, global_types}
use Rattle.mv_source_forms.proofs.TypedParts.{AllStmts}
use Rattle.mv_source_forms.specs.Names.{is_scalar, is_void, is_own_switch, size_in}
use Rattle.mv_lower_spec.specs.Functions.{lower_function}
use Rattle.mv_source_forms.specs.WellFormed.{IsWellFormedFunction, parameters}
use Rattle.mv_lower_spec.proofs.OfPrograms.Entry.{scalar_at}
use Rattle.mv_lower_spec.specs.Shape.Reads.{reads_scalar, reads_array, stmt_reads}
use Rattle.mv_lower_spec.specs.Shape.Law.{IsFunctionOf, CallsAsOften, ReadsNoMore, IsSmall}
use Rattle.mv_lower_spec.proofs.OfShape.Asked.{Globals, IsAsked}
use Rattle.mv_lower_spec.proofs.OfShape.Holding.{Holds}
use Rattle.mv_lower_spec.proofs.OfShape.WithinExpressions.{at_index}
use Rattle.mv_lower_spec.proofs.OfShape.WithinStatements.{body_within}
use Rattle.mv_lower_spec.proofs.OfShape.Bodies as bodies
use Rattle.mv_num.proofs.Booleans.{and_cases, from_falsity}
use Rattle.mv_num.proofs.Lists.{sum_cons}

-- one of some functions has no more nodes than all of them
nodes_of_one : (gs : List Function) (f : ℕ) (g : Function) → slice_get gs f ≡ Some g → nodes g ≤ sum (map nodes gs)
nodes_of_one [] f g e = absurd (cc)
nodes_of_one (x ∷ gs) zero g e =
    let same : x ≡ g = cc in
    let n : nodes x ≡ nodes g = ap nodes same in
    omega (arith, n, sum_cons (nodes x) (map nodes gs))
nodes_of_one (x ∷ gs) (suc f) g e = let le = nodes_of_one gs f g e in omega (arith, le, sum_cons (nodes x) (map nodes gs))

each_typed : (p : Program) (g : Function) (body : List Stmt) → All (IsTypedStmt p g) body → AllStmts p g body
each_typed p g [] h = tt
each_typed p g (s ∷ body) h = (h 0 s (omega arith), each_typed p g body (λ i x lt. h (suc i) x (omega (arith, lt))))

-- what holds of each item, in the standard library's word
all_from : (P Q : ℕ → Type 0) (xs : List ℕ) → ((k : ℕ) → P k → Q k) → Each P xs → All Q xs
all_from P Q [] f h = All-nil Q
all_from P Q (x ∷ xs) f h = All-cons Q x xs (f x h.0) (all_from P Q xs f h.1)

module _ (p : Program) (f : ℕ) (g : Function) (h : IsFunctionOf p f g) where
  abbrev count : ℕ
  count = length p.globals

  abbrev is_array : ℕ → Bool
  is_array k = not (is_own_switch p (slice_get p.functions f) k) && reads_array g k

  -- a pointer switch that the function reads may be what it calls through
  abbrev is_called : ℕ → Bool
  is_called k = nat_lt k count && (is_among k p.pointers && reads_scalar g k)

  -- the globals that the function reads, of those that are there; no switch of it as an array
  abbrev own : Globals
  own = record {
    there = λ k. nat_lt k count;
    scalars = λ k. nat_lt k count && reads_scalar g k;
    arrays = λ k. is_array k || is_called k;
    pointers = p.pointers;
    called = λ k among read.
        let bs = and_cases (nat_lt k count) (reads_scalar g k) read in
        (bs.0, or_right (is_array k) (is_called k) (and_from (nat_lt k count) (is_among k p.pointers && reads_scalar g k) bs.0 (and_from (is_among k p.pointers) (reads_scalar g k) among bs.1)));
  }

  abbrev formed : IsWellFormedFunction p f g
  formed = h.formed.functions f g h.there

  abbrev typed : IsTypedFunction p g
  typed = at_index (IsTypedFunction p) p.functions f g h.formed.typed.functions h.there

  holds_own : Holds p f own (λ s a. any_of (map (stmt_reads s a) g.body))
  holds_own = record {
    scalars = λ k lt e. and_from (nat_lt k count) (reads_scalar g k) (lt-ltb k count lt) e;
    arrays = λ k lt n e. or_left (is_array k) (is_called k) (and_from (not (is_own_switch p (slice_get p.functions f) k)) (reads_array g k) n e);
  }

  -- ---- a pointer switch is no switch

  one_pointer : (k : ℕ) (ps : List ℕ) → All (IsPointerSwitch p) ps → is_among k ps ≡ true → IsPointerSwitch p k
  one_pointer k [] all e = from_falsity e
  one_pointer k (x ∷ ps) all e = by (nat_eq k x) refl (one_pointer k ps (λ i y lt. all (suc i) y (omega (arith, lt))))
    where
      by : (z : Bool) → nat_eq k x ≡ z → (is_among k ps ≡ true → IsPointerSwitch p k) → IsPointerSwitch p k
      by true q later = subst (IsPointerSwitch p) (sym (eqb-true k x q)) (all 0 x (omega arith))
      by false q later = later (sym (ap (λ z. z || is_among k ps) q) ∙ e)

  no_integer : (t : CType) (s : ℕ) → IsInteger t → t ≡ Pointer s → ⊥
  no_integer t s i q = subst IsInteger q i

  not_switch : (k : ℕ) → IsPointerSwitch p k → (ss : List ℕ) → All (IsIntegerSwitch p) ss → is_among k (map (switch_global p) ss) ≡ false
  not_switch k pointer [] all = refl
  not_switch k pointer (s ∷ ss) all = by (nat_eq k (switch_global p s)) refl (not_switch k pointer ss (λ i y lt. all (suc i) y (omega (arith, lt))))
    where
      integer : IsIntegerSwitch p s
      integer = all 0 s (omega arith)

      apart : k ≡ switch_global p s → ⊥
      apart e =
          let same : k ≡ integer.switch.global = e ∙ ap global_or_none integer.there in
          let one : Some integer.ctype ≡ Some (Pointer pointer.signature) = sym integer.global ∙ (ap (slice_get (global_types p)) (sym same) ∙ pointer.global) in
          let type : integer.ctype ≡ Pointer pointer.signature = cc in
          no_integer integer.ctype pointer.signature integer.integer type

      by : (z : Bool) → nat_eq k (switch_global p s) ≡ z → is_among k (map (switch_global p) ss) ≡ false → is_among k (map (switch_global p) (s ∷ ss)) ≡ false
      by true q rest = absurd (apart (eqb-true k (switch_global p s) q))
      by false q rest = ap (λ z. z || is_among k (map (switch_global p) ss)) q ∙ rest

  asked : IsAsked p own g
  asked = record {
    params = at_index (λ (x : Function). x.params ≤ 8) p.functions f g h.formed.limits.parameters h.there;
    params_are_locals = formed.parameters_there;
    params_are_scalars = λ l lt. ap is_scalar (scalar_at g.params g.locals l formed.scalars lt);
    there = λ k e. ltb-true k count e;
    scalars = λ k e. ltb-true k count (and_cases (nat_lt k count) (reads_scalar g k) e).0;
    within =
        body_within p f g own (length g.locals) (size_in g.locals) (is_void g.result) h.formed.limits (λ k lt. lt-ltb k count lt) g.body (parameters g)
        (record {
          typed = each_typed p g g.body typed.body;
          named = formed.named;
          declared = formed.declared;
          known = formed.known;
          held = holds_own;
        });
    jumps = formed.jumps;
  }

  few : nodes g ≤ 16777216
  few = let most = h.formed.limits.nodes in omega (arith, most, nodes_of_one p.functions f g h.there)

  pub whole : IsWhole (lower_function p g)
  whole = bodies.lowered_whole p own g asked

  pub well_formed : IsWellFormed (lower_function p g)
  well_formed = bodies.lowered_well_formed p own g asked few

  pub often : CallsAsOften p g (lower_function p g)
  often = bodies.lowered_calls p own g asked

  either_read : (k : ℕ) → own.arrays k ≡ true → (reads_array g k || reads_scalar g k) ≡ true
  either_read k e = by (is_array k) refl e
    where
      by : (z : Bool) → is_array k ≡ z → (z || is_called k) ≡ true → (reads_array g k || reads_scalar g k) ≡ true
      by true q e = or_left (reads_array g k) (reads_scalar g k) (and_cases (not (is_own_switch p (slice_get p.functions f) k)) (reads_array g k) q).1
      by false q e = or_right (reads_array g k) (reads_scalar g k) (and_cases (is_among k p.pointers) (reads_scalar g k) (and_cases (nat_lt k count) (is_among k p.pointers && reads_scalar g k) e).1).1

  never_switch : (k : ℕ) → own.arrays k ≡ true → is_among k (map (switch_global p) g.switches) ≡ false
  never_switch k e = by (is_array k) refl e
    where
      by : (z : Bool) → is_array k ≡ z → (z || is_called k) ≡ true → is_among k (map (switch_global p) g.switches) ≡ false
      by true q e =
          sym (ap (λ o. is_own_switch p o k) h.there) ∙
          not-true (is_own_switch p (slice_get p.functions f) k) (and_cases (not (is_own_switch p (slice_get p.functions f) k)) (reads_array g k) q).0
      by false q e =
          let among = (and_cases (is_among k p.pointers) (reads_scalar g k) (and_cases (nat_lt k count) (is_among k p.pointers && reads_scalar g k) e).1).0 in
          not_switch k (one_pointer k p.pointers h.formed.typed.pointers among) g.switches typed.switches

  pub reads : ReadsNoMore g (lower_function p g)
  reads = record {
    scalars = all_from (λ k. own.scalars k ≡ true) (λ k. reads_scalar g k ≡ true) _ (λ k e. (and_cases (nat_lt k count) (reads_scalar g k) e).1) (bodies.scalars_within p own g asked);
    arrays = all_from (λ k. own.arrays k ≡ true) (λ k. (reads_array g k || reads_scalar g k) ≡ true) _ either_read (bodies.arrays_within p own g asked);
    switches = all_from (λ k. own.arrays k ≡ true) (λ k. is_among k (map (switch_global p) g.switches) ≡ false) _ never_switch (bodies.arrays_within p own g asked);
  }

  pub small : IsSmall g (lower_function p g)
  small = bodies.lowered_small p own g asked
