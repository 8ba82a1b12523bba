-- An expression of a well-formed function is within the limits: what it names is there and declared, and its calls have at most eight arguments.
use Rattle.std.proofs.Common.{◌≡◌, ℕ, ◌<◌, ◌≤◌, Bool, true, not, List, [], ◌∷◌, map, take, length, refl, sym, ◌∙◌, ap, subst, arith, Option, Some}
use Rattle.std.specs.Prelude.{◌&&◌, ◌||◌, nat_lt, nat_eq, slice_get, All}
use Rattle.std.proofs.lemmas.Bool.{lt-ltb, eq-eqb, eqb-true, and_from}
use Rattle.std.proofs.lemmas.List.{length-map, length-take}
use Rattle.std.proofs.lemmas.Option.{slice_get_within, get_or_from_slice_get}
use Rattle.mv_ast.specs.declared.program.CType.{CType}
use Rattle.mv_ast.specs.declared.program.Known.{Known}
use Rattle.mv_ast.specs.declared.program.Known.TheVariants.{Getchar, Putchar, Poll, Plan}
use Rattle.mv_ast.specs.declared.program.Program.{Program}
use Rattle.mv_ast.specs.declared.program.Global.{Global}
use Rattle.mv_ast.specs.declared.program.Function.{Function}
use Rattle.mv_ast.specs.declared.program.Signature.{Signature}
use Rattle.mv_ast.specs.declared.program.Expr.{Expr, Expr-F, roll-Expr, out-roll-Expr}
use Rattle.mv_ast.specs.declared.program.Form.{Form, Form-F, roll-Form, out-Form, out-roll-Form}
use Rattle.mv_ast.specs.declared.program.Form.TheOpen as form
use Rattle.mv_ast.specs.declared.program.Target.{Target, Target-F, roll-Target, out-Target, out-roll-Target}
use Rattle.mv_num.specs.Lists.{is_among}
use Rattle.mv_ir.specs.WellFormed.{known_arguments}
use Rattle.mv_ir.proofs.Induction.{Each}
use Rattle.mv_source_forms.specs.Typing.{HasType, LvalueHasType, global_types, parameter_types, types_of}
use Rattle.mv_source_forms.proofs.TypedParts.{TypedForm, TypedTarget, TypedExpr, AllTyped, FormParts, TargetParts, form_parts, target_parts, expr_form, expr_node}
use Rattle.mv_source_forms.specs.Lists.{all_of}
use Rattle.mv_source_forms.specs.Names.{is_scalar, is_own_switch, names_form, names_target, names_layer, target_is_well_named, is_well_named}
use Rattle.mv_source_forms.proofs.ExpressionFolds.{ExprFolds, expr_fold, expr_folds, expr_family, along_exprs}
use Rattle.mv_source_forms.proofs.ExpressionInduction.{FormChildren, TargetChildren}
use Rattle.mv_source_forms.specs.Scopes.{form_in, target_in, layer_in, names_declared, target_names_declared}
use Rattle.mv_source_forms.specs.Uses.{known_parameters, known_is_there, form_calls_known, target_in_parts, calls_known, target_calls_known}
use Rattle.mv_source_forms.proofs.Tests.{one_holds, two_hold, last_apart}
use Rattle.mv_source_forms.specs.WellFormed.{IsWithinLimits}
use Rattle.mv_lower_spec.specs.Shape.Reads.{LvalueReads, reads_layer, lvalue_reads, inner_reads, target_reads}
use Rattle.mv_lower_spec.proofs.OfShape.Asked.{Globals, Access, local_access, target_access, form_names_only, inner_names_only, asking}
use Rattle.mv_lower_spec.proofs.OfShape.Holding.{Reading, reads_of as R, reads_of_all, holds_left, holds_right, held_in}
use Rattle.mv_num.proofs.Booleans.{and_cases}

-- what holds of all items of a list holds of one
pub at_index : {A : Type 0} (P : A → Type 0) (xs : List A) (i : ℕ) (x : A) → All P xs → slice_get xs i ≡ Some x → P x
at_index P xs i x h e = subst P (get_or_from_slice_get xs i x x e) (h i x (slice_get_within xs i x e))

-- ---- the arguments of known functions

same_arguments : (k : Known) → known_parameters k ≡ known_arguments k
same_arguments Getchar = refl
same_arguments Putchar = refl
same_arguments Poll = refl
same_arguments (Plan code index) = refl

as_many : {A : Type 0} (f g : A → Bool) (k : Known) (xs : List A) → nat_eq (length (map f xs)) (known_parameters k) ≡ true → nat_eq (length (map g xs)) (known_arguments k) ≡ true
as_many f g k xs e =
    eq-eqb (length (map g xs)) (known_arguments k)
    (length-map xs g ∙ (sym (length-map xs f) ∙ (eqb-true (length (map f xs)) (known_parameters k) e ∙ same_arguments k)))

few : {A : Type 0} (f : A → Bool) (xs : List A) → length xs ≤ 8 → nat_lt (length (map f xs)) 9 ≡ true
few f xs le = lt-ltb (length (map f xs)) 9 (omega (arith, le, length-map xs f))

-- an expression of a function stands where some locals are declared; a name that is free is also declared further in
module _ (p : Program) (own : ℕ) (fn : Function) (globals : Globals) (locals : ℕ) (sizes : ℕ → Option ℕ) (limits : IsWithinLimits p) (there : (k : ℕ) → k < length p.globals → globals.there k ≡ true)
    (free outer inner : ℕ → Bool) (narrow : (l : ℕ) → free l ≡ true → outer l ≡ true → inner l ≡ true) where
  open held_in p own globals use {Holds, Good}
  open asking globals locals sizes inner use {within as I, place}

  -- an lvalue may be stored to, and read where the sets hold it
  pub record Reached (a : Access) (itself : Reading) : Type 0 where
    pub read : Holds itself → a.read ≡ true
    pub stored : a.stored ≡ true

  abbrev LvalueReading : Type 0
  LvalueReading = (s a : ℕ → Bool) → LvalueReads

  -- of each, whether it is within the limits, well named, declared and calls what is known, and what it reads
  abbrev judged : ExprFolds (Bool × (((CType → Bool) × Bool) × (Bool × Reading))) (Access × ((Bool × Bool) × (Bool × LvalueReading))) (Bool × ((Bool × Bool) × (Bool × Reading)))
  judged =
      expr_folds (expr_fold (form_names_only globals locals sizes inner) (target_access globals locals sizes inner) (inner_names_only globals locals sizes inner))
      (expr_folds (expr_folds (expr_fold (names_form p own locals sizes free) (names_target p own locals sizes free) (names_layer p own locals sizes free)) (expr_fold form_in (target_in outer) layer_in))
      (expr_folds (expr_fold (form_calls_known p) target_in_parts layer_in) (expr_family (λ (s : ℕ → Bool). expr_family (λ (a : ℕ → Bool). expr_fold (reads_layer s a) (lvalue_reads s a) (inner_reads s a))))))

  abbrev FormWithin : Form → Bool × (((CType → Bool) × Bool) × (Bool × Reading)) → Type 0
  FormWithin f v = (t : CType) → Good (HasType p fn t (out-Form f) × TypedForm p fn f) (v.1.0.0 t) v.1.0.1 v.1.1.0 v.1.1.1 → v.0 ≡ true

  abbrev TargetWithin : Target → Access × ((Bool × Bool) × (Bool × LvalueReading)) → Type 0
  TargetWithin x v = (t : CType) → Good (LvalueHasType p fn t (out-Target x) × TypedTarget p fn x) v.1.0.0 v.1.0.1 v.1.1.0 (λ s a. (v.1.1.1 s a).index) → Reached v.0 (λ s a. (v.1.1.1 s a).itself)

  abbrev ExprWithin : Expr → Bool × ((Bool × Bool) × (Bool × Reading)) → Type 0
  ExprWithin e v = Good (TypedExpr p fn e) v.1.0.0 v.1.0.1 v.1.1.0 v.1.1.1 → v.0 ≡ true

  abbrev P : Form → Type 0
  P f = FormWithin f (judged.form f)

  abbrev Q : Target → Type 0
  Q x = TargetWithin x (judged.target x)

  abbrev S : Expr → Type 0
  S e = ExprWithin e (judged.expr e)

  -- ---- arguments

  abbrev all_within : List Expr → Bool
  all_within es = all_of (map (I) es)

  all_good : (es : List Expr) → Each S es → AllTyped p fn es → all_of (map (is_well_named p own locals sizes free) es) ≡ true → all_of (map (names_declared outer) es) ≡ true → all_of (map (calls_known p) es) ≡ true →
      Holds (reads_of_all es) → all_within es ≡ true
  all_good [] h t n d k r = refl
  all_good (e ∷ es) h t n d k r =
      let ns = and_cases (is_well_named p own locals sizes free e) (all_of (map (is_well_named p own locals sizes free) es)) n in
      let ds = and_cases (names_declared outer e) (all_of (map (names_declared outer) es)) d in
      let ks = and_cases (calls_known p e) (all_of (map (calls_known p) es)) k in
      and_from (I e) (all_within es)
      (h.0 (record { typed = t.0; named = ns.0; declared = ds.0; known = ks.0; held = holds_left (R e) (reads_of_all es) r }))
      (all_good es h.1 t.1 ns.1 ds.1 ks.1 (holds_right (R e) (reads_of_all es) r))

  parameters_few : (f : ℕ) (g : Function) (args : List Expr) → slice_get p.functions f ≡ Some g → types_of args ≡ parameter_types g → length args ≤ 8
  parameters_few f g args e q =
      let most = at_index (λ (h : Function). h.params ≤ 8) p.functions f g limits.parameters e in
      let long : length args ≡ length (take g.params g.locals) = sym (length-map args (λ (x : Expr). x.ctype)) ∙ (ap (λ (ts : List CType). length ts) q ∙ length-map (take g.params g.locals) (λ l. l.ctype)) in
      omega (arith, most, long, length-take g.params g.locals)

  signature_few : (s : ℕ) (g : Signature) (args : List Expr) → slice_get p.signatures s ≡ Some g → types_of args ≡ g.params → length args ≤ 8
  signature_few s g args e q =
      let most = at_index (λ (h : Signature). length h.params ≤ 8) p.signatures s g limits.pointed_parameters e in
      let long : length args ≡ length g.params = sym (length-map args (λ (x : Expr). x.ctype)) ∙ ap (λ (ts : List CType). length ts) q in
      omega (arith, most, long)

  -- ---- each form

  abbrev N : Expr → Bool
  N = is_well_named p own locals sizes free

  abbrev D : Expr → Bool
  D = names_declared outer

  abbrev K : Expr → Bool
  K = calls_known p

  abbrev itself : Target → Reading
  itself x s a = (target_reads s a x).itself

  abbrev index : Target → Reading
  index x s a = (target_reads s a x).index

  pair : (a b : Expr) → S a → S b → TypedExpr p fn a → TypedExpr p fn b → (N a && N b) ≡ true → (D a && (D b && true)) ≡ true → (K a && (K b && true)) ≡ true → Holds (λ s x. R a s x || R b s x) → (I a && I b) ≡ true
  pair a b ha hb ta tb n d k r =
      let ns = and_cases (N a) (N b) n in
      let ds = two_hold (D a) (D b) d in
      let ks = two_hold (K a) (K b) k in
      and_from (I a) (I b) (ha (record { typed = ta; named = ns.0; declared = ds.0; known = ks.0; held = holds_left (R a) (R b) r }))
      (hb (record { typed = tb; named = ns.1; declared = ds.1; known = ks.1; held = holds_right (R a) (R b) r }))

  layer : (x : Form-F Form Target Expr) → FormChildren P Q S x → (t : CType) → (let w = judged.form_layer x in Good (HasType p fn t x × FormParts p fn x) (w.1.0.0 t) w.1.0.1 w.1.1.0 w.1.1.1 → w.0 ≡ true)
  layer (form.Number n) h t g = refl
  layer (form.Read x) h t g =
      let reached = h t (record {
        typed = (g.typed.0, g.typed.1);
        named = g.named;
        declared = one_holds (target_names_declared outer x) g.declared;
        known = one_holds (target_calls_known p x) g.known;
        held = holds_right (itself x) (index x) g.held;
      }) in
      reached.read (holds_left (itself x) (index x) g.held)
  layer (form.Function f) h t g = refl
  layer (form.Unary op a) h t g = h (record { typed = g.typed.1; named = g.named; declared = one_holds (D a) g.declared; known = one_holds (K a) g.known; held = g.held })
  layer (form.Binary op a b) h t g = pair a b h.0 h.1 g.typed.1.0 g.typed.1.1 g.named g.declared g.known g.held
  layer (form.Both a b) h t g = pair a b h.0 h.1 g.typed.1.0 g.typed.1.1 g.named g.declared g.known g.held
  layer (form.Either a b) h t g = pair a b h.0 h.1 g.typed.1.0 g.typed.1.1 g.named g.declared g.known g.held
  layer (form.Choose c a b) h t g =
      let ns = and_cases (N c) (N a && N b) g.named in
      let ds = and_cases (D c) (D a && (D b && true)) g.declared in
      let ks = and_cases (K c) (K a && (K b && true)) g.known in
      let others : Reading = λ s x. R a s x || R b s x in
      and_from (I c) (I a && I b) (h.0 (record { typed = g.typed.1.0; named = ns.0; declared = ds.0; known = ks.0; held = holds_left (R c) others g.held }))
      (pair a b h.1 h.2 g.typed.1.1 g.typed.1.2 ns.1 ds.1 ks.1 (holds_right (R c) others g.held))
  layer (form.Convert a) h t g = h (record { typed = g.typed.1; named = g.named; declared = one_holds (D a) g.declared; known = one_holds (K a) g.known; held = g.held })
  layer (form.Set x a) h t g =
      let ns = and_cases (target_is_well_named p own locals sizes free x) (N a) g.named in
      let ds = two_hold (target_names_declared outer x) (D a) g.declared in
      let ks = two_hold (target_calls_known p x) (K a) g.known in
      let reached = h.0 t (record { typed = (g.typed.0.0, g.typed.1.0); named = ns.0; declared = ds.0; known = ks.0; held = holds_left (index x) (R a) g.held }) in
      and_from (place x).stored (I a) reached.stored (h.1 (record { typed = g.typed.1.1; named = ns.1; declared = ds.1; known = ks.1; held = holds_right (index x) (R a) g.held }))
  layer (form.Change op kind x a) h t g =
      let ns = and_cases (target_is_well_named p own locals sizes free x) (N a) g.named in
      let ds = two_hold (target_names_declared outer x) (D a) g.declared in
      let ks = two_hold (target_calls_known p x) (K a) g.known in
      let both : Reading = λ s z. itself x s z || index x s z in
      let ahead = holds_left both (R a) g.held in
      let reached = h.0 t (record { typed = (g.typed.0.2, g.typed.1.0); named = ns.0; declared = ds.0; known = ks.0; held = holds_right (itself x) (index x) ahead }) in
      and_from (place x).read ((place x).stored && I a) (reached.read (holds_left (itself x) (index x) ahead))
      (and_from (place x).stored (I a) reached.stored (h.1 (record { typed = g.typed.1.1; named = ns.1; declared = ds.1; known = ks.1; held = holds_right both (R a) g.held })))
  layer (form.After up x) h t g =
      let reached = h t (record {
        typed = (g.typed.0.1, g.typed.1);
        named = g.named;
        declared = one_holds (target_names_declared outer x) g.declared;
        known = one_holds (target_calls_known p x) g.known;
        held = holds_right (itself x) (index x) g.held;
      }) in
      and_from (place x).read (place x).stored (reached.read (holds_left (itself x) (index x) g.held)) reached.stored
  layer (form.Direct f args) h t g =
      let ns = and_cases _ (all_of (map N args)) g.named in
      and_from (nat_lt (length (map I args)) 9) (all_within args) (few I args (parameters_few f g.typed.0.0 args g.typed.0.1 g.typed.0.3)) (all_good args h g.typed.1 ns.1 g.declared g.known g.held)
  layer (form.Through args callee) h t g =
      let ns = and_cases (all_of (map N args)) (N callee) g.named in
      let ds = last_apart (map D args) (D callee) g.declared in
      let ks = last_apart (map K args) (K callee) g.known in
      and_from (nat_lt (length (map I args)) 9) (all_within args && I callee) (few I args (signature_few g.typed.0.0 g.typed.0.1 args g.typed.0.3 g.typed.0.5))
      (and_from (all_within args) (I callee) (all_good args h.0 g.typed.1.0 ns.0 ds.0 ks.0 (holds_left (reads_of_all args) (R callee) g.held))
      (h.1 (record { typed = g.typed.1.1; named = ns.1; declared = ds.1; known = ks.1; held = holds_right (reads_of_all args) (R callee) g.held })))
  layer (form.Known k args) h t g =
      let ks = and_cases (known_is_there p k) (nat_eq (length (map K args)) (known_parameters k) && all_of (map K args)) g.known in
      let js = and_cases (nat_eq (length (map K args)) (known_parameters k)) (all_of (map K args)) ks.1 in
      and_from (nat_eq (length (map I args)) (known_arguments k)) (all_within args) (as_many K I k args js.0) (all_good args h g.typed.1 g.named g.declared js.1 g.held)

  -- ---- places

  below : (g : ℕ) (t : CType) → slice_get (global_types p) g ≡ Some t → g < length p.globals
  below g t e = let lt = slice_get_within (global_types p) g t e in omega (arith, lt, length-map p.globals (λ (x : Global). x.ctype))

  target_layer : (x : Target-F Form Target Expr) → TargetChildren P Q S x → (t : CType) → LvalueHasType p fn t x → TargetParts p fn x →
      (let w = judged.target_layer x in w.1.0.0 ≡ true → w.1.0.1 ≡ true → w.1.1.0 ≡ true → Holds (λ s a. (w.1.1.1 s a).index) → Reached w.0 (λ s a. (w.1.1.1 s a).itself))
  target_layer (form.Global g) h t type parts n d k r = record {
    read = λ held. held.scalars g (below g t type) (eq-eqb g g refl);
    stored = there g (below g t type);
  }
  target_layer (form.Local l) h t type parts n d k r =
      let ns = and_cases (nat_lt l locals) (free l && is_scalar (sizes l)) n in
      let ms = and_cases (free l) (is_scalar (sizes l)) ns.1 in
      let b = and_from (nat_lt l locals) (inner l && is_scalar (sizes l)) ns.0 (and_from (inner l) (is_scalar (sizes l)) (narrow l ms.0 d) ms.1) in
      record { read = λ held. b; stored = b }
  target_layer (form.GlobalAt g e) h t type parts n d k r =
      let ns = and_cases (not (is_own_switch p (slice_get p.functions own) g)) (not (is_among g p.pointers) && N e) n in
      let i = h (record { typed = parts; named = (and_cases (not (is_among g p.pointers)) (N e) ns.1).1; declared = d; known = one_holds (K e) k; held = r }) in
      let b = there g (below g t type.0) in
      record {
        read = λ held. and_from (globals.there g) (globals.arrays g && I e) b (and_from (globals.arrays g) (I e) (held.arrays g (below g t type.0) ns.0 (eq-eqb g g refl)) i);
        stored = and_from (globals.there g) (I e) b i;
      }
  target_layer (form.LocalAt l e) h t type parts n d k r =
      let ns = and_cases (nat_lt l locals) (free l && (not (is_scalar (sizes l)) && N e)) n in
      let ms = and_cases (free l) (not (is_scalar (sizes l)) && N e) ns.1 in
      let os = and_cases (not (is_scalar (sizes l))) (N e) ms.1 in
      let ds = and_cases (outer l) (D e) d in
      let i = h (record { typed = parts; named = os.1; declared = ds.1; known = one_holds (K e) k; held = r }) in
      let b = and_from (local_access globals locals sizes inner (not (is_scalar (sizes l))) l) (I e)
      (and_from (nat_lt l locals) (inner l && not (is_scalar (sizes l))) ns.0 (and_from (inner l) (not (is_scalar (sizes l))) (narrow l ms.0 ds.0) os.0)) i in
      record { read = λ held. b; stored = b }

  -- An expression that names what is there and declared, and reads what the sets hold.
  pub expr_within : (e : Expr) → S e
  expr_within =
      along_exprs judged FormWithin TargetWithin ExprWithin
      (λ x h t g. layer x h t (record {
        typed = (
          subst (HasType p fn t) (out-roll-Form x) g.typed.0,
          subst (FormParts p fn) (out-roll-Form x) (form_parts p fn (roll-Form x) g.typed.1),
        );
        named = g.named;
        declared = g.declared;
        known = g.known;
        held = g.held;
      }))
      (λ x h t g. target_layer x h t (subst (LvalueHasType p fn t) (out-roll-Target x) g.typed.0)
      (subst (TargetParts p fn) (out-roll-Target x) (target_parts p fn (roll-Target x) g.typed.1)) g.named g.declared g.known g.held)
      (λ x h g. h x.ctype (record {
        typed = (
          subst (λ (z : Expr-F Form Target Expr). HasType p fn z.ctype (out-Form z.what)) (out-roll-Expr x)
              (expr_node p fn (roll-Expr x) g.typed),
          subst (λ (z : Expr-F Form Target Expr). TypedForm p fn z.what) (out-roll-Expr x) (expr_form p fn (roll-Expr x) g.typed),
        );
        named = g.named;
        declared = g.declared;
        known = g.known;
        held = g.held;
      }))
