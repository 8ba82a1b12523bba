-- The words that a global is given are first values of its type.
use Rattle.std.proofs.Common.{◌≡◌, ℕ, suc, ◌+◌, arith, ◌⊎◌, inl, inr, Bool, true, false, not, refl, sym, ◌∙◌, subst, List, [], ◌∷◌, length, Option, Some, None}
use Rattle.std.specs.List.{AllByRecursion}
use Rattle.std.proofs.lemmas.List.Elements.{All-from_recursion}
use Rattle.std.proofs.lemmas.Bool.{not-false, and_parts, eqb-true}
use Rattle.mv_syntax.specs.declared.place.Place.{Place}
use Rattle.mv_ast.specs.declared.program.CType.{CType}
use Rattle.mv_ast.specs.declared.program.CType.TheVariants.{Void, Scalar, Pointer}
use Rattle.mv_ast.specs.declared.program.Program.{Program}
use Rattle.mv_ast.specs.declared.program.Function.{Function}
use Rattle.mv_ast.specs.declared.program.Local.{Local}
use Rattle.mv_ast.specs.declared.program.Expr.{Expr}
use Rattle.mv_ast.specs.declared.program.Form.{Form, Form-F, out-Form}
use Rattle.mv_ast.specs.declared.program.Form.TheOpen as form
use Rattle.mv_ast.specs.declared.program.Target.{Target}
use Rattle.mv_syntax.specs.declared.unit.Declarator.{Declarator}
use Rattle.mv_syntax.specs.declared.unit.Initial.{Initial}
use Rattle.mv_syntax.specs.declared.unit.Initial.TheVariants as initial
use Rattle.mv_syntax.specs.declared.unit.Node.{Node}
use Rattle.mv_ast.specs.Operators.{converted}
use Rattle.mv_check_scope.specs.declared.meaning.Meaning.{Meaning}
use Rattle.mv_check_scope.specs.declared.scope.Scope.{Scope}
use Rattle.mv_check_scope.specs.Constants.{is_constant, computed, constant_value, is_zero, is_null, converts}
use Rattle.mv_check_scope.specs.Conversions.{same_type, is_integer}
use Rattle.mv_check_expressions.specs.Judged.{Good}
use Rattle.mv_check_expressions.specs.Judgements.{value_judgement}
use Rattle.mv_check_declarations.specs.declared.globals.Words.{Words}
use Rattle.mv_check_declarations.specs.Globals.{address_form, address_or, constant_word, word_or_broken, first_word, no_words, first_words, global_words}
use Rattle.mv_check_declarations.specs.Objects.{has_room, is_char, string_fits, is_overfull, least}
use Rattle.mv_types.specs.declared.contents.Object.{Object}
use Rattle.mv_types.specs.Objects.{breaches, object_words}
use Rattle.mv_source_forms.specs.Typing.{ComesTo, HasType, IsFunctionOf, IsFirstValue}
use Rattle.mv_source_forms.proofs.TypedParts.{TypedExpr, expr_node}
use Rattle.mv_accepts.specs.Expressions.Soundness.{Fits, GoodIsTyped}
use Rattle.mv_accepts.proofs.OfExpressions.Converted.{to_pointer}
use Rattle.mv_accepts.proofs.OfExpressions.Types.{same_is}
use Rattle.mv_accepts.proofs.OfStatements.Judging.{IfGood, of_good, by_good, if_then, if_more, if_through}
use Rattle.mv_accepts.proofs.OfStatements.Unbroken.{if_unbroken, unbroken, all_convert, has_extents}
use Rattle.mv_accepts.proofs.OfStatements.Lists.{each_any, all_last}
use Rattle.mv_accepts.specs.Globals.FirstValues.{FirstValuesAreTyped}
use Rattle.mv_accepts.proofs.OfGlobals.Nulls.{pointer_null}
use Rattle.mv_num.proofs.Booleans.{value_if_some}

-- a word is one more than the number of the function that an expression names, or the value of a constant
word_case : (x : Form-F Form Target Expr) (o : Option ℕ) (w : ℕ) → address_or (address_form x) o ≡ Some w →
    ((g : ℕ) × (x ≡ form.Function g) × (w ≡ g + 1)) ⊎ (o ≡ Some w)
word_case (form.Function g) o w h = inl (g, refl, cc)
word_case x o w h = inr h

zero_is : (o : Option ℕ) (w : ℕ) → o ≡ Some w → is_zero o ≡ true → w ≡ 0
zero_is None w h k = absurd (cc)
zero_is (Some n) w h k = let q : n ≡ w = cc in sym q ∙ eqb-true n 0 k

no_pointer : (t : CType) (s : ℕ) → is_integer t ≡ true → t ≡ Pointer s → ⊥
no_pointer t s h q = let r : is_integer (Pointer s) ≡ true = subst (λ z. is_integer z ≡ true) q h in cc

module _ (p : Program) (f : Function) (comes : (e : Expr) (v : ℕ) → computed e ≡ Some v → ComesTo p e v) where
  -- a typed function has a pointer to its type
  function_typed : (e : Expr) (g : ℕ) → TypedExpr p f e → out-Form e.what ≡ form.Function g → (s : ℕ) × (e.ctype ≡ Pointer s) × IsFunctionOf p s g
  function_typed e g h q = subst (HasType p f e.ctype) q (expr_node p f e h)

  address_first : (s : ℕ) (e : Expr) (g w : ℕ) → TypedExpr p f e → out-Form e.what ≡ form.Function g → w ≡ g + 1 →
      (same_type e.ctype (Pointer s) ≡ true) ⊎ (is_null e ≡ true) → IsFirstValue p (Pointer s) w
  address_first s e g w h q r (inl k) =
      let x = function_typed e g h q in
      let same : x.0 ≡ s = let z : Pointer x.0 ≡ Pointer s = sym x.1 ∙ same_is e.ctype (Pointer s) k in cc in
      let next : g + 1 ≡ suc g = omega arith in
      inr (g, r ∙ next, subst (λ n. IsFunctionOf p n g) same x.2)
  address_first s e g w h q r (inr k) =
      let x = function_typed e g h q in
      absurd (no_pointer e.ctype x.0 (and_parts (is_integer e.ctype) (is_zero (constant_value e)) k).0 x.1)

  constant_first : (s : ℕ) (e : Expr) (w : ℕ) → TypedExpr p f e → constant_value e ≡ Some w →
      (same_type e.ctype (Pointer s) ≡ true) ⊎ (is_null e ≡ true) → IsFirstValue p (Pointer s) w
  constant_first s e w h q (inl k) = inl (pointer_null p f comes e h s (same_is e.ctype (Pointer s) k) w (value_if_some (is_constant e) (computed e) w q))
  constant_first s e w h q (inr k) = inl (zero_is (constant_value e) w q (and_parts (is_integer e.ctype) (is_zero (constant_value e)) k).1)

  either_first : (s : ℕ) (e : Expr) (w : ℕ) → TypedExpr p f e → (same_type e.ctype (Pointer s) ≡ true) ⊎ (is_null e ≡ true) →
      ((g : ℕ) × (out-Form e.what ≡ form.Function g) × (w ≡ g + 1)) ⊎ (constant_value e ≡ Some w) → IsFirstValue p (Pointer s) w
  either_first s e w h k (inl x) = address_first s e x.0 w h x.1 x.2 k
  either_first s e w h k (inr q) = constant_first s e w h q k

  word_first : (t : CType) (e : Expr) (w : ℕ) → TypedExpr p f e → constant_word e ≡ Some w → converts e t ≡ true → IsFirstValue p t (converted t w)
  word_first Void e w h q k = tt
  word_first (Scalar kind) e w h q k = tt
  word_first (Pointer s) e w h q k =
      either_first s e w h (to_pointer (is_integer e.ctype) (same_type e.ctype (Pointer s)) (is_null e) k) (word_case (out-Form e.what) (constant_value e) w q)

  -- ---- words

  module _ (typed : (scope : Scope) (node : Node) (e : Expr) → Fits p f scope → value_judgement scope node ≡ Good e → TypedExpr p f e)
      (s : Scope) (fits : Fits p f s) (t : CType) where
    abbrev AreFirst : List ℕ → Type 0
    AreFirst = AllByRecursion (IsFirstValue p t)

    -- words all of which convert
    abbrev IfAll : Words → Type 0
    IfAll x = x.all ≡ true → AreFirst x.words

    abbrev Next : Words → Words → Type 0
    Next x y = IfAll x → IfAll y

    more_first : (place : Place) (x : Words) (e : Expr) (o : Option ℕ) → constant_word e ≡ o → TypedExpr p f e → IfGood (word_or_broken place t x e o) (Next x)
    more_first place x e None q h = tt
    more_first place x e (Some w) q h = λ k a.
        let b = and_parts x.all (converts e t) a in
        all_last (IsFirstValue p t) x.words (converted t w) (k b.0) (word_first t e w h q b.1)

    node_first : (node : Node) (x : Words) → IfGood (first_word t s node x) (Next x)
    node_first node x =
        if_then (TypedExpr p f) (Next x) (value_judgement s node) _
        (by_good (TypedExpr p f) (value_judgement s node) (λ e q. typed s node e fits q)) (λ e h. more_first node.place x e (constant_word e) refl h)

    nodes_first : (nodes : List Node) → IfGood (first_words t s nodes) IfAll
    nodes_first nodes =
        if_more (Next no_words) IfAll (first_words t s nodes) (λ x h. h (λ q. tt))
        (if_through (first_word t s) Next (λ node. Unit {0}) (λ x h. h) (λ x y z h k i. k (h i)) (λ node u x. node_first node x) nodes (each_any nodes) no_words)

  -- characters are integers
  characters_first : (t : CType) (ws : List ℕ) → is_char t ≡ true → AllByRecursion (IsFirstValue p t) ws
  characters_first Void ws h = absurd (cc)
  characters_first (Pointer s) ws h = absurd (cc)
  characters_first (Scalar kind) [] h = tt
  characters_first (Scalar kind) (w ∷ ws) h = (tt, characters_first (Scalar kind) ws h)

  char_of : (l : Local) (bytes : List ℕ) → not (string_fits l (length bytes)) ≡ false → is_char l.ctype ≡ true
  char_of l bytes q = (and_parts (is_char l.ctype) (has_room l.size (length bytes)) (not-false (string_fits l (length bytes)) q)).0

  module _ (typed : (scope : Scope) (node : Node) (e : Expr) → Fits p f scope → value_judgement scope node ≡ Good e → TypedExpr p f e)
      (s : Scope) (fits : Fits p f s) (l : Local) where
    -- the characters of a string apart
    abbrev IfAllGiven : Option Initial → Words → Type 0
    IfAllGiven (Some (initial.Chars bytes)) x = Unit {0}
    IfAllGiven given x = IfAll typed s fits l.ctype x

    given_first : (given : Option Initial) → IfGood (global_words l given s) (IfAllGiven given)
    given_first None = λ q. tt
    given_first (Some (initial.Value node)) =
        if_more (Next typed s fits l.ctype no_words) (IfAll typed s fits l.ctype) (first_word l.ctype s node no_words) (λ x h. h (λ q. tt)) (node_first typed s fits l.ctype node no_words)
    given_first (Some (initial.Values nodes)) = nodes_first typed s fits l.ctype nodes
    given_first (Some (initial.Chars bytes)) = tt

    kept_first : (given : Option Initial) (x : Words) → IfAllGiven given x → x.all ≡ true → is_overfull true l given (length x.words) ≡ false →
        AreFirst typed s fits l.ctype x.words
    kept_first None x h q r = h q
    kept_first (Some (initial.Value node)) x h q r = h q
    kept_first (Some (initial.Values nodes)) x h q r = h q
    kept_first (Some (initial.Chars bytes)) x h q r = characters_first l.ctype x.words (char_of l bytes r)

    object_first : (d : Declarator) (before : Option Meaning) (objects : List Object) (domain : Option (List ℕ)) (block : Bool) →
        IfGood (object_words d before objects l domain block s) (AreFirst typed s fits l.ctype)
    object_first d before objects domain block =
        if_then (IfAllGiven d.initial) (AreFirst typed s fits l.ctype) (global_words l d.initial s) _ (given_first d.initial) (λ x h.
        let b = breaches before objects l d.initial x domain block in
        if_unbroken (AreFirst typed s fits l.ctype) d.place (least b) x.words (λ q.
        let u = unbroken b q in
        kept_first d.initial x h (all_convert l d.initial x.all u.void u.unconverted).0 (has_extents true l d.initial (length x.words) u.extents).1))

pub first_values : ((p : Program) (e : Expr) (v : ℕ) → computed e ≡ Some v → ComesTo p e v) → GoodIsTyped → FirstValuesAreTyped
first_values comes typed p f d before objects l domain block s words fits q =
    All-from_recursion (IsFirstValue p l.ctype) words
    (of_good (AllByRecursion (IsFirstValue p l.ctype)) (object_words d before objects l domain block s)
    (object_first p f (comes p) (λ scope node e h r. typed p f scope node e h r) s fits l d before objects domain block) words q)
