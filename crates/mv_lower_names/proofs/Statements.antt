-- The code of lowered statements names what the statements name, and the constants that lowering needs.
use Rattle.std.proofs.Common.{ℕ, zero, suc, ◌+◌, ◌*◌, ◌-◌, ◌<◌, ◌≤◌, Bool, true, false, cond, List, [], ◌∷◌, ◌++◌, map, length, max, Option, Some, None, arith}
use Rattle.std.specs.Prelude.{◌||◌, nat_le}
use Rattle.std.proofs.lemmas.List.{length-map}
use Rattle.mv_ast.specs.declared.program.Known.{Known}
use Rattle.mv_ast.specs.declared.program.Expr.{Expr}
use Rattle.mv_ast.specs.declared.program.Form.{Form}
use Rattle.mv_ast.specs.declared.program.Target.{Target}
use Rattle.mv_ast.specs.declared.program.Stmt.{Stmt, Stmt-F}
use Rattle.mv_ast.specs.declared.program.Stmt.TheOpen as stmt
use Rattle.mv_ast.specs.declared.program.Arm.{Arm}
use Rattle.mv_ast.specs.Counts.{words_of_size}
use Rattle.mv_ast.specs.Names.{any_of, names_local}
use Rattle.mv_ir.specs.declared.tree.Tree.{Tree}
use Rattle.mv_ir.specs.declared.stm.Array.TheVariants as array
use Rattle.mv_ir.specs.declared.stm.Stm.{Stm}
use Rattle.mv_ir.proofs.Induction.{Each}
use Rattle.mv_lower_spec.specs.Lowered.{Lowering, number, temp, binary, set}
use Rattle.mv_lower_spec.specs.Lower.{lower_expr}
use Rattle.mv_lower_spec.specs.Statements.{Jumps, Placed, LoweredArm, break, enclosed, in_body, in_arm, store_word, clear_words, store_zeros, store_values, lower_clear, test_labels, test_arms, arm_place, all_tests, arm_code, arms_code, lower_switch, lower_if, test_and_body, lower_while, lower_do, lower_for}
use Rattle.mv_lower_spec.specs.LowerStatements.{lower_optional, lower_stmt, lower_arm}
use Rattle.mv_source_forms.proofs.StatementFolds.{along_stmts}
use Rattle.mv_source_forms.proofs.StatementInduction.{StmtChildren}
use Rattle.mv_lower_spec.proofs.OfShape.Folds.{lowered_stmts, sequences}
use Rattle.mv_lower_names.proofs.Naming.{then, number_names, temp_names, binary_names, set_names, write_names, zero_names, choose_names, return_names, break_names, repeat_names, enclosed_names, naming}
use Rattle.mv_select.proofs.OfBodies.Naming.{StmNames}
use Rattle.mv_lower_names.proofs.Premises.{KnownOf, Optional, StmtKnown, StmtsKnown}
use Rattle.mv_lower_names.proofs.Expressions.{FineLowering, expr_fine}

module _ (F : ℕ → Type 0) (K : Known → Type 0) (C : ℕ → Type 0) (zero_is : C 0) (one_is : C 1) (greatest_is : C 4294967295) where
  open naming F K C use {T, X, join}

  abbrev FL : Lowering → Type 0
  FL = FineLowering F K C zero_is one_is greatest_is

  abbrev FinePlaced : Placed → Type 0
  FinePlaced a = (j : Jumps) → X (a j).code

  -- all numbers below one may stand in the code
  abbrev Below : ℕ → Type 0
  Below count = (i : ℕ) → i < count → C i

  -- ---- declarations

  store_word_fine : (size : Option ℕ) (l i : ℕ) (v : Tree) → C i → T v → StmNames F K C (store_word size l i v)
  store_word_fine None l i v c h = set_names F K C l v h
  store_word_fine (Some size) l i v c h = write_names F K C (array.Local l) (number i) v (number_names F K C i c) h

  clear_fine : (size : Option ℕ) (l : ℕ) → StmNames F K C (clear_words size l)
  clear_fine None l = set_names F K C l (number 0) (number_names F K C 0 zero_is)
  clear_fine (Some size) l = zero_names F K C l

  zeros_fine : (size : Option ℕ) (l i n count : ℕ) → Below count → i + n ≤ count → X (store_zeros size l i n)
  zeros_fine size l i zero count c le = tt
  zeros_fine size l i (suc n) count c le =
      (store_word_fine size l i (number 0) (c i (omega (arith, le))) (number_names F K C 0 zero_is), zeros_fine size l (suc i) n count c (omega (arith, le)))

  abbrev pick : (z : Bool) (xs ys : List Stm) → X xs → X ys → X (cond z xs ys)
  pick true xs ys h k = h
  pick false xs ys h k = k

  module _ (locals : ℕ) where
    values_fine : (size : Option ℕ) (l i count : ℕ) (es : List Lowering) → Below count → i + length es ≤ count → Each FL es → X (store_values locals size l i es)
    values_fine size l i count [] c le h = tt
    values_fine size l i count (e ∷ es) c le h =
        let x = h.0 locals in
        join (e locals).code _ x.0 (store_word_fine size l i (e locals).tree (c i (omega (arith, le))) x.1, values_fine size l (suc i) count es c (omega (arith, le)) h.1)

    declared_fine : (size : Option ℕ) (l : ℕ) (itself : Bool) (es : List Lowering) → Below (max (words_of_size size) (length es)) → Each FL es → FinePlaced (lower_clear locals size l itself es)
    declared_fine size l itself es c h j =
        let words = words_of_size size in
        let count = max words (length es) in
        let given = values_fine size l 0 count es c (omega arith) h in
        pick (itself || nat_le (8 * words) (92 * (words - length es))) (clear_words size l ∷ store_values locals size l 0 es) (store_values locals size l 0 es ++ store_zeros size l (length es) (words - length es))
        (clear_fine size l, given)
        (join (store_values locals size l 0 es) (store_zeros size l (length es) (words - length es)) given (zeros_fine size l (length es) (words - length es) count c (omega arith)))

    -- ---- `switch`

    pub record FineArm (a : LoweredArm) : Type 0 where
      pub labels : Each C a.labels
      pub body : FinePlaced a.body

    place_set : (n i : ℕ) → C i → StmNames F K C (set n (number i))
    place_set n i c = set_names F K C n (number i) (number_names F K C i c)

    labels_fine : (n i : ℕ) (ls : List ℕ) → C i → Each C ls → X (test_labels n i ls)
    labels_fine n i [] c h = tt
    labels_fine n i (l ∷ ls) c h = (
      choose_names F K C (binary 11 (temp n) (number l)) (set n (number i) ∷ break 0 ∷ []) [] (binary_names F K C 11 (temp n) (number l) (temp_names F K C n) (number_names F K C l h.0)) (place_set n i c, (break_names F K C 0, tt)) tt,
      labels_fine n i ls c h.1,
    )

    tests_fine : (n i count : ℕ) (arms : List LoweredArm) → Below count → i + length arms ≤ count → Each FineArm arms → X (test_arms n i arms)
    tests_fine n i count [] c le h = tt
    tests_fine n i count (a ∷ arms) c le h =
        join (test_labels n i a.labels) (test_arms n (suc i) arms) (labels_fine n i a.labels (c i (omega (arith, le))) h.0.labels) (tests_fine n (suc i) count arms c (omega (arith, le)) h.1)

    picked : (z : Bool) (a b : ℕ) → C a → C b → C (cond z a b)
    picked true a b h k = h
    picked false a b h k = k

    place_fine : (is_picked : LoweredArm → Bool) (i count : ℕ) (arms : List LoweredArm) → Below count → i + length arms < count → C (arm_place is_picked i arms)
    place_fine is_picked i count [] c lt = c i (omega (arith, lt))
    place_fine is_picked i count (a ∷ arms) c lt =
        picked (is_picked a) i (arm_place is_picked (suc i) arms) (c i (omega (arith, lt))) (place_fine is_picked (suc i) count arms c (omega (arith, lt)))

    arm_fine : (n i : ℕ) (xs : List Stm) → C i → X xs → X (arm_code n i xs)
    arm_fine n i [] c h = tt
    arm_fine n i (x ∷ xs) c h = (
      choose_names F K C (binary 10 (number i) (temp n)) [] ((x ∷ xs) ++ set n (number 0) ∷ []) (binary_names F K C 10 (number i) (temp n) (number_names F K C i c) (temp_names F K C n)) tt
          (then F K C (x ∷ xs) (set n (number 0)) h (place_set n 0 zero_is)),
      tt,
    )

    arms_fine : (n i count : ℕ) (arms : List LoweredArm) (j : Jumps) → Below count → i + length arms ≤ count → Each FineArm arms → X (arms_code n i arms j)
    arms_fine n i count [] j c le h = tt
    arms_fine n i count (a ∷ arms) j c le h =
        join (arm_code n i (a.body (in_arm j)).code) (arms_code n (suc i) arms j) (arm_fine n i (a.body (in_arm j)).code (c i (omega (arith, le))) (h.0.body (in_arm j))) (arms_fine n (suc i) count arms j c (omega (arith, le)) h.1)

    switch_fine : (e : Lowering) (arms : List LoweredArm) → FL e → Below (suc (length arms)) → Each FineArm arms → FinePlaced (lower_switch locals e arms)
    switch_fine e arms h c k j =
        let count = suc (length arms) in
        let other = arm_place (λ (a : LoweredArm). a.other) 0 arms in
        let tests : X (all_tests locals arms) =
        then F K C (test_arms locals 0 arms) (set locals (number other)) (tests_fine locals 0 count arms c (omega arith) k)
        (place_set locals other (place_fine (λ (a : LoweredArm). a.other) 0 count arms c (omega arith))) in
        let all : X (enclosed (all_tests locals arms) ∷ arms_code locals 0 arms j) = (enclosed_names F K C (all_tests locals arms) tests, arms_fine locals 0 count arms j c (omega arith) k) in
        join (e locals).code _ (h locals).0 (set_names F K C locals (e locals).tree (h locals).1, (enclosed_names F K C (enclosed (all_tests locals arms) ∷ arms_code locals 0 arms j) all, tt))

    -- ---- other statements

    if_fine : (e : Lowering) (a b : Placed) → FL e → FinePlaced a → FinePlaced b → FinePlaced (lower_if locals e a b)
    if_fine e a b h k l j = then F K C (e locals).code _ (h locals).0 (choose_names F K C (e locals).tree (a j).code (b j).code (h locals).1 (k j) (l j))

    test_fine : (e : Lowering) (xs : List Stm) → FL e → X xs → X (test_and_body locals e xs)
    test_fine e xs h k = then F K C (e locals).code _ (h locals).0 (choose_names F K C (e locals).tree xs (break 0 ∷ []) (h locals).1 k (break_names F K C 0, tt))

    body_fine : (a : Placed) (j : Jumps) → FinePlaced a → X (enclosed (a (in_body j)).code ∷ [])
    body_fine a j h = (enclosed_names F K C (a (in_body j)).code (h (in_body j)), tt)

    while_fine : (e : Lowering) (a : Placed) → FL e → FinePlaced a → FinePlaced (lower_while locals e a)
    while_fine e a h k j = (repeat_names F K C _ (test_fine e (enclosed (a (in_body j)).code ∷ []) h (body_fine a j k)), tt)

    do_fine : (a : Placed) (e : Lowering) → FinePlaced a → FL e → FinePlaced (lower_do locals a e)
    do_fine a e k h j = (repeat_names F K C (enclosed (a (in_body j)).code ∷ test_and_body locals e []) ((body_fine a j k).0, test_fine e [] h tt), tt)

    for_fine : (first : Placed) (test step : Lowering) (a : Placed) → FinePlaced first → FL test → FL step → FinePlaced a → FinePlaced (lower_for locals first test step a)
    for_fine first test step a f g h k j =
        let turn = join (test_and_body locals test (enclosed (a (in_body j)).code ∷ [])) (step locals).code (test_fine test (enclosed (a (in_body j)).code ∷ []) g (body_fine a j k)) (h locals).0 in
        then F K C (first j).code _ (f j) (repeat_names F K C (test_and_body locals test (enclosed (a (in_body j)).code ∷ []) ++ (step locals).code) turn)

    -- ---- the fold

    module _ (pointers : List ℕ) (sizes : ℕ → Option ℕ) (void : Bool) (PF : Form → Type 0) (PT : Target → Type 0) (PE : Expr → Type 0)
        (PS : Stmt → Type 0) (PA : Arm → Type 0) (source : KnownOf F K C PF PT PE) (known : StmtsKnown F K C sizes PE PS PA) where
      open sequences pointers locals sizes void use {lowered, arms_lowered}

      value_fine : (e : Expr) → PE e → FL (lower_expr pointers e)
      value_fine = expr_fine F K C zero_is one_is greatest_is pointers PF PT PE source

      abbrev S : Stmt → Type 0
      S s = PS s → FinePlaced (lower_stmt pointers locals sizes void s)

      abbrev A : Arm → Type 0
      A a = PA a → FineArm (lower_arm pointers locals sizes void a)

      sequence_fine : (body : List Stmt) → Each S body → Each PS body → FinePlaced (lowered body)
      sequence_fine [] h k j = tt
      sequence_fine (s ∷ body) h k j = join (lower_stmt pointers locals sizes void s j).code (lowered body j).code (h.0 k.0 j) (sequence_fine body h.1 k.1 j)

      all_values_fine : (es : List Expr) → Each PE es → Each FL (map (lower_expr pointers) es)
      all_values_fine [] k = tt
      all_values_fine (e ∷ es) k = (value_fine e k.0, all_values_fine es k.1)

      all_arms_fine : (arms : List Arm) → Each A arms → Each PA arms → Each FineArm (arms_lowered arms)
      all_arms_fine [] h k = tt
      all_arms_fine (a ∷ arms) h k = (h.0 k.0, all_arms_fine arms h.1 k.1)

      optional_fine : (v : ℕ) (e : Option Expr) → C v → Optional F K C sizes PE PS PA e → FL (lower_optional pointers v e)
      optional_fine v None c k n = (tt, number_names F K C v c)
      optional_fine v (Some e) c k n = value_fine e k n

      layer : (x : Stmt-F Stmt Arm) → StmtChildren S A x → StmtKnown F K C sizes PE PS PA x → FinePlaced ((lowered_stmts pointers locals sizes void).stmt_layer x)
      layer (stmt.Block body) h k j = sequence_fine body h k j
      layer (stmt.Clear l values) h k j =
          declared_fine (sizes l) l (any_of (map (names_local l) values)) (map (lower_expr pointers) values) (λ i lt. k.0 i (omega (arith, lt, length-map values (lower_expr pointers)))) (all_values_fine values k.1) j
      layer (stmt.Express e) h k j = (value_fine e k locals).0
      layer (stmt.If e a b) h k j = if_fine (lower_expr pointers e) (lowered a) (lowered b) (value_fine e k.0) (sequence_fine a h.0 k.1) (sequence_fine b h.1 k.2) j
      layer (stmt.While e body) h k j = while_fine (lower_expr pointers e) (lowered body) (value_fine e k.0) (sequence_fine body h k.1) j
      layer (stmt.Do body e) h k j = do_fine (lowered body) (lower_expr pointers e) (sequence_fine body h k.1) (value_fine e k.0) j
      layer (stmt.For first test step body) h k j =
          for_fine (lowered first) (lower_optional pointers 1 test) (lower_optional pointers 0 step) (lowered body) (sequence_fine first h.0 k.0.0)
          (optional_fine 1 test one_is k.1) (optional_fine 0 step zero_is k.2) (sequence_fine body h.1 k.0.1) j
      layer (stmt.Switch e arms) h k j =
          switch_fine (lower_expr pointers e) (arms_lowered arms) (value_fine e k.0) (λ i lt. k.1 i (omega (arith, lt, length-map arms (lower_arm pointers locals sizes void)))) (all_arms_fine arms h k.2) j
      layer stmt.Break h k j = (break_names F K C j.leave, tt)
      layer stmt.Continue h k j = (break_names F K C j.again, tt)
      layer (stmt.Return None) h k j = (break_names F K C j.around, tt)
      layer (stmt.Return (Some e)) h k j = then F K C (lower_expr pointers e locals).code _ (value_fine e k locals).0 (return_names F K C (lower_expr pointers e locals).tree (value_fine e k locals).1)

      pub body_names : (body : List Stmt) → Each PS body → FinePlaced (lowered body)
      body_names body =
          sequence_fine body
          (along_stmts (lowered_stmts pointers locals sizes void) (λ s l. PS s → FinePlaced l) (λ a l. PA a → FineArm l) (λ x h b. layer x h (known.parts x b))
          (λ x h b. record { labels = known.labels x b; body = sequence_fine x.body h (known.body x b) }) body)
