-- A scalar local that isn't declared, and a free temporary, are live before no statement behind and around which they aren't.
use Rattle.std.proofs.Common.{◌≡◌, ℕ, suc, ◌-◌, ◌*◌, ◌≤◌, Bool, true, false, cond, not, eqb, ◌&&◌, ◌||◌, List, [], ◌∷◌, ◌++◌, map, length, Option, Some, None, refl, sym, ◌∙◌, ap, subst, arith, append_assoc}
use Rattle.std.specs.Prelude.{nat_lt, nat_le, nat_eq}
use Rattle.std.proofs.lemmas.Bool.{or_from, and_right, and_left, eqb-true, eq-eqb}
use Rattle.mv_ir.specs.declared.tree.Tree.{Tree}
use Rattle.mv_ir.specs.declared.tree.Tree.TheOpen as tree
use Rattle.mv_ir.specs.declared.stm.Stm.{Stm}
use Rattle.mv_ir.specs.declared.stm.Stm.TheOpen as stm
use Rattle.mv_ir.specs.Live.{reads_temp, any_reads, Around, with_after, around_block, around_loop, plain}
use Rattle.mv_ir.proofs.Induction.{Each}
use Rattle.mv_ir.proofs.Rolls.{flow_roll, reads_temp_roll}
use Rattle.mv_ast.specs.declared.program.Expr.{Expr}
use Rattle.mv_ast.specs.declared.program.Stmt.{Stmt, Stmt-F}
use Rattle.mv_ast.specs.declared.program.Stmt.TheOpen as stmt
use Rattle.mv_ast.specs.declared.program.Arm.{Arm}
use Rattle.mv_ast.specs.Names.{any_of, names_local}
use Rattle.mv_lower_spec.specs.Lowered.{Lowering, number, temp, binary, set, choose}
use Rattle.mv_lower_spec.specs.Lower.{lower_expr}
use Rattle.mv_source_forms.specs.Names.{is_scalar}
use Rattle.mv_lower_spec.specs.Statements.{Jumps, Placed, LoweredArm, in_body, in_arm, store_zeros, store_values, values_top, lower_clear, test_labels, test_arms, arm_place, all_tests, arm_code, arms_code, arms_top, lower_switch, break, enclosed, repeat, return_with, test_and_body}
use Rattle.mv_lower_spec.specs.LowerStatements.{lower_optional, lower_stmt, lower_arm}
use Rattle.mv_source_forms.specs.Scopes.{with_local}
use Rattle.mv_lower_spec.proofs.Expressions.{scalar_is_none}
use Rattle.mv_lower_spec.proofs.OfShape.Asked.{Globals, Scope, ArmScope, all_within, all_behind, arms_within, is_within, all_exprs_within, optional_within, stmt_scope, arm_scope}
use Rattle.mv_lower_spec.proofs.OfShape.Rules.{Allowed}
use Rattle.mv_lower_spec.proofs.OfShape.Expressions.{allowed}
use Rattle.mv_lower_spec.proofs.OfShape.Clears as clears
use Rattle.mv_lower_spec.proofs.OfShape.Flowing.{live_at, live_append, live_one, reads_one}
use Rattle.mv_lower_spec.proofs.OfShape.Passing as passing
use Rattle.mv_lower_spec.proofs.OfShape.Folds.{limited_stmts, sequences, limits_of}
use Rattle.mv_source_forms.proofs.StatementFolds.{StmtFolds, along_stmts}
use Rattle.mv_source_forms.proofs.StatementInduction.{StmtChildren}
use Rattle.mv_num.proofs.Booleans.{and_cases, from_falsity}

-- a temporary that is live behind none of the places to which control may lead
pub record IsShut (j : Jumps) (r : Around) : Type 0 where
  pub leave : r.leaves j.leave ≡ false
  pub again : r.leaves j.again ≡ false
  pub around : r.leaves j.around ≡ false

pub shut_as : (j : Jumps) (r r' : Around) → r'.leaves ≡ r.leaves → IsShut j r → IsShut j r'
shut_as j r r' e q = record { leave = ap (λ (f : ℕ → Bool). f j.leave) e ∙ q.leave; again = ap (λ (f : ℕ → Bool). f j.again) e ∙ q.again; around = ap (λ (f : ℕ → Bool). f j.around) e ∙ q.around }

pub shut_after : (j : Jumps) (r : Around) (b : Bool) → IsShut j r → IsShut j (with_after r b)
shut_after j r b q = record { leave = q.leave; again = q.again; around = q.around }

module _ (globals : Globals) (locals : ℕ) (sizes : ℕ → Option ℕ) (void : Bool) (room u : ℕ) (scalar : nat_lt u locals ≡ true → is_scalar (sizes u) ≡ true) where
  open sequences globals.pointers locals sizes void use {lowered, arms_lowered}
  open limits_of globals locals sizes use {scopes}

  abbrev none : ℕ → ℕ
  none f = 0

  abbrev a : (ℕ → Bool) → Allowed
  a declared = allowed globals locals sizes room none 0 declared

  abbrev P : (ℕ → Bool) → ℕ → ℕ → ℕ → ℕ → List Tree → List Stm → List Tree → Type 0
  P declared = passing.Passing (a declared) u

  -- ---- values

  -- code that leaves a tree, and passes the temporary
  pub record Valued (xs : List Stm) (t : Tree) : Type 0 where
    pub passes : (r : Around) → r.next ≡ false → live_at u xs r ≡ false
    pub writes : reads_temp u t ≡ true → (r : Around) → live_at u xs r ≡ false

  value : (declared : ℕ → Bool) (e : Expr) → is_within globals locals sizes declared e ≡ true → declared u ≡ false →
      (lower_expr globals.pointers e locals).top ≤ room →
      Valued (lower_expr globals.pointers e locals).code (lower_expr globals.pointers e locals).tree
  value declared e b h top =
      let p = clears.value globals locals sizes room none 0 declared (P declared) (passing.passing_rules (a declared) u h) e b top in
      record { passes = p.made.passes refl; writes = λ v. p.made.writes refl (reads_one u (lower_expr globals.pointers e locals).tree ∙ v) }

  -- a value, and code that isn't live but where it reads it
  then_dead : (xs ys : List Stm) (t : Tree) → Valued xs t → (r : Around) → (reads_temp u t ≡ false → live_at u ys r ≡ false) → live_at u (xs ++ ys) r ≡ false
  then_dead xs ys t p r h = by (reads_temp u t) refl
    where
      by : (z : Bool) → reads_temp u t ≡ z → live_at u (xs ++ ys) r ≡ false
      by true e = live_append u xs ys r ∙ p.writes e (with_after r (live_at u ys r))
      by false e = live_append u xs ys r ∙ p.passes (with_after r (live_at u ys r)) (h e)

  both_dead : (xs ys : List Stm) (r : Around) → live_at u ys r ≡ false → ((r' : Around) → r'.leaves ≡ r.leaves → r'.next ≡ false → live_at u xs r' ≡ false) → live_at u (xs ++ ys) r ≡ false
  both_dead xs ys r h k = live_append u xs ys r ∙ k (with_after r (live_at u ys r)) refl h

  break_dead : (n : ℕ) (r : Around) → r.leaves n ≡ false → live_at u (break n ∷ []) r ≡ false
  break_dead n r h = live_one u (stm.Break n) (plain u [] None (λ r. r.leaves n)) r (flow_roll u (stm.Break n)) ∙ h

  choose_dead : (t : Tree) (xs ys : List Stm) (r : Around) → reads_temp u t ≡ false → live_at u xs r ≡ false → live_at u ys r ≡ false → live_at u (choose t xs ys ∷ []) r ≡ false
  choose_dead t xs ys r h k l =
      live_one u (stm.If t xs ys) _ r (flow_roll u (stm.If t xs ys)) ∙ or_from (reads_temp u t) (live_at u xs r || live_at u ys r) h (or_from (live_at u xs r) (live_at u ys r) k l)

  block_dead : (xs : List Stm) (r : Around) → live_at u xs (around_block r) ≡ false → live_at u (enclosed xs ∷ []) r ≡ false
  block_dead xs r h = live_one u (stm.Block xs) _ r (flow_roll u (stm.Block xs)) ∙ h

  loop_dead : (xs : List Stm) (r : Around) → live_at u xs (around_loop r false) ≡ false → live_at u (repeat xs ∷ []) r ≡ false
  loop_dead xs r h = live_one u (stm.Loop xs) _ r (flow_roll u (stm.Loop xs)) ∙ h

  -- one statement in front
  front_dead : (x : Stm) (ys : List Stm) (r : Around) → live_at u ys r ≡ false → (live_at u (x ∷ []) (with_after r false) ≡ false) → live_at u (x ∷ ys) r ≡ false
  front_dead x ys r h k = live_append u (x ∷ []) ys r ∙ ap (λ b. live_at u (x ∷ []) (with_after r b)) h ∙ k

  -- ---- lists

  -- where the temporary isn't declared before, it isn't live before; behind it is either not live or declared
  abbrev IsDead : ((ℕ → Bool) → Bool) → ((ℕ → Bool) → ℕ → Bool) → Placed → Type 0
  IsDead within behind l =
      (declared : ℕ → Bool) → within declared ≡ true → declared u ≡ false → (j : Jumps) → (l j).top ≤ room → (r : Around) → IsShut j r → (behind declared u ≡ false → r.next ≡ false) →
      live_at u (l j).code r ≡ false

  abbrev limited : StmtFolds (Placed × Scope) (LoweredArm × ArmScope)
  limited = limited_stmts globals locals sizes void

  abbrev Dead : Placed × Scope → Type 0
  Dead v = IsDead v.1.within v.1.behind v.0

  abbrev S : Stmt → Type 0
  S s = Dead (limited.stmt s)

  all_dead : (body : List Stmt) → Each S body → IsDead (all_within (scopes body)) (all_behind (scopes body)) (lowered body)
  all_dead [] h declared b k j top r q n = n k
  all_dead (s ∷ body) h declared b k j top r q n =
      let scope = stmt_scope globals locals sizes s in
      let bs = and_cases (scope.within declared) (all_within (scopes body) (scope.behind declared)) b in
      let xs = (lower_stmt globals.pointers locals sizes void s j).code in
      let ys = (lowered body j).code in
      live_append u xs ys r ∙
      h.0 declared bs.0 k j (omega (arith, top)) (with_after r (live_at u ys r)) (shut_after j r (live_at u ys r) q)
      (λ e. all_dead body h.1 (scope.behind declared) bs.1 e j (omega (arith, top)) r q n)

  -- ---- declarations

  -- of another local
  other_cleared : (l : ℕ) → nat_lt l locals ≡ true → (itself : Bool) (known : ℕ → Bool) (es : List Expr) (j : Jumps) → all_exprs_within globals locals sizes es known ≡ true → known u ≡ false →
      values_top locals (map (lower_expr globals.pointers) es) ≤ room → (r : Around) → r.next ≡ false → live_at u (lower_clear locals (sizes l) l itself (map (lower_expr globals.pointers) es) j).code r ≡ false
  other_cleared l h itself known es j b k top r n =
      let p = clears.cleared globals locals sizes room none 0 known (P known) (passing.passing_rules (a known) u k) l h (sizes l) refl itself es j b top in
      p.made.passes refl r n

  -- a temporary that is set isn't live before
  set_dead : (t : Tree) (ys : List Stm) (r : Around) → reads_temp u t ≡ false → live_at u (set u t ∷ ys) r ≡ false
  set_dead t ys r h =
      live_append u (set u t ∷ []) ys r ∙ live_one u (stm.Set u t) (plain u (t ∷ []) (Some u) (λ r. r.next)) (with_after r (live_at u ys r)) (flow_roll u (stm.Set u t)) ∙
      or_from (any_reads u (t ∷ [])) (not (eqb u u) && live_at u ys r) (reads_one u t ∙ h) (and_left (not (eqb u u)) (live_at u ys r) (ap not (eq-eqb u u refl)))

  number_reads : (n : ℕ) → reads_temp u (number n) ≡ false
  number_reads n = reads_temp_roll u (tree.Number n)

  -- a scalar's own declaration
  own_cleared : (itself : Bool) (known : ℕ → Bool) (es : List Expr) (j : Jumps) → all_exprs_within globals locals sizes es known ≡ true → (itself ≡ false → known u ≡ false) →
      values_top locals (map (lower_expr globals.pointers) es) ≤ room → (r : Around) → live_at u (lower_clear locals None u itself (map (lower_expr globals.pointers) es) j).code r ≡ false
  own_cleared true known es j b k top r = set_dead (number 0) (store_values locals None u 0 (map (lower_expr globals.pointers) es)) r (number_reads 0)
  own_cleared false known [] j b k top r = set_dead (number 0) [] r (number_reads 0)
  own_cleared false known (e ∷ es) j b k top r =
      let bs = and_cases (is_within globals locals sizes known e) (all_exprs_within globals locals sizes es known) b in
      by (nat_le (8 * 1) (92 * (1 - suc (length (map (lower_expr globals.pointers) es))))) (value known e bs.0 (k refl) (omega (arith, top)))
    where
      by : (z : Bool) → Valued (lower_expr globals.pointers e locals).code (lower_expr globals.pointers e locals).tree →
          live_at u (cond z (set u (number 0) ∷ store_values locals None u 0 (map (lower_expr globals.pointers) (e ∷ es)))
          (store_values locals None u 0 (map (lower_expr globals.pointers) (e ∷ es)) ++ store_zeros None u (suc (length (map (lower_expr globals.pointers) es))) (1 - suc (length (map (lower_expr globals.pointers) es))))) r ≡ false
      by true p = set_dead (number 0) (store_values locals None u 0 (map (lower_expr globals.pointers) (e ∷ es))) r (number_reads 0)
      by false p =
          let t = (lower_expr globals.pointers e locals).tree in
          let more = store_values locals None u 1 (map (lower_expr globals.pointers) es) in
          let zeros = store_zeros None u (suc (length (map (lower_expr globals.pointers) es))) (1 - suc (length (map (lower_expr globals.pointers) es))) in
          subst (λ c. live_at u c r ≡ false) (sym (append_assoc (lower_expr globals.pointers e locals).code (set u t ∷ more) zeros))
          (then_dead (lower_expr globals.pointers e locals).code (set u t ∷ (more ++ zeros)) t p r (λ h. set_dead t (more ++ zeros) r h))

  clear_dead : (l : ℕ) (values : List Expr) (declared : ℕ → Bool) → nat_lt l locals ≡ true → (itself : Bool) →
      all_exprs_within globals locals sizes values (cond itself (with_local l declared) declared) ≡ true → declared u ≡ false → (j : Jumps) →
      values_top locals (map (lower_expr globals.pointers) values) ≤ room → (r : Around) → (with_local l declared u ≡ false → r.next ≡ false) →
      live_at u (lower_clear locals (sizes l) l itself (map (lower_expr globals.pointers) values) j).code r ≡ false
  clear_dead l values declared h itself b k j top r n = by (nat_eq u l) refl
    where
      by : (z : Bool) → nat_eq u l ≡ z → live_at u (lower_clear locals (sizes l) l itself (map (lower_expr globals.pointers) values) j).code r ≡ false
      by true e =
          let same = eqb-true u l e in
          let size = scalar_is_none (sizes u) (scalar (subst (λ m. nat_lt m locals ≡ true) (sym same) h)) in
          subst (λ m. live_at u (lower_clear locals (sizes m) m itself (map (lower_expr globals.pointers) values) j).code r ≡ false) same
          (subst (λ z. live_at u (lower_clear locals z u itself (map (lower_expr globals.pointers) values) j).code r ≡ false) (sym size)
          (own_cleared itself (cond itself (with_local l declared) declared) values j b (λ f. ap (λ z. cond z (with_local l declared) declared u) f ∙ k) top r))
      by false e =
          let behind = or_from (nat_eq u l) (declared u) e k in
          other_cleared l h itself (cond itself (with_local l declared) declared) values j b (known itself behind) top r (n behind)
        where
          known : (z : Bool) → with_local l declared u ≡ false → cond z (with_local l declared) declared u ≡ false
          known true w = w
          known false w = k

  -- ---- `switch`

  -- around the arms of a `switch`
  in_switch : (j : Jumps) (r : Around) → IsShut j r → r.next ≡ false → IsShut (in_arm j) (around_block r)
  in_switch j r q n = record { leave = n; again = q.again; around = q.around }

  abbrev ArmDead : LoweredArm × ArmScope → Type 0
  ArmDead v =
      (declared : ℕ → Bool) → v.1 declared ≡ true → declared u ≡ false → (j : Jumps) → (v.0.body j).top ≤ room → (r : Around) → IsShut j r → r.next ≡ false → live_at u (v.0.body j).code r ≡ false

  abbrev A : Arm → Type 0
  A arm = ArmDead (limited.arm arm)

  -- of a temporary that isn't the one with the value and the place
  module _ (apart : eqb locals u ≡ false) where
    temp_reads : reads_temp u (temp locals) ≡ false
    temp_reads = reads_temp_roll u (tree.Temp locals) ∙ apart

    test_reads : (l : ℕ) → reads_temp u (binary 11 (temp locals) (number l)) ≡ false
    test_reads l = reads_temp_roll u (tree.Binary 11 (temp locals) (number l)) ∙ or_from (reads_temp u (temp locals)) (reads_temp u (number l)) temp_reads (number_reads l)

    place_reads : (i : ℕ) → reads_temp u (binary 10 (number i) (temp locals)) ≡ false
    place_reads i = reads_temp_roll u (tree.Binary 10 (number i) (temp locals)) ∙ or_from (reads_temp u (number i)) (reads_temp u (temp locals)) (number_reads i) temp_reads

    placed_dead : (i : ℕ) (r : Around) → r.next ≡ false → live_at u (set locals (number i) ∷ []) r ≡ false
    placed_dead i r n =
        live_one u (stm.Set locals (number i)) (plain u (number i ∷ []) (Some locals) (λ r. r.next)) r (flow_roll u (stm.Set locals (number i))) ∙
        or_from (any_reads u (number i ∷ [])) (not (eqb locals u) && r.next) (reads_one u (number i) ∙ number_reads i) (and_right (not (eqb locals u)) r.next n)

    labels_dead : (i : ℕ) (ls : List ℕ) (r : Around) → r.leaves 0 ≡ false → r.next ≡ false → live_at u (test_labels locals i ls) r ≡ false
    labels_dead i [] r h n = n
    labels_dead i (l ∷ ls) r h n =
        let begins = set locals (number i) ∷ break 0 ∷ [] in
        front_dead (choose (binary 11 (temp locals) (number l)) begins []) (test_labels locals i ls) r (labels_dead i ls r h n)
        (choose_dead (binary 11 (temp locals) (number l)) begins [] (with_after r false) (test_reads l)
        (both_dead (set locals (number i) ∷ []) (break 0 ∷ []) (with_after r false) (break_dead 0 (with_after r false) h) (λ r' e n'. placed_dead i r' n')) refl)

    tests_dead : (i : ℕ) (arms : List LoweredArm) (r : Around) → r.leaves 0 ≡ false → r.next ≡ false → live_at u (test_arms locals i arms) r ≡ false
    tests_dead i [] r h n = n
    tests_dead i (arm ∷ arms) r h n =
        both_dead (test_labels locals i arm.labels) (test_arms locals (suc i) arms) r (tests_dead (suc i) arms r h n) (λ r' e n'. labels_dead i arm.labels r' (ap (λ (f : ℕ → Bool). f 0) e ∙ h) n')

    all_tests_dead : (arms : List LoweredArm) (r : Around) → r.leaves 0 ≡ false → r.next ≡ false → live_at u (all_tests locals arms) r ≡ false
    all_tests_dead arms r h n =
        let place = arm_place (λ (a : LoweredArm). a.other) 0 arms in
        both_dead (test_arms locals 0 arms) (set locals (number place) ∷ []) r (placed_dead place r n) (λ r' e n'. tests_dead 0 arms r' (ap (λ (f : ℕ → Bool). f 0) e ∙ h) n')

    arm_dead : (i : ℕ) (xs : List Stm) (r : Around) → r.next ≡ false → ((r' : Around) → r'.leaves ≡ r.leaves → r'.next ≡ false → live_at u xs r' ≡ false) → live_at u (arm_code locals i xs) r ≡ false
    arm_dead i [] r n h = n
    arm_dead i (x ∷ xs) r n h =
        choose_dead (binary 10 (number i) (temp locals)) [] ((x ∷ xs) ++ set locals (number 0) ∷ []) r (place_reads i) n (both_dead (x ∷ xs) (set locals (number 0) ∷ []) r (placed_dead 0 r n) h)

    arms_dead : (i : ℕ) (arms : List Arm) → Each A arms → (declared : ℕ → Bool) → arms_within (map (arm_scope globals locals sizes) arms) declared ≡ true → declared u ≡ false → (j : Jumps) → arms_top locals (arms_lowered arms) j ≤ room →
        (r : Around) → IsShut (in_arm j) r → r.next ≡ false → live_at u (arms_code locals i (arms_lowered arms) j) r ≡ false
    arms_dead i [] h declared b k j top r q n = n
    arms_dead i (arm ∷ arms) h declared b k j top r q n =
        let bs = and_cases (arm_scope globals locals sizes arm declared) (arms_within (map (arm_scope globals locals sizes) arms) declared) b in
        let body = ((lower_arm globals.pointers locals sizes void arm).body (in_arm j)).code in
        both_dead (arm_code locals i body) (arms_code locals (suc i) (arms_lowered arms) j) r (arms_dead (suc i) arms h.1 declared bs.1 k j (omega (arith, top)) r q n)
        (λ r1 e1 n1. arm_dead i body r1 n1
        (λ r2 e2 n2. h.0 declared bs.0 k (in_arm j) (omega (arith, top)) r2 (shut_as (in_arm j) r r2 (e2 ∙ e1) q) n2))

  switch_dead : (e : Expr) (arms : List Arm) → Each A arms → (declared : ℕ → Bool) → is_within globals locals sizes declared e ≡ true →
      arms_within (map (arm_scope globals locals sizes) arms) declared ≡ true → declared u ≡ false → (j : Jumps) →
      (lower_switch locals (lower_expr globals.pointers e) (arms_lowered arms) j).top ≤ room → (r : Around) → IsShut j r → r.next ≡ false →
      live_at u (lower_switch locals (lower_expr globals.pointers e) (arms_lowered arms) j).code r ≡ false
  switch_dead e arms h declared be b k j top r q n =
      let t = (lower_expr globals.pointers e locals).tree in
      then_dead (lower_expr globals.pointers e locals).code (set locals t ∷ enclosed whole ∷ []) t (value declared e be k (omega (arith, top))) r
      (λ reads.
      live_append u (set locals t ∷ []) (enclosed whole ∷ []) r ∙
      live_one u (stm.Set locals t) (plain u (t ∷ []) (Some locals) (λ r. r.next)) (with_after r (live_at u (enclosed whole ∷ []) r)) (flow_roll u (stm.Set locals t)) ∙
      or_from (any_reads u (t ∷ [])) (not (eqb locals u) && live_at u (enclosed whole ∷ []) r) (reads_one u t ∙ reads) (by (eqb locals u) refl))
    where
      ls : List LoweredArm
      ls = arms_lowered arms

      whole : List Stm
      whole = enclosed (all_tests locals ls) ∷ arms_code locals 0 ls j

      by : (z : Bool) → eqb locals u ≡ z → (not (eqb locals u) && live_at u (enclosed whole ∷ []) r) ≡ false
      by true apart = and_left (not (eqb locals u)) (live_at u (enclosed whole ∷ []) r) (ap not apart)
      by false apart =
          and_right (not (eqb locals u)) (live_at u (enclosed whole ∷ []) r)
          (block_dead whole r
          (both_dead (enclosed (all_tests locals ls) ∷ []) (arms_code locals 0 ls j) (around_block r) (arms_dead apart 0 arms h declared b k j (omega (arith, top)) (around_block r) (in_switch j r q n) n)
          (λ r' e n'. block_dead (all_tests locals ls) r' (all_tests_dead apart ls (around_block r') n' n'))))

  -- ---- loops

  -- around a loop's statements, and around the body in it
  in_turn : (j : Jumps) (r : Around) → IsShut j r → r.next ≡ false → IsShut (in_body j) (around_block (around_loop r false))
  in_turn j r q n = record { leave = n; again = refl; around = q.around }

  -- a loop's test: it leaves the loop, or some code follows
  test_dead : (l : Lowering) (body : List Stm) (r : Around) → Valued (l locals).code (l locals).tree → r.leaves 0 ≡ false → live_at u body r ≡ false → live_at u (test_and_body locals l body) r ≡ false
  test_dead l body r p h k =
      let t = (l locals).tree in
      then_dead (l locals).code (choose t body (break 0 ∷ []) ∷ []) t p r (λ reads. choose_dead t body (break 0 ∷ []) r reads k (break_dead 0 r h))

  optional : (v : ℕ) (e : Option Expr) (declared : ℕ → Bool) → optional_within globals locals sizes e declared ≡ true → declared u ≡ false → (lower_optional globals.pointers v e locals).top ≤ room →
      Valued (lower_optional globals.pointers v e locals).code (lower_optional globals.pointers v e locals).tree
  optional v None declared b k top = record { passes = λ r n. n; writes = λ e. from_falsity (sym (number_reads v) ∙ e) }
  optional v (Some e) declared b k top = value declared e b k top

  -- ---- each form

  -- where nothing more is declared
  within_dead : (body : List Stmt) → Each S body → (declared : ℕ → Bool) → all_within (scopes body) declared ≡ true → declared u ≡ false →
      (j : Jumps) → (lowered body j).top ≤ room → (r : Around) → IsShut j r → r.next ≡ false → live_at u (lowered body j).code r ≡ false
  within_dead body h declared b k j top r q n = all_dead body h declared b k j top r q (λ e. n)

  layer : (x : Stmt-F Stmt Arm) → StmtChildren S A x → Dead (limited.stmt_layer x)
  layer (stmt.Block body) h declared b k j top r q n = within_dead body h declared b k j top r q (n k)
  layer (stmt.Clear l values) h declared b k j top r q n =
      let itself = any_of (map (names_local l) values) in
      let bs = and_cases (nat_lt l locals) (all_exprs_within globals locals sizes values (cond itself (with_local l declared) declared)) b in
      clear_dead l values declared bs.0 itself bs.1 k j top r n
  layer (stmt.Express e) h declared b k j top r q n = (value declared e b k top).passes r (n k)
  layer (stmt.If e yes_part no_part) h declared b k j top r q n =
      let bs = and_cases (is_within globals locals sizes declared e) (all_within (scopes yes_part) declared && all_within (scopes no_part) declared) b in
      let cs = and_cases (all_within (scopes yes_part) declared) (all_within (scopes no_part) declared) bs.1 in
      let t = (lower_expr globals.pointers e locals).tree in
      let yes = (lowered yes_part j).code in
      let other = (lowered no_part j).code in
      then_dead (lower_expr globals.pointers e locals).code (choose t yes other ∷ []) t (value declared e bs.0 k (omega (arith, top))) r
      (λ reads. choose_dead t yes other r reads (within_dead yes_part h.0 declared cs.0 k j (omega (arith, top)) r q (n k)) (within_dead no_part h.1 declared cs.1 k j (omega (arith, top)) r q (n k)))
  layer (stmt.While e body) h declared b k j top r q n =
      let bs = and_cases (is_within globals locals sizes declared e) (all_within (scopes body) declared) b in
      let code = (lowered body (in_body j)).code in
      let r1 = around_loop r false in
      loop_dead (test_and_body locals (lower_expr globals.pointers e) (enclosed code ∷ [])) r
      (test_dead (lower_expr globals.pointers e) (enclosed code ∷ []) r1 (value declared e bs.0 k (omega (arith, top))) (n k)
      (block_dead code r1 (within_dead body h declared bs.1 k (in_body j) (omega (arith, top)) (around_block r1) (in_turn j r q (n k)) refl)))
  layer (stmt.Do body e) h declared b k j top r q n =
      let bs = and_cases (is_within globals locals sizes declared e) (all_within (scopes body) declared) b in
      let code = (lowered body (in_body j)).code in
      let r1 = around_loop r false in
      loop_dead (enclosed code ∷ test_and_body locals (lower_expr globals.pointers e) []) r
      (front_dead (enclosed code) (test_and_body locals (lower_expr globals.pointers e) []) r1 (test_dead (lower_expr globals.pointers e) [] r1 (value declared e bs.0 k (omega (arith, top))) (n k) refl)
      (block_dead code r1 (within_dead body h declared bs.1 k (in_body j) (omega (arith, top)) (around_block r1) (in_turn j r q (n k)) refl)))
  layer (stmt.For first test step body) h declared b k j top r q n =
      let b0 = and_cases (all_within (scopes first) declared) (may_test && (may_step && all_within (scopes body) inside)) b in
      let b1 = and_cases may_test (may_step && all_within (scopes body) inside) b0.1 in
      let b2 = and_cases may_step (all_within (scopes body) inside) b1.1 in
      live_append u (lowered first j).code (repeat turn ∷ []) r ∙
      all_dead first h.0 declared b0.0 k j (omega (arith, top)) (with_after r (live_at u (repeat turn ∷ []) r)) (shut_after j r (live_at u (repeat turn ∷ []) r) q)
      (λ out.
      loop_dead turn r
      (both_dead (test_and_body locals (lower_optional globals.pointers 1 test) (enclosed code ∷ [])) (lower_optional globals.pointers 0 step locals).code r1 ((optional 0 step inside b2.0 out (omega (arith, top))).passes r1 refl)
      (λ r' same n'. test_dead (lower_optional globals.pointers 1 test) (enclosed code ∷ []) r' (optional 1 test inside b1.0 out (omega (arith, top))) (ap (λ (f : ℕ → Bool). f 0) same ∙ n k)
      (block_dead code r' (within_dead body h.1 inside b2.1 out (in_body j) (omega (arith, top)) (around_block r')
      (record { leave = ap (λ (f : ℕ → Bool). f 0) same ∙ n k; again = n'; around = ap (λ (f : ℕ → Bool). f (suc j.around)) same ∙ q.around }) n')))))
    where
      inside : ℕ → Bool
      inside = all_behind (scopes first) declared

      may_test : Bool
      may_test = optional_within globals locals sizes test inside

      may_step : Bool
      may_step = optional_within globals locals sizes step inside

      code : List Stm
      code = (lowered body (in_body j)).code

      turn : List Stm
      turn = test_and_body locals (lower_optional globals.pointers 1 test) (enclosed code ∷ []) ++ (lower_optional globals.pointers 0 step locals).code

      r1 : Around
      r1 = around_loop r false
  layer (stmt.Switch e arms) h declared b k j top r q n =
      let scoped = map (arm_scope globals locals sizes) arms in
      let bs = and_cases (is_within globals locals sizes declared e) (arms_within scoped declared) b in
      switch_dead e arms h declared bs.0 bs.1 k j top r q (n k)
  layer stmt.Break h declared b k j top r q n = break_dead j.leave r q.leave
  layer stmt.Continue h declared b k j top r q n = break_dead j.again r q.again
  layer (stmt.Return None) h declared b k j top r q n = break_dead j.around r q.around
  layer (stmt.Return (Some e)) h declared b k j top r q n =
      let t = (lower_expr globals.pointers e locals).tree in
      then_dead (lower_expr globals.pointers e locals).code (return_with t ∷ []) t (value declared e b k top) r
      (λ reads. live_one u (stm.Return t) (plain u (t ∷ []) None (λ r. false)) r (flow_roll u (stm.Return t)) ∙ or_from (any_reads u (t ∷ [])) false (reads_one u t ∙ reads) refl)

  pub body_dead : (body : List Stmt) (declared : ℕ → Bool) → all_within (scopes body) declared ≡ true → declared u ≡ false → (j : Jumps) →
      (lowered body j).top ≤ room → (r : Around) → IsShut j r → r.next ≡ false → live_at u (lowered body j).code r ≡ false
  body_dead body = within_dead body (along_stmts limited (λ s. Dead) (λ a. ArmDead) layer (λ x h. within_dead x.body h) body)
