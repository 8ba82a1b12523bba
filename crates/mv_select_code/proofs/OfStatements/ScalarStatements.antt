-- The code of the statements that store a value, divide and leave a result.
use Rattle.std.proofs.Common.{◌≡◌, ◌≢◌, ◌⊎◌, inl, inr, ⊎_elim, ℕ, zero, suc, ◌+◌, ◌*◌, ◌^◌, ◌<◌, ◌≤◌, Bool, true, false, cond, eqb, List, [], ◌∷◌, ◌++◌, slice_set, Option, Some, None, unwrap_or, sum_by, refl, sym, ap, ◌∙◌, subst, arith}
use Rattle.std.proofs.lemmas.Bool.{cases_eq, eqb-true, eqb-false, eq-eqb, ne_eqb}
use Rattle.std.proofs.lemmas.List.{append-nil}
use Rattle.std.proofs.lemmas.Nat.{pow_below}
use Rattle.std.proofs.lemmas.Option.{none-some}
use Rattle.mv_isa.specs.declared.labelled.Line.{Line}
use Rattle.mv_isa.specs.declared.labelled.Line.TheVariants.{Word, Branch}
use Rattle.mv_isa.specs.Code.{greatest_words}
use Rattle.mv_isa.specs.Execution.{Access, reg, put}
use Rattle.mv_isa.specs.Registers.{a0}
use Rattle.mv_ir.specs.declared.tree.Tree.{Tree}
use Rattle.mv_ir.specs.declared.stm.Array.TheVariants as array
use Rattle.mv_ir.specs.declared.stm.Stm.TheOpen as stm
use Rattle.mv_ir.specs.World as ir
use Rattle.mv_ir.specs.Outcome.{State, Next}
use Rattle.mv_ir.specs.Trees.{nodes, depth, divide}
use Rattle.mv_ir.specs.Meaning.{of_tree, elements, with_temp, with_elements, traps}
use Rattle.mv_select_code.specs.Trees.TreeCode.{literal, unless, own_register, tree_into, tree_lines, operand_lines, operand_register}
use Rattle.mv_select_code.specs.Trees.Straight.{Sets, Straight}
use Rattle.mv_select_code.specs.Trees.View.{AreRegisters, AreScratch}
use Rattle.mv_select_code.proofs.OfTrees.Registers.{IsFree, free_above, reg_zero, put_same, put_other, put_registers, scratch_part}
use Rattle.mv_select_code.proofs.OfTrees.TreesAreShort.{into_short, operand_short}
use Rattle.mv_select_code.proofs.OfTrees.TreesRun.{trees_leave}
use Rattle.mv_select_code.specs.Statements.StatementCode.{first, second, trap_label, target, keep_lines, is_seat, division, power_of, power_division, store_lines, divisor_lines, set_lines, set_global_lines, divide_by, divide_lines, result_lines}
use Rattle.mv_select_code.specs.Statements.Leads.{Exit, Past, To, limited, Leads}
use Rattle.mv_select_code.specs.Statements.Frames.{Site, Element, IsWritten, address, view_of, IsFine, IsFit, Shows}
use Rattle.mv_select_code.specs.Statements.Laws.{LeadsTo, Gives, Follows, Does}
use Rattle.mv_select_code.proofs.OfStatements.Divisions.{divide_below, division_sets}
use Rattle.mv_select_code.proofs.OfStatements.Equations.{power_unwritten}
use Rattle.mv_select_code.proofs.OfStatements.FrameChanges.{aside_outside, seat_aside, pin_aside, updates_element, frame_same}
use Rattle.mv_select_code.proofs.OfStatements.Powers.{IsPower, power_is, power_above, power_sets}
use Rattle.mv_select_code.proofs.OfStatements.Stores.{stored_at}
use Rattle.mv_select_code.proofs.OfStatements.TempsKept.{ChangesOne, target_free, seat_shown, temp_kept}
use Rattle.mv_select_code.proofs.OfStatements.TreesFirst.{operand_aside, operand_beside, HasOperand, operand_first, temps_held, named_held}
use Rattle.mv_select_code.proofs.OfStatements.Walks.{leads_more, leads_straight, leads_next}
use Rattle.mv_select_code.proofs.OfStatements.Written.{written_value}

pub at_first : AreScratch first (first + 4)
at_first = inr (omega arith, omega arith)

pub at_second : AreScratch second (second + 4)
at_second = inl (omega arith, omega arith)

-- some temporary of the first n has a register, or none
abbrev IsSeated : (ℕ → Option ℕ) → (n r : ℕ) → Type 0
IsSeated register n r = (t : ℕ) × (t < n) × (register t ≡ Some r)

is_seated : (register : ℕ → Option ℕ) (n r : ℕ) → IsSeated register n r ⊎ ((t : ℕ) → t < n → register t ≢ Some r)
is_seated register zero r = inr (λ t lt e. omega (arith, lt))
is_seated register (suc n) r = by_last (is_seated register n r) (register n) refl
  where
    by_lower : register n ≢ Some r → IsSeated register n r ⊎ ((t : ℕ) → t < n → register t ≢ Some r) → IsSeated register (suc n) r ⊎ ((t : ℕ) → t < suc n → register t ≢ Some r)
    by_lower ne (inl h) = inl (h.0, omega (arith, h.1), h.2)
    by_lower ne (inr h) = inr (λ t lt e. ⊎_elim (λ (same : t ≡ n). ne (ap register (sym same) ∙ e)) (λ (other : t ≡ n → ⊥). h t (grind (arith, other, lt)) e) (cases_eq t n))

    by_last : IsSeated register n r ⊎ ((t : ℕ) → t < n → register t ≢ Some r) → (last : Option ℕ) → register n ≡ last → IsSeated register (suc n) r ⊎ ((t : ℕ) → t < suc n → register t ≢ Some r)
    by_last lower None h = by_lower (λ e. none-some r (sym h ∙ e)) lower
    by_last lower (Some q) h = ⊎_elim (λ (e : q ≡ r). inl (n, omega arith, h ∙ ap Some e)) (λ (ne : q ≡ r → ⊥). by_lower (λ e. let same : Some q ≡ Some r = sym h ∙ e in ne cc) lower) (cases_eq q r)

module _ {M : Type 0} (access : Access M) (s : Site) (setting : ir.Setting) (frame : ir.Frame) (fit : IsFit s access setting frame) where
  abbrev L : List Line → ℕ → List ℕ → M → Exit → List ℕ → M → Type 0
  L = Leads access s

  abbrev V : Tree → State → ℕ
  V = of_tree setting frame

  abbrev Fine : Tree → Type 0
  Fine = IsFine s setting frame

  -- lines behind those of an operand, with the tree's cost
  pub after_operand : (r : ℕ) (t : Tree) (ks : List Line) (n k : ℕ) (l : State) (regs : List ℕ) (m : M) (exit : Exit) (regs' : List ℕ) (m' : M) → n + 2 * nodes t ≤ k
      → (x : HasOperand access s setting frame fit r t l regs m) → L ks n x.after m exit regs' m' → L (operand_lines s.seats t r ++ ks) k regs m exit regs' m'
  after_operand r t ks n k l regs m exit regs' m' le x h =
      let ls = operand_lines s.seats t r in
      leads_more access s (ls ++ ks) (sum_by greatest_words ls + n) k regs m exit regs' m' (omega (arith, operand_short s.seats t r, le)) (leads_straight access s ls ks n regs x.after m exit regs' m' x.runs h)

  -- a tree is computed into some register, by way of the first one and those above it
  pub record IsComputed (d : ℕ) (v : Tree) (l : State) (regs : List ℕ) (m : M) : Type 0 where
    pub after : List ℕ
    pub leads : (ks : List Line) (n : ℕ) (exit : Exit) (regs' : List ℕ) (m' : M) → L ks n after m exit regs' m' → L (tree_into s.seats v d first ++ ks) (2 * nodes v + n) regs m exit regs' m'
    pub are : AreRegisters after
    pub others : ChangesOne d regs after
    pub holds : reg after d ≡ V v l
    pub below : V v l < 2 ^ 32

  pub tree_computed : (d : ℕ) (v : Tree) (l : State) (regs : List ℕ) (m : M) → IsFree d → Fine v → Shows s access l regs m → IsComputed d v l regs m
  tree_computed d v l regs m free fine f =
      let low = fine.shallow in
      let n = depth v in
      let part = scratch_part first (first + 4) first (first + n) (omega arith) (omega arith) at_first in
      let g = trees_leave _ (limited access s) m (view_of s setting frame l) (named_held access s setting frame fit l regs m f) v d first regs
      (fine.named l f.count) f.are (temps_held access s setting frame fit l regs m f) part free.above free.below
      free.global free.thread in
      let ls = tree_into s.seats v d first in
      record {
        after = g.after;
        leads = λ ks n exit regs' m' h. leads_more access s (ls ++ ks) (sum_by greatest_words ls + n) (2 * nodes v + n) regs m exit regs' m' (omega (arith, into_short s.seats v d first))
            (leads_straight access s ls ks n regs g.after m exit regs' m' g.runs h);
        are = g.are;
        others = λ q aside ne. g.others q (aside_outside first (first + n) q part aside) ne;
        holds = g.holds;
        below = subst (λ z. z < 2 ^ 32) g.holds (g.are.words d);
      }

  -- a value that stands in a register already
  record Stands (q : ℕ) (v : Tree) (l : State) (regs : List ℕ) (m : M) : Type 0 where
    pub after : List ℕ
    pub same : after ≡ regs
    pub shown : Shows s access l after m
    pub holds : reg after q ≡ V v l
    pub below : V v l < 2 ^ 32

  stands : (q : ℕ) (v : Tree) (l : State) (regs : List ℕ) (m : M) → own_register s.seats v ≡ Some q → Fine v → Shows s access l regs m → Stands q v l regs m
  unfolding operand_lines operand_register
  stands q v l regs m own fine f =
      let x = operand_first access s setting frame fit first v l regs m at_first fine f in
      record {
        after = x.after;
        same = subst (λ o. Straight (limited access s) m s.entry (unless o (tree_lines s.seats v first)) regs x.after) own x.runs;
        shown = x.shown;
        holds = subst (λ o. reg x.after (unwrap_or o first) ≡ V v l) own x.holds;
        below = x.below;
      }

  -- in the temporary's register
  stands_there : (t q : ℕ) (v : Tree) (l : State) (regs : List ℕ) (m : M) → t < s.temps → s.seats.register t ≡ Some q → own_register s.seats v ≡ Some q → Fine v → Shows s access l regs m
      → LeadsTo access s setting frame [] (8 + 3 * nodes v) regs m Past (with_temp l t (V v l))
  stands_there t q v l regs m lt is own fine f =
      let x = stands q v l regs m own fine f in
      (x.after, m, (refl, (x.same, refl)), seat_shown access s setting frame fit t q (V v l) l x.after x.after m lt is x.below x.shown.are (λ z aside ne. refl) x.holds x.shown)

  pub set_done : (t : ℕ) (v : Tree) → t < s.temps → Fine v → Does access s setting frame (set_lines s.seats t v) (stm.Set t v)
  set_done t v lt fine bound l regs m f = by_seat (s.seats.register t) (own_register s.seats v) refl refl
    where
      l' : State
      l' = with_temp l t (V v l)

      ls : List Line
      ls = tree_into s.seats v (target s.seats t) first ++ keep_lines s.seats t

      Sets : List Line → Type 0
      Sets lines = LeadsTo access s setting frame lines (8 + 3 * nodes v) regs m Past l'

      computed : Sets ls
      computed =
          let x = tree_computed (target s.seats t) v l regs m (target_free s.seats fit.seats t) fine f in
          let w = temp_kept access s setting frame fit t (V v l) l regs x.after m lt x.below x.are x.others x.holds f in
          (w.after, w.memory, leads_more access s ls (2 * nodes v + 1) (8 + 3 * nodes v) regs m Past w.after w.memory (omega arith) (x.leads (keep_lines s.seats t) 1 Past w.after w.memory w.leads), w.shown)

      by_seat : (seat own : Option ℕ) → s.seats.register t ≡ seat → own_register s.seats v ≡ own → Sets (cond (is_seat seat own) [] ls)
      by_seat None own is h = computed
      by_seat (Some q) None is h = computed
      by_seat (Some q) (Some p) is h = by_register (eqb q p) refl
        where
          by_register : (same : Bool) → eqb q p ≡ same → Sets (cond same [] ls)
          by_register true e = stands_there t q v l regs m lt is (h ∙ ap Some (sym (eqb-true q p e))) fine f
          by_register false e = computed

  pub set_global_done : (g : ℕ) (v : Tree) → 0 < s.size g → IsWritten s (array.Global g) → Fine v → Does access s setting frame (set_global_lines s.seats g v) (stm.SetGlobal g v)
  set_global_done g v lt may fine bound l regs m f =
      let a = array.Global g in
      let at = s.seats.place g in
      let q = operand_register s.seats v first in
      let x = operand_first access s setting frame fit first v l regs m at_first fine f in
      let same : at ≡ address s (Element a 0) = omega arith in
      let beside = operand_beside s.seats fit.seats v first second (inl (omega arith, omega arith)) (inr (omega arith)) in
      let l' = with_elements a l (slice_set (elements a l) 0 (V v l)) in
      let w = stored_at access s setting frame fit (Element a 0) (V v l) x.below may lt l l' (updates_element s l a 0 (V v l) (omega (arith, lt, f.sizes a))) q m at x.after same beside x.holds x.shown in
      (w.after, w.memory, after_operand first v (store_lines at q) 2 (8 + 3 * nodes v) l regs m Past w.after w.memory (omega arith) x w.leads, w.shown)

  -- a result that is computed into a0
  result_computed : (v : Tree) → Fine v → (l : State) (regs : List ℕ) (m : M) → Shows s access l regs m → Gives access s setting frame (tree_into s.seats v a0 first) (2 * nodes v) regs m (V v l) l.world
  result_computed v fine l regs m f = ⊎_elim own alone (is_seated s.seats.register s.temps a0)
    where
      ls : List Line
      ls = tree_into s.seats v a0 first

      free : IsFree a0
      free = free_above a0 (omega arith) (omega arith)

      x : IsComputed a0 v l regs m
      x = tree_computed a0 v l regs m free fine f

      leads : L ls (2 * nodes v) regs m Past x.after m
      leads = subst (λ z. L z (2 * nodes v) regs m Past x.after m) (append-nil ls)
          (leads_more access s (ls ++ []) (2 * nodes v + 0) (2 * nodes v) regs m Past x.after m (omega arith) (x.leads [] 0 Past x.after m (refl, (refl, refl))))

      -- a temporary stands in a0, and has the value then
      own : IsSeated s.seats.register s.temps a0 → Gives access s setting frame ls (2 * nodes v) regs m (V v l) l.world
      own h = (with_temp l h.0 (V v l), refl, x.after, m, leads, seat_shown access s setting frame fit h.0 a0 (V v l) l regs x.after m h.1 h.2 x.below x.are x.others x.holds f, x.holds)

      alone : ((t : ℕ) → t < s.temps → s.seats.register t ≢ Some a0) → Gives access s setting frame ls (2 * nodes v) regs m (V v l) l.world
      alone none = (
        l,
        refl,
        x.after,
        m,
        leads,
        frame_same s access l regs x.after m x.are
            (λ q k. x.others q (fit.left.scratch q k) (λ e. fit.left.result (subst (λ n. s.is_left n ≡ true) e k)))
            (λ t q p k. x.others q (seat_aside s.seats fit.seats t q k) (λ e. none t p (k ∙ ap Some e)))
            (λ n q k. x.others q (pin_aside s.seats fit.seats n q k) (λ e. fit.left.pinned_result n (k ∙ ap Some e)))
            f,
        x.holds,
      )

  pub result_done : (v : Tree) → Fine v → (l : State) (regs : List ℕ) (m : M) → Shows s access l regs m → Gives access s setting frame (result_lines s.seats v) (2 * nodes v) regs m (V v l) l.world
  result_done v fine l regs m f = by_own (own_register s.seats v) refl
    where
      Gets : List Line → Type 0
      Gets lines = Gives access s setting frame lines (2 * nodes v) regs m (V v l) l.world

      computed : Gets (tree_into s.seats v a0 first)
      computed = result_computed v fine l regs m f

      by_own : (own : Option ℕ) → own_register s.seats v ≡ own → Gets (cond (is_seat (Some a0) own) [] (tree_into s.seats v a0 first))
      by_own None h = computed
      by_own (Some p) h = by_register (eqb a0 p) refl
        where
          by_register : (same : Bool) → eqb a0 p ≡ same → Gets (cond same [] (tree_into s.seats v a0 first))
          by_register true e =
              let x = stands a0 v l regs m (h ∙ ap Some (sym (eqb-true a0 p e))) fine f in
              (l, refl, x.after, m, (refl, (x.same, refl)), x.shown, x.holds)
          by_register false e = computed

  -- by a divisor that isn't written as such a power of two
  division_done : (t o : ℕ) (a b : Tree) → t < s.temps → Fine a → Fine b → Does access s setting frame (divide_by s.seats None t o a b) (stm.Divide t o a b)
  division_done t o a b lt fa fb bound l regs m f = by_divisor (eqb (V b l) 0) refl
    where
      p : ℕ
      p = operand_register s.seats a first

      q : ℕ
      q = operand_register s.seats b second

      d : ℕ
      d = target s.seats t

      tail : List Line
      tail = Word (division o d p q) ∷ keep_lines s.seats t

      test : List Line
      test = divisor_lines (literal b) q

      x : HasOperand access s setting frame fit first a l regs m
      x = operand_first access s setting frame fit first a l regs m at_first fa f

      y : HasOperand access s setting frame fit second b l x.after m
      y = operand_first access s setting frame fit second b l x.after m at_second fb x.shown

      -- lines behind both trees
      both : (k : ℕ) (exit : Exit) (regs' : List ℕ) (m' : M) → k ≤ 8 → L (test ++ tail) k y.after m exit regs' m' → L (divide_by s.seats None t o a b) (8 + 3 * (nodes a + nodes b)) regs m exit regs' m'
      both k exit regs' m' le h =
          after_operand first a (operand_lines s.seats b second ++ (test ++ tail)) (8 + 2 * nodes b) (8 + 3 * (nodes a + nodes b)) l regs m exit regs' m' (omega arith) x
          (after_operand second b (test ++ tail) k (8 + 2 * nodes b) l x.after m exit regs' m' (omega arith) y h)

      is_zero : V b l ≡ 0 → eqb (reg y.after q) (reg y.after 0) ≡ true
      is_zero e = eq-eqb (reg y.after q) (reg y.after 0) (y.holds ∙ e ∙ sym (reg_zero y.after))

      is_other : (V b l ≡ 0 → ⊥) → eqb (reg y.after q) (reg y.after 0) ≡ false
      is_other ne = ne_eqb (reg y.after q) (reg y.after 0) (λ e. ne (sym y.holds ∙ e ∙ reg_zero y.after))

      -- a divisor of 0 leads to the stub
      failed : V b l ≡ 0 → L (test ++ tail) 2 y.after m (To (trap_label 1)) y.after m
      failed e = by_literal (literal b) refl
        where
          by_literal : (written : Option ℕ) → literal b ≡ written → L (divisor_lines written q ++ tail) 2 y.after m (To (trap_label 1)) y.after m
          by_literal None h = inl (is_zero e, omega arith, refl, (refl, refl))
          by_literal (Some n) h = by_number (eqb n 0) refl
            where
              by_number : (is_null : Bool) → eqb n 0 ≡ is_null → L (cond is_null (Branch 0 q 0 (trap_label 1) ∷ []) [] ++ tail) 2 y.after m (To (trap_label 1)) y.after m
              by_number true k = inl (is_zero e, omega arith, refl, (refl, refl))
              by_number false k = absurd (eqb-false n 0 k (sym (written_value setting.numbers frame.bound l.temps l.world.globals b n h) ∙ e))

      -- another goes on
      passed : (V b l ≡ 0 → ⊥) → (k : ℕ) (regs' : List ℕ) (m' : M) → L tail k y.after m Past regs' m' → L (test ++ tail) (k + 1) y.after m Past regs' m'
      passed ne k regs' m' go = by_literal (literal b)
        where
          by_literal : (written : Option ℕ) → L (divisor_lines written q ++ tail) (k + 1) y.after m Past regs' m'
          by_literal None = inr (is_other ne, k, omega arith, go)
          by_literal (Some n) = by_number (eqb n 0)
            where
              by_number : (is_null : Bool) → L (cond is_null (Branch 0 q 0 (trap_label 1) ∷ []) [] ++ tail) (k + 1) y.after m Past regs' m'
              by_number true = inr (is_other ne, k, omega arith, go)
              by_number false = leads_more access s tail k (k + 1) y.after m Past regs' m' (omega arith) go

      by_divisor : (is_null : Bool) → eqb (V b l) 0 ≡ is_null
          → Follows access s setting frame (divide_by s.seats None t o a b) (8 + 3 * (nodes a + nodes b)) regs m (cond is_null (traps 1 l) (Next (with_temp l t (divide o (V a l) (V b l)))))
      by_divisor true is = (l, refl, (y.after, m, both 2 (To (trap_label 1)) y.after m (omega arith) (failed (eqb-true (V b l) 0 is)), y.shown))
      by_divisor false is =
          let nonzero = eqb-false (V b l) 0 is in
          let dividend : reg y.after p ≡ V a l = y.changes.others p (operand_aside s.seats fit.seats a first second (second + 4) at_second (inr (omega arith))) ∙ x.holds in
          let v = divide o (V a l) (V b l) in
          let below = divide_below o (V a l) (V b l) nonzero x.below y.below in
          let free = target_free s.seats fit.seats t in
          let mid = put y.after d v in
          let are = put_registers y.after d v y.shown.are free below in
          let w = temp_kept access s setting frame fit t v l y.after mid m lt below are (λ z o ne. put_other y.after d z v free.above ne) (put_same y.after d v free.above (omega (arith, y.shown.are.count, free.below))) y.shown in (
            w.after,
            w.memory,
            both 3 Past w.after w.memory (omega arith) (passed nonzero 2 w.after w.memory
                (leads_next access s (division o d p q) (keep_lines s.seats t) 1 y.after m mid m Past w.after w.memory (division_sets (limited access s) m o d p q (V a l) (V b l) y.after nonzero dividend y.holds, inl refl) w.leads)),
            w.shown,
          )

  -- by one that is, so it isn't 0
  power_done : (t o k n : ℕ) (a b : Tree) → literal b ≡ Some n → IsPower o k n → t < s.temps → Fine a → Does access s setting frame (divide_by s.seats (Some k) t o a b) (stm.Divide t o a b)
  power_done t o k n a b written is lt fa bound l regs m f = by_divisor (eqb (V b l) 0) refl
    where
      value_is : V b l ≡ n
      value_is = written_value setting.numbers frame.bound l.temps l.world.globals b n written

      nonzero : V b l ≡ 0 → ⊥
      nonzero e = power_above o k n is (sym value_is ∙ e)

      d : ℕ
      d = target s.seats t

      p : ℕ
      p = operand_register s.seats a first

      tail : List Line
      tail = Word (power_division o k d p) ∷ keep_lines s.seats t

      x : HasOperand access s setting frame fit first a l regs m
      x = operand_first access s setting frame fit first a l regs m at_first fa f

      v : ℕ
      v = divide o (V a l) (V b l)

      sets : Sets (limited access s) m (power_division o k d p) x.after (put x.after d v)
      sets = subst (λ z. Sets (limited access s) m (power_division o k d p) x.after (put x.after d (divide o (V a l) z))) (sym value_is) (power_sets (limited access s) m o k n d p (V a l) x.after is x.holds)

      by_divisor : (is_null : Bool) → eqb (V b l) 0 ≡ is_null
          → Follows access s setting frame (divide_by s.seats (Some k) t o a b) (8 + 3 * (nodes a + nodes b)) regs m (cond is_null (traps 1 l) (Next (with_temp l t v)))
      by_divisor true e = absurd (nonzero (eqb-true (V b l) 0 e))
      by_divisor false e =
          let below = divide_below o (V a l) (V b l) nonzero x.below (subst (λ z. z < 2 ^ 32) (sym (value_is ∙ is.same)) (pow_below k 32 is.low)) in
          let free = target_free s.seats fit.seats t in
          let mid = put x.after d v in
          let are = put_registers x.after d v x.shown.are free below in
          let w = temp_kept access s setting frame fit t v l x.after mid m lt below are (λ z o ne. put_other x.after d z v free.above ne) (put_same x.after d v free.above (omega (arith, x.shown.are.count, free.below))) x.shown in (
            w.after,
            w.memory,
            after_operand first a tail 2 (8 + 3 * (nodes a + nodes b)) l regs m Past w.after w.memory (omega arith) x
                (leads_next access s (power_division o k d p) (keep_lines s.seats t) 1 x.after m mid m Past w.after w.memory (sets, inl refl) w.leads),
            w.shown,
          )

  pub divide_done : (t o : ℕ) (a b : Tree) → t < s.temps → Fine a → Fine b → Does access s setting frame (divide_lines s.seats t o a b) (stm.Divide t o a b)
  divide_done t o a b lt fa fb = by_literal (literal b) refl
    where
      by_literal : (written : Option ℕ) → literal b ≡ written → Does access s setting frame (divide_by s.seats (power_of o written) t o a b) (stm.Divide t o a b)
      by_literal None h = subst (λ w. Does access s setting frame (divide_by s.seats w t o a b) (stm.Divide t o a b)) (sym (power_unwritten o)) (division_done t o a b lt fa fb)
      by_literal (Some n) h = by_power (power_of o (Some n)) refl
        where
          by_power : (power : Option ℕ) → power_of o (Some n) ≡ power → Does access s setting frame (divide_by s.seats power t o a b) (stm.Divide t o a b)
          by_power None e = division_done t o a b lt fa fb
          by_power (Some k) e = power_done t o k n a b h (power_is o n k e) lt fa
