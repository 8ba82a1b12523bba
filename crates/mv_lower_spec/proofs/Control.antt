-- `&&` and `||`: control inside an expression.
use Rattle.std.proofs.Common.{◌≡◌, ℕ, ◌+◌, ◌*◌, ◌<◌, ◌≤◌, Bool, true, false, cond, eqb, List, [], ◌∷◌, ◌++◌, refl, sym, ◌∙◌, subst, ap, arith}
use Rattle.std.proofs.lemmas.List.{get_or-set_same}
use Rattle.mv_ir.specs.declared.tree.Tree.{Tree}
use Rattle.mv_ir.specs.declared.stm.Stm.{Stm}
use Rattle.mv_ast.specs.Worlds.{World, Outcome, Came, Stopped, bind, give}
use Rattle.mv_meaning.specs.declared.state.Frame.{Frame}
use Rattle.mv_meaning.specs.Meaning.{Evaluation, unless_zero, truth_of}
use Rattle.mv_ir.specs.Outcome.{State, Next, Ends, Bound}
use Rattle.mv_ir.specs.Outcome as ir
use Rattle.mv_num.specs.Words.{as_word}
use Rattle.mv_ir.specs.Trees.{nodes}
use Rattle.mv_ir.specs.Trees as ir_tree
use Rattle.mv_ir.specs.Meaning.{with_temp}
use Rattle.mv_ir.specs.KnownFunctions.{seen}
use Rattle.mv_lower_spec.specs.Lowered.{Lowering, number, temp, set, choose, truth, truth_in, unary, is_low, kept_if, lower_both, lower_either, lower_choice}
use Rattle.mv_lower_spec.specs.Correct as c
use Rattle.mv_lower_spec.specs.Correct.{Scene, val, Shows, Kept, Runs, Shown, CorrectFor, Correct}
use Rattle.mv_lower_spec.proofs.Running as run
use Rattle.mv_lower_spec.proofs.Running.{nodes_number, nodes_temp, nodes_unary}
use Rattle.mv_lower_spec.proofs.Showing as show

pub truth_is : (v : ℕ) → ir_tree.unary 2 (ir_tree.unary 2 v) ≡ truth_of v
unfolding ir_tree.unary
truth_is v = by (eqb v 0)
  where
    by : (z : Bool) → as_word (eqb (as_word z) 0) ≡ cond z 0 1
    by true = refl
    by false = refl

module _ (scene : Scene) (bound : Bound) where
  -- code that runs other code at a price
  pub within : (due credit n price : ℕ) (s : State) (inner outer : List Stm) (t : Tree) (o : Outcome Frame ℕ) →
      ((e : ir.Outcome) (k : ℕ) → Runs scene bound inner s e k → Runs scene bound outer s e (price + k)) → Shown scene bound due credit n s inner t o → Shown scene bound due (credit + price) n s outer t o
  within due credit n price s inner outer t (Came v f w work) h r = record {
    state = r.state;
    cost = price + r.cost;
    runs = h (Next r.state) r.cost r.runs;
    shows = r.shows;
    value = r.value;
    kept = r.kept;
    paid = omega (arith, r.paid);
  }
  within due credit n price s inner outer t (Stopped why w work) h r = record {
    cost = price + r.cost;
    runs = λ ne. h (Ends (c.end_of why (seen w))) r.cost (r.runs ne);
    paid = omega (arith, r.paid);
  }

  -- code that comes to another state, and then the rest
  pub after_step : (due credit n price : ℕ) (s s1 : State) (code rest : List Stm) (t : Tree) (o : Outcome Frame ℕ) → Runs scene bound code s (Next s1) price → Kept scene n s s1 →
      Shown scene bound due credit n s1 rest t o → Shown scene bound due (credit + price) n s (code ++ rest) t o
  after_step due credit n price s s1 code rest t (Came v f w work) h k r = record {
    state = r.state;
    cost = price + r.cost;
    runs = run.runs_append scene bound code rest s s1 (Next r.state) price r.cost h r.runs;
    shows = r.shows;
    value = r.value;
    kept = λ i a b. r.kept i a b ∙ k i a b;
    paid = omega (arith, r.paid);
  }
  after_step due credit n price s s1 code rest t (Stopped why w work) h k r = record {
    cost = price + r.cost;
    runs = λ ne. run.runs_append scene bound code rest s s1 (Ends (c.end_of why (seen w))) price r.cost h (r.runs ne);
    paid = omega (arith, r.paid);
  }

  -- a constant, in a temporary
  pub constant_in : (credit n k : ℕ) (f : Frame) (w : World) (s : State) → scene.floor ≤ n → n < scene.room → 25 ≤ credit → Shows scene f w s → Shown scene bound 11 credit n s (set n (number k) ∷ []) (temp n) (give k f w)
  constant_in credit n k f w s le lt enough h =
      let x = val scene (number k) s in
      record {
        state = with_temp s n x;
        cost = 8 + 3 * nodes (number k);
        runs = run.runs_set scene bound n (number k) s;
        shows = show.shows_temp scene f w s n x le h;
        value = run.val_temp scene n (with_temp s n x) ∙ get_or-set_same s.temps n x 0 (subst (λ j. n < j) (sym h.temps) lt) ∙ run.val_number scene k s;
        kept = show.kept_temp scene n s x;
        paid = omega (arith, enough, nodes_temp n, nodes_number k);
      }

  -- the truth of a value, in a temporary
  pub truth_shown : (credit n : ℕ) (f : Frame) (w : World) (s : State) (mb : Evaluation ℕ) (lb : Lowering) → scene.floor ≤ n → n < scene.room → 28 ≤ credit →
      (kept_if (is_low (lb n).tree) n (lb n)).top ≤ scene.room → Shows scene f w s → Correct scene bound mb lb →
      Shown scene bound 11 credit n s (truth_in n (kept_if (is_low (lb n).tree) n (lb n))) (temp n) (bind mb (λ y. give (truth_of y)) f w)
  truth_shown credit n f w s mb lb le lt enough fits h cb =
      let low = is_low (lb n).tree in
      let y = kept_if low n (lb n) in
      show.follow scene bound 11 credit credit 0 0 n n s y.code (set n (truth y.tree) ∷ []) (temp n) y.tree (mb f w) (λ v. give (truth_of v)) (omega arith) (omega arith)
      (show.kept_shown scene bound 0 low n s (lb n) (mb f w) le fits (cb n f w s le (show.kept_top scene low n (lb n) fits) h))
      (λ v f1 w1 work r.
      let x = val scene (truth y.tree) r.state in
      record {
        state = with_temp r.state n x;
        cost = 8 + 3 * nodes (truth y.tree);
        runs = run.runs_set scene bound n (truth y.tree) r.state;
        shows = show.shows_temp scene f1 w1 r.state n x le r.shows;
        value =
            run.val_temp scene n (with_temp r.state n x) ∙ get_or-set_same r.state.temps n x 0 (subst (λ j. n < j) (sym r.shows.temps) lt) ∙
            run.val_unary scene 2 (unary 2 y.tree) r.state ∙ ap (ir_tree.unary 2) (run.val_unary scene 2 y.tree r.state) ∙
            truth_is (val scene y.tree r.state) ∙ ap truth_of r.value;
        kept = show.kept_temp scene n r.state x;
        paid = omega (arith, enough, nodes_temp n, nodes_unary 2 (unary 2 y.tree), nodes_unary 2 y.tree);
      })

  -- a choice on a tree's value, that is paid by the tree's own credit and 100 more
  pub choice : (n v : ℕ) (t : Tree) (a b : List Stm) (f : Frame) (w : World) (s : State) (zero_way other_way : Evaluation ℕ) (z : Bool) → eqb v 0 ≡ z → val scene t s ≡ v →
      (z ≡ true → Shown scene bound 11 103 n s b (temp n) (zero_way f w)) → (z ≡ false → Shown scene bound 11 103 n s a (temp n) (other_way f w)) →
      Shown scene bound 11 (100 + (3 * nodes t + 11)) n s (choose t a b ∷ []) (temp n) (cond z zero_way other_way f w)
  choice n v t a b f w s zero_way other_way true e ev hz ho =
      show.more_credit scene bound 11 11 (103 + (8 + 3 * nodes t)) (100 + (3 * nodes t + 11)) n n s (choose t a b ∷ []) (temp n) (zero_way f w) (omega arith) (omega arith) (omega arith)
      (within 11 103 n (8 + 3 * nodes t) s b (choose t a b ∷ []) (temp n) (zero_way f w)
      (λ o k h. run.runs_if_zero scene bound t a b s o k (ap (λ j. eqb j 0) ev ∙ e) h) (hz refl))
  choice n v t a b f w s zero_way other_way false e ev hz ho =
      show.more_credit scene bound 11 11 (103 + (8 + 3 * nodes t)) (100 + (3 * nodes t + 11)) n n s (choose t a b ∷ []) (temp n) (other_way f w) (omega arith) (omega arith) (omega arith)
      (within 11 103 n (8 + 3 * nodes t) s a (choose t a b ∷ []) (temp n) (other_way f w)
      (λ o k h. run.runs_if_other scene bound t a b s o k (ap (λ j. eqb j 0) ev ∙ e) h) (ho refl))

  pub correct_both : (ma mb : Evaluation ℕ) (la lb : Lowering) → Correct scene bound ma la → Correct scene bound mb lb →
      CorrectFor scene bound 100 (bind ma (λ x. unless_zero x (give 0) (bind mb (λ y. give (truth_of y))))) (lower_both la lb)
  correct_both ma mb la lb ca cb n f w s le fits h =
      let x = la n in
      let y = kept_if (is_low (lb n).tree) n (lb n) in
      let rest = choose x.tree (truth_in n y) (set n (number 0) ∷ []) ∷ [] in
      let next : ℕ → Evaluation ℕ = λ v. unless_zero v (give 0) (bind mb (λ y. give (truth_of y))) in
      show.follow scene bound 11 100 100 11 0 n n s x.code rest (temp n) x.tree (ma f w) next (omega arith) (omega arith)
      (ca n f w s le (omega (arith, fits)) h)
      (λ v f1 w1 work r.
      choice n v x.tree (truth_in n y) (set n (number 0) ∷ []) f1 w1 r.state (give 0) (bind mb (λ y. give (truth_of y))) (eqb v 0) refl r.value
      (λ e. constant_in 103 n 0 f1 w1 r.state le (omega (arith, fits)) (omega arith) r.shows)
      (λ e. truth_shown 103 n f1 w1 r.state mb lb le (omega (arith, fits)) (omega arith) (omega (arith, fits)) r.shows cb))

  pub correct_either : (ma mb : Evaluation ℕ) (la lb : Lowering) → Correct scene bound ma la → Correct scene bound mb lb →
      CorrectFor scene bound 100 (bind ma (λ x. unless_zero x (bind mb (λ y. give (truth_of y))) (give 1))) (lower_either la lb)
  correct_either ma mb la lb ca cb n f w s le fits h =
      let x = la n in
      let y = kept_if (is_low (lb n).tree) n (lb n) in
      let rest = choose x.tree (set n (number 1) ∷ []) (truth_in n y) ∷ [] in
      let next : ℕ → Evaluation ℕ = λ v. unless_zero v (bind mb (λ y. give (truth_of y))) (give 1) in
      show.follow scene bound 11 100 100 11 0 n n s x.code rest (temp n) x.tree (ma f w) next (omega arith) (omega arith)
      (ca n f w s le (omega (arith, fits)) h)
      (λ v f1 w1 work r.
      choice n v x.tree (set n (number 1) ∷ []) (truth_in n y) f1 w1 r.state (bind mb (λ y. give (truth_of y))) (give 1) (eqb v 0) refl r.value
      (λ e. truth_shown 103 n f1 w1 r.state mb lb le (omega (arith, fits)) (omega arith) (omega (arith, fits)) r.shows cb)
      (λ e. constant_in 103 n 1 f1 w1 r.state le (omega (arith, fits)) (omega arith) r.shows))

  -- a value in the first free temporary, on one side of a choice
  side : (n : ℕ) (f : Frame) (w : World) (s : State) (m : Evaluation ℕ) (l : Lowering) → scene.floor ≤ n → (kept_if false n (l n)).top ≤ scene.room → Shows scene f w s → Correct scene bound m l →
      Shown scene bound 11 103 n s (kept_if false n (l n)).code (temp n) (m f w)
  side n f w s m l le fits h cm =
      show.more_credit scene bound 0 11 0 103 n n s (kept_if false n (l n)).code (temp n) (m f w) (omega arith) (omega arith) (omega arith)
      (show.kept_shown scene bound 0 false n s (l n) (m f w) le fits (cm n f w s le (show.kept_top scene false n (l n) fits) h))

  pub correct_choice : (mc ma mb : Evaluation ℕ) (lc la lb : Lowering) → Correct scene bound mc lc → Correct scene bound ma la → Correct scene bound mb lb →
      CorrectFor scene bound 100 (bind mc (λ x. unless_zero x mb ma)) (lower_choice lc la lb)
  correct_choice mc ma mb lc la lb cc ca cb n f w s le fits h =
      let x = lc n in
      let y = kept_if false n (la n) in
      let u = kept_if false n (lb n) in
      let rest = choose x.tree y.code u.code ∷ [] in
      show.follow scene bound 11 100 100 11 0 n n s x.code rest (temp n) x.tree (mc f w) (λ v. unless_zero v mb ma) (omega arith) (omega arith)
      (cc n f w s le (omega (arith, fits)) h)
      (λ v f1 w1 work r.
      choice n v x.tree y.code u.code f1 w1 r.state mb ma (eqb v 0) refl r.value
      (λ e. side n f1 w1 r.state mb lb le (omega (arith, fits)) r.shows cb)
      (λ e. side n f1 w1 r.state ma la le (omega (arith, fits)) r.shows ca))
