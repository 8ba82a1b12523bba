-- The values of several expressions, one after the other.
use Rattle.std.proofs.Common.{◌≡◌, ℕ, ◌+◌, ◌-◌, ◌^◌, ◌≤◌, List, [], ◌∷◌, ◌++◌, ◌<◌, length, get_or, drop, arith, refl, sym, ◌∙◌, ap, append_assoc, Ok, Err}
use Rattle.std.proofs.lemmas.List.{append-nil, drop_more, drop_all}
use Rattle.mv_ast.specs.Worlds.{World, Outcome, Came, Stopped, after, and_then, bind, give}
use Rattle.mv_meaning.specs.declared.state.Frame.{Frame}
use Rattle.mv_ast.specs.declared.program.Program.{Program}
use Rattle.mv_ast.specs.declared.program.Expr.{Expr}
use Rattle.mv_interpret.specs.declared.state.Here.{Here}
use Rattle.mv_interpret.specs.declared.state.State.{State}
use Rattle.mv_interpret.specs.declared.state.Halt.{Halt}
use Rattle.mv_interpret.specs.declared.state.Halt.TheVariants as halt
use Rattle.mv_meaning.specs.Meaning.{Evaluation, Context, value_of, values_of_all}
use Rattle.mv_meaning.specs.Growth.{capped}
use Rattle.mv_interpret.specs.Runs.{totalled, world_of, IsOutcome}
use Rattle.mv_interpret.proofs.Steps.{stopped_there}

-- before the first
pub values_begun : (before : ℕ) (o : Outcome Frame (List ℕ)) → totalled before o ≡ totalled before (and_then o (λ r. give ([] ++ r)))
values_begun before (Came v f w m) =
    let e : capped (before + m) ≡ capped (before + (m + 0)) = omega arith in
    ap (Came v f w) e
values_begun before (Stopped s w m) = refl

-- one more value, with what its own rest comes to
values_joined : (before m : ℕ) (vals : List ℕ) (v : ℕ) (rest : Outcome Frame (List ℕ)) →
    totalled before (and_then (after m (and_then rest (λ vs. give (v ∷ vs)))) (λ r. give (vals ++ r))) ≡
    totalled (capped (before + m)) (and_then rest (λ r. give ((vals ++ v ∷ []) ++ r)))
values_joined before m vals v (Came r f w k) =
    let e : capped (before + (m + (k + 0) + 0)) ≡ capped (capped (before + m) + (k + 0)) = omega arith in
    let l : vals ++ (v ∷ r) ≡ (vals ++ v ∷ []) ++ r = sym (append_assoc vals (v ∷ []) r) in
    ap (λ x. Came x f w (capped (before + (m + (k + 0) + 0)))) l ∙ ap (Came ((vals ++ v ∷ []) ++ r) f w) e
values_joined before m vals v (Stopped s w k) =
    let e : capped (before + (m + k)) ≡ capped (capped (before + m) + k) = omega arith in
    ap (Stopped s w) e

pub values_more : (before : ℕ) (o : Outcome Frame ℕ) (rest : Evaluation (List ℕ)) (vals : List ℕ) (v : ℕ) (f : Frame) (w : World) (n : ℕ) →
    totalled before o ≡ Came v f w n →
    totalled before (and_then (and_then o (λ x. bind rest (λ vs. give (x ∷ vs)))) (λ r. give (vals ++ r))) ≡
    totalled n (and_then (rest f w) (λ r. give ((vals ++ v ∷ []) ++ r)))
values_more before (Came v' f' w' m) rest vals v f w n e =
    let ev : v' ≡ v = cc in
    let ef : f' ≡ f = cc in
    let ew : w' ≡ w = cc in
    let en : capped (before + m) ≡ n = cc in
    values_joined before m vals v' (rest f' w') ∙
    (ap (λ x. totalled (capped (before + m)) (and_then (rest f' w') (λ r. give ((vals ++ x ∷ []) ++ r)))) ev ∙
    (ap (λ x. totalled (capped (before + m)) (and_then (rest x w') (λ r. give ((vals ++ v ∷ []) ++ r)))) ef ∙
    (ap (λ x. totalled (capped (before + m)) (and_then (rest f x) (λ r. give ((vals ++ v ∷ []) ++ r)))) ew ∙
    ap (λ x. totalled x (and_then (rest f w) (λ r. give ((vals ++ v ∷ []) ++ r)))) en)))
values_more before (Stopped s w' m) rest vals v f w n e = cc

-- behind the last
pub values_ended : (before : ℕ) (vals : List ℕ) (f : Frame) (w : World) → before ≤ 2 ^ 64 - 1 →
    totalled before (bind (give []) (λ r. give (vals ++ r)) f w) ≡ Came vals f w before
values_ended before vals f w le =
    let e : capped (before + (0 + 0)) ≡ before = omega arith in
    ap (λ x. Came x f w (capped (before + (0 + 0)))) (append-nil vals) ∙ ap (Came vals f w) e

-- ---- the loop over several expressions: what is still to come gives what all come to

module _ (p : Program) (context : Context) (here : Here) where
  abbrev rest_of : List Expr → List ℕ → Evaluation (List ℕ)
  rest_of es vals = bind (values_of_all p context es) (λ r. give (vals ++ r))

  pub values_init : (f : Frame) (s : State) (es items : List Expr) (vals : List ℕ) → items ≡ es → vals ≡ [] →
      totalled s.work (values_of_all p context es f (world_of here s)) ≡ totalled s.work (rest_of items vals f (world_of here s))
  values_init f s es items vals ei ev =
      values_begun s.work (values_of_all p context es f (world_of here s)) ∙
      (ap (λ x. totalled s.work (rest_of x [] f (world_of here s))) (sym ei) ∙ ap (λ x. totalled s.work (rest_of items x f (world_of here s))) (sym ev))

  module _ (total : Outcome Frame (List ℕ)) (items : List Expr) (i : ℕ) (vals : List ℕ) (f : Frame) (s : State)
      (so_far : total ≡ totalled s.work (rest_of (drop i items) vals f (world_of here s))) where
    values_here : (e : Expr) → i < length items → e ≡ get_or items i e →
        total ≡ totalled s.work (rest_of (e ∷ drop (i + 1) items) vals f (world_of here s))
    values_here e lt ee =
        so_far ∙ ap (λ x. totalled s.work (rest_of x vals f (world_of here s))) (drop_more items i e lt ∙ ap (λ x. x ∷ drop (i + 1) items) (sym ee))

    pub values_step : (e : Expr) (v : ℕ) (f1 : Frame) (s1 : State) (vals1 : List ℕ) → i < length items → e ≡ get_or items i e →
        IsOutcome s.work (value_of p context e f (world_of here s)) here (Ok v) f1 s1 → vals1 ≡ vals ++ v ∷ [] →
        total ≡ totalled s1.work (rest_of (drop (i + 1) items) vals1 f1 (world_of here s1))
    values_step e v f1 s1 vals1 lt ee o ev =
        values_here e lt ee ∙
        (values_more s.work (value_of p context e f (world_of here s)) (values_of_all p context (drop (i + 1) items)) vals v f1 (world_of here s1) s1.work o.shown ∙
        ap (λ x. totalled s1.work (rest_of (drop (i + 1) items) x f1 (world_of here s1))) (sym ev))

    pub values_fail : (e : Expr) (h : Halt) (before : ℕ) (o : Outcome Frame (List ℕ)) (f1 f2 : Frame) (s1 : State) → total ≡ totalled before o →
        i < length items → e ≡ get_or items i e →
        IsOutcome s.work (value_of p context e f (world_of here s)) here (Err h) f1 s1 → IsOutcome before o here (Err h) f2 s1
    values_fail e (halt.Stopped why) before o f1 f2 s1 et lt ee r =
        let first = value_of p context e f (world_of here s) in
        record {
          shown =
              sym et ∙ (values_here e lt ee ∙
              stopped_there s.work (bind (value_of p context e) (λ x. bind (values_of_all p context (drop (i + 1) items)) (λ vs. give (x ∷ vs))) f (world_of here s)) (λ y. give (vals ++ y)) why _ _
              (stopped_there s.work first (λ x. bind (values_of_all p context (drop (i + 1) items)) (λ vs. give (x ∷ vs))) why _ _ r.shown));
        }
    values_fail e (halt.Memory m) before o f1 f2 s1 et lt ee r = record { shown = tt }

    pub values_end : (before : ℕ) (o : Outcome Frame (List ℕ)) → total ≡ totalled before o → length items ≤ i → s.work ≤ 2 ^ 64 - 1 →
        IsOutcome before o here (Ok vals) f s
    values_end before o et ge le = record {
      shown =
          sym et ∙ (so_far ∙ (ap (λ x. totalled s.work (rest_of x vals f (world_of here s))) (drop_all i items ge) ∙ values_ended s.work vals f (world_of here s) le));
    }
