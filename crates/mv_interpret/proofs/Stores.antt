-- The values of a declared local, stored one after the other.
use Rattle.std.proofs.Common.{◌≡◌, ℕ, suc, ◌+◌, ◌-◌, ◌<◌, List, ◌∷◌, map, length, get_or, drop, replicate, Bool, if◌then◌else◌, arith, sym, ◌∙◌, ap, subst, Result, Ok, Err}
use Rattle.std.specs.Prelude.{slice_set}
use Rattle.std.proofs.lemmas.List.{drop_more}
use Rattle.mv_ast.specs.declared.program.Program.{Program}
use Rattle.mv_ast.specs.declared.program.Expr.{Expr}
use Rattle.mv_ast.specs.Switches.{with_word}
use Rattle.mv_ast.specs.Worlds.{Outcome, bind}
use Rattle.mv_meaning.specs.declared.state.Frame.{Frame}
use Rattle.mv_interpret.specs.declared.state.Here.{Here}
use Rattle.mv_interpret.specs.declared.state.State.{State}
use Rattle.mv_meaning.specs.declared.state.Lvalue.TheVariants as lvalue
use Rattle.mv_interpret.specs.declared.state.Halt.{Halt}
use Rattle.mv_interpret.specs.declared.state.Halt.TheVariants as halt
use Rattle.mv_meaning.specs.declared.state.Flow.{Flow}
use Rattle.mv_meaning.specs.Meaning.{Evaluation, Context, value_of, store_lvalue, put_values, size_of, clear_local}
use Rattle.mv_meaning.specs.Growth.{capped}
use Rattle.mv_interpret.specs.Runs.{totalled, world_of, IsOutcome}
use Rattle.mv_interpret.proofs.Steps.{went_on, stopped_there, totalled-after, counted_on}
use Rattle.mv_interpret.proofs.Turns.{after-none}

module _ (p : Program) (context : Context) (here : Here) (l : ℕ)
    (total : Outcome Frame Flow) (items : List Expr) (i : ℕ) (f : Frame) (s : State)
    (so_far : total ≡ totalled s.work (put_values l i (map (value_of p context) (drop i items)) f (world_of here s))) where
  rest : Evaluation Flow
  rest = put_values l (suc i) (map (value_of p context) (drop (i + 1) items))

  abbrev stored : ℕ → Evaluation Flow
  stored v = bind (store_lvalue (lvalue.Local l i) v) (λ x. put_values l (suc i) (map (value_of p context) (drop (i + 1) items)))

  stores_here : (e : Expr) → i < length items → e ≡ get_or items i e →
      total ≡ totalled s.work (bind (value_of p context e) stored f (world_of here s))
  stores_here e lt ee =
      so_far ∙
      ap (λ x. totalled s.work (put_values l i (map (value_of p context) x) f (world_of here s)))
      (drop_more items i e lt ∙ ap (λ x. x ∷ drop (i + 1) items) (sym ee))

  pub stores_step : (e : Expr) (v : ℕ) (f1 f2 : Frame) (s1 : State) → i < length items → e ≡ get_or items i e →
      IsOutcome s.work (value_of p context e f (world_of here s)) here (Ok v) f1 s1 →
      f2 ≡ record f1 { locals = with_word f1.locals l i v } →
      total ≡ totalled s1.work (put_values l (i + 1) (map (value_of p context) (drop (i + 1) items)) f2 (world_of here s1))
  stores_step e v f1 f2 s1 lt ee o ef =
      let next : ℕ → Evaluation Flow = λ j. put_values l j (map (value_of p context) (drop (i + 1) items)) in
      let f1' : Frame = record f1 { locals = with_word f1.locals l i v } in
      let j : suc i ≡ i + 1 = omega arith in
      stores_here e lt ee ∙
      (went_on s.work (value_of p context e f (world_of here s)) stored v f1 (world_of here s1) s1.work o.shown ∙
      (totalled-after s1.work 0 (next (suc i) f1' (world_of here s1)) ∙
      (after-none s1.work (next (suc i) f1' (world_of here s1)) ∙
      (ap (λ x. totalled s1.work (next x f1' (world_of here s1))) j ∙
      ap (λ x. totalled s1.work (next (i + 1) x (world_of here s1))) (sym ef)))))

  pub stores_fail : (e : Expr) (h : Halt) (before : ℕ) (o : Outcome Frame Flow) (f1 f2 : Frame) (s1 : State) → total ≡ totalled before o →
      i < length items → e ≡ get_or items i e →
      IsOutcome s.work (value_of p context e f (world_of here s)) here (Err h) f1 s1 → IsOutcome before o here (Err h) f2 s1
  stores_fail e (halt.Stopped why) before o f1 f2 s1 eo lt ee r =
      record { shown = sym eo ∙ (stores_here e lt ee ∙ stopped_there s.work (value_of p context e f (world_of here s)) stored why _ _ r.shown) }
  stores_fail e (halt.Memory m) before o f1 f2 s1 eo lt ee r = record { shown = tt }

-- a declaration, from its cleared words
pub cleared : (here : Here) (l : ℕ) (own : Bool) (es : List (Evaluation ℕ)) (f f1 f' : Frame) (s s1 s' : State) (n : ℕ) {r : Result Flow Halt} →
    n ≡ length es →
    f1 ≡ record f { locals = slice_set f.locals l (replicate (size_of f.locals l) 0) } →
    s1 ≡ record s { work = capped (s.work + (if own then size_of f.locals l else size_of f.locals l - n)) } →
    IsOutcome s1.work (put_values l 0 es f1 (world_of here s1)) here r f' s' →
    IsOutcome s.work (clear_local l own es f (world_of here s)) here r f' s'
cleared here l own es f f1 f' s s1 s' n {r = r} en ef e1 k =
    let f0 : Frame = record f { locals = slice_set f.locals l (replicate (size_of f.locals l) 0) } in
    let work : ℕ = if own then size_of f.locals l else size_of f.locals l - length es in
    let counts : s1 ≡ record s { work = capped (s.work + work) } =
    e1 ∙ ap (λ m. record s { work = capped (s.work + (if own then size_of f.locals l else size_of f.locals l - m)) }) en in
    counted_on here f0 s work (put_values l 0 es) counts
    (subst (λ x. IsOutcome s1.work (put_values l 0 es x (world_of here s1)) here r f' s') ef k)
