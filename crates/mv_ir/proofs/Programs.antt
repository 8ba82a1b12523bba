-- If each function of a program keeps its meaning, they do so together: at each bound, at no greater cost.
use Rattle.std.proofs.Common.{arith, ℕ, zero, suc, eqb, ltb, List, [], ◌∷◌, map, Option, Some, None, refl, sym, ◌∙◌, subst, ap}
use Rattle.std.specs.Prelude.{slice_get}
use Rattle.mv_ir.specs.declared.stm.Stm.{Stm}
use Rattle.mv_ir.specs.declared.stm.Stm.TheOpen.{Stm-F}
use Rattle.mv_ir.specs.declared.stm.Stm.TheOpen as stm
use Rattle.mv_ir.specs.declared.stm.Stm.TheFolds.{map-Stm}
use Rattle.mv_ir.specs.declared.body.Body.{Body}
use Rattle.mv_ir.specs.World.{World, Setting, Frame}
use Rattle.mv_ir.specs.Outcome.{State, Returned, Call, Bound, Meaning, in_order, block_end, block, loop}
use Rattle.mv_ir.specs.Meaning.{Goal, Nowhere, Null, At, Inside, call_end, made_call, within, call_to, statement, meaning, code_meaning, of_tree, body_end, entry_state, cleared, body_meaning}
use Rattle.mv_ir.specs.Keeps.{KeepsRun, KeepsCall}
use Rattle.mv_ir.specs.KeptPrograms.{KeepsFunction, KeepsFunctions, KeepsBound}
use Rattle.mv_ir.specs.Levels.{Code, called, levels, frame_of_call}
use Rattle.mv_ir.proofs.Induction.{Each, StmChildren, stm_ind, stms_ind}
use Rattle.mv_ir.proofs.Keeping.{run_refl, spend_keeps, then_keeps, turn_keeps, meaning_roll, either_keeps}

-- the same statement over callees that keep the meaning
abbrev pub IsMonotone : Meaning → Type 0
IsMonotone m = (b b' : Bound) → KeepsBound b b' → (s : State) → KeepsRun (m b s) (m b' s)

in_order_monotone : (ms : List Meaning) → Each IsMonotone ms → IsMonotone (in_order ms)
in_order_monotone [] h b b' k s = run_refl _
in_order_monotone (m ∷ ms) h b b' k s = then_keeps _ _ _ _ (h.0 b b' k s) (λ t. in_order_monotone ms h.1 b b' k t)

block_monotone : (m : Meaning) → IsMonotone m → IsMonotone (block m)
block_monotone m h b b' k s = record { same = ap block_end (h b b' k s).same; cheaper = (h b b' k s).cheaper }

loop_monotone : (m : Meaning) → IsMonotone m → IsMonotone (loop m)
loop_monotone m h [] [] k s = turn_keeps _ _ _ _ (h [] [] k s) (λ t. run_refl _)
loop_monotone m h [] (c' ∷ b') k s = absurd k
loop_monotone m h (c ∷ b) [] k s = absurd k
loop_monotone m h (c ∷ b) (c' ∷ b') k s = turn_keeps _ _ _ _ (h (c ∷ b) (c' ∷ b') k s) (loop_monotone m h b b' k.1)

within_keeps : (r : Option ℕ) (f : ℕ) (args : List ℕ) (depth live : ℕ) (s : State) (b b' : Bound) → KeepsBound b b' →
    KeepsRun (within b (λ calls. made_call r s (calls f args depth live s.world)) s) (within b' (λ calls. made_call r s (calls f args depth live s.world)) s)
within_keeps r f args depth live s [] [] k = run_refl _
within_keeps r f args depth live s [] (c' ∷ b') k = absurd k
within_keeps r f args depth live s (c ∷ b) [] k = absurd k
within_keeps r f args depth live s (c ∷ b) (c' ∷ b') k =
    let e = k.0 f args depth live s.world in
    record { same = ap (λ x. call_end r s x) e.same; cheaper = e.cheaper }

call_monotone : (g : Goal) (depth live : ℕ) (r : Option ℕ) (args : List ℕ) → IsMonotone (call_to g depth live r args)
call_monotone Nowhere depth live r args b b' k s = run_refl _
call_monotone Null depth live r args b b' k s = run_refl _
call_monotone Inside depth live r args b b' k s = either_keeps (ltb depth 512) _ _ _ _ (inside b b' k) (run_refl _)
  where
    nothing : Call
    nothing = record { cost = 0; end = Returned None s.world }

    inside : (b b' : Bound) → KeepsBound b b' → KeepsRun (within b (λ calls. made_call r s nothing) s) (within b' (λ calls. made_call r s nothing) s)
    inside [] [] k = run_refl _
    inside [] (c' ∷ b') k = absurd k
    inside (c ∷ b) [] k = absurd k
    inside (c ∷ b) (c' ∷ b') k = run_refl _
call_monotone (At f) depth live r args b b' k s = either_keeps (ltb depth 512) _ _ _ _ (within_keeps r f args depth live s b b' k) (run_refl _)

module _ (setting : Setting) (frame : Frame) where
  abbrev m : Stm → Meaning
  m = meaning setting frame

  each_map : (b : List Stm) → Each (λ s. IsMonotone (m s)) b → Each IsMonotone (map m b)
  each_map [] h = tt
  each_map (s ∷ b) h = (h.0, each_map b h.1)

  layer_monotone : (x : Stm-F Stm) → StmChildren (λ s. IsMonotone (m s)) x → IsMonotone (statement setting frame (map-Stm Stm Meaning m x))
  layer_monotone (stm.Set t v) h b b' k s = run_refl _
  layer_monotone (stm.SetGlobal g v) h b b' k s = run_refl _
  layer_monotone (stm.Divide t o x y) h b b' k s = run_refl _
  layer_monotone (stm.Check a i) h b b' k s = run_refl _
  layer_monotone (stm.Read t a i) h b b' k s = run_refl _
  layer_monotone (stm.Write a i v) h b b' k s = run_refl _
  layer_monotone (stm.Zero l) h b b' k s = run_refl _
  layer_monotone (stm.If t x y) h b b' k s =
      spend_keeps _ _ _ _ (omega arith) (either_keeps (eqb (of_tree setting frame t s) 0) _ _ _ _ (in_order_monotone (map m y) (each_map y h.1) b b' k s) (in_order_monotone (map m x) (each_map x h.0) b b' k s))
  layer_monotone (stm.Loop x) h b b' k s = loop_monotone (in_order (map m x)) (in_order_monotone (map m x) (each_map x h)) b b' k s
  layer_monotone (stm.Block x) h b b' k s = block_monotone (in_order (map m x)) (in_order_monotone (map m x) (each_map x h)) b b' k s
  layer_monotone (stm.Break n) h b b' k s = run_refl _
  layer_monotone (stm.Back n) h b b' k s = run_refl _
  layer_monotone (stm.Call r f args) h b b' k s = spend_keeps _ _ _ _ (omega arith) (call_monotone _ frame.depth frame.live r _ b b' k s)
  layer_monotone (stm.Known r f args) h b b' k s = run_refl _
  layer_monotone (stm.Return v) h b b' k s = run_refl _

  pub stm_monotone : (s : Stm) → IsMonotone (m s)
  stm_monotone = stm_ind (λ s. IsMonotone (m s)) (λ x h. subst IsMonotone (sym (meaning_roll setting frame x)) (layer_monotone x h))

  pub code_monotone : (code : List Stm) → IsMonotone (code_meaning setting frame code)
  code_monotone code = in_order_monotone (map m code) (each_map code (stms_ind (λ s. IsMonotone (m s)) stm_monotone code))

-- ---- programs

abbrev pub KeepsFound : Option Code → Option Code → Type 0
KeepsFound None None = Unit {0}
KeepsFound None (Some c') = ⊥
KeepsFound (Some c) None = ⊥
KeepsFound (Some c) (Some c') = KeepsFunction c c'

pub found_keeps : (p p' : List Code) (f : ℕ) → KeepsFunctions p p' → KeepsFound (slice_get p f) (slice_get p' f)
found_keeps [] [] f h = tt
found_keeps [] (c' ∷ p') f h = absurd h
found_keeps (c ∷ p) [] f h = absurd h
found_keeps (c ∷ p) (c' ∷ p') zero h = h.0
found_keeps (c ∷ p) (c' ∷ p') (suc f) h = found_keeps p p' f h.1

pub call_trans : (a b c : Call) → KeepsCall a b → KeepsCall b c → KeepsCall a c
call_trans a b c h k = record { same = h.same ∙ k.same; cheaper = omega (arith, h.cheaper, k.cheaper) }

pub body_monotone : (setting : Setting) (frame : Frame) (x : Body) (args : List ℕ) (b b' : Bound) (w : World) → KeepsBound b b' → KeepsCall (body_meaning setting frame x args b w) (body_meaning setting frame x args b' w)
body_monotone setting frame x args b b' w k =
    let r = code_monotone setting frame x.code b b' k (entry_state cleared x args w) in
    record { same = ap body_end r.same; cheaper = r.cheaper }

called_keeps : (setting : Setting) (o o' : Option Code) → KeepsFound o o' → (b b' : Bound) → KeepsBound b b' →
    (args : List ℕ) (depth live : ℕ) (w : World) → KeepsCall (called setting o b args depth live w) (called setting o' b' args depth live w)
called_keeps setting None None h b b' k args depth live w = record { same = refl; cheaper = omega arith }
called_keeps setting None (Some c') h b b' k args depth live w = absurd h
called_keeps setting (Some c) None h b b' k args depth live w = absurd h
called_keeps setting (Some c) (Some c') h b b' k args depth live w =
    let frame = ap (λ a. frame_of_call a c.body.switches depth live w) h.attributed ∙ ap (λ l. frame_of_call c'.attributed l depth live w) h.switches in
    let first = body_monotone setting (frame_of_call c.attributed c.body.switches depth live w) c.body args b b' w k in
    let second = h.meaning setting (frame_of_call c.attributed c.body.switches depth live w) cleared args b' w in
    call_trans _ _ _ first (subst (λ f. KeepsCall (body_meaning setting (frame_of_call c.attributed c.body.switches depth live w) c.body args b' w) (body_meaning setting f c'.body args b' w)) frame second)

pub levels_keep : (setting : Setting) (p p' : List Code) → KeepsFunctions p p' → (k : ℕ) → KeepsBound (levels setting p k) (levels setting p' k)
levels_keep setting p p' h zero = tt
levels_keep setting p p' h (suc k) =
    let below = levels_keep setting p p' h k in
    ((λ f args depth live w. called_keeps setting (slice_get p f) (slice_get p' f) (found_keeps p p' f h) (levels setting p k) (levels setting p' k) below args depth live w), below)
