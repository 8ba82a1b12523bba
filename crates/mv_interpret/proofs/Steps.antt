-- How the totals of outcomes go together.
use Rattle.std.proofs.Common.{◌≡◌, ℕ, ◌+◌, ◌-◌, ◌^◌, ◌≤◌, arith, refl, sym, ◌∙◌, ap, subst, nat_eq, nat_lt, ◌<◌, Bool, true, false, if◌then◌else◌, List, [], length, drop, Option, Some, None, Result, Ok, Err}
use Rattle.std.proofs.lemmas.List.{drop_all}
use Rattle.mv_num.specs.Words.{add, sub}
use Rattle.mv_ast.specs.declared.program.CType.{CType}
use Rattle.mv_ast.specs.declared.program.Program.{Program}
use Rattle.mv_bindings.specs.declared.stop.Stop.{Stop}
use Rattle.mv_bindings.specs.declared.stop.Stop.TheVariants.{Trapped}
use Rattle.mv_ast.specs.Worlds.{World, Outcome, Came, Stopped, after, and_then, bind, give, stop, counted}
use Rattle.mv_meaning.specs.declared.state.Frame.{Frame}
use Rattle.mv_interpret.specs.declared.state.Here.{Here}
use Rattle.mv_interpret.specs.declared.state.State.{State}
use Rattle.mv_interpret.specs.declared.state.Halt.{Halt}
use Rattle.mv_interpret.specs.declared.state.Halt.TheVariants as halt
use Rattle.mv_meaning.specs.declared.state.Flow.{Flow}
use Rattle.mv_meaning.specs.declared.state.Flow.TheVariants.{Goes}
use Rattle.mv_meaning.specs.declared.state.Lvalue.{Lvalue}
use Rattle.mv_meaning.specs.declared.state.Lvalue.TheVariants as lvalue
use Rattle.mv_ast.specs.Switches.{with_word}
use Rattle.mv_ast.specs.Operators.{converted, binary_value}
use Rattle.mv_meaning.specs.Meaning.{Evaluation, unless_zero, truth_of, read_lvalue, store_lvalue, value_in, value_or_trap, element_below}
use Rattle.mv_meaning.specs.Growth.{capped}
use Rattle.mv_interpret.specs.Runs.{totalled, world_of, Shows, IsOutcome, stored_globals, stored_locals}

-- the cap of a sum of which a part is capped
pub capped_sum : (a b c : ℕ) → capped (a + (b + c)) ≡ capped (capped (a + b) + c)
capped_sum a b c = omega arith

pub totalled-after : {A : Type 0} (before n : ℕ) (o : Outcome Frame A) → totalled before (after n o) ≡ totalled (capped (before + n)) o
totalled-after before n (Came v f w m) = ap (Came v f w) (capped_sum before n m)
totalled-after before n (Stopped s w m) = ap (Stopped s w) (capped_sum before n m)

-- a value that was come to, and what goes on from it
pub went_on : {A B : Type 0} (before : ℕ) (o : Outcome Frame A) (next : A → Evaluation B) (v : A) (f : Frame) (w : World) (n : ℕ) →
    totalled before o ≡ Came v f w n → totalled before (and_then o next) ≡ totalled n (next v f w)
went_on before (Came v' f' w' m) next v f w n e =
    let ev : v' ≡ v = cc in
    let ef : f' ≡ f = cc in
    let ew : w' ≡ w = cc in
    let en : capped (before + m) ≡ n = cc in
    totalled-after before m (next v' f' w') ∙ cc
went_on before (Stopped s w' m) next v f w n e = cc

-- a stop, whatever would go on
pub stopped_there : {A B : Type 0} (before : ℕ) (o : Outcome Frame A) (next : A → Evaluation B) (s : Stop) (w : World) (n : ℕ) →
    totalled before o ≡ Stopped s w n → totalled before (and_then o next) ≡ Stopped s w n
stopped_there before (Came v' f' w' m) next s w n e = cc
stopped_there before (Stopped s' w' m) next s w n e =
    let es : s' ≡ s = cc in
    let ew : w' ≡ w = cc in
    let en : capped (before + m) ≡ n = cc in
    cc

-- ---- steps towards an outcome

pub within : {A : Type 0} (before : ℕ) (o : Outcome Frame A) (v : A) (f : Frame) (w : World) (n : ℕ) →
    totalled before o ≡ Came v f w n → n ≤ 2 ^ 64 - 1
within before (Came v' f' w' m) v f w n e =
    let en : capped (before + m) ≡ n = cc in
    omega arith
within before (Stopped s w' m) v f w n e = cc

-- of parts that are done one after the other none is left
pub all_done : {X : Type 0} (run : List X → Evaluation Flow) (here : Here) (total : Outcome Frame Flow) (items : List X) (i : ℕ) (f : Frame) (s : State) →
    total ≡ totalled s.work (run (drop i items) f (world_of here s)) → run [] f (world_of here s) ≡ give Goes f (world_of here s) →
    (before : ℕ) (o : Outcome Frame Flow) → total ≡ totalled before o → length items ≤ i → s.work ≤ 2 ^ 64 - 1 → IsOutcome before o here (Ok Goes) f s
all_done run here total items i f s so_far ends before o eo ge le =
    let e : capped (s.work + 0) ≡ s.work = omega arith in
    record {
      shown =
          sym eo ∙ (so_far ∙ (ap (λ l. totalled s.work (run l f (world_of here s))) (drop_all i items ge) ∙
          (ap (totalled s.work) ends ∙ ap (Came Goes f (world_of here s)) e)));
    }

module _ {A B : Type 0} (o : Outcome Frame A) (next : A → Evaluation B) where
  -- an evaluation came to a value, and the next one goes on from it
  pub on : {before : ℕ} {here : Here} {v : A} {f : Frame} {s : State} {r : Result B Halt} {f' : Frame} {s' : State} →
      IsOutcome before o here (Ok v) f s →
      (s.work ≤ 2 ^ 64 - 1 → IsOutcome s.work (next v f (world_of here s)) here r f' s') →
      IsOutcome before (and_then o next) here r f' s'
  on {before = before} {here = here} {v = v} {f = f} {s = s} {r = r} {f' = f'} {s' = s'} e k =
      let P : Outcome Frame B → Type 0 = λ x. Shows x here r f' s' in
      record { shown = subst P (sym (went_on before o next v f (world_of here s) s.work e.shown)) (k (within before o v f _ _ e.shown)).shown }

  -- an evaluation came to no value
  pub failed : {before : ℕ} {here : Here} (h : Halt) {f : Frame} {s : State} {f' : Frame} →
      IsOutcome before o here (Err h) f s → IsOutcome before (and_then o next) here (Err h) f' s
  failed {before = before} (halt.Stopped why) e = record { shown = stopped_there before o next why _ _ e.shown }
  failed (halt.Memory m) e = record { shown = tt }

module _ {A : Type 0} where
  -- a value without further work
  pub gave : {here : Here} {v : A} {f : Frame} {s : State} → s.work ≤ 2 ^ 64 - 1 →
      IsOutcome s.work (Came v f (world_of here s) 0) here (Ok v) f s
  gave {here = here} {v = v} {f = f} {s = s} le =
      let e : capped (s.work + 0) ≡ s.work = omega arith in
      record { shown = ap (Came v f (world_of here s)) e }

  -- a stop without further work
  pub halted : {here : Here} {why : Stop} {f : Frame} {s : State} → s.work ≤ 2 ^ 64 - 1 →
      IsOutcome {A = A} s.work (Stopped why (world_of here s) 0) here (Err (halt.Stopped why)) f s
  halted {here = here} {why = why} {f = f} {s = s} le =
      let e : capped (s.work + 0) ≡ s.work = omega arith in
      record { shown = ap (λ n. Stopped why (world_of here s) n) e }

  -- a node was counted, and its evaluation goes on
  pub begun : (here : Here) (f : Frame) (s : State) (d' : Evaluation A) {d : Evaluation A} {s1 : State} {r : Result A Halt} {f' : Frame} {s' : State} →
      d ≡ counted 1 d' → s1 ≡ record s { work = capped (s.work + 1) } →
      (s1.work ≤ 2 ^ 64 - 1 → IsOutcome s1.work (d' f (world_of here s1)) here r f' s') →
      IsOutcome s.work (d f (world_of here s)) here r f' s'
  begun here f s d' {d = d} {s1 = s1} {r = r} {f' = f'} {s' = s'} e es k =
      let P : Outcome Frame A → Type 0 = λ x. Shows x here r f' s' in
      let Q : State → Type 0 = λ x. Shows (totalled x.work (d' f (world_of here x))) here r f' s' in
      let le : s1.work ≤ 2 ^ 64 - 1 = rw es (omega arith) in
      record {
        shown = subst P
            (sym (ap (λ g. totalled s.work (g f (world_of here s))) e ∙ totalled-after s.work 1 (d' f (world_of here s))))
            (subst Q es (k le).shown);
      }

module _ {A : Type 0} where
  -- the same by an equation of what is done
  pub reached : (here : Here) (f : Frame) (s : State) (d' : Evaluation A) {d : Evaluation A} {n : ℕ} {r : Result A Halt} {f' : Frame} {s' : State} →
      d ≡ d' → IsOutcome n (d' f (world_of here s)) here r f' s' → IsOutcome n (d f (world_of here s)) here r f' s'
  reached here f s d' {n = n} {r = r} {f' = f'} {s' = s'} e k =
      subst (λ g. IsOutcome n (g f (world_of here s)) here r f' s') (sym e) k

-- an index in range, and one that is not
pub in_range : (here : Here) (size i : ℕ) (lvalue_at : ℕ → Lvalue) (f : Frame) (s : State) → s.work ≤ 2 ^ 64 - 1 → i < size →
    IsOutcome s.work (element_below size i lvalue_at f (world_of here s)) here (Ok (lvalue_at i)) f s
in_range here size i lvalue_at f s le lt =
    let e : nat_lt i size ≡ true = grind arith in
    let P : Bool → Type 0 = λ x. IsOutcome s.work ((if x then give (lvalue_at i) else stop (Trapped 2)) f (world_of here s)) here (Ok (lvalue_at i)) f s in
    subst P (sym e) (gave le)

pub out_of_range : (here : Here) (size i : ℕ) (lvalue_at : ℕ → Lvalue) (f : Frame) (s : State) → s.work ≤ 2 ^ 64 - 1 → size ≤ i →
    IsOutcome s.work (element_below size i lvalue_at f (world_of here s)) here (Err (halt.Stopped (Trapped 2))) f s
out_of_range here size i lvalue_at f s le ge =
    let e : nat_lt i size ≡ false = grind arith in
    let P : Bool → Type 0 = λ x. IsOutcome s.work ((if x then give (lvalue_at i) else stop (Trapped 2)) f (world_of here s)) here (Err (halt.Stopped (Trapped 2))) f s in
    subst P (sym e) (halted le)

module _ {A B : Type 0} where
  -- a value that costs no work, and what goes on from it
  pub purely : (next : A → Evaluation B) {v : A} {f : Frame} {w : World} {n : ℕ} {here : Here} {r : Result B Halt} {f' : Frame} {s' : State} →
      n ≤ 2 ^ 64 - 1 → IsOutcome n (next v f w) here r f' s' → IsOutcome n (and_then (Came v f w 0) next) here r f' s'
  purely next {v = v} {f = f} {w = w} {n = n} {here = here} {r = r} {f' = f'} {s' = s'} le k =
      let P : Outcome Frame B → Type 0 = λ x. Shows x here r f' s' in
      let e : capped (n + 0) ≡ n = omega arith in
      record { shown = subst P (sym (totalled-after n 0 (next v f w) ∙ ap (λ m. totalled m (next v f w)) e)) k.shown }

pub not_zero : (v : ℕ) → (v ≡ 0 → ⊥) → nat_eq v 0 ≡ false
not_zero v ne = grind arith

module _ {A : Type 0} (a b : Evaluation A) where
  pub zero_way : {v : ℕ} {f : Frame} {w : World} {n : ℕ} {here : Here} {r : Result A Halt} {f' : Frame} {s' : State} →
      v ≡ 0 → IsOutcome n (a f w) here r f' s' → IsOutcome n (unless_zero v a b f w) here r f' s'
  zero_way {f = f} {w = w} {n = n} {here = here} {r = r} {f' = f'} {s' = s'} e k =
      let P : ℕ → Type 0 = λ x. IsOutcome n (unless_zero x a b f w) here r f' s' in
      subst P (sym e) k

  pub other_way : {v : ℕ} {f : Frame} {w : World} {n : ℕ} {here : Here} {r : Result A Halt} {f' : Frame} {s' : State} →
      (v ≡ 0 → ⊥) → IsOutcome n (b f w) here r f' s' → IsOutcome n (unless_zero v a b f w) here r f' s'
  other_way {v = v} {f = f} {w = w} {n = n} {here = here} {r = r} {f' = f'} {s' = s'} ne k =
      let e : nat_eq v 0 ≡ false = not_zero v ne in
      let P : Bool → Type 0 = λ x. IsOutcome n ((if x then a else b) f w) here r f' s' in
      subst P (sym e) k

pub truth-zero : (v : ℕ) → v ≡ 0 → truth_of v ≡ 0
truth-zero v e = rw e refl

pub truth-one : (v : ℕ) → (v ≡ 0 → ⊥) → truth_of v ≡ 1
truth-one v ne = rw (not_zero v ne) refl

-- a store
pub stored_in : (here : Here) (lvalue : Lvalue) (v : ℕ) (f : Frame) (s : State) → s.work ≤ 2 ^ 64 - 1 →
    IsOutcome s.work (store_lvalue lvalue v f (world_of here s)) here (Ok v)
    (record f { locals = stored_locals lvalue v f.locals }) (record s { globals = stored_globals lvalue v s.globals })
stored_in here (lvalue.Global g i) v f s le =
    let e : capped (s.work + 0) ≡ s.work = omega arith in
    record { shown = ap (Came v f (world_of here (record s { globals = with_word s.globals g i v }))) e }
stored_in here (lvalue.Local l i) v f s le =
    let e : capped (s.work + 0) ≡ s.work = omega arith in
    record { shown = ap (Came v (record f { locals = with_word f.locals l i v }) (world_of here s)) e }

-- ---- what follows the target and the value of a change

module _ (p : Program) (here : Here) (lvalue : Lvalue) (f : Frame) (s : State) (le : s.work ≤ 2 ^ 64 - 1) where
  pub changed : (op : ℕ) (kind t : CType) (v old new stored : ℕ) →
      old ≡ value_in p lvalue f (world_of here s) → Some new ≡ binary_value op kind old v → stored ≡ converted t new →
      IsOutcome s.work
      (bind (read_lvalue p lvalue) (λ x. bind (value_or_trap (binary_value op kind x v)) (λ y. store_lvalue lvalue (converted t y))) f (world_of here s))
      here (Ok stored) (record f { locals = stored_locals lvalue stored f.locals }) (record s { globals = stored_globals lvalue stored s.globals })
  changed op kind t v old new stored eo en es =
      let P : Option ℕ → Type 0 = λ o. IsOutcome s.work (bind (value_or_trap o) (λ y. store_lvalue lvalue (converted t y)) f (world_of here s))
      here (Ok stored) (record f { locals = stored_locals lvalue stored f.locals }) (record s { globals = stored_globals lvalue stored s.globals }) in
      let Q : ℕ → Type 0 = λ x. IsOutcome s.work (store_lvalue lvalue x f (world_of here s))
      here (Ok stored) (record f { locals = stored_locals lvalue stored f.locals }) (record s { globals = stored_globals lvalue stored s.globals }) in
      let e : Some new ≡ binary_value op kind (value_in p lvalue f (world_of here s)) v = en ∙ ap (λ x. binary_value op kind x v) eo in
      purely (λ x. bind (value_or_trap (binary_value op kind x v)) (λ y. store_lvalue lvalue (converted t y))) le
      (subst P e (purely (λ y. store_lvalue lvalue (converted t y)) le (subst Q es (stored_in here lvalue stored f s le))))

  pub unchanged : (op : ℕ) (kind t : CType) (v old : ℕ) →
      old ≡ value_in p lvalue f (world_of here s) → None ≡ binary_value op kind old v →
      IsOutcome s.work
      (bind (read_lvalue p lvalue) (λ x. bind (value_or_trap (binary_value op kind x v)) (λ y. store_lvalue lvalue (converted t y))) f (world_of here s))
      here (Err (halt.Stopped (Trapped 1))) f s
  unchanged op kind t v old eo en =
      let P : Option ℕ → Type 0 = λ o. IsOutcome s.work (bind (value_or_trap o) (λ y. store_lvalue lvalue (converted t y)) f (world_of here s))
      here (Err (halt.Stopped (Trapped 1))) f s in
      let e : None ≡ binary_value op kind (value_in p lvalue f (world_of here s)) v = en ∙ ap (λ x. binary_value op kind x v) eo in
      purely (λ x. bind (value_or_trap (binary_value op kind x v)) (λ y. store_lvalue lvalue (converted t y))) le (subst P e (halted le))

  pub stepped_after : (up : Bool) (t : CType) (old new stored : ℕ) →
      old ≡ value_in p lvalue f (world_of here s) → new ≡ (if up then add old 1 else sub old 1) → stored ≡ converted t new →
      IsOutcome s.work
      (bind (read_lvalue p lvalue) (λ x. bind (store_lvalue lvalue (converted t (if up then add x 1 else sub x 1))) (λ y. give x)) f (world_of here s))
      here (Ok old) (record f { locals = stored_locals lvalue stored f.locals }) (record s { globals = stored_globals lvalue stored s.globals })
  stepped_after up t old new stored eo en es =
      let Q : ℕ → ℕ → Type 0 = λ x y. IsOutcome s.work (bind (store_lvalue lvalue y) (λ z. give x) f (world_of here s))
      here (Ok old) (record f { locals = stored_locals lvalue stored f.locals }) (record s { globals = stored_globals lvalue stored s.globals }) in
      let now : ℕ = value_in p lvalue f (world_of here s) in
      let e : stored ≡ converted t (if up then add now 1 else sub now 1) =
      es ∙ ap (converted t) (en ∙ ap (λ x. if up then add x 1 else sub x 1) eo) in
      purely (λ x. bind (store_lvalue lvalue (converted t (if up then add x 1 else sub x 1))) (λ y. give x)) le
      (subst (λ x. Q x (converted t (if up then add now 1 else sub now 1))) eo
      (subst (Q old) e (on (store_lvalue lvalue stored f (world_of here s)) (λ z. give old) (stored_in here lvalue stored f s le) (λ le2. gave le2))))

-- some work is counted, and the evaluation goes on
pub counted_on : {A : Type 0} (here : Here) (f : Frame) (s : State) (n : ℕ) (d : Evaluation A) {s1 : State} {r : Result A Halt} {f' : Frame} {s' : State} →
    s1 ≡ record s { work = capped (s.work + n) } →
    IsOutcome s1.work (d f (world_of here s1)) here r f' s' →
    IsOutcome s.work (counted n d f (world_of here s)) here r f' s'
counted_on {A = A} here f s n d {s1 = s1} {r = r} {f' = f'} {s' = s'} es k =
    let P : Outcome Frame A → Type 0 = λ x. Shows x here r f' s' in
    let Q : State → Type 0 = λ x. Shows (totalled x.work (d f (world_of here x))) here r f' s' in
    record { shown = subst P (sym (totalled-after s.work n (d f (world_of here s)))) (subst Q es k.shown) }
