-- Well-typed programs mean the same under two numberings, and bind pointer switches to functions of their types.
use Rattle.std.proofs.Common.{◌≡◌, ℕ, Bool, zero, suc, ◌+◌, ◌<◌, ◌%◌, inl, inr, List, [], ◌∷◌, ◌++◌, map, take, drop, length, replicate, get_or, refl, sym, ◌∙◌, ap, subst, arith, Some, slice_get}
use Rattle.std.specs.Prelude.{All, IsTrue, slice_index, unwrap_or}
use Rattle.std.proofs.lemmas.List.Elements.{All-nil}
use Rattle.std.proofs.lemmas.Option.{slice_get_within, unwrap_or-slice_get, slice_get-get_or}
use Rattle.mv_ast.specs.declared.program.CType.{CType}
use Rattle.mv_ast.specs.declared.program.CType.TheVariants.{Void, Scalar, Pointer}
use Rattle.mv_ast.specs.declared.program.Program.{Program}
use Rattle.mv_ast.specs.declared.program.Global.{Global}
use Rattle.mv_ast.specs.declared.program.Local.{Local}
use Rattle.mv_ast.specs.declared.program.Function.{Function}
use Rattle.mv_bindings.specs.declared.stop.Stop.TheVariants.{Unfinished}
use Rattle.mv_ast.specs.Actions.{act_fits}
use Rattle.mv_ast.specs.Counts.{words_of_size}
use Rattle.mv_ast.specs.Numbering.{own_numbers, numbers_from}
use Rattle.mv_ast.specs.Worlds.{World, Outcome, Came, Stopped}
use Rattle.mv_bindings.specs.Acts.{Act}
use Rattle.mv_meaning.specs.declared.state.Frame.{Frame}
use Rattle.mv_meaning.specs.declared.state.Flow.{Flow}
use Rattle.mv_meaning.specs.declared.state.Flow.TheVariants.{Goes, Breaks, Continues, Returns}
use Rattle.mv_meaning.specs.declared.meant.End.TheVariants.{Exit}
use Rattle.mv_ast.specs.Starts.{first_words, first_world, renumbered, renumbered_at, first_words_under, first_world_under}
use Rattle.mv_meaning.specs.Meaning.{Context, returned_value, frame_of, deeper, popped, back_in, call_of, flow_of_all, Evaluation, context_at, context_with, end_of_stop, meant_by, meaning_of, run_of_main, hart_mean}
use Rattle.mv_meaning_numbering.specs.Laws.{IsTypedEvent}
use Rattle.mv_meaning_numbering.specs.Numberings.{Admits, meaning_in, meaning_under}
use Rattle.mv_source_forms.specs.Typing.{IsInteger, IsTypedFunction, IsFirstValue, local_types, parameter_types}
use Rattle.mv_meaning_numbering.proofs.Numbers.{Distinguishes}
use Rattle.mv_meaning_numbering.proofs.Alike.{Setting, Same, SameWords, SameObjects, SameValues, same_null, same_integer, words_null}
use Rattle.mv_meaning_numbering.proofs.Outcomes.{SameWorld, SameFrame, AlikeOutcome, Alike, alike_stop}
use Rattle.mv_meaning_numbering.proofs.Pointers.{free_typed}
use Rattle.mv_meaning_numbering.proofs.Switches.{all_got}
use Rattle.mv_meaning_numbering.proofs.Calls.{SameContext, SameFlow}
use Rattle.mv_meaning_numbering.proofs.Statements.{alike_stmt, alike_body}
use Rattle.mv_num.proofs.Lists.{all_tail, all_head}

module _ (x : Setting) where
  -- ---- calls

  zeros_alike : (ls : List Local) →
      SameObjects x (map (λ (l : Local). l.ctype) ls) (map (λ (l : Local). replicate (words_of_size l.size) 0) ls) (map (λ (l : Local). replicate (words_of_size l.size) 0) ls)
  zeros_alike [] = tt
  zeros_alike (l ∷ ls) = (words_null x l.ctype (words_of_size l.size), zeros_alike ls)

  entry_alike : (ls : List Local) (n : ℕ) (vs us : List ℕ) → SameValues x (map (λ (l : Local). l.ctype) (take n ls)) vs us →
      SameObjects x (map (λ (l : Local). l.ctype) ls)
      (map (λ (v : ℕ). v ∷ []) vs ++ map (λ (l : Local). replicate (words_of_size l.size) 0) (drop n ls))
      (map (λ (v : ℕ). v ∷ []) us ++ map (λ (l : Local). replicate (words_of_size l.size) 0) (drop n ls))
  entry_alike ls zero [] [] h = zeros_alike ls
  entry_alike ls zero [] (u ∷ us) h = absurd h
  entry_alike ls zero (v ∷ vs) us h = absurd h
  entry_alike [] (suc n) [] [] h = tt
  entry_alike [] (suc n) [] (u ∷ us) h = absurd h
  entry_alike [] (suc n) (v ∷ vs) us h = absurd h
  entry_alike (l ∷ ls) (suc n) (v ∷ vs) (u ∷ us) h = ((h.0, tt), entry_alike ls n vs us h.1)
  entry_alike (l ∷ ls) (suc n) [] us h = absurd h
  entry_alike (l ∷ ls) (suc n) (v ∷ vs) [] h = absurd h

  frames_alike : (n : ℕ) (g : Function) (vs us : List ℕ) → SameValues x (parameter_types g) vs us → SameFrame x (local_types g) (frame_of n g vs) (frame_of n g us)
  frames_alike n g vs us h = record { locals = entry_alike g.locals g.params vs us h; function = refl }

  deeper_alike : (g : Function) (w v : World) → SameWorld x w v → SameWorld x (deeper g w) (deeper g v)
  deeper_alike g w v h = record { globals = h.globals; others = ap (deeper g) h.others; actions = h.actions; pointers = h.pointers }

  popped_alike : (w v left after : World) → SameWorld x w v → SameWorld x left after → SameWorld x (popped w left) (popped v after)
  popped_alike w v left after h k = record {
    globals = k.globals;
    others = ap (λ (z : World). popped z after) h.others ∙ ap (λ (z : World). popped w z) k.others;
    actions = k.actions;
    pointers = k.pointers;
  }

  returned_alike : (t : CType) (a b : Flow) → SameFlow x t a b → Same x t (returned_value a) (returned_value b)
  returned_alike t Goes Goes h = same_null x t
  returned_alike t Breaks Breaks h = same_null x t
  returned_alike t Continues Continues h = same_null x t
  returned_alike t (Returns v) (Returns u) h = h
  returned_alike t _ _ h = absurd h

  back_alike : (ts us : List CType) (t : CType) (f g : Frame) (w v : World) (o q : Outcome Frame Flow) → SameFrame x ts f g → SameWorld x w v →
      AlikeOutcome x us Flow (SameFlow x t) o q → AlikeOutcome x ts ℕ (Same x t) (back_in f w o) (back_in g v q)
  back_alike ts us t f g w v (Came a f' w' n) (Came b g' v' m) hf hw h =
      record { value = returned_alike t a b h.value; frame = hf; world = popped_alike w v w' v' hw h.world; work = h.work }
  back_alike ts us t f g w v (Stopped s w' n) (Stopped s' v' m) hf hw h =
      record { why = h.why; world = popped_alike w v w' v' hw h.world; work = h.work }
  back_alike ts us t f g w v (Came a f' w' n) (Stopped s' v' m) hf hw h = absurd h
  back_alike ts us t f g w v (Stopped s w' n) (Came b g' v' m) hf hw h = absurd h

  call_alike : (c d : Context) → SameContext x c d → (ts : List CType) (n : ℕ) (g : Function) (vs us : List ℕ) → slice_get x.program.functions n ≡ Some g →
      SameValues x (parameter_types g) vs us →
      Alike x ts (Same x g.result) (call_of x.program c n (slice_get x.program.functions n) vs) (call_of x.program d n (slice_get x.program.functions n) us)
  call_alike c d same ts n g vs us e h =
      let typed : IsTypedFunction x.program g = all_got (IsTypedFunction x.program) x.program.functions n g x.typed.functions e in
      subst (λ o. Alike x ts (Same x g.result) (call_of x.program c n o vs) (call_of x.program d n o us)) (sym e)
      (λ f f' w v hf hw.
      back_alike ts (local_types g) g.result f f' w v (flow_of_all x.program c g.body (frame_of n g vs) (deeper g w)) (flow_of_all x.program d g.body (frame_of n g us) (deeper g v)) hf hw
      (alike_body x c d same g g.body typed.body (frame_of n g vs) (frame_of n g us) (deeper g w) (deeper g v) (frames_alike n g vs us h) (deeper_alike g w v hw)))

  -- ---- at each bound

  pub contexts_alike : (l m : CType → ℕ → ℕ → Bool) (stray other : Evaluation ℕ) → Admits x.program l → Admits x.program m → (k : ℕ) →
      SameContext x (context_with x.program x.ns l stray k) (context_with x.program x.ms m other k)
  contexts_alike l m stray other admits too zero = record {
    left = refl;
    right = refl;
    left_lets = admits;
    right_lets = too;
    calls = λ ts n g vs us e h. alike_stop x ts (Same x g.result) Unfinished;
    loops = λ g s h. alike_stop x (local_types g) (SameFlow x g.result) Unfinished;
  }
  contexts_alike l m stray other admits too (suc k) =
      let c = context_with x.program x.ns l stray k in
      let d = context_with x.program x.ms m other k in
      let same = contexts_alike l m stray other admits too k in
      record {
        left = refl;
        right = refl;
        left_lets = admits;
        right_lets = too;
        calls = λ ts n g vs us e h. call_alike c d same ts n g vs us e h;
        loops = λ g s h. alike_stmt x c d same g s h;
      }

  -- ---- the first world

  first_function : (ns : List ℕ) (f : ℕ) → Distinguishes x.program ns → f < length x.program.functions → renumbered ns (suc f) ≡ slice_index ns f
  first_function ns f h lt =
      let count = h.count in
      ap (λ o. unwrap_or o (suc f)) (slice_get-get_or ns f 0 (omega (arith, count)))

  first_alike : (t : CType) (v : ℕ) → IsFirstValue x.program t v → Same x t (renumbered_at t x.ns v) (renumbered_at t x.ms v)
  first_alike Void v h = refl
  first_alike (Scalar kind) v h = refl
  first_alike (Pointer s) v (inl h) = subst (λ n. Same x (Pointer s) (renumbered x.ns n) (renumbered x.ms n)) (sym h) (inl (refl, refl))
  first_alike (Pointer s) v (inr h) =
      let within = slice_get_within x.program.functions h.0 h.2.function h.2.defined in
      subst (λ n. Same x (Pointer s) (renumbered x.ns n) (renumbered x.ms n)) (sym h.1)
      (inr (h.0, h.2, first_function x.ns h.0 x.left within, first_function x.ms h.0 x.right within))

  null_alike : (t : CType) → Same x t (renumbered_at t x.ns 0) (renumbered_at t x.ms 0)
  null_alike Void = refl
  null_alike (Scalar kind) = refl
  null_alike (Pointer s) = inl (refl, refl)

  first_words_alike : (t : CType) (vs : List ℕ) (n : ℕ) → All (IsFirstValue x.program t) vs →
      SameWords x t (map (renumbered_at t x.ns) (vs ++ replicate n 0)) (map (renumbered_at t x.ms) (vs ++ replicate n 0))
  first_words_alike t [] zero h = tt
  first_words_alike t [] (suc n) h = (null_alike t, first_words_alike t [] n h)
  first_words_alike t (v ∷ vs) n h =
      (first_alike t v (all_head (IsFirstValue x.program t) v vs h), first_words_alike t vs n (all_tail (IsFirstValue x.program t) v vs h))

  globals_alike : (gs : List Global) → All (λ (g : Global). All (IsFirstValue x.program g.ctype) g.first) gs →
      SameObjects x (map (λ (g : Global). g.ctype) gs) (map (first_words_under x.ns) gs) (map (first_words_under x.ms) gs)
  globals_alike [] h = tt
  globals_alike (g ∷ gs) h = (
    first_words_alike g.ctype g.first _ (all_head (λ (g : Global). All (IsFirstValue x.program g.ctype) g.first) g gs h),
    globals_alike gs (all_tail (λ (g : Global). All (IsFirstValue x.program g.ctype) g.first) g gs h),
  )

  module _ (hart : ℕ) (input : List ℕ) (actions : List Act) (fit : All (λ a. IsTrue (act_fits x.program hart a)) actions) where
    starts_alike : SameWorld x (first_world_under x.program x.ns hart input actions) (first_world_under x.program x.ms hart input actions)
    starts_alike = record { globals = globals_alike x.program.globals x.typed.globals; others = refl; actions = fit; pointers = record { present = free_typed x.program; logged = All-nil (IsTypedEvent x.program) } }

    -- ---- the whole

    meanings_alike : (ts : List CType) (t : CType) (o q : Outcome Frame Flow) → IsInteger t → AlikeOutcome x ts Flow (SameFlow x t) o q → meaning_of o ≡ meaning_of q
    meanings_alike ts t (Came a f w n) (Came b g v m) i h =
        let value : returned_value a ≡ returned_value b = same_integer x t (returned_value a) (returned_value b) i (returned_alike t a b h.value) in
        ap (λ z. meant_by (Exit (z % 256)) w n) value ∙
        (ap (meant_by (Exit (returned_value b % 256)) w) h.work ∙ sym (ap (λ z. meant_by (Exit (returned_value b % 256)) z m) h.world.others))
    meanings_alike ts t (Stopped s w n) (Stopped s' v m) i h =
        ap (λ z. meant_by (end_of_stop z) w n) h.why ∙
        (ap (meant_by (end_of_stop s') w) h.work ∙ sym (ap (λ z. meant_by (end_of_stop s') z m) h.world.others))
    meanings_alike ts t (Came a f w n) (Stopped s' v m) i h = absurd h
    meanings_alike ts t (Stopped s w n) (Came b g v m) i h = absurd h

    logged_typed : (ts : List CType) (t : CType) (o q : Outcome Frame Flow) → AlikeOutcome x ts Flow (SameFlow x t) o q → All (IsTypedEvent x.program) (meaning_of o).log
    logged_typed ts t (Came a f w n) (Came b g v m) h = h.world.pointers.logged
    logged_typed ts t (Stopped s w n) (Stopped s' v m) h = h.world.pointers.logged
    logged_typed ts t (Came a f w n) (Stopped s' v m) h = absurd h
    logged_typed ts t (Stopped s w n) (Came b g v m) h = absurd h

    -- what `main` comes to
    run_in : Context → List ℕ → Outcome Frame Flow
    run_in c ns =
        run_of_main x.program c (slice_get x.program.functions x.program.main) (record { function = x.program.main; locals = [] }) (first_world_under x.program ns hart input actions)

    runs_alike : (l m : CType → ℕ → ℕ → Bool) (stray other : Evaluation ℕ) → Admits x.program l → Admits x.program m → (bound : ℕ) → let g = x.typed.entry.main in
        AlikeOutcome x (local_types g) Flow (SameFlow x g.result) (run_in (context_with x.program x.ns l stray bound) x.ns) (run_in (context_with x.program x.ms m other bound) x.ms)
    unfolding run_in
    runs_alike l m stray other admits too bound =
        let c = context_with x.program x.ns l stray bound in
        let d = context_with x.program x.ms m other bound in
        let p : Program = x.program in
        let g : Function = x.typed.entry.main in
        let typed : IsTypedFunction p g = all_got (IsTypedFunction p) p.functions p.main g x.typed.functions x.typed.entry.defined in
        let none : SameValues x (parameter_types g) [] [] =
        subst (λ n. SameValues x (map (λ (l : Local). l.ctype) (take n g.locals)) [] []) (sym x.typed.entry.bare) tt in
        let frame : Frame = record { function = p.main; locals = [] } in
        subst (λ o.
        AlikeOutcome x (local_types g) Flow (SameFlow x g.result) (run_of_main p c o frame (first_world_under p x.ns hart input actions))
        (run_of_main p d o frame (first_world_under p x.ms hart input actions))) (sym x.typed.entry.defined)
        (alike_body x c d (contexts_alike l m stray other admits too bound) g g.body typed.body
        (frame_of p.main g []) (frame_of p.main g []) (first_world_under p x.ns hart input actions) (first_world_under p x.ms hart input actions)
        (frames_alike p.main g [] [] none) starts_alike)

    pub same_meaning : (l m : CType → ℕ → ℕ → Bool) (stray other : Evaluation ℕ) → Admits x.program l → Admits x.program m → (bound : ℕ) →
        meaning_in x.program (context_with x.program x.ns l stray bound) x.ns hart input actions ≡ meaning_in x.program (context_with x.program x.ms m other bound) x.ms hart input actions
    unfolding run_in
    same_meaning l m stray other admits too bound =
        meanings_alike (local_types x.typed.entry.main) x.typed.entry.main.result _ _ x.typed.entry.result (runs_alike l m stray other admits too bound)

    pub typed_log : (l m : CType → ℕ → ℕ → Bool) (stray other : Evaluation ℕ) → Admits x.program l → Admits x.program m → (bound : ℕ) →
        All (IsTypedEvent x.program) (meaning_in x.program (context_with x.program x.ns l stray bound) x.ns hart input actions).log
    unfolding run_in
    typed_log l m stray other admits too bound =
        logged_typed (local_types x.typed.entry.main) x.typed.entry.main.result _ _ (runs_alike l m stray other admits too bound)

-- ---- under the program's own numbering nothing is renumbered

module _ (p : Program) where
  own_renumbered : (v : ℕ) → renumbered (own_numbers p) v ≡ v
  own_renumbered zero = refl
  own_renumbered (suc f) = unwrap_or-slice_get (own_numbers p) f (suc f) ∙ number_or 1 p.functions f (suc f) (omega arith) where
    number_or : (n : ℕ) (fs : List Function) (i d : ℕ) → d ≡ n + i → get_or (numbers_from n fs) i d ≡ d
    number_or n [] i d e = refl
    number_or n (f ∷ fs) zero d e = omega (arith, e)
    number_or n (f ∷ fs) (suc i) d e = number_or (suc n) fs i d (omega (arith, e))

  own_renumbered_at : (t : CType) (v : ℕ) → renumbered_at t (own_numbers p) v ≡ v
  own_renumbered_at Void v = refl
  own_renumbered_at (Scalar kind) v = refl
  own_renumbered_at (Pointer s) v = own_renumbered v

  own_words : (t : CType) (vs : List ℕ) → map (renumbered_at t (own_numbers p)) vs ≡ vs
  own_words t [] = refl
  own_words t (v ∷ vs) = ap (λ n. n ∷ map (renumbered_at t (own_numbers p)) vs) (own_renumbered_at t v) ∙ ap (λ l. v ∷ l) (own_words t vs)

  own_globals : (gs : List Global) → map (first_words_under (own_numbers p)) gs ≡ map first_words gs
  own_globals [] = refl
  own_globals (g ∷ gs) =
      ap (λ ws. ws ∷ map (first_words_under (own_numbers p)) gs) (own_words g.ctype (first_words g)) ∙ ap (λ l. first_words g ∷ l) (own_globals gs)

  pub own_meaning : (hart : ℕ) (input : List ℕ) (actions : List Act) (bound : ℕ) → meaning_under p (own_numbers p) hart input actions bound ≡ hart_mean p hart input actions bound
  own_meaning hart input actions bound =
      ap (λ gs.
      meaning_of (run_of_main p (context_at p (own_numbers p) bound) (slice_get p.functions p.main) (record { function = p.main; locals = [] })
      (record (first_world p hart input actions) { globals = gs }))) (own_globals p.globals)
