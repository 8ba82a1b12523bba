-- Switches are integers: bound values and what a commit reads are the same under two numberings.
use Rattle.std.proofs.Common.{◌≡◌, ℕ, suc, Bool, true, false, List, [], ◌∷◌, ◌++◌, refl, ◌∙◌, ap, ap₂, subst, Option, Some, None, if◌then◌else◌, nat_eq, slice_get}
use Rattle.std.specs.Prelude.{All}
use Rattle.std.proofs.lemmas.Bool.{eqb-true}
use Rattle.std.proofs.lemmas.List.Elements.{All-filter}
use Rattle.std.proofs.lemmas.Option.{slice_get_within, get_or_from_slice_get}
use Rattle.mv_ast.specs.declared.program.CType.{CType}
use Rattle.mv_ast.specs.declared.program.Program.{Program}
use Rattle.mv_ast.specs.declared.program.Function.{Function}
use Rattle.mv_bindings.specs.declared.binding.Binding.{Binding}
use Rattle.mv_ast.specs.Switches.{attributed_functions, attributed_before, switch_global, global_or_none, word_at, switch_words, all_in_domain, committed, value_among, binding_value, bound_value, pointer_bindings}
use Rattle.mv_bindings.specs.Bindings.{bound_to, free}
use Rattle.mv_ast.specs.Orders.{is_addressed, ordered_from, ordered_function, bindings_after}
use Rattle.mv_bindings.specs.OrderNumbers.{is_commit}
use Rattle.mv_source_forms.specs.Typing.{IsInteger, IsIntegerSwitch, IsTypedFunction, global_types}
use Rattle.mv_meaning_numbering.proofs.Alike.{Setting, SameObjects, same_integer, word_alike}
use Rattle.mv_meaning_numbering.proofs.Pointers.{ordered_pointers_same}
use Rattle.mv_num.proofs.Booleans.{value_if_some}
use Rattle.mv_num.proofs.Lists.{all_tail, all_head}

-- ---- lists

pub all_got : {A : Type 0} (P : A → Type 0) (xs : List A) (i : ℕ) (x : A) → All P xs → slice_get xs i ≡ Some x → P x
all_got P xs i x h e = subst P (get_or_from_slice_get xs i x x e) (h i x (slice_get_within xs i x e))

-- ---- bound values

pub switch_type : (p : Program) (s : ℕ) (h : IsIntegerSwitch p s) → slice_get (global_types p) (switch_global p s) ≡ Some h.ctype
switch_type p s h = ap (λ o. slice_get (global_types p) (global_or_none o)) h.there ∙ h.global

module _ (p : Program) (g : ℕ) (t : CType) (typed : slice_get (global_types p) g ≡ Some t) where
  switch_integer : (s : ℕ) → IsIntegerSwitch p s → g ≡ switch_global p s → IsInteger t
  switch_integer s h e =
      let a = switch_type p s h in
      let b : slice_get (global_types p) g ≡ Some h.ctype = ap (slice_get (global_types p)) e ∙ a in
      let c : h.ctype ≡ t = cc in subst IsInteger c h.integer

  among_step : (s : ℕ) (b : Bool) (rest : Option ℕ) (v k : ℕ) → IsIntegerSwitch p s → nat_eq g (switch_global p s) ≡ b →
      (rest ≡ Some k → IsInteger t) → (if b then Some v else rest) ≡ Some k → IsInteger t
  among_step s true rest v k h e other q = switch_integer s h (eqb-true g (switch_global p s) e)
  among_step s false rest v k h e other q = other q

  among_integer : (ss vs : List ℕ) (k : ℕ) → All (IsIntegerSwitch p) ss → value_among p g ss vs ≡ Some k → IsInteger t
  among_integer [] vs k h e = cc
  among_integer (s ∷ ss) [] k h e = cc
  among_integer (s ∷ ss) (v ∷ vs) k h e =
      among_step s (nat_eq g (switch_global p s)) (value_among p g ss vs) v k (all_head (IsIntegerSwitch p) s ss h) refl
      (among_integer ss vs k (all_tail (IsIntegerSwitch p) s ss h)) e

  binding_integer : (f : Function) (b : Option Binding) (k : ℕ) → IsTypedFunction p f → binding_value p f b g ≡ Some k → IsInteger t
  binding_integer f None k h e = cc
  binding_integer f (Some b) k h e = among_integer f.switches b.values k h.switches (value_if_some b.bound _ k e)

  pub bound_integer : (bs : List Binding) (n : ℕ) (f : Option Function) (k : ℕ) → ((h : Function) → f ≡ Some h → IsTypedFunction p h) →
      bound_value p bs n f g ≡ Some k → IsInteger t
  bound_integer bs n None k h e = cc
  bound_integer bs n (Some f) k h e =
      binding_integer f (slice_get bs (attributed_before p.functions n)) k (h f refl) (value_if_some f.attributed _ k e)

-- ---- commits

ordered_same : (addressed : ℕ → Function → Bool) (next next' : Function → Binding) (i : ℕ) (fs : List Function) (bs : List Binding) →
    All (λ f. next f ≡ next' f) fs → ordered_from addressed next i fs bs ≡ ordered_from addressed next' i fs bs
ordered_same addressed next next' i [] bs h = refl
ordered_same addressed next next' i (f ∷ fs) [] h = refl
ordered_same addressed next next' i (f ∷ fs) (b ∷ bs) h =
    let one = all_head (λ f. next f ≡ next' f) f fs h in
    let others = ordered_same addressed next next' (suc i) fs bs (all_tail (λ f. next f ≡ next' f) f fs h) in
    ap (λ x. (if addressed i f then x else b) ∷ ordered_from addressed next (suc i) fs bs) one ∙
    ap (λ x. (if addressed i f then next' f else b) ∷ x) others

module _ (x : Setting) (gs hs : List (List ℕ)) (same : SameObjects x (global_types x.program) gs hs) where
  words_same : (ss : List ℕ) → All (IsIntegerSwitch x.program) ss → switch_words x.program gs ss ≡ switch_words x.program hs ss
  words_same [] h = refl
  words_same (s ∷ ss) h =
      let one : IsIntegerSwitch x.program s = all_head (IsIntegerSwitch x.program) s ss h in
      let word : word_at gs (switch_global x.program s) 0 ≡ word_at hs (switch_global x.program s) 0 =
      same_integer x one.ctype _ _ one.integer
      (word_alike x (global_types x.program) gs hs (switch_global x.program s) one.ctype same (switch_type x.program s one) 0) in
      let rest = words_same ss (all_tail (IsIntegerSwitch x.program) s ss h) in
      ap (λ v. v ∷ switch_words x.program gs ss) word ∙ ap (λ l. word_at hs (switch_global x.program s) 0 ∷ l) rest

  committed_same : (f : Function) → IsTypedFunction x.program f → committed x.program gs f ≡ committed x.program hs f
  committed_same f h =
      ap (λ vs. if all_in_domain x.program f.switches vs then bound_to vs else free) (words_same f.switches h.switches)

  binding_same : (code : ℕ) (f : Function) → IsTypedFunction x.program f → ordered_function x.program code gs f ≡ ordered_function x.program code hs f
  binding_same code f h = ap (λ b. if is_commit code then b else free) (committed_same f h)

  pub bindings_same : (code index : ℕ) (bs : List Binding) →
      bindings_after x.program x.ns code index gs bs ≡ bindings_after x.program x.ms code index hs bs
  bindings_same code index bs =
      ap₂ (λ fs ps. fs ++ ps)
      (ordered_same (is_addressed code index) (ordered_function x.program code gs) (ordered_function x.program code hs) 0 (attributed_functions x.program) bs
      (All-filter (λ f. f.attributed) (λ f. ordered_function x.program code gs f ≡ ordered_function x.program code hs f)
      x.program.functions (λ k d lt. binding_same code _ (x.typed.functions k d lt))))
      (ordered_pointers_same x gs hs same code index 0 x.program.pointers (pointer_bindings x.program bs) x.typed.pointers)
