-- What is logged of a pointer switch: where it is bound, it is bound to a function of its type.
use Rattle.std.proofs.Common.{◌≡◌, ℕ, suc, ◌+◌, ◌-◌, Bool, true, false, List, [], ◌∷◌, ◌++◌, length, refl, sym, ◌∙◌, ap, ap₂, subst, arith, Some, None, if◌then◌else◌, slice_get}
use Rattle.std.specs.Prelude.{All, ◌||◌, not, slice_index}
use Rattle.std.proofs.lemmas.Bool.{and_from}
use Rattle.std.proofs.lemmas.List.Elements.{All-nil, All-cons, All-append}
use Rattle.mv_ast.specs.declared.program.CType.{CType}
use Rattle.mv_ast.specs.declared.program.CType.TheVariants.{Void, Scalar, Pointer}
use Rattle.mv_ast.specs.declared.program.Program.{Program}
use Rattle.mv_bindings.specs.declared.binding.Binding.{Binding}
use Rattle.mv_bindings.specs.declared.binding.Event.{Event}
use Rattle.mv_bindings.specs.Bindings.{events_from, is_same_binding}
use Rattle.mv_ast.specs.Bindings.{function_in, is_same_type, are_same_types, has_signature, is_of_type, is_of_global, is_typed_binding}
use Rattle.mv_ast.specs.Switches.{attributed_functions, bound_function}
use Rattle.mv_ast.proofs.Common.{get_drop}
use Rattle.mv_source_forms.specs.Typing.{IsFunctionOf, IsPointerSwitch, global_types, parameter_types}
use Rattle.mv_meaning_numbering.specs.Laws.{IsTypedEvent}
use Rattle.mv_meaning_numbering.proofs.Pointers.{PointersTyped, global_is}
use Rattle.mv_meaning_numbering.proofs.Switches.{all_got}

-- what holds of the binding at each place holds of the events of those that differ
events_hold : (P : Event → Type 0) (i : ℕ) (old new : List Binding) → ((n : ℕ) (b : Binding) → slice_get new n ≡ Some b → P (record { function = i + n; binding = b })) → All P (events_from i old new)
events_hold P i [] new h = All-nil P
events_hold P i (a ∷ old) [] h = All-nil P
events_hold P i (a ∷ old) (b ∷ new) h =
    All-append P (if is_same_binding a b then [] else record { function = i; binding = b } ∷ []) (events_from (suc i) old new) (one (is_same_binding a b))
    (events_hold P (suc i) old new (λ n c there. subst (λ (k : ℕ). P (record { function = k; binding = c })) (let e : i + suc n ≡ suc i + n = omega arith in e) (h (suc n) c there)))
  where
    one : (z : Bool) → All P (if z then [] else record { function = i; binding = b } ∷ [])
    one true = All-nil P
    one false = All-cons P (record { function = i; binding = b }) [] (subst (λ (k : ℕ). P (record { function = k; binding = b })) (let e : i + 0 ≡ i = omega arith in e) (h 0 b refl)) (All-nil P)

module _ (p : Program) where
  -- the present bindings, and all that is logged
  pub record KeepTypes (bs : List Binding) (log : List Event) : Type 0 where
    pub present : PointersTyped p bs
    pub logged : All (IsTypedEvent p) log

  same_type : (t : CType) → is_same_type t t ≡ true
  same_type Void = refl
  same_type (Scalar k) = grind arith
  same_type (Pointer s) = grind arith

  same_types : (ts : List CType) → are_same_types ts ts ≡ true
  same_types [] = refl
  same_types (t ∷ ts) = and_from (is_same_type t t) (are_same_types ts ts) (same_type t) (same_types ts)

  has_its_signature : (s f : ℕ) → IsFunctionOf p s f → has_signature (slice_get p.signatures s) (slice_get p.functions f) ≡ true
  has_its_signature s f h =
      ap₂ has_signature h.declared h.defined ∙
      and_from (is_same_type h.signature.result h.function.result) (are_same_types h.signature.params (parameter_types h.function))
      (subst (λ t. is_same_type h.signature.result t ≡ true) h.result (same_type h.signature.result))
      (subst (λ ts. are_same_types h.signature.params ts ≡ true) h.parameters (same_types h.signature.params))

  of_its_global : (g s f : ℕ) → slice_get (global_types p) g ≡ Some (Pointer s) → IsFunctionOf p s f → is_of_global p f (slice_get p.globals g) ≡ true
  of_its_global g s f t h = let it = global_is p p.globals g (Pointer s) t in ap (is_of_global p f) it.1 ∙ ap (is_of_type p f) it.2 ∙ has_its_signature s f h

  typed_there : (bs : List Binding) → PointersTyped p bs → (q g s : ℕ) (b : Binding) → slice_get p.pointers q ≡ Some g → slice_get (global_types p) g ≡ Some (Pointer s) →
      slice_get bs (length (attributed_functions p) + q) ≡ Some b → is_typed_binding p g b ≡ true
  typed_there bs typed q g s b here t there = by b.bound refl
    where
      by : (z : Bool) → b.bound ≡ z → (not b.bound || is_of_global p (function_in b) (slice_get p.globals g)) ≡ true
      by false e = ap (λ z. not z || is_of_global p (function_in b) (slice_get p.globals g)) e
      by true e =
          let bound : bound_function (Some b) ≡ Some (function_in b) = ap (λ z. if z then Some (slice_index b.values 0 - 1) else None) e in
          let at = ap bound_function (get_drop (length (attributed_functions p)) q bs ∙ there) ∙ bound in
          ap (λ z. not z || is_of_global p (function_in b) (slice_get p.globals g)) e ∙ of_its_global g s (function_in b) t (typed g q s (function_in b) here t at)

  -- new bindings, and the events of those that differ
  pub rebound_keeps : All (IsPointerSwitch p) p.pointers → (old new : List Binding) (log : List Event) → KeepTypes old log → PointersTyped p new → KeepTypes new (log ++ events_from 0 old new)
  rebound_keeps switches old new log keep typed = record {
    present = typed;
    logged = All-append (IsTypedEvent p) log (events_from 0 old new) keep.logged (events_hold (IsTypedEvent p) 0 old new one);
  }
    where
      one : (n : ℕ) (b : Binding) → slice_get new n ≡ Some b → IsTypedEvent p (record { function = 0 + n; binding = b })
      one n b there q g at here =
          let switch : IsPointerSwitch p g = all_got (IsPointerSwitch p) p.pointers q g switches here in
          let place : n ≡ length (attributed_functions p) + q = omega (arith, at) in
          typed_there new typed q g switch.signature b here switch.global (sym (ap (slice_get new) place) ∙ there)
