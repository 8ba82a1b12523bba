-- Reads, stores, elements and known functions under two numberings.
use Rattle.std.proofs.Common.{◌≡◌, ℕ, ◌-◌, ◌^◌, Bool, true, false, List, [], ◌∷◌, map, length, inr, refl, ap, subst, Option, Some, None, if◌then◌else◌, nat_eq, nat_lt, slice_get}
use Rattle.std.specs.Prelude.{All, IsTrue, unwrap_or}
use Rattle.std.proofs.lemmas.Bool.{and_parts}
use Rattle.mv_ast.proofs.Common.{place_at}
use Rattle.mv_ast.specs.declared.program.CType.{CType}
use Rattle.mv_ast.specs.declared.program.CType.TheVariants.{Void, Scalar, Pointer}
use Rattle.mv_ast.specs.declared.program.Global.{Global}
use Rattle.mv_ast.specs.declared.program.Switch.{Switch}
use Rattle.mv_ast.specs.declared.program.Known.{Known}
use Rattle.mv_ast.specs.declared.program.Known.TheVariants.{Getchar, Putchar, Poll, Plan}
use Rattle.mv_bindings.specs.declared.binding.Binding.{Binding}
use Rattle.mv_bindings.specs.declared.stop.Stop.TheVariants.{Trapped}
use Rattle.mv_ast.specs.Actions.{act_fits, is_value_of, is_global_value, is_switch_value}
use Rattle.mv_ast.specs.Worlds.{World, give, stop}
use Rattle.mv_bindings.specs.Acts.{Act, Skip, Flip, Adopt}
use Rattle.mv_ast.specs.Orders.{Answered, bindings_after, bound_after, rebound, may_commit, ordered, flipped, acted, polled}
use Rattle.mv_ast.specs.Switches.{attributed_functions, bound_value, pointer_number, bound_function, called_number, called_word, switch_global, global_or_none, with_word, word_at, words_or_none}
use Rattle.mv_bindings.specs.OrderNumbers.{is_commit}
use Rattle.mv_meaning.specs.declared.state.Frame.{Frame}
use Rattle.mv_meaning.specs.declared.state.Lvalue.{Lvalue}
use Rattle.mv_meaning.specs.declared.state.Lvalue.TheVariants as lvalue
use Rattle.mv_meaning.specs.Meaning.{value_in, called_global, callee_in, read_as, read_lvalue, store_lvalue, element_below, global_element, local_element, byte_of, poll_work, known_value, value_or_trap}
use Rattle.mv_source_forms.specs.Typing.{IsInteger, IsFunctionOf, IsPointerSwitch, IsTypedFunction, global_types}
use Rattle.mv_meaning_numbering.proofs.Alike.{Setting, Same, SameObjects, integer_same, word_alike, store_alike, size_alike}
use Rattle.mv_meaning_numbering.proofs.Outcomes.{SameWorld, SameFrame, AlikeOutcome, Alike, alike_give, alike_stop, alike_either, with_globals, moved}
use Rattle.mv_meaning_numbering.proofs.Logged.{KeepTypes, rebound_keeps}
use Rattle.mv_meaning_numbering.proofs.Pointers.{called_typed, adopted_typed, orders_typed}
use Rattle.mv_meaning_numbering.proofs.Switches.{all_got, bound_integer, bindings_same}
use Rattle.mv_num.proofs.Lists.{all_tail, all_head}

module _ (x : Setting) (ts : List CType) where
  -- ---- lvalues

  -- an object of a type
  abbrev pub LvalueIs : CType → Lvalue → Type 0
  LvalueIs t (lvalue.Global g i) = slice_get (global_types x.program) g ≡ Some t
  LvalueIs t (lvalue.Local l i) = slice_get ts l ≡ Some t

  -- one object of a type
  pub record SameLvalue (t : CType) (a b : Lvalue) : Type 0 where
    pub same : a ≡ b
    pub typed : LvalueIs t a

  read_either : (t : CType) (o : Option ℕ) (a b : ℕ) → ((k : ℕ) → o ≡ Some k → IsInteger t) → Same x t a b → Same x t (unwrap_or o a) (unwrap_or o b)
  read_either t None a b h k = k
  read_either t (Some n) a b h k = integer_same x t n n (h n refl) refl

  value_alike : (t : CType) (s : Lvalue) (f g : Frame) (w v : World) → LvalueIs t s → SameFrame x ts f g → SameWorld x w v →
      Same x t (value_in x.program s f w) (value_in x.program s g v)
  value_alike t (lvalue.Global n i) f g w v k hf hw =
      with_globals x w v (λ z. Same x t (value_in x.program (lvalue.Global n i) f w) (value_in x.program (lvalue.Global n i) g z)) hw
      (λ hs same.
      subst (λ fn. Same x t (value_in x.program (lvalue.Global n i) f w)
      (unwrap_or (bound_value x.program w.bindings fn (slice_get x.program.functions fn) n) (word_at hs n i))) hf.function
      (read_either t (bound_value x.program w.bindings f.function (slice_get x.program.functions f.function) n) (word_at w.globals n i) (word_at hs n i)
      (λ b e.
      bound_integer x.program n t k w.bindings f.function (slice_get x.program.functions f.function) b
      (λ h there. all_got (IsTypedFunction x.program) x.program.functions f.function h x.typed.functions there) e)
      (word_alike x (global_types x.program) w.globals hs n t same k i)))
  value_alike t (lvalue.Local l i) f g w v k hf hw = word_alike x ts f.locals g.locals l t hf.locals k i

  pub alike_read : (t : CType) (s : Lvalue) → LvalueIs t s → Alike x ts (Same x t) (read_lvalue x.program s) (read_lvalue x.program s)
  alike_read t s k f g w v hf hw =
      record { value = value_alike t s f g w v k hf hw; frame = hf; world = hw; work = refl }

  -- a pointer switch has a pointer's type
  pointer_type : (g n : ℕ) → pointer_number x.program g ≡ Some n → (s : ℕ) × (slice_get (global_types x.program) g ≡ Some (Pointer s))
  pointer_type g n e =
      let k = place_at (length (attributed_functions x.program)) x.program.pointers g n e in
      let h : IsPointerSwitch x.program g = all_got (IsPointerSwitch x.program) x.program.pointers k.0 g x.typed.pointers k.2 in
      (h.signature, h.global)

  called_alike : (s : ℕ) (o : Option ℕ) (v u : ℕ) → ((f : ℕ) → o ≡ Some f → IsFunctionOf x.program s f) → Same x (Pointer s) v u →
      Same x (Pointer s) (called_number x.ns o v) (called_number x.ms o u)
  called_alike s None v u typed k = k
  called_alike s (Some f) v u typed k = inr (f, typed f refl, refl, refl)

  callee_alike : (t : CType) (s : Lvalue) (f g : Frame) (w v : World) → LvalueIs t s → SameFrame x ts f g → SameWorld x w v →
      Same x t (callee_in x.program x.ns s f w) (callee_in x.program x.ms s g v)
  callee_alike t (lvalue.Global n i) f g w v k hf hw = by (pointer_number x.program n) refl
    where
      by : (o : Option ℕ) → pointer_number x.program n ≡ o → Same x t (called_global x.program x.ns n i o f w) (called_global x.program x.ms n i o g v)
      by None e = value_alike t (lvalue.Global n i) f g w v k hf hw
      by (Some m) e =
          with_globals x w v (λ z. Same x t (called_global x.program x.ns n i (Some m) f w) (called_global x.program x.ms n i (Some m) g z)) hw
          (λ hs same.
          let p = pointer_type n m e in
          let one : Pointer p.0 ≡ t = cc in
          subst (λ a. Same x a (called_word x.ns w.bindings w.globals m n) (called_word x.ms w.bindings hs m n)) one
          (called_alike p.0 (bound_function (slice_get w.bindings m)) (word_at w.globals n 0) (word_at hs n 0)
          (λ h there. called_typed x.program w.bindings hw.pointers.present n m p.0 h e p.1 there)
          (word_alike x (global_types x.program) w.globals hs n (Pointer p.0) same p.1 0)))
  callee_alike t (lvalue.Local l i) f g w v k hf hw = word_alike x ts f.locals g.locals l t hf.locals k i

  pub alike_read_as : (called : Bool) (t : CType) (s : Lvalue) → LvalueIs t s → Alike x ts (Same x t) (read_as x.program x.ns called s) (read_as x.program x.ms called s)
  alike_read_as true t s k f g w v hf hw = record { value = callee_alike t s f g w v k hf hw; frame = hf; world = hw; work = refl }
  alike_read_as false t s k f g w v hf hw = record { value = value_alike t s f g w v k hf hw; frame = hf; world = hw; work = refl }

  pub alike_store : (t : CType) (s : Lvalue) (a b : ℕ) → LvalueIs t s → Same x t a b → Alike x ts (Same x t) (store_lvalue s a) (store_lvalue s b)
  alike_store t (lvalue.Global n i) a b k h f g w v hf hw = record {
    value = h;
    frame = hf;
    world = moved x w v (with_word w.globals n i a) (with_word v.globals n i b) hw (store_alike x (global_types x.program) w.globals v.globals n t hw.globals k i a b h);
    work = refl;
  }
  alike_store t (lvalue.Local l i) a b k h f g w v hf hw = record {
    value = h;
    frame = record { locals = store_alike x ts f.locals g.locals l t hf.locals k i a b h; function = hf.function };
    world = hw;
    work = refl;
  }

  below_alike : (t : CType) (size i : ℕ) (at : ℕ → Lvalue) → LvalueIs t (at i) → Alike x ts (SameLvalue t) (element_below size i at) (element_below size i at)
  below_alike t size i at k =
      alike_either x ts (SameLvalue t) (nat_lt i size) (nat_lt i size) (give (at i)) (give (at i)) (stop (Trapped 2)) (stop (Trapped 2)) refl
      (alike_give x ts (SameLvalue t) (at i) (at i) (record { same = refl; typed = k })) (alike_stop x ts (SameLvalue t) (Trapped 2))

  pub alike_global : (t : CType) (n i : ℕ) → slice_get (global_types x.program) n ≡ Some t → Alike x ts (SameLvalue t) (global_element n i) (global_element n i)
  alike_global t n i k f g w v hf hw =
      subst (λ size. AlikeOutcome x ts Lvalue (SameLvalue t) (global_element n i f w) (element_below size i (lvalue.Global n) g v))
      (size_alike x (global_types x.program) w.globals v.globals n t hw.globals k)
      (below_alike t (length (words_or_none (slice_get w.globals n))) i (lvalue.Global n) k f g w v hf hw)

  pub alike_local : (t : CType) (l i : ℕ) → slice_get ts l ≡ Some t → Alike x ts (SameLvalue t) (local_element l i) (local_element l i)
  alike_local t l i k f g w v hf hw =
      subst (λ size. AlikeOutcome x ts Lvalue (SameLvalue t) (local_element l i f w) (element_below size i (lvalue.Local l) g v))
      (size_alike x ts f.locals g.locals l t hf.locals k)
      (below_alike t (length (words_or_none (slice_get f.locals l))) i (lvalue.Local l) k f g w v hf hw)

  pub alike_trap : (o : Option ℕ) → Alike x ts (λ (a b : ℕ). a ≡ b) (value_or_trap o) (value_or_trap o)
  alike_trap None = alike_stop x ts (λ (a b : ℕ). a ≡ b) (Trapped 1)
  alike_trap (Some v) = alike_give x ts (λ (a b : ℕ). a ≡ b) v v refl

-- ---- known functions

-- one answer, with two worlds that are alike
pub record SameAnswer (x : Setting) (a b : Answered) : Type 0 where
  pub answer : a.answer ≡ b.answer
  pub world : SameWorld x a.world b.world

module _ (x : Setting) where
  answer_either : (b : Bool) (a c a' c' : Answered) → SameAnswer x a a' → SameAnswer x c c' → SameAnswer x (if b then a else c) (if b then a' else c')
  answer_either true a c a' c' h k = h
  answer_either false a c a' c' h k = k

  module _ (w : World) (hs : List (List ℕ)) (same : SameObjects x (global_types x.program) w.globals hs)
      (fit : All (λ a. IsTrue (act_fits x.program w.hart a)) w.actions) (typed : KeepTypes x.program w.bindings w.log) where
    carried_out : (code index : ℕ) → List Binding → Answered
    carried_out code index bs =
        if may_commit w
        then record { answer = if is_commit code then bound_after x.program code index bs else 0; world = rebound (record w { globals = hs }) bs }
        else record { answer = 2 ^ 32 - 1; world = record w { globals = hs } }

    pub ordered_alike : (code index : ℕ) → SameAnswer x (ordered x.program x.ns code index w) (ordered x.program x.ms code index (record w { globals = hs }))
    unfolding carried_out
    ordered_alike code index =
        let bound = bindings_after x.program x.ns code index w.globals w.bindings in
        let kept = rebound_keeps x.program x.typed.pointers w.bindings bound w.log typed (orders_typed x w.globals hs same code index w.bindings typed.present) in
        subst (λ bs. SameAnswer x (ordered x.program x.ns code index w) (carried_out code index bs)) (bindings_same x w.globals hs same code index w.bindings)
        (answer_either (may_commit w) _ _ _ _
        (record { answer = refl; world = record { globals = same; others = refl; actions = fit; pointers = kept } })
        (record { answer = refl; world = record { globals = same; others = refl; actions = fit; pointers = typed } }))

  -- a flip stores in an integer
  value_integer : (t : CType) (v : ℕ) → is_value_of t v ≡ true → IsInteger t
  value_integer Void v e = cc
  value_integer (Scalar kind) v e = tt
  value_integer (Pointer s) v e = cc

  type_there : (gs : List Global) (n : ℕ) (g : Global) → slice_get gs n ≡ Some g → slice_get (map (λ (g : Global). g.ctype) gs) n ≡ Some g.ctype
  type_there [] n g e = cc
  type_there (h ∷ gs) ℕ.zero g e = let q : h ≡ g = cc in ap (λ (g : Global). Some g.ctype) q
  type_there (h ∷ gs) (ℕ.suc n) g e = type_there gs n g e

  pub record IsFlip (n v : ℕ) : Type 0 where
    pub ctype : CType
    pub there : slice_get (global_types x.program) n ≡ Some ctype
    pub integer : IsInteger ctype

  global_flip : (n : ℕ) (o : Option Global) (v : ℕ) → slice_get x.program.globals n ≡ o → is_global_value o v ≡ true → IsFlip n v
  global_flip n None v e h = cc
  global_flip n (Some g) v e h = record { ctype = g.ctype; there = type_there x.program.globals n g e; integer = value_integer g.ctype v h }

  switch_flip : (o : Option Switch) (v : ℕ) → is_switch_value x.program o v ≡ true → IsFlip (global_or_none o) v
  switch_flip None v h = cc
  switch_flip (Some s) v h = global_flip s.global (slice_get x.program.globals s.global) v refl h

  flipped_alike : (s v : ℕ) (w : World) (hs : List (List ℕ)) → SameObjects x (global_types x.program) w.globals hs →
      All (λ a. IsTrue (act_fits x.program w.hart a)) w.actions → KeepTypes x.program w.bindings w.log → IsTrue (act_fits x.program w.hart (Flip s v)) →
      SameWorld x (flipped x.program x.ns s v w) (flipped x.program x.ms s v (record w { globals = hs }))
  flipped_alike s v w hs same fit typed h =
      let both = and_parts (nat_eq w.hart 0) (is_switch_value x.program (slice_get x.program.switches s) v) h in
      let flip : IsFlip (switch_global x.program s) v = switch_flip (slice_get x.program.switches s) v both.1 in
      let stored = store_alike x (global_types x.program) w.globals hs (switch_global x.program s) flip.ctype same flip.there 0 v v
      (integer_same x flip.ctype v v flip.integer refl) in
      let done = ordered_alike (record w { globals = with_word w.globals (switch_global x.program s) 0 v })
      (with_word hs (switch_global x.program s) 0 v) stored fit typed 0 0 in
      done.world

  acted_alike : (actions : List Act) (w : World) (hs : List (List ℕ)) → SameObjects x (global_types x.program) w.globals hs →
      All (λ a. IsTrue (act_fits x.program w.hart a)) w.actions → KeepTypes x.program w.bindings w.log → All (λ a. IsTrue (act_fits x.program w.hart a)) actions →
      SameAnswer x (acted x.program x.ns actions w) (acted x.program x.ms actions (record w { globals = hs }))
  acted_alike [] w hs same fit typed h = record { answer = refl; world = record { globals = same; others = refl; actions = fit; pointers = typed } }
  acted_alike (Skip ∷ rest) w hs same fit typed h =
      record { answer = refl; world = record { globals = same; others = refl; actions = all_tail (λ a. IsTrue (act_fits x.program w.hart a)) Skip rest h; pointers = typed } }
  acted_alike (Flip s v ∷ rest) w hs same fit typed h =
      let left = all_tail (λ a. IsTrue (act_fits x.program w.hart a)) (Flip s v) rest h in
      record { answer = refl; world = flipped_alike s v (record w { actions = rest }) hs same left typed (all_head (λ a. IsTrue (act_fits x.program w.hart a)) (Flip s v) rest h) }
  acted_alike (Adopt bs ∷ rest) w hs same fit typed h =
      let left = all_tail (λ a. IsTrue (act_fits x.program w.hart a)) (Adopt bs) rest h in
      let adopted = adopted_typed x.program w.hart bs (all_head (λ a. IsTrue (act_fits x.program w.hart a)) (Adopt bs) rest h) in
      let kept = rebound_keeps x.program x.typed.pointers w.bindings bs w.log typed adopted in
      record { answer = refl; world = record { globals = same; others = refl; actions = left; pointers = kept } }

  polled_alike : (w : World) (hs : List (List ℕ)) → SameObjects x (global_types x.program) w.globals hs →
      All (λ a. IsTrue (act_fits x.program w.hart a)) w.actions → KeepTypes x.program w.bindings w.log →
      SameAnswer x (polled x.program x.ns w) (polled x.program x.ms (record w { globals = hs }))
  polled_alike w hs same fit typed =
      answer_either (nat_eq w.live 0) _ _ _ _ (acted_alike w.actions w hs same fit typed fit)
      (record { answer = refl; world = record { globals = same; others = refl; actions = fit; pointers = typed } })

  module _ (ts : List CType) where
    abbrev Numbers : ℕ → ℕ → Type 0
    Numbers a b = a ≡ b

    byte_alike : (bytes : List ℕ) (f g : Frame) (w : World) (hs : List (List ℕ)) → SameFrame x ts f g → SameObjects x (global_types x.program) w.globals hs →
        All (λ a. IsTrue (act_fits x.program w.hart a)) w.actions → KeepTypes x.program w.bindings w.log →
        AlikeOutcome x ts ℕ Numbers (byte_of bytes f w) (byte_of bytes g (record w { globals = hs }))
    byte_alike [] f g w hs hf same fit typed =
        record { value = refl; frame = hf; world = record { globals = same; others = refl; actions = fit; pointers = typed }; work = refl }
    byte_alike (c ∷ rest) f g w hs hf same fit typed =
        record { value = refl; frame = hf; world = record { globals = same; others = refl; actions = fit; pointers = typed }; work = refl }

    pub alike_known : (k : Known) (vs : List ℕ) → Alike x ts Numbers (known_value x.program x.ns k vs) (known_value x.program x.ms k vs)
    alike_known Getchar vs f g w v hf hw =
        with_globals x w v (λ z. AlikeOutcome x ts ℕ Numbers (known_value x.program x.ns Getchar vs f w) (known_value x.program x.ms Getchar vs g z)) hw
        (λ hs same. byte_alike w.input f g w hs hf same hw.actions hw.pointers)
    alike_known Putchar vs f g w v hf hw =
        with_globals x w v (λ z. AlikeOutcome x ts ℕ Numbers (known_value x.program x.ns Putchar vs f w) (known_value x.program x.ms Putchar vs g z)) hw
        (λ hs same. record { value = refl; frame = hf; world = record { globals = same; others = refl; actions = hw.actions; pointers = hw.pointers }; work = refl })
    alike_known Poll vs f g w v hf hw =
        with_globals x w v (λ z. AlikeOutcome x ts ℕ Numbers (known_value x.program x.ns Poll vs f w) (known_value x.program x.ms Poll vs g z)) hw
        (λ hs same.
        let h = polled_alike w hs same hw.actions hw.pointers in
        record { value = h.answer; frame = hf; world = h.world; work = ap (poll_work x.program w) h.answer })
    alike_known (Plan code index) vs f g w v hf hw =
        with_globals x w v (λ z. AlikeOutcome x ts ℕ Numbers (known_value x.program x.ns (Plan code index) vs f w) (known_value x.program x.ms (Plan code index) vs g z)) hw
        (λ hs same.
        let h = ordered_alike w hs same hw.actions hw.pointers code index in
        record { value = h.answer; frame = hf; world = h.world; work = refl })
