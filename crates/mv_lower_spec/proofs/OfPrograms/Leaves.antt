-- Reads, stores, elements, known functions and calls in two frames that hold the same in some locals.
use Rattle.std.proofs.Common.{◌≡◌, ℕ, zero, suc, ◌<◌, Bool, false, true, List, [], ◌∷◌, length, refl, sym, ◌∙◌, ap, subst, arith, Option, Some, None, nat_eq, nat_lt, slice_get}
use Rattle.std.specs.Prelude.{slice_index, slice_index_or, slice_set, unwrap_or}
use Rattle.std.proofs.lemmas.List.{length-set}
use Rattle.mv_ast.specs.declared.program.CType.{CType}
use Rattle.mv_ast.specs.declared.program.Program.{Program}
use Rattle.mv_ast.specs.declared.program.Known.{Known}
use Rattle.mv_ast.specs.declared.program.Known.TheVariants.{Getchar, Putchar, Poll, Plan}
use Rattle.mv_bindings.specs.declared.stop.Stop.{Stop}
use Rattle.mv_bindings.specs.declared.stop.Stop.TheVariants.{Trapped}
use Rattle.mv_ast.specs.Numbering.{function_of_number}
use Rattle.mv_ast.specs.Switches.{bound_value, word_at, with_word, words_or_none, pointer_number}
use Rattle.mv_ast.specs.Worlds.{World, give, stop}
use Rattle.mv_meaning.specs.declared.state.Frame.{Frame}
use Rattle.mv_meaning.specs.declared.state.Lvalue.{Lvalue}
use Rattle.mv_meaning.specs.declared.state.Lvalue.TheVariants as lvalue
use Rattle.mv_meaning.specs.Meaning.{Evaluation, Context, value_in, called_global, callee_in, read_as, read_lvalue, store_lvalue, element_below, global_element, local_element, byte_of, known_value, value_or_trap, call_at, call_numbered, call_through}
use Rattle.mv_lower_spec.proofs.Forms.{word_is, with_word_is}
use Rattle.mv_source_forms.specs.Scopes.{Scope}
use Rattle.mv_lower_spec.proofs.OfPrograms.Agreement.{Agree, Post, Alike, AlikeOutcome, alike_give, alike_stop, alike_either, alike_by}
use Rattle.mv_ast.proofs.Common.{objects_at}

-- ---- one local changed

same_lengths : (xs ys : List (List ℕ)) (l k : ℕ) (us vs : List ℕ) → length xs ≡ length ys → length us ≡ length vs →
    ((j : ℕ) → length (slice_index_or xs j []) ≡ length (slice_index_or ys j [])) → length (slice_index_or (slice_set xs l us) k []) ≡ length (slice_index_or (slice_set ys l vs) k [])
same_lengths [] [] l k us vs n e h = refl
same_lengths [] (y ∷ ys) l k us vs n e h = absurd (omega (arith, n))
same_lengths (x ∷ xs) [] l k us vs n e h = absurd (omega (arith, n))
same_lengths (x ∷ xs) (y ∷ ys) zero zero us vs n e h = e
same_lengths (x ∷ xs) (y ∷ ys) zero (suc k) us vs n e h = h (suc k)
same_lengths (x ∷ xs) (y ∷ ys) (suc l) zero us vs n e h = h zero
same_lengths (x ∷ xs) (y ∷ ys) (suc l) (suc k) us vs n e h = same_lengths xs ys l k us vs (omega (arith, n)) e (λ j. h (suc j))

-- where both have it changed to the same, or it is the same in both and another one is changed
same_words : (xs ys : List (List ℕ)) (l k : ℕ) (us vs : List ℕ) → length xs ≡ length ys →
    ((k ≡ l) → us ≡ vs) → ((k ≡ l → ⊥) → slice_index_or xs k [] ≡ slice_index_or ys k []) → slice_index_or (slice_set xs l us) k [] ≡ slice_index_or (slice_set ys l vs) k []
same_words [] [] l k us vs n e h = refl
same_words [] (y ∷ ys) l k us vs n e h = absurd (omega (arith, n))
same_words (x ∷ xs) [] l k us vs n e h = absurd (omega (arith, n))
same_words (x ∷ xs) (y ∷ ys) zero zero us vs n e h = e refl
same_words (x ∷ xs) (y ∷ ys) zero (suc k) us vs n e h = h (λ q. absurd (omega (arith, q)))
same_words (x ∷ xs) (y ∷ ys) (suc l) zero us vs n e h = h (λ q. absurd (omega (arith, q)))
same_words (x ∷ xs) (y ∷ ys) (suc l) (suc k) us vs n e h = same_words xs ys l k us vs (omega (arith, n)) (λ q. e (ap suc q)) (λ ne. h (λ q. ne (omega (arith, q))))

-- both frames with one local changed
pub agree_changed : (scope inner : Scope) (l : ℕ) (us vs : List ℕ) (f g : Frame) → length us ≡ length vs → Agree scope f g →
    ((k : ℕ) → inner k ≡ true → (k ≡ l) → us ≡ vs) → ((k : ℕ) → inner k ≡ true → (k ≡ l → ⊥) → scope k ≡ true) →
    Agree inner (record f { locals = slice_set f.locals l us }) (record g { locals = slice_set g.locals l vs })
agree_changed scope inner l us vs f g e h same other = record {
  function = h.function;
  count = length-set f.locals l us ∙ h.count ∙ sym (length-set g.locals l vs);
  sizes = λ k. same_lengths f.locals g.locals l k us vs h.count e h.sizes;
  words = λ k q. same_words f.locals g.locals l k us vs h.count (same k q) (λ ne. h.words k (other k q ne));
}

-- a word stored in a local that is in scope
stored : (scope : Scope) (l i v : ℕ) (f g : Frame) → scope l ≡ true → Agree scope f g → Agree scope (record f { locals = with_word f.locals l i v }) (record g { locals = with_word g.locals l i v })
stored scope l i v f g there h =
    let us = slice_set (slice_index_or f.locals l []) i v in
    let vs = slice_set (slice_index_or g.locals l []) i v in
    subst (λ x. Agree scope (record f { locals = x }) (record g { locals = with_word g.locals l i v })) (sym (with_word_is f.locals l i v))
    (subst (λ y. Agree scope (record f { locals = slice_set f.locals l us }) (record g { locals = y })) (sym (with_word_is g.locals l i v))
    (agree_changed scope scope l us vs f g (length-set (slice_index_or f.locals l []) i v ∙ h.sizes l ∙ sym (length-set (slice_index_or g.locals l []) i v)) h
    (λ k q e. ap (λ ws. slice_set ws i v) (h.words l there)) (λ k q ne. q)))

module _ (p : Program) (lost fine : Stop → Type 0) (traps : (n : ℕ) → n < 256 → fine (Trapped n)) (scope : Scope) where
  abbrev pub Kept : {A : Type 0} → Post A
  Kept a = Agree scope

  -- evaluations that keep what is in scope
  abbrev pub Keeps : {A : Type 0} → (Bool → Evaluation A) → Type 0
  Keeps {A} d = Alike lost fine (Agree scope) (Kept {A = A}) d

  pub keeps_give : {A : Type 0} (a : A) → Keeps (λ z. give a)
  keeps_give {A = A} a = alike_give lost fine (Agree scope) (Kept {A = A}) a (λ f g h. h)

  pub keeps_stop : (s : Stop) → fine s → Keeps {A = ℕ} (λ z. stop s)
  keeps_stop s h = alike_stop lost fine {A = ℕ} (Agree scope) (Kept {A = ℕ}) s h

  -- ---- lvalues

  abbrev pub InScope : Lvalue → Type 0
  InScope (lvalue.Global g i) = Unit {0}
  InScope (lvalue.Local l i) = scope l ≡ true

  abbrev pub Found : Post Lvalue
  Found s f g = InScope s × Agree scope f g

  same_value : (s : Lvalue) (f g : Frame) (w : World) → InScope s → Agree scope f g → value_in p s f w ≡ value_in p s g w
  same_value (lvalue.Global n i) f g w k h = ap (λ fn. unwrap_or (bound_value p w.bindings fn (slice_get p.functions fn) n) (word_at w.globals n i)) h.function
  same_value (lvalue.Local l i) f g w k h = word_is f.locals l i ∙ ap (λ ws. slice_index ws i) (h.words l k) ∙ sym (word_is g.locals l i)

  pub keeps_read : (s : Lvalue) → InScope s → Keeps (λ z. read_lvalue p s)
  keeps_read s k f g w h = record { value = same_value s f g w k h; world = refl; work = refl; frames = h }

  same_callee : (numbers : List ℕ) (s : Lvalue) (f g : Frame) (w : World) → InScope s → Agree scope f g → callee_in p numbers s f w ≡ callee_in p numbers s g w
  same_callee numbers (lvalue.Global n i) f g w k h = by (pointer_number p n)
    where
      by : (o : Option ℕ) → called_global p numbers n i o f w ≡ called_global p numbers n i o g w
      by None = same_value (lvalue.Global n i) f g w k h
      by (Some m) = refl
  same_callee numbers (lvalue.Local l i) f g w k h = same_value (lvalue.Local l i) f g w k h

  -- as what is called, or as a value
  pub keeps_read_as : (numbers : List ℕ) (called : Bool) (s : Lvalue) → InScope s → Keeps (λ z. read_as p numbers called s)
  keeps_read_as numbers true s k f g w h = record { value = same_callee numbers s f g w k h; world = refl; work = refl; frames = h }
  keeps_read_as numbers false s k f g w h = record { value = same_value s f g w k h; world = refl; work = refl; frames = h }

  pub keeps_store : (s : Lvalue) (v : ℕ) → InScope s → Keeps (λ z. store_lvalue s v)
  keeps_store (lvalue.Global n i) v k f g w h = record { value = refl; world = refl; work = refl; frames = h }
  keeps_store (lvalue.Local l i) v k f g w h = record { value = refl; world = refl; work = refl; frames = stored scope l i v f g k h }

  below_found : (size i : ℕ) (at : ℕ → Lvalue) → InScope (at i) → Alike lost fine (Agree scope) Found (λ z. element_below size i at)
  below_found size i at k =
      alike_either lost fine (Agree scope) Found (nat_lt i size) (λ z. give (at i)) (λ z. stop (Trapped 2)) (alike_give lost fine (Agree scope) Found (at i) (λ f g h. (k, h)))
      (alike_stop lost fine (Agree scope) Found (Trapped 2) (traps 2 (omega arith)))

  pub found_global : (n i : ℕ) → Alike lost fine (Agree scope) Found (λ z. global_element n i)
  found_global n i f g w h = below_found (length (words_or_none (slice_get w.globals n))) i (lvalue.Global n) tt f g w h

  pub found_local : (l i : ℕ) → scope l ≡ true → Alike lost fine (Agree scope) Found (λ z. local_element l i)
  found_local l i k f g w h =
      subst (λ size. AlikeOutcome lost fine Lvalue Found (local_element l i f w) (element_below size i (lvalue.Local l) g w))
      (ap length (objects_at f.locals l) ∙ h.sizes l ∙ sym (ap length (objects_at g.locals l)))
      (below_found (length (words_or_none (slice_get f.locals l))) i (lvalue.Local l) k f g w h)

  pub keeps_trap : (o : Option ℕ) → Keeps (λ z. value_or_trap o)
  keeps_trap None = keeps_stop (Trapped 1) (traps 1 (omega arith))
  keeps_trap (Some v) = keeps_give v

  -- ---- known functions

  byte_keeps : (bytes : List ℕ) → Keeps (λ z. byte_of bytes)
  byte_keeps [] f g w h = record { value = refl; world = refl; work = refl; frames = h }
  byte_keeps (c ∷ rest) f g w h = record { value = refl; world = refl; work = refl; frames = h }

  pub keeps_known : (numbers : List ℕ) (k : Known) (vs : List ℕ) → Keeps (λ z. known_value p numbers k vs)
  keeps_known numbers Getchar vs f g w h = byte_keeps w.input f g w h
  keeps_known numbers Putchar vs f g w h = record { value = refl; world = refl; work = refl; frames = h }
  keeps_known numbers Poll vs f g w h = record { value = refl; world = refl; work = refl; frames = h }
  keeps_known numbers (Plan code index) vs f g w h = record { value = refl; world = refl; work = refl; frames = h }

  -- ---- calls

  -- the calls of two contexts that number functions alike
  pub record SteadyCalls (context : Bool → Context) : Type 0 where
    pub numbers : (context false).numbers ≡ (context true).numbers
    pub calls : (n : ℕ) (vs : List ℕ) → Keeps (λ z. (context z).call n vs)
    pub numbered : (t : CType) (o : Option ℕ) (vs : List ℕ) → Keeps (λ z. call_numbered (context z) t o vs)

  pub keeps_call : (context : Bool → Context) → ((n : ℕ) (vs : List ℕ) → Keeps (λ z. (context z).call n vs)) → (n : ℕ) (vs : List ℕ) → Keeps (λ z. call_at (context z) n vs)
  keeps_call context calls n vs f g w h =
      alike_either lost fine (Agree scope) (Kept {A = ℕ}) (nat_lt w.depth 512) (λ z. (context z).call n vs) (λ z. stop (Trapped 4)) (calls n vs) (keeps_stop (Trapped 4) (traps 4 (omega arith))) f g w h

  pub keeps_through : (context : Bool → Context) → SteadyCalls context → (t : CType) (v : ℕ) (vs : List ℕ) → Keeps (λ z. call_through (context z) t v vs)
  keeps_through context steady t v vs =
      let f = function_of_number (context true).numbers v in
      alike_either lost fine (Agree scope) (Kept {A = ℕ}) (nat_eq v 0) (λ z. stop (Trapped 3)) (λ z. call_numbered (context z) t (function_of_number (context z).numbers v) vs)
      (keeps_stop (Trapped 3) (traps 3 (omega arith)))
      (alike_by lost fine (Agree scope) (Kept {A = ℕ}) (λ z. call_numbered (context z) t (function_of_number (context z).numbers v) vs) (λ z. call_numbered (context z) t f vs)
      refl (ap (λ ns. call_numbered (context false) t (function_of_number ns v) vs) steady.numbers) (steady.numbered t f vs))
