-- A function's frame when it begins, whatever it holds.
use Rattle.std.proofs.Common.{◌≡◌, ℕ, zero, suc, ◌+◌, ◌-◌, ◌<◌, ◌≤◌, ◌⊎◌, inl, inr, Bool, true, false, cond, eqb, List, [], ◌∷◌, ◌++◌, map, length, take, drop, replicate, Option, Some, None, refl, sym, ◌∙◌, ap, arith}
use Rattle.std.specs.Prelude.{All, slice_index, slice_index_or, slice_get, zip}
use Rattle.std.proofs.lemmas.Bool.{cases_lt, ltb-true}
use Rattle.std.proofs.lemmas.Cmp.{nat_eq_equiv}
use Rattle.std.proofs.lemmas.List.Sums.{sum_by-cons}
use Rattle.std.proofs.lemmas.List.{length-append, length-map, length-drop, length-replicate}
use Rattle.mv_ast.specs.declared.program.Program.{Program}
use Rattle.mv_ast.specs.declared.program.Function.{Function}
use Rattle.mv_ast.specs.declared.program.Local.{Local}
use Rattle.mv_bindings.specs.declared.binding.Binding.{Binding}
use Rattle.mv_ast.specs.Counts.{words_of_size, elements_of}
use Rattle.mv_ast.specs.Switches.{attributed_before, switch_global, value_among, binding_value, bound_value}
use Rattle.mv_ast.specs.Worlds.{World}
use Rattle.mv_meaning.specs.declared.state.Frame.{Frame}
use Rattle.mv_meaning.specs.Meaning.{frame_of, deeper}
use Rattle.mv_ir.specs.World as code_world
use Rattle.mv_ir.specs.Outcome.{State}
use Rattle.mv_ir.specs.Trees.{found}
use Rattle.mv_ir.specs.Meaning.{Contents, first_items, first_arrays, entry_state}
use Rattle.mv_ir.specs.Levels.{Code, read_under, switches_read, one_if, frame_of_call}
use Rattle.mv_ir.specs.Programs.{setting_of, place_if, next_place, code_from, code_of}
use Rattle.mv_ir.proofs.Joining.{items_count}
use Rattle.mv_ir.specs.KnownFunctions.{seen}
use Rattle.mv_lower_spec.specs.Correct.{Ground, resting, ShowsAround, Shows}
use Rattle.mv_source_forms.specs.Names.{global_words, size_in}
use Rattle.mv_lower_spec.specs.Functions.{array_sizes, lower_function, lower_program}
use Rattle.mv_lower_spec.proofs.Forms.{word_is}
use Rattle.mv_source_forms.specs.WellFormed.{parameters, IsWellFormedFunction}
use Rattle.mv_lower_spec.proofs.OfPrograms.Agreement.{Agree}
use Rattle.mv_num.proofs.Lists.{index_left, index_beyond, all_tail, all_head}

-- ---- what the code's state holds, as words of locals

abbrev shown_words : Option ℕ → ℕ → State → List ℕ
shown_words None i s = slice_index s.temps i ∷ []
shown_words (Some n) i s = slice_index_or s.arrays i []

abbrev shown_locals : ℕ → List Local → State → List (List ℕ)
shown_locals i [] s = []
shown_locals i (l ∷ ls) s = shown_words l.size i s ∷ shown_locals (suc i) ls s

shown_count : (i : ℕ) (ls : List Local) (s : State) → length (shown_locals i ls s) ≡ length ls
shown_count i [] s = refl
shown_count i (l ∷ ls) s = ap suc (shown_count (suc i) ls s)

shown_at : (i : ℕ) (ls : List Local) (s : State) (l k : ℕ) → k ≡ i + l → l < length ls → slice_index_or (shown_locals i ls s) l [] ≡ shown_words (size_in ls l) k s
shown_at i [] s l k e lt = absurd (omega (arith, lt))
shown_at i (x ∷ ls) s zero k e lt = ap (λ j. shown_words x.size j s) (omega (arith, e))
shown_at i (x ∷ ls) s (suc l) k e lt = shown_at (suc i) ls s l k (omega (arith, e)) (omega (arith, lt))

-- ---- what it begins with

arrays_count : (f : ℕ → ℕ → ℕ) (ls : List Local) → length (first_arrays f (array_sizes ls)) ≡ length ls
arrays_count f [] = refl
arrays_count f (l ∷ ls) = ap suc (arrays_count (λ i. f (suc i)) ls)

array_count : (f : ℕ → ℕ → ℕ) (ls : List Local) (l n : ℕ) → size_in ls l ≡ Some n → length (slice_index_or (first_arrays f (array_sizes ls)) l []) ≡ n
array_count f [] l n e = absurd (cc)
array_count f (x ∷ ls) zero n e = items_count (elements_of x.size) (f 0) ∙ ap elements_of e
array_count f (x ∷ ls) (suc l) n e = array_count (λ i. f (suc i)) ls l n e

-- ---- the source's frame

abbrev single : ℕ → List ℕ
single v = v ∷ []

abbrev zeros : Local → List ℕ
zeros l = replicate (words_of_size l.size) 0

argument_words : (vs : List ℕ) (rest : List (List ℕ)) (l : ℕ) → l < length vs → slice_index_or (map single vs ++ rest) l [] ≡ slice_index vs l ∷ []
argument_words [] rest l lt = absurd (omega (arith, lt))
argument_words (v ∷ vs) rest zero lt = refl
argument_words (v ∷ vs) rest (suc l) lt = argument_words vs rest l (omega (arith, lt))

zero_words : (ls : List Local) (l : ℕ) → l < length ls → slice_index_or (map zeros ls) l [] ≡ replicate (words_of_size (size_in ls l)) 0
zero_words [] l lt = absurd (omega (arith, lt))
zero_words (x ∷ ls) zero lt = refl
zero_words (x ∷ ls) (suc l) lt = zero_words ls l (omega (arith, lt))

local_words : (n : ℕ) (ls : List Local) (vs : List ℕ) (l : ℕ) → length vs ≡ n → n ≤ l → l < length ls →
    slice_index_or (map single vs ++ map zeros (drop n ls)) l [] ≡ replicate (words_of_size (size_in ls l)) 0
local_words zero ls [] l e le lt = zero_words ls l lt
local_words zero ls (v ∷ vs) l e le lt = absurd (omega (arith, e))
local_words (suc n) ls [] l e le lt = absurd (omega (arith, e))
local_words (suc n) [] (v ∷ vs) l e le lt = absurd (omega (arith, lt))
local_words (suc n) (x ∷ ls) (v ∷ vs) zero e le lt = absurd (omega (arith, le))
local_words (suc n) (x ∷ ls) (v ∷ vs) (suc l) e le lt = local_words n ls vs l (omega (arith, e)) (omega (arith, le)) (omega (arith, lt))

pub scalar_at : (n : ℕ) (ls : List Local) (l : ℕ) → All (λ (x : Local). x.size ≡ None) (take n ls) → l < n → size_in ls l ≡ None
scalar_at zero ls l h lt = absurd (omega (arith, lt))
scalar_at (suc n) [] l h lt = refl
scalar_at (suc n) (x ∷ ls) zero h lt = all_head (λ (x : Local). x.size ≡ None) x (take n ls) h
scalar_at (suc n) (x ∷ ls) (suc l) h lt = scalar_at n ls l (all_tail (λ (x : Local). x.size ≡ None) x (take n ls) h) (omega (arith, lt))

-- ---- the functions' codes

module _ (p : Program) where
  abbrev pub code_for : Function → ℕ → Code
  code_for g before = record { body = lower_function p g; attributed = place_if g.attributed before }

  next_is : (z : Bool) (before n : ℕ) → next_place z before + n ≡ before + (cond z 1 0 + n)
  next_is true before n = omega arith
  next_is false before n = omega arith

  code_at : (before : ℕ) (fs : List Function) (f : ℕ) (g : Function) → slice_get fs f ≡ Some g → slice_get (code_from before fs (map (lower_function p) fs)) f ≡ Some (code_for g (before + attributed_before fs f))
  code_at before [] f g e = absurd (cc)
  code_at before (x ∷ fs) zero g e =
      let same : x ≡ g = cc in
      ap (λ n. Some (code_for x n)) (omega arith) ∙ ap (λ (y : Function). Some (code_for y (before + 0))) same
  code_at before (x ∷ fs) (suc f) g e =
      code_at (next_place x.attributed before) fs f g e ∙ ap (λ n. Some (code_for g n)) (next_is x.attributed before (attributed_before fs f)) ∙
      ap (λ n. Some (code_for g (before + n))) (sym (sum_by-cons (λ (y : Function). cond y.attributed 1 0) x (take f fs)))

  pub code_is : (f : ℕ) (g : Function) → slice_get p.functions f ≡ Some g → slice_get (code_of (lower_program p)) f ≡ Some (code_for g (attributed_before p.functions f))
  code_is f g e = code_at 0 p.functions f g e ∙ ap (λ n. Some (code_for g n)) (omega arith)

  -- ---- what the switches are read as

  pairs_found : (ss vs : List ℕ) (x : ℕ) → found (zip (map (switch_global p) ss) vs) x ≡ value_among p x ss vs
  pairs_found [] vs x = refl
  pairs_found (s ∷ ss) [] x = refl
  pairs_found (s ∷ ss) (v ∷ vs) x =
      ap (λ o. cond (eqb (switch_global p s) x) (Some v) o) (pairs_found ss vs x) ∙ ap (λ z. cond z (Some v) (value_among p x ss vs)) (nat_eq_equiv.symm (switch_global p s) x)

  read_is : (g : Function) (o : Option Binding) (x : ℕ) → found (read_under (map (switch_global p) g.switches) o) x ≡ binding_value p g o x
  read_is g None x = refl
  read_is g (Some b) x = by b.bound
    where
      by : (z : Bool) → found (cond z (zip (map (switch_global p) g.switches) b.values) []) x ≡ cond z (value_among p x g.switches b.values) None
      by true = pairs_found g.switches b.values x
      by false = refl

  switches_are : (g : Function) (n : ℕ) (w : World) (x : ℕ) (z : Bool) → found (switches_read (place_if z n) (map (switch_global p) g.switches) (seen w)) x ≡ cond z (binding_value p g (slice_get w.bindings n) x) None
  switches_are g n w x true = read_is g (slice_get w.bindings n) x
  switches_are g n w x false = refl

  live_is : (z : Bool) (n live : ℕ) → live + cond z 1 0 ≡ live + one_if (place_if z n)
  live_is true n live = refl
  live_is false n live = refl

  -- ---- the frame

  abbrev pub entry_frame : ℕ → Function → State → Frame
  entry_frame f g s = record { function = f; locals = shown_locals 0 g.locals s }

  abbrev pub frame_for : ℕ → Function → ℕ → World → code_world.Frame
  frame_for f g depth w = frame_of_call (place_if g.attributed (attributed_before p.functions f)) (map (switch_global p) g.switches) depth w.live (seen w)

  -- what doesn't change while a frame is there that began in a world
  abbrev pub ground_of : List ℕ → code_world.Frame → World → ℕ → Function → Ground
  ground_of numbers frame began f g = record {
    p = p;
    setting = setting_of numbers p;
    frame = frame;
    began = began.bindings;
    own = f;
    locals = length g.locals;
    sizes = size_in g.locals;
    room = (lower_function p g).temps;
  }

  body_room : (g : Function) → length g.locals ≤ (lower_function p g).temps
  body_room g = omega arith

  module _ (f : ℕ) (g : Function) (here : slice_get p.functions f ≡ Some g) (formed : IsWellFormedFunction p f g) (vs : List ℕ) (count : length vs ≡ g.params) (contents : Contents) (w : World)
      (globals : (x : ℕ) → length (slice_index_or w.globals x []) ≡ global_words p x) where
    abbrev s : State
    s = entry_state contents (lower_function p g) vs (seen w)

    words_count : (l : ℕ) → l < length g.locals → length (slice_index_or (shown_locals 0 g.locals s) l []) ≡ words_of_size (size_in g.locals l)
    words_count l lt = ap length (shown_at 0 g.locals s l l (omega arith) lt) ∙ by (size_in g.locals l) refl
      where
        by : (o : Option ℕ) → size_in g.locals l ≡ o → length (shown_words o l s) ≡ words_of_size o
        by None e = refl
        by (Some n) e = array_count contents.arrays g.locals l n e

    -- a frame of the source that holds what the code's state does, where around it all is as in the source
    pub entry_shown : (numbers : List ℕ) (frame : code_world.Frame) (w2 : World) → ShowsAround (ground_of numbers frame w f g) f w2 (seen w) → Shows (resting (ground_of numbers frame w f g)) (entry_frame f g s) w2 s
    entry_shown numbers frame w2 around = record {
      around = around;
      in_arrays = record {
        elements = λ l lt arr. array_shown l (size_in g.locals l) refl arr.0 ∙ sym (shown_at 0 g.locals s l l (omega arith) lt);
        untouched = λ l both e. absurd (cc);
        words = words_count;
        size = shown_count 0 g.locals s;
        arrays = arrays_count contents.arrays g.locals;
      };
      in_temps = record {
        above = omega arith;
        below = λ k le lt. absurd (omega (arith, le, lt));
        temps = length-append vs (first_items ((lower_function p g).temps - length vs) contents.temps) ∙ omega (arith, items_count ((lower_function p g).temps - length vs) contents.temps, count, formed.parameters_there, body_room g);
      };
      each = λ l lt sc. sym (word_is (shown_locals 0 g.locals s) l 0 ∙ ap (λ ws. slice_index ws 0) (shown_at 0 g.locals s l l (omega arith) lt ∙ ap (λ o. shown_words o l s) sc.0));
    }
      where
        array_shown : (l : ℕ) (o : Option ℕ) → size_in g.locals l ≡ o → (size_in g.locals l ≡ None → ⊥) → slice_index_or s.arrays l [] ≡ shown_words (size_in g.locals l) l s
        array_shown l None e h = absurd (h e)
        array_shown l (Some n) e h = sym (ap (λ o. shown_words o l s) e)

    pub shows_entry : (numbers : List ℕ) → Shows (resting (ground_of numbers (frame_for f g w.depth w) w f g)) (entry_frame f g s) (deeper g w) s
    shows_entry numbers = entry_shown numbers (frame_for f g w.depth w) (deeper g w) (record {
      world = refl;
      depth = refl;
      live = live_is g.attributed (attributed_before p.functions f) w.live;
      pinned = λ lt. refl;
      function = refl;
      switches = λ x. switches_are g (attributed_before p.functions f) w x g.attributed ∙ sym (ap (λ o. bound_value p w.bindings f o x) here);
      globals = globals;
    })

    -- it holds the arguments, as the one does in which the source begins
    pub agrees : Agree (parameters g) (entry_frame f g s) (frame_of f g vs)
    agrees = record { function = refl; count = counts; sizes = λ l. sizes l (cases_lt l (length g.locals)) (cases_lt l g.params); words = λ l e. arguments l (ltb-true l g.params e) }
      where
        counts : length (shown_locals 0 g.locals s) ≡ length (map single vs ++ map zeros (drop g.params g.locals))
        counts =
            shown_count 0 g.locals s ∙ sym (length-append (map single vs) (map zeros (drop g.params g.locals)) ∙
            omega (arith, length-map vs single, length-map (drop g.params g.locals) zeros, length-drop g.params g.locals, count, formed.parameters_there))

        sizes : (l : ℕ) → (l < length g.locals) ⊎ (length g.locals ≤ l) → (l < g.params) ⊎ (g.params ≤ l) →
            length (slice_index_or (shown_locals 0 g.locals s) l []) ≡ length (slice_index_or (map single vs ++ map zeros (drop g.params g.locals)) l [])
        sizes l (inl lt) (inl low) =
            words_count l lt ∙ ap words_of_size (scalar_at g.params g.locals l formed.scalars low) ∙ sym (ap length (argument_words vs (map zeros (drop g.params g.locals)) l (omega (arith, low, count))))
        sizes l (inl lt) (inr high) =
            words_count l lt ∙ sym (ap length (local_words g.params g.locals vs l count high lt) ∙ length-replicate (words_of_size (size_in g.locals l)) 0)
        sizes l (inr ge) q =
            ap length (index_beyond (shown_locals 0 g.locals s) l (omega (arith, ge, shown_count 0 g.locals s))) ∙
            sym (ap length (index_beyond (map single vs ++ map zeros (drop g.params g.locals)) l (omega (arith, ge, counts, shown_count 0 g.locals s))))

        arguments : (l : ℕ) → l < g.params → slice_index_or (shown_locals 0 g.locals s) l [] ≡ slice_index_or (map single vs ++ map zeros (drop g.params g.locals)) l []
        arguments l low =
            shown_at 0 g.locals s l l (omega arith) (omega (arith, low, formed.parameters_there)) ∙ ap (λ o. shown_words o l s) (scalar_at g.params g.locals l formed.scalars low) ∙
            ap (λ v. v ∷ []) (index_left vs (first_items ((lower_function p g).temps - length vs) contents.temps) l (omega (arith, low, count))) ∙
            sym (argument_words vs (map zeros (drop g.params g.locals)) l (omega (arith, low, count)))
