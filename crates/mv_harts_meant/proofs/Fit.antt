-- The runs of the harts of a program's image fit the law of several harts.
use Rattle.std.proofs.Common.{◌≡◌, ℕ, suc, ◌^◌, true, ◌&&◌, not, nat_eq, nat_lt, List, [], ◌∷◌, map, slice_get, Some, refl, sym, ap, ◌∙◌, subst, arith}
use Rattle.std.specs.Prelude.{IsTrue}
use Rattle.std.specs.List.{All}
use Rattle.std.proofs.lemmas.Bool.{and_parts, and_from, ne_eqb}
use Rattle.std.proofs.lemmas.List.Elements.{All-nil, All-cons, All-head, All-tail}
use Rattle.mv_ast.specs.declared.program.Program.{Program}
use Rattle.mv_ast.specs.Actions.{act_fits}
use Rattle.mv_ast.specs.Bindings.{are_bindings, are_typed_bindings}
use Rattle.mv_ast.specs.Actions as source
use Rattle.mv_bindings.specs.declared.binding.Binding.{Binding}
use Rattle.mv_bindings.specs.declared.action.Action.{Action}
use Rattle.mv_bindings.specs.declared.action.Action.TheVariants as action
use Rattle.mv_bindings.specs.Acts.{Act, Skip, Flip, Adopt, IsActOfWord, IsOfWord, act_of}
use Rattle.mv_image.specs.Format.{RulesAreTables}
use Rattle.mv_image.specs.Spelling.{Fields}
use Rattle.mv_image.specs.WellFormed.{FitsSwitch}
use Rattle.mv_ir_worlds.specs.Laws.{BindingsAreTold}
use Rattle.std.proofs.lemmas.Option.{get_or_from_slice_get, slice_get_within}
use Rattle.mv_meaning_numbering.specs.Laws.{IsTypedEvent, PointersAreLoggedTyped}
use Rattle.mv_patch.specs.Orders.{values_of}
use Rattle.mv_machine.specs.Actions.{fits_rows}
use Rattle.mv_refine_machine.specs.Stores.Laws.{RoomsAreWhole, TextsOfImages}
use Rattle.mv_harts_runs.specs.Alone.{Fitting, Passes, alone}
use Rattle.mv_harts_meant.specs.Runnable.{IsRunnable, is_act_of_word, fits_in}
use Rattle.mv_harts_meant.specs.Laws.{AreBytes, inputs_of}
use Rattle.mv_harts_meant.proofs.Bound.{run_passes}
use Rattle.mv_harts_meant.proofs.Rows.{all_before}
use Rattle.mv_harts_meant.proofs.Lone.{behaves_alone}

one_of_all : {X : Type 0} (P : X → Type 0) (xs : List X) → All P xs → (i : ℕ) (x : X) → slice_get xs i ≡ Some x → P x
one_of_all P xs all i x is = subst P (get_or_from_slice_get xs i x x is) (all i x (slice_get_within xs i x is))

-- ---- acts

of_word : (a : Act) → is_act_of_word a ≡ true → IsActOfWord a
of_word Skip e = tt
of_word (Flip switch value) e = grind (arith, e)
of_word (Adopt bs) e = tt

module _ (p : Program) (h : ℕ) where
  pub all_of_words : (acts : List Act) → All (Passes (fits_in p) h) acts → All IsActOfWord acts
  all_of_words [] all = All-nil IsActOfWord
  all_of_words (a ∷ acts) all =
      All-cons IsActOfWord a acts (of_word a (and_parts (act_fits p h a) (is_act_of_word a) (All-head (Passes (fits_in p) h) a acts all)).1) (all_of_words acts (All-tail (Passes (fits_in p) h) a acts all))

  pub all_fit : (acts : List Act) → All (Passes (fits_in p) h) acts → All (λ a. IsTrue (act_fits p h a)) acts
  all_fit [] all = All-nil (λ a. IsTrue (act_fits p h a))
  all_fit (a ∷ acts) all =
      All-cons (λ a. IsTrue (act_fits p h a)) a acts (and_parts (act_fits p h a) (is_act_of_word a) (All-head (Passes (fits_in p) h) a acts all)).0 (all_fit acts (All-tail (Passes (fits_in p) h) a acts all))

-- hart 0 adopts nothing
no_adopt : (p : Program) (bs : List Binding) → Passes (fits_in p) 0 (Adopt bs) → ⊥
no_adopt p bs e = cc

own : (p : Program) (acts : List Act) → All (Passes (fits_in p) 0) acts → All (λ (a : Act). (bs : List Binding) → a ≡ Adopt bs → ⊥) acts
own p [] all = All-nil (λ (a : Act). (bs : List Binding) → a ≡ Adopt bs → ⊥)
own p (a ∷ acts) all =
    All-cons (λ (a : Act). (bs : List Binding) → a ≡ Adopt bs → ⊥) a acts
    (λ bs e. no_adopt p bs (subst (Passes (fits_in p) 0) e (All-head (Passes (fits_in p) 0) a acts all)))
    (own p acts (All-tail (Passes (fits_in p) 0) a acts all))

-- ---- the law

module _ (formats : RulesAreTables) (told : BindingsAreTold) (logged : PointersAreLoggedTyped) (rooms : RoomsAreWhole) (texts : TextsOfImages)
    (p : Program) (image : Fields) (runs : IsRunnable p image) (bytes : ℕ → List ℕ) (are : AreBytes bytes) where
  adopted : (h n : ℕ) (acts : List Act) → All (Passes (fits_in p) 0) acts → Passes (fits_in p) (suc h) (Adopt (alone 0 image (inputs_of bytes 0) acts n).bindings)
  adopted h n acts all =
      let other : not (nat_eq (suc h) 0) ≡ true = ap not (ne_eqb (suc h) 0 (λ e. omega (arith, e))) in
      let both = run_passes p image runs.tables told 0 (inputs_of bytes 0) acts (own p acts all) [] n log in
      and_from (act_fits p (suc h) (Adopt bs)) true (and_from (not (nat_eq (suc h) 0)) (are_bindings p bs && are_typed_bindings p bs) other both) refl
    where
      bs : List Binding
      bs = (alone 0 image (inputs_of bytes 0) acts n).bindings

      -- what hart 0 logs is the beginning of what is meant
      log : All (IsTypedEvent p) (alone 0 image (inputs_of bytes 0) acts n).log
      log =
          let begins = ((runs.behaves (bytes 0) (record { hart = 0; acts = acts }) [] (are 0) (all_of_words p 0 acts all) (all_fit p 0 acts all)).within n).log in
          all_before (IsTypedEvent p) (alone 0 image (inputs_of bytes 0) acts n).log begins.0
          (subst (All (IsTypedEvent p)) begins.1 (logged p 0 (bytes 0) acts n runs.typed (all_fit p 0 acts all)))

  pub fitting : Fitting image (inputs_of bytes) (Passes (fits_in p))
  fitting = record {
    skips = λ h. refl;
    adopts = adopted;
    behaves = λ h acts all. behaves_alone rooms p image h (bytes h) acts (runs.behaves (bytes h) (record { hart = h; acts = acts }) [] (are h) (all_of_words p h acts all) (all_fit p h acts all));
    texts = λ some other. (texts image runs.rules (values_of some) (values_of other)).texts;
    leads = no_adopt p;
    rules = runs.rules;
    in_data = λ k row there. (one_of_all (FitsSwitch image) image.switches (formats image runs.rules).1.fit.switches k row there).address.not_before;
  }

-- ---- actions of the operator

module _ (p : Program) (image : Fields) (runs : IsRunnable p image) where
  passes : (a : Action) → IsOfWord a → IsTrue (fits_rows image.switches a) → Passes (fits_in p) 0 (act_of a)
  passes action.Skip word fit = refl
  passes (action.Flip switch value) word fit =
      let small : nat_lt value (2 ^ 32) ≡ true = grind (arith, word) in
      and_from (source.fits p (action.Flip switch value)) (nat_lt value (2 ^ 32)) (sym (runs.fits (action.Flip switch value)) ∙ fit) small

  pub all_pass : (actions : List Action) → All IsOfWord actions → All (λ a. IsTrue (fits_rows image.switches a)) actions → All (Passes (fits_in p) 0) (map act_of actions)
  all_pass [] words fit = All-nil (Passes (fits_in p) 0)
  all_pass (a ∷ actions) words fit =
      All-cons (Passes (fits_in p) 0) (act_of a) (map act_of actions)
      (passes a (All-head IsOfWord a actions words) (All-head (λ a. IsTrue (fits_rows image.switches a)) a actions fit))
      (all_pass actions (All-tail IsOfWord a actions words) (All-tail (λ a. IsTrue (fits_rows image.switches a)) a actions fit))
