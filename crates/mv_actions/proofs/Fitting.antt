-- What an item does fits the switches.
use Rattle.std.proofs.Common.{ℕ, ℤ, pos, negsuc, zero, suc, ◌≡◌, ◌<◌, ◌-◌, ◌^◌, Bool, true, false, List, [], ◌∷◌, map, refl, sym, ap, ◌∙◌, subst, arith}
use Rattle.std.specs.Prelude.{Option, Some, None, All, IsTrue, slice_get, option_map, option_and_then, if◌then◌else◌, unwrap_or}
use Rattle.std.specs.List.{zip}
use Rattle.std.proofs.lemmas.Bool.Decides.{nat_tests}
use Rattle.std.proofs.lemmas.Option.{none-some, slice_get-map}
use Rattle.mv_num.specs.Words.{word_of}
use Rattle.mv_num.specs.Kinds.{kind_number, is_value}
use Rattle.mv_num.specs.declared.kind.Kind.{Kind}
use Rattle.mv_num.specs.declared.kind.Kind.TheVariants as kinds
use Rattle.mv_ast.specs.declared.program.CType.{CType}
use Rattle.mv_ast.specs.declared.program.CType.TheVariants.{Void, Scalar, Pointer}
use Rattle.mv_ast.specs.declared.program.Program.{Program}
use Rattle.mv_ast.specs.declared.program.Global.{Global}
use Rattle.mv_ast.specs.declared.program.Switch.{Switch}
use Rattle.mv_bindings.specs.declared.action.Action.{Action}
use Rattle.mv_bindings.specs.declared.action.Action.TheVariants.{Skip, Flip}
use Rattle.mv_ast.specs.Actions.{fits, is_switch_value, is_global_value, is_value_of}
use Rattle.mv_bindings.specs.Acts.{IsOfWord}
use Rattle.mv_command.specs.declared.items.Item.{Item}
use Rattle.mv_descriptors.specs.declared.rows.SwitchRow.{SwitchRow}
use Rattle.mv_image.specs.Spelling.{Fields}
use Rattle.mv_machine.specs.Actions as rows
use Rattle.mv_actions.specs.declared.controls.Control.{Control}
use Rattle.mv_actions.specs.Controls.{kind_of_type, control_of_global, controls_of, control_of_row, controls_in}
use Rattle.mv_actions.specs.Operator.{is_of_kind, kind_of_switch, switch_named, flip_by, flip_of, AreActions}
use Rattle.mv_actions.proofs.Acting.{each_action}
use Rattle.mv_num.proofs.Numbers.{word_of_pos, word_small, word_of_negsuc}

above : (kind : Kind) (n : ℕ) → is_of_kind kind (pos n) ≡ true → (n < 2 ^ 32) × (is_value (kind_number kind) n ≡ true)
above kinds.Bool n h = (grind (arith, nat_tests, h), grind (arith, nat_tests, h))
above kinds.SChar n h = (grind (arith, nat_tests, h), grind (arith, nat_tests, h))
above kinds.UChar n h = (grind (arith, nat_tests, h), grind (arith, nat_tests, h))
above kinds.Short n h = (grind (arith, nat_tests, h), grind (arith, nat_tests, h))
above kinds.UShort n h = (grind (arith, nat_tests, h), grind (arith, nat_tests, h))
above kinds.Int n h = (grind (arith, nat_tests, h), refl)
above kinds.UInt n h = (grind (arith, nat_tests, h), refl)

below : (kind : Kind) (n : ℕ) → is_of_kind kind (negsuc n) ≡ true → (n < 2 ^ 32) × (is_value (kind_number kind) (2 ^ 32 - suc n) ≡ true)
below kinds.Bool n h = (grind (arith, nat_tests, h), grind (arith, nat_tests, h))
below kinds.SChar n h = (grind (arith, nat_tests, h), grind (arith, nat_tests, h))
below kinds.UChar n h = (grind (arith, nat_tests, h), grind (arith, nat_tests, h))
below kinds.Short n h = (grind (arith, nat_tests, h), grind (arith, nat_tests, h))
below kinds.UShort n h = (grind (arith, nat_tests, h), grind (arith, nat_tests, h))
below kinds.Int n h = (grind (arith, nat_tests, h), refl)
below kinds.UInt n h = (grind (arith, nat_tests, h), refl)

value_fits : (kind : Kind) (z : ℤ) → is_of_kind kind z ≡ true → is_value (kind_number kind) (word_of z) ≡ true
value_fits kind (pos n) h = let a = above kind n h in ap (is_value (kind_number kind)) (word_of_pos n a.0) ∙ a.1
value_fits kind (negsuc n) h = let b = below kind n h in ap (is_value (kind_number kind)) (word_of_negsuc n b.0) ∙ b.1

-- ---- from the item to the switch

some_same : {X : Type 0} {x y : X} → Some x ≡ Some y → x ≡ y
some_same {x = x} e = ap (λ o. unwrap_or o x) e

-- whether a word is a value of a switch of this type
abbrev is_kind_value : Option Kind → ℕ → Bool
is_kind_value None v = false
is_kind_value (Some kind) v = is_value (kind_number kind) v

-- whether an action fits switches
abbrev fits_switches : List Control → Action → Bool
fits_switches switches Skip = true
fits_switches switches (Flip s v) = is_kind_value (kind_of_switch switches s) v

module _ (switches : List Control) (value : ℤ) (flip : Action) where
  fits_kind : (s : ℕ) (kind : Kind) (holds : Bool) → is_of_kind kind value ≡ holds → (is_value (kind_number kind) (word_of value) ≡ true → fits_switches switches (Flip s (word_of value)) ≡ true) →
      (if holds then Some (Flip s (word_of value)) else None) ≡ Some flip → fits_switches switches flip ≡ true
  fits_kind s kind true h there e = subst (λ a. fits_switches switches a ≡ true) (some_same e) (there (value_fits kind value h))
  fits_kind s kind false h there e = absurd (none-some flip e)

  fits_by : (s : ℕ) (kind : Option Kind) → (is_kind_value kind (word_of value) ≡ true → fits_switches switches (Flip s (word_of value)) ≡ true) → option_and_then (flip_by value s) kind ≡ Some flip → fits_switches switches flip ≡ true
  fits_by s None there e = absurd (none-some flip e)
  fits_by s (Some kind) there e = fits_kind s kind (is_of_kind kind value) refl there e

  fits_from : (number : Option ℕ) → option_and_then (λ s. option_and_then (flip_by value s) (kind_of_switch switches s)) number ≡ Some flip → fits_switches switches flip ≡ true
  fits_from None e = absurd (none-some flip e)
  fits_from (Some s) e = fits_by s (kind_of_switch switches s) (λ h. h) e

flip_fits : (switches : List Control) (item : Item) (flip : Action) → flip_of switches item ≡ Some flip → fits_switches switches flip ≡ true
flip_fits switches item flip e = fits_from switches item.value flip (switch_named switches item.name) e

-- ---- of a program

type_same : (ctype : CType) (v : ℕ) → is_kind_value (kind_of_type ctype) v ≡ is_value_of ctype v
type_same Void v = refl
type_same (Scalar kind) v = refl
type_same (Pointer signature) v = refl

global_same : (global : Option Global) (v : ℕ) → is_kind_value (control_of_global global).kind v ≡ is_global_value global v
global_same None v = refl
global_same (Some g) v = type_same g.ctype v

switch_same : (p : Program) (switch : Option Switch) (v : ℕ) → is_kind_value (option_and_then (λ (c : Control). c.kind) (option_map (λ (s : Switch). control_of_global (slice_get p.globals s.global)) switch)) v ≡ is_switch_value p switch v
switch_same p None v = refl
switch_same p (Some s) v = global_same (slice_get p.globals s.global) v

action_same : (p : Program) (action : Action) → fits_switches (controls_of p) action ≡ fits p action
action_same p Skip = refl
action_same p (Flip s v) = ap (λ o. is_kind_value (option_and_then (λ (c : Control). c.kind) o) v) (slice_get-map (λ (s : Switch). control_of_global (slice_get p.globals s.global)) p.switches s) ∙ switch_same p (slice_get p.switches s) v

-- ---- of an image

row_fits : (names : List (List ℕ)) (switches : List SwitchRow) (s v : ℕ) → is_kind_value (kind_of_switch (map control_of_row (zip names switches)) s) v ≡ true → rows.is_row_value (slice_get switches s) v ≡ true
row_fits [] switches s v h = cc
row_fits (name ∷ names) [] s v h = cc
row_fits (name ∷ names) (row ∷ switches) zero v h = h
row_fits (name ∷ names) (row ∷ switches) (suc s) v h = row_fits names switches s v h

action_fits : (image : Fields) (action : Action) → fits_switches (controls_in image) action ≡ true → rows.fits_rows image.switches action ≡ true
action_fits image Skip h = refl
action_fits image (Flip s v) h = row_fits image.names image.switches s v h

-- ---- words

words_kind : (s : ℕ) (value : ℤ) (holds : Bool) (flip : Action) → (if holds then Some (Flip s (word_of value)) else None) ≡ Some flip → IsOfWord flip
words_kind s value true flip e = subst IsOfWord (some_same e) (word_small value)
words_kind s value false flip e = absurd (none-some flip e)

words_by : (s : ℕ) (value : ℤ) (kind : Option Kind) (flip : Action) → option_and_then (flip_by value s) kind ≡ Some flip → IsOfWord flip
words_by s value None flip e = absurd (none-some flip e)
words_by s value (Some kind) flip e = words_kind s value (is_of_kind kind value) flip e

words_from : (switches : List Control) (value : ℤ) (number : Option ℕ) (flip : Action) → option_and_then (λ s. option_and_then (flip_by value s) (kind_of_switch switches s)) number ≡ Some flip → IsOfWord flip
words_from switches value None flip e = absurd (none-some flip e)
words_from switches value (Some s) flip e = words_by s value (kind_of_switch switches s) flip e

-- ---- all actions

pub all_words : (switches : List Control) (items : List Item) (actions : List Action) → AreActions switches items actions → All IsOfWord actions
all_words switches items actions acts = subst (All IsOfWord) (sym acts.are) (each_action IsOfWord switches tt (λ item flip e. words_from switches item.value (switch_named switches item.name) flip e) 0 items)

pub all_fit : (p : Program) (items : List Item) (actions : List Action) → AreActions (controls_of p) items actions → All (λ action. IsTrue (fits p action)) actions
all_fit p items actions acts =
    subst (All (λ action. IsTrue (fits p action))) (sym acts.are)
    (each_action (λ action. IsTrue (fits p action)) (controls_of p) refl (λ item flip e. sym (action_same p flip) ∙ flip_fits (controls_of p) item flip e) 0 items)

pub all_fit_in : (image : Fields) (items : List Item) (actions : List Action) → AreActions (controls_in image) items actions → All (λ action. IsTrue (rows.fits_rows image.switches action)) actions
all_fit_in image items actions acts =
    subst (All (λ action. IsTrue (rows.fits_rows image.switches action))) (sym acts.are)
    (each_action (λ action. IsTrue (rows.fits_rows image.switches action)) (controls_in image) refl (λ item flip e. action_fits image flip (flip_fits (controls_in image) item flip e)) 0 items)
