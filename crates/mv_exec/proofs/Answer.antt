-- Bytes and items have one answer.
use Rattle.std.proofs.Common.{◌≡◌, ℕ, List, refl, sym, ap, ap₂, ◌∙◌, subst}
use Rattle.mv_command.specs.declared.items.Item.{Item}
use Rattle.mv_bindings.specs.declared.action.Action.{Action}
use Rattle.mv_image.specs.Faults.{Spells, Spelled, FirstFault}
use Rattle.mv_image.specs.Faults as image
use Rattle.mv_image.specs.Spelling.{Fields}
use Rattle.mv_image.specs.declared.fault.ImageError.{ImageError}
use Rattle.mv_image.specs.declared.fault.ImageError.TheVariants as fault
use Rattle.mv_image.proofs.OneVerdict.{one_image, one_fault, spelled_has_none}
use Rattle.mv_actions.specs.Operator.{IsImageActions, IsImageFirstWrong}
use Rattle.mv_actions.proofs.Acting.{not_both_in, one_wrong_in, one_list_in}
use Rattle.mv_exec.specs.Loading.{IsBadImage, truncated, bad_field, trailing, IsWrongItem, IsNotLoaded, IsLoaded, IsMemory}
use Rattle.mv_exec.specs.declared.loaded.Loaded.{Loaded}
use Rattle.mv_exec.specs.declared.error.LoadError.{LoadError}
use Rattle.mv_exec.specs.declared.error.LoadError.TheVariants.{BadImage, Refused, Memory}

-- ---- bytes that spell no image

code_of : ImageError → ℕ
code_of (fault.Truncated offset) = 10
code_of (fault.BadField offset) = 11
code_of (fault.Trailing offset) = 12
code_of (fault.Memory e) = 0

offset_of : ImageError → ℕ
offset_of (fault.Truncated offset) = offset
offset_of (fault.BadField offset) = offset
offset_of (fault.Trailing offset) = offset
offset_of (fault.Memory e) = 0

-- the first fault has this code and this offset
record Names (bytes : List ℕ) (code offset : ℕ) : Type 0 where
  fault : ImageError
  first : FirstFault bytes fault
  some : image.IsMemory fault → ⊥
  code_is : code ≡ code_of fault
  offset_is : offset ≡ offset_of fault

names : {bytes : List ℕ} {code offset : ℕ} → IsBadImage bytes code offset → Names bytes code offset
unfolding code_of offset_of
names (truncated offset first) = record { fault = fault.Truncated offset; first = first; some = λ h. h; code_is = refl; offset_is = refl }
names (bad_field offset first) = record { fault = fault.BadField offset; first = first; some = λ h. h; code_is = refl; offset_is = refl }
names (trailing offset first) = record { fault = fault.Trailing offset; first = first; some = λ h. h; code_is = refl; offset_is = refl }

-- a first fault has one code and one offset
pub one_bad : (bytes : List ℕ) (code offset code' offset' : ℕ) → IsBadImage bytes code offset → IsBadImage bytes code' offset' → (code ≡ code') × (offset ≡ offset')
one_bad bytes code offset code' offset' a b =
    let f = names a in
    let g = names b in
    let same : f.fault ≡ g.fault = one_fault bytes f.fault g.fault f.first g.first f.some g.some in
    (f.code_is ∙ ap code_of same ∙ sym g.code_is, f.offset_is ∙ ap offset_of same ∙ sym g.offset_is)

-- bytes that spell an image have none
pub spells_not_bad : (bytes : List ℕ) (i : Fields) (code offset : ℕ) → Spells bytes i → IsBadImage bytes code offset → ⊥
spells_not_bad bytes i code offset spells bad =
    let f = names bad in
    f.some (spelled_has_none bytes f.fault (subst Spelled (sym spells.bytes_are) spells.rules.spelled) f.first)

-- ---- items of an image

-- the first item that does nothing has one number
pub one_item : (bytes : List ℕ) (items : List Item) (i : Fields) (item other : ℕ) → Spells bytes i → IsImageFirstWrong i items item → IsWrongItem bytes items other → item ≡ other
one_item bytes items i item other spells first wrong =
    one_wrong_in i items item other first (subst (λ (z : Fields). IsImageFirstWrong z items other) (one_image bytes wrong.image i wrong.spells spells) wrong.first)

-- items that all do something have none
pub acts_not_wrong : (bytes : List ℕ) (items : List Item) (i : Fields) (actions : List Action) (item : ℕ) → Spells bytes i → IsImageActions i items actions → IsWrongItem bytes items item → ⊥
acts_not_wrong bytes items i actions item spells acts wrong =
    not_both_in i items actions item acts (subst (λ (z : Fields). IsImageFirstWrong z items item) (one_image bytes wrong.image i wrong.spells spells) wrong.first)

-- ---- answers

pub one_loaded : (bytes : List ℕ) (items : List Item) (a b : Loaded) → IsLoaded bytes items a → IsLoaded bytes items b → (a.image ≡ b.image) × (a.actions.items ≡ b.actions.items)
one_loaded bytes items a b la lb =
    let same : a.image ≡ b.image = one_image bytes a.image b.image la.image lb.image in
    (same, one_list_in b.image items a.actions.items b.actions.items (subst (λ (z : Fields). IsImageActions z items a.actions.items) same la.actions) lb.actions)

pub one_error : (bytes : List ℕ) (items : List Item) (a b : LoadError) → IsNotLoaded bytes items a → IsNotLoaded bytes items b → (IsMemory a → ⊥) → (IsMemory b → ⊥) → a ≡ b
one_error bytes items (BadImage code offset) (BadImage code' offset') a b na nb = let same = one_bad bytes code offset code' offset' a b in ap₂ (λ (x y : ℕ). BadImage x y) same.0 same.1
one_error bytes items (BadImage code offset) (Refused item) a b na nb = absurd (spells_not_bad bytes b.image code offset b.spells a)
one_error bytes items (BadImage code offset) (Memory e) a b na nb = absurd (nb tt)
one_error bytes items (Refused item) (BadImage code offset) a b na nb = absurd (spells_not_bad bytes a.image code offset a.spells b)
one_error bytes items (Refused item) (Refused other) a b na nb = ap (λ (n : ℕ). Refused n) (one_item bytes items a.image item other a.spells a.first b)
one_error bytes items (Refused item) (Memory e) a b na nb = absurd (nb tt)
one_error bytes items (Memory e) b ha hb na nb = absurd (na tt)

pub loaded_not_error : (bytes : List ℕ) (items : List Item) (loaded : Loaded) (e : LoadError) → IsLoaded bytes items loaded → IsNotLoaded bytes items e → IsMemory e
loaded_not_error bytes items loaded (BadImage code offset) l not = spells_not_bad bytes loaded.image code offset l.image not
loaded_not_error bytes items loaded (Refused item) l not = acts_not_wrong bytes items loaded.image loaded.actions.items item l.image l.actions not
loaded_not_error bytes items loaded (Memory e) l not = tt
