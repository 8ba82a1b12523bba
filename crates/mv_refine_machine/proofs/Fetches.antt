-- Where the machine is calm, the word that stands under the bindings is the only one that a fetch gives.
use Rattle.std.proofs.Common.{◌≡◌, inl, inr, ℕ, ◌+◌, ◌-◌, ◌*◌, ◌/◌, ◌%◌, ◌<◌, ◌≤◌, Bool, true, false, ◌||◌, cond, eqb, ltb, List, [], ◌∷◌, length, slice_get, slice_index, is_some, Option, Some, None, option_map, refl, ap, ap₂, ◌∙◌, arith}
use Rattle.std.proofs.lemmas.Bool.{lt-ltb, le-ltb, or_parts, eqb-true, ltb-true, ltb-false}
use Rattle.std.proofs.lemmas.Option.{slice_get_within, get_or_from_slice_get, slice_get-get_or}
use Rattle.mv_descriptors.specs.declared.rows.SiteRow.{SiteRow}
use Rattle.mv_descriptors.specs.declared.rows.PointRow.{PointRow}
use Rattle.mv_fetch.specs.Held.{Held, IsInText, index_of, older_at, choices, choices_in, choices_of}
use Rattle.mv_image.specs.Spelling.{Fields}
use Rattle.mv_image.specs.Patched.{Bindings, entry_at, site_at, site_before, point_at, pointer_number, variant_under, target_under, word_by, word_through, word_under, text_of, ShowsAt}
use Rattle.mv_image.proofs.PatchLaws.{text_size, text_at}
use Rattle.mv_isa.specs.Execution.{step}
use Rattle.mv_ir.specs.World.{World}
use Rattle.mv_rv32.specs.Stepping.{access, picked_step}
use Rattle.mv_machine.specs.Runs.{State, fetched_step, choices_at}
use Rattle.mv_refine_machine.specs.Calm.{Rest, IsCalm}
use Rattle.mv_patch.specs.Orders.{values_of}
use Rattle.mv_refine_machine.specs.MachineRuns.{may_be_patched, word_at, image_word, unpatched_word, bound_word}
use Rattle.mv_refine_machine.specs.Assembled.{IsFreeAt}
use Rattle.mv_refine_machine.proofs.Memory.{InText, text_at as lies_in_text}

-- ---- the word of the image

-- an address of text, and its word
pub record Standing (image : Fields) (a word : ℕ) : Type 0 where
  pub aligned : a % 4 ≡ 0
  pub text : InText a
  pub below : a < 0x0010_0000
  pub there : slice_get image.text (index_of a) ≡ Some word

word_told : (text : List ℕ) (a w : ℕ) → word_at text a ≡ Some w → (0x1000 ≤ a) × (a < 0x0010_0000) × (slice_get text ((a - 0x1000) / 4) ≡ Some w)
word_told text a w e = by_tests (ltb a 0x1000) (ltb a 0x0010_0000) refl refl e
  where
    by_tests : (low below : Bool) → ltb a 0x1000 ≡ low → ltb a 0x0010_0000 ≡ below → cond low None (cond below (slice_get text ((a - 0x1000) / 4)) None) ≡ Some w
        → (0x1000 ≤ a) × (a < 0x0010_0000) × (slice_get text ((a - 0x1000) / 4) ≡ Some w)
    by_tests true below p q k = absurd (cc)
    by_tests false true p q k = (ltb-false a 0x1000 p, ltb-true a 0x0010_0000 q, k)
    by_tests false false p q k = absurd (cc)

pub standing : (image : Fields) (a word : ℕ) → image_word image a ≡ Some word → Standing image a word
unfolding image_word
standing image a word e = by_test (eqb (a % 4) 0) refl e
  where
    by_test : (aligned : Bool) → eqb (a % 4) 0 ≡ aligned → cond aligned (word_at image.text a) None ≡ Some word → Standing image a word
    by_test true p q =
        let r = word_told image.text a word q in
        let text = lies_in_text a r.0 r.1 in
        record { aligned = eqb-true (a % 4) 0 p; text = text; below = r.1; there = ap (λ k. slice_get image.text k) text.index ∙ r.2 }
    by_test false p q = absurd (cc)

word_there : (text : List ℕ) (a k : ℕ) → 0x1000 ≤ a → a < 0x0010_0000 → (a - 0x1000) / 4 ≡ k → word_at text a ≡ slice_get text k
word_there text a k ge lt e =
    let f : ltb a 0x1000 ≡ false = le-ltb a 0x1000 ge in
    let g : ltb a 0x0010_0000 ≡ true = lt-ltb a 0x0010_0000 lt in rw (f, g) (ap (slice_get text) e)

pub finds_word : (image : Fields) (k word : ℕ) → slice_get image.text k ≡ Some word → 0x1000 + 4 * k < 0x0010_0000 → image_word image (0x1000 + 4 * k) ≡ Some word
unfolding image_word
finds_word image k word there lt =
    let aligned : (0x1000 + 4 * k) % 4 ≡ 0 = omega arith in
    ap (λ r. cond (eqb r 0) (word_at image.text (0x1000 + 4 * k)) None) aligned ∙ word_there image.text (0x1000 + 4 * k) k (omega arith) lt (omega arith) ∙ there

pub keeps_word : (image : Fields) (a word : ℕ) → image_word image a ≡ Some word → may_be_patched image a ≡ false → unpatched_word image a ≡ Some word
unfolding unpatched_word
keeps_word image a word e never = ap (λ b. cond b None (image_word image a)) never ∙ e

pub never_patched : (image : Fields) → image.functions ≡ [] → image.sites ≡ [] → image.points ≡ [] → (a : ℕ) → may_be_patched image a ≡ false
unfolding entry_at site_at site_before point_at
never_patched image functions sites points a = rw (functions, sites, points) refl

-- ---- the word under bindings

by_none : (image : Fields) (bound : Bindings) (a word : ℕ) (e : Option ℕ) (s t : Option SiteRow) → is_some e ≡ false → is_some s ≡ false → is_some t ≡ false → word_by image bound a word e s t ≡ word
by_none image bound a word None None None p q r = refl
by_none image bound a word None None (Some t) p q r = absurd (cc)
by_none image bound a word None (Some s) t p q r = absurd (cc)
by_none image bound a word (Some e) s t p q r = absurd (cc)

-- where no pointer site stands
pub beside_points : (image : Fields) (bound : Bindings) (a word : ℕ) → point_at image a ≡ None → word_under image bound a word ≡ word_by image bound a word (entry_at image a) (site_at image a) (site_before image a)
unfolding word_under
beside_points image bound a word e = ap (word_through image bound a word) e

pub none_of : {A : Type 0} (o : Option A) → is_some o ≡ false → o ≡ None
none_of None h = refl
none_of (Some x) h = absurd (cc)

unpatched_under : (image : Fields) (bound : Bindings) (a word : ℕ) → may_be_patched image a ≡ false → word_under image bound a word ≡ word
unpatched_under image bound a word h =
    let p = or_parts (is_some (entry_at image a)) (is_some (site_at image a) || (is_some (site_before image a) || is_some (point_at image a))) h in
    let q = or_parts (is_some (site_at image a)) (is_some (site_before image a) || is_some (point_at image a)) p.1 in
    let r = or_parts (is_some (site_before image a)) (is_some (point_at image a)) q.1 in
    beside_points image bound a word (none_of (point_at image a) r.1) ∙ by_none image bound a word (entry_at image a) (site_at image a) (site_before image a) p.0 q.0 r.0

pub unpatched_stands : (image : Fields) (w : World) (a word : ℕ) → unpatched_word image a ≡ Some word → bound_word image w a ≡ Some word
unfolding unpatched_word bound_word
unpatched_stands image w a word e = by_test (may_be_patched image a) (image_word image a) refl e
  where
    by_test : (patched : Bool) (o : Option ℕ) → may_be_patched image a ≡ patched → cond patched None o ≡ Some word → option_map (word_under image (values_of w.bindings) a) o ≡ Some word
    by_test true o p q = absurd (cc)
    by_test false None p q = absurd (cc)
    by_test false (Some x) p q = let same : x ≡ word = cc in ap Some (unpatched_under image (values_of w.bindings) a x p ∙ same)

-- where no binding shows that isn't free
free_by : (image : Fields) (bound : Bindings) (a word : ℕ) (e : Option ℕ) (s t : Option SiteRow) → entry_at image a ≡ e → site_at image a ≡ s → site_before image a ≡ t
    → ((function : ℕ) → ShowsAt image function a → bound function ≡ None) → word_by image bound a word e s t ≡ word
unfolding variant_under
free_by image bound a word (Some f) s t p q r free = rw (free f (inl p)) refl
free_by image bound a word None (Some k) t p q r free = rw (free k.function (inr (inl (k, q, refl)))) refl
free_by image bound a word None None (Some k) p q r free = rw (free k.function (inr (inr (inl (k, r, refl))))) refl
free_by image bound a word None None None p q r free = refl

free_through : (image : Fields) (bound : Bindings) (a word : ℕ) (point : Option PointRow) → point_at image a ≡ point → ((function : ℕ) → ShowsAt image function a → bound function ≡ None)
    → word_through image bound a word point ≡ word
unfolding target_under
free_through image bound a word None p free = free_by image bound a word (entry_at image a) (site_at image a) (site_before image a) refl refl refl free
free_through image bound a word (Some point) p free = rw (free (pointer_number image point.pointer) (inr (inr (inr (point, p, refl))))) refl

pub free_under : (image : Fields) (bound : Bindings) (a word : ℕ) → ((function : ℕ) → ShowsAt image function a → bound function ≡ None) → word_under image bound a word ≡ word
unfolding word_under
free_under image bound a word free = free_through image bound a word (point_at image a) refl free

pub free_stands : (image : Fields) (w : World) (a word : ℕ) → IsFreeAt image w a → image_word image a ≡ Some word → bound_word image w a ≡ Some word
unfolding bound_word
free_stands image w a word free e = ap (option_map (word_under image (values_of w.bindings) a)) e ∙ ap Some (free_under image (values_of w.bindings) a word free)

-- it is a word of text
pub unpatched_below : (image : Fields) (a word : ℕ) → unpatched_word image a ≡ Some word → a < 0x0010_0000
unfolding unpatched_word image_word
unpatched_below image a word e = by_tests (may_be_patched image a) (eqb (a % 4) 0) e
  where
    by_tests : (patched aligned : Bool) → cond patched None (cond aligned (word_at image.text a) None) ≡ Some word → a < 0x0010_0000
    by_tests true aligned q = absurd (cc)
    by_tests false true q = (word_told image.text a word q).1
    by_tests false false q = absurd (cc)

-- it stands in text under the bindings
stands_under : (image : Fields) (bound : Bindings) (a word : ℕ) → Standing image a word → slice_get (text_of image bound) (index_of a) ≡ Some (word_under image bound a word)
stands_under image bound a word h =
    let k = index_of a in
    let within : k < length image.text = slice_get_within image.text k word h.there in
    let size = text_size image bound in
    let here : slice_index image.text k ≡ word = get_or_from_slice_get image.text k word 0 h.there in
    let index = h.text.index in
    let after = h.text.after in
    let aligned = h.aligned in
    let at : 4096 + 4 * k ≡ a = omega (arith, index, after, aligned) in
    slice_get-get_or (text_of image bound) k 0 (omega (arith, within, size))
    ∙ ap Some (text_at image bound k within ∙ ap₂ (λ b x. word_under image bound b x) at here)

-- ---- what a fetch gives

one_choice : (h : Held) (a w : ℕ) → a % 4 ≡ 0 → IsInText a → slice_get h.text (index_of a) ≡ Some w → older_at h.older (index_of a) ≡ [] → choices h a ≡ w ∷ []
unfolding choices
one_choice h a w aligned text there older =
    ap₂ (λ r g. cond (eqb r 0) (choices_in h g (index_of a)) []) aligned text ∙ ap₂ choices_of there older

-- where the machine is calm, the word that stands there is the one choice
pub calm_choice : (image : Fields) (w : World) (m : Rest) (a word : ℕ) → IsCalm image w m → bound_word image w a ≡ Some word → choices m.room.held a ≡ word ∷ []
unfolding bound_word
calm_choice image w m a word calm e = of_word (image_word image a) refl e
  where
    of_word : (o : Option ℕ) → image_word image a ≡ o → option_map (word_under image (values_of w.bindings) a) o ≡ Some word → choices m.room.held a ≡ word ∷ []
    of_word None p q = absurd (cc)
    of_word (Some x) p q =
        let h = standing image a x p in
        one_choice m.room.held a word h.aligned h.text.is
        (ap (λ xs. slice_get xs (index_of a)) calm.text
        ∙ ap (λ b. slice_get (text_of image (values_of b)) (index_of a)) calm.bindings
        ∙ stands_under image (values_of w.bindings) a x h ∙ q)
        (calm.no_older (index_of a))

-- whatever is picked, the one word is executed
pub fetches_one : (s : State) (pick word : ℕ) → choices s.room.held s.pc ≡ word ∷ [] → fetched_step s pick ≡ step access (Some word) s.regs s.pc s.room
unfolding fetched_step choices_at picked_step
fetches_one s pick word one =
    ap (λ (l : List ℕ). step access (slice_get l (pick % length l)) s.regs s.pc s.room) one ∙ ap (λ (k : ℕ). step access (slice_get (word ∷ []) k) s.regs s.pc s.room) (all_zero pick)
  where
    all_zero : (n : ℕ) → n % length (word ∷ []) ≡ 0
    all_zero n = omega arith
