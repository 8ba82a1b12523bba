-- The test of calm.
use Rattle.std.proofs.Common.{◌≡◌, ℕ, zero, suc, Bool, true, ◌&&◌, eqb, List, [], ◌∷◌, length, Option, Some, None, refl, sym, ap, ap₂, ◌∙◌, subst, eq-eqb}
use Rattle.std.proofs.lemmas.Bool.{and_parts, and_from, eqb-true}
use Rattle.mv_bindings.specs.declared.binding.Binding.{Binding}
use Rattle.mv_bindings.specs.declared.binding.Event.{Event}
use Rattle.mv_bindings.specs.Bindings.{same_words, is_same_binding}
use Rattle.mv_fetch.specs.Held.{older_at}
use Rattle.mv_image.specs.Spelling.{Fields}
use Rattle.mv_image.specs.Patched.{text_of}
use Rattle.mv_ir.specs.World.{World}
use Rattle.mv_machine.specs.Runs.{Stop, Going, Exit, Trap, Fault, bytes_to_come, is_going}
use Rattle.mv_select.specs.Slots.Narrowed.{same_bindings}
use Rattle.mv_select.proofs.OfSlots.Bindings.{bindings_are_told}
use Rattle.mv_refine_machine.specs.Calm.{Rest, stack_words, IsCalm, all_empty, gives_bytes, is_same_event, same_events, is_calm_text, is_world_outside, is_calm}
use Rattle.mv_patch.specs.Orders.{values_of}
use Rattle.mv_refine_machine.proofs.Memory.{KeepsText}
use Rattle.mv_ir_worlds.proofs.Combining.{words_told, words_same, binding_told, binding_same}

-- ---- what each test tells

pub going_told : (stop : Stop) → is_going stop ≡ true → stop ≡ Going
going_told Going h = refl
going_told (Exit status) h = absurd (cc)
going_told (Trap code) h = absurd (cc)
going_told (Fault why) h = absurd (cc)

empty_told : (older : List (List ℕ)) → all_empty older ≡ true → (k : ℕ) → older_at older k ≡ []
empty_told [] h k = refl
empty_told ([] ∷ rest) h zero = refl
empty_told ([] ∷ rest) h (suc k) = empty_told rest h k
empty_told ((w ∷ words) ∷ rest) h k = absurd (cc)

empty_same : (older : List (List ℕ)) → ((k : ℕ) → older_at older k ≡ []) → all_empty older ≡ true
empty_same [] h = refl
empty_same ([] ∷ rest) h = empty_same rest (λ k. h (suc k))
empty_same ((w ∷ words) ∷ rest) h = let e = h 0 in absurd (cc)

bytes_told : (input : List (Option ℕ)) (bytes : List ℕ) → gives_bytes input bytes ≡ true → input ≡ bytes_to_come bytes
bytes_told [] [] h = refl
bytes_told [] (byte ∷ bytes) h = absurd (cc)
bytes_told (answer ∷ input) [] h = absurd (cc)
bytes_told (None ∷ input) (byte ∷ bytes) h = absurd (cc)
bytes_told (Some b ∷ input) (byte ∷ bytes) h =
    let p = and_parts (eqb b byte) (gives_bytes input bytes) h in ap₂ (λ x xs. Some x ∷ xs) (eqb-true b byte p.0) (bytes_told input bytes p.1)

bytes_same : (bytes : List ℕ) → gives_bytes (bytes_to_come bytes) bytes ≡ true
bytes_same [] = refl
bytes_same (byte ∷ bytes) = and_from (eqb byte byte) (gives_bytes (bytes_to_come bytes) bytes) (eq-eqb byte byte refl) (bytes_same bytes)

event_told : (a b : Event) → is_same_event a b ≡ true → a ≡ b
event_told a b h =
    let p = and_parts (eqb a.function b.function) (is_same_binding a.binding b.binding) h in
    let function = eqb-true a.function b.function p.0 in
    let binding = binding_told a.binding b.binding p.1 in
    ap₂ (λ (x : ℕ) (y : Binding). record a { function = x; binding = y }) function binding

event_same : (a : Event) → is_same_event a a ≡ true
event_same a = and_from (eqb a.function a.function) (is_same_binding a.binding a.binding) (eq-eqb a.function a.function refl) (binding_same a.binding a.binding refl)

events_told : (xs ys : List Event) → same_events xs ys ≡ true → xs ≡ ys
events_told [] [] h = refl
events_told [] (y ∷ ys) h = absurd (cc)
events_told (x ∷ xs) [] h = absurd (cc)
events_told (x ∷ xs) (y ∷ ys) h =
    let p = and_parts (is_same_event x y) (same_events xs ys) h in ap₂ (λ a as'. a ∷ as') (event_told x y p.0) (events_told xs ys p.1)

events_same : (xs : List Event) → same_events xs xs ≡ true
events_same [] = refl
events_same (x ∷ xs) = and_from (is_same_event x x) (same_events xs xs) (event_same x) (events_same xs)

-- ---- the whole test

abbrev is_text : Fields → Rest → Bool
is_text image m = same_words m.room.held.text (text_of image (values_of m.bindings))

abbrev is_whole : Rest → Bool
is_whole m = all_empty m.room.held.older && eqb (length m.room.held.stack) stack_words

pub calm_told : (image : Fields) (w : World) (m : Rest) → is_calm image w m ≡ true → IsCalm image w m
unfolding is_calm
calm_told image w m h =
    let p = and_parts (is_calm_text image m) (is_world_outside w m) h in
    let q = and_parts (is_going m.stop) (is_text image m && is_whole m) p.0 in
    let r = and_parts (is_text image m) (is_whole m) q.1 in
    let v = and_parts (all_empty m.room.held.older) (eqb (length m.room.held.stack) stack_words) r.1 in
    let s = and_parts (gives_bytes m.input w.input) (same_words m.output w.output && (same_bindings m.bindings w.bindings && same_events m.log w.log)) p.1 in
    let t = and_parts (same_words m.output w.output) (same_bindings m.bindings w.bindings && same_events m.log w.log) s.1 in
    let u = and_parts (same_bindings m.bindings w.bindings) (same_events m.log w.log) t.1 in record {
      goes_on = going_told m.stop q.0;
      text = words_told m.room.held.text (text_of image (values_of m.bindings)) r.0;
      no_older = empty_told m.room.held.older v.0;
      stack = eqb-true (length m.room.held.stack) stack_words v.1;
      input = bytes_told m.input w.input s.0;
      output = words_told m.output w.output t.0;
      bindings = (bindings_are_told m.bindings w.bindings).0 u.0;
      log = events_told m.log w.log u.1;
    }

pub calm_tested : (image : Fields) (w : World) (m : Rest) → IsCalm image w m → is_calm image w m ≡ true
unfolding is_calm
calm_tested image w m h =
    and_from (is_calm_text image m) (is_world_outside w m)
    (and_from (is_going m.stop) (is_text image m && is_whole m)
    (ap is_going h.goes_on)
    (and_from (is_text image m) (is_whole m)
    (ap (λ xs. same_words m.room.held.text xs) (sym h.text) ∙ words_same m.room.held.text)
    (and_from (all_empty m.room.held.older) (eqb (length m.room.held.stack) stack_words)
    (empty_same m.room.held.older h.no_older) (eq-eqb (length m.room.held.stack) stack_words h.stack))))
    (and_from (gives_bytes m.input w.input) (same_words m.output w.output && (same_bindings m.bindings w.bindings && same_events m.log w.log))
    (ap (λ xs. gives_bytes xs w.input) h.input ∙ bytes_same w.input)
    (and_from (same_words m.output w.output) (same_bindings m.bindings w.bindings && same_events m.log w.log)
    (ap (λ xs. same_words xs w.output) h.output ∙ words_same w.output)
    (and_from (same_bindings m.bindings w.bindings) (same_events m.log w.log)
    (ap (λ xs. same_bindings xs w.bindings) h.bindings ∙ (bindings_are_told w.bindings w.bindings).1 refl)
    (ap (λ xs. same_events xs w.log) h.log ∙ events_same w.log))))

-- where text was kept, calm stays
pub calm_kept : (image : Fields) (w : World) (m m' : Rest) → KeepsText m m' → IsCalm image w m → IsCalm image w m'
calm_kept image w m m' k calm = subst (λ (x : Rest). IsCalm image w x) (sym k.rest) (record {
  goes_on = calm.goes_on;
  text = k.text ∙ calm.text;
  no_older = λ i. ap (λ older. older_at older i) k.older ∙ calm.no_older i;
  stack = k.stack ∙ calm.stack;
  input = calm.input;
  output = calm.output;
  bindings = calm.bindings;
  log = calm.log;
})
