-- A run begins in calm.
use Rattle.std.proofs.Common.{◌≡◌, ℕ, zero, suc, ◌+◌, true, List, [], ◌∷◌, length, replicate, None, refl, sym, ap, ap₂, ◌∙◌, false, Some, take, if◌then◌else◌}
use Rattle.std.specs.Prelude.{All}
use Rattle.std.proofs.lemmas.List.Elements.{All-head, All-tail}
use Rattle.mv_machine.specs.Acts.{PollActs}
use Rattle.mv_bindings.specs.Bindings.{free}
use Rattle.mv_bindings.specs.declared.binding.Binding.{Binding}
use Rattle.mv_fetch.specs.Held.{older_at, first as first_memory}
use Rattle.mv_fetch.proofs.Histories.{length_zeros}
use Rattle.mv_image.specs.Spelling.{Fields}
use Rattle.mv_image.specs.Patched.{Bindings, words_under, text_of}
use Rattle.mv_ir.specs.World.{World}
use Rattle.mv_machine.specs.Runs.{bytes_to_come, first, runs}
use Rattle.mv_machine.proofs.Turns.{runs_none}
use Rattle.mv_refine_machine.specs.Calm.{stack_words, IsCalm, is_calm}
use Rattle.mv_patch.specs.Orders.{values_of, binding_count, first_bindings}
use Rattle.mv_refine_machine.specs.MachineRuns.{rest_of}
use Rattle.mv_refine_machine.specs.Laws.{IsFirst}
use Rattle.mv_refine_machine.proofs.Calming.{calm_tested}
use Rattle.mv_refine_machine.proofs.Fetches.{free_under}

-- ---- where all functions are free, the image's text stands

abbrev AreFree : Bindings → Type 0
AreFree bound = (function : ℕ) → bound function ≡ None

free_words : (image : Fields) (bound : Bindings) (a : ℕ) (words : List ℕ) → AreFree bound → words_under image bound a words ≡ words
unfolding words_under
free_words image bound a [] are = refl
free_words image bound a (word ∷ words) are =
    ap₂ (λ (x : ℕ) (xs : List ℕ). x ∷ xs) (free_under image bound a word (λ function shows. are function)) (free_words image bound (a + 4) words are)

free_text : (image : Fields) (bound : Bindings) → AreFree bound → text_of image bound ≡ image.text
unfolding text_of
free_text image bound are = free_words image bound 4096 image.text are

-- free bindings bind no function
free_value : (b : Binding) → b.bound ≡ false → (if b.bound then Some (take b.count b.values) else None) ≡ None
free_value b e = ap (λ x. if x then Some (take b.count b.values) else None) e

pub free_values : (bs : List Binding) → All (λ (b : Binding). b.bound ≡ false) bs → (f : ℕ) → values_of bs f ≡ None
free_values [] all f = refl
free_values (b ∷ bs) all zero = free_value b (All-head (λ (x : Binding). x.bound ≡ false) b bs all)
free_values (b ∷ bs) all (suc f) = free_values bs (All-tail (λ (x : Binding). x.bound ≡ false) b bs all) f

none_bound : (n : ℕ) → AreFree (values_of (replicate n free))
none_bound zero function = refl
none_bound (suc n) zero = refl
none_bound (suc n) (suc function) = none_bound n function

-- no word of text was stored yet
pub none_older : (n i : ℕ) → older_at (replicate n []) i ≡ []
none_older zero i = refl
none_older (suc n) zero = refl
none_older (suc n) (suc i) = none_older n i

first_calm : (image : Fields) (input : List ℕ) (polls : PollActs) (w : World) → IsFirst image input w → IsCalm image w (rest_of (first image (bytes_to_come input) polls))
unfolding first first_memory
first_calm image input polls w h = record {
  goes_on = refl;
  text = sym (free_text image (values_of (first_bindings image)) (none_bound (binding_count image)));
  no_older = none_older (length image.text);
  stack = length_zeros stack_words;
  input = ap bytes_to_come (sym h.input);
  output = sym h.output;
  bindings = sym h.bindings;
  log = sym h.log;
}

pub run_begins : (image : Fields) (input : List ℕ) (polls : PollActs) (picks : List ℕ) (w : World) → IsFirst image input w → is_calm image w (rest_of (runs image (bytes_to_come input) polls picks 0)) ≡ true
run_begins image input polls picks w h =
    let start = first image (bytes_to_come input) polls in
    ap (λ s. is_calm image w (rest_of s)) (runs_none start picks) ∙ calm_tested image w (rest_of start) (first_calm image input polls w h)
