-- The pairs between texts that lie in text.
use Rattle.std.proofs.Common.{ℕ, List, sym, subst, arith}
use Rattle.std.proofs.lemmas.List.Elements.{All-weaker}
use Rattle.std.proofs.lemmas.Option.{slice_get_within, get_or_from_slice_get}
use Rattle.std.specs.List.{All}
use Rattle.mv_fetch.specs.Held.{IsInText}
use Rattle.mv_patch.specs.declared.prepared.Pair.{Pair}
use Rattle.mv_patch.specs.Pairs.{pairs_between, IsDifference}
use Rattle.mv_refine_machine.specs.Stores.Stores.{AreTexts, IsInRange}
use Rattle.mv_refine_machine.proofs.OfStores.Places.{in_text}
use Rattle.mv_patch.proofs.Pairs.{pairs_march, all_differ}

in_range : (old new : List ℕ) → AreTexts old new → (pair : Pair) → IsDifference old new pair → IsInRange pair
in_range old new texts pair h =
    let k = h.index in
    let at = h.address in
    let within = slice_get_within old k h.word h.before in
    let lies = texts.lies in
    let word = texts.new_words k in
    let there = get_or_from_slice_get new k pair.word 0 h.after in
    record {
      aligned = omega (arith, at);
      in_text = subst (λ (a : ℕ). IsInText a) (sym at) (in_text k (omega (arith, within, lies)));
      address = omega (arith, at, within, lies);
      word = omega (arith, word, there);
    }

pub all_in_range : (old new : List ℕ) → AreTexts old new → All IsInRange (pairs_between old new)
all_in_range old new texts =
    All-weaker (IsDifference old new) IsInRange (in_range old new texts) (pairs_between old new) (all_differ old new 0 (pairs_between old new) (pairs_march old new))
