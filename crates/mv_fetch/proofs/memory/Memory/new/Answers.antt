use Rattle.std.proofs.Common.{rules, ℕ, ◌≡◌, ◌∙◌, List, [], replicate, ap, sym, subst, length}
use Rattle.mv_num.specs.Regions.{stack_words}
use Rattle.mv_fetch.specs.View.{IsLinked}
use Rattle.mv_fetch.proofs.Histories.{length_zeros}
use Rattle.mv_fetch.proofs.Links.{linked_first}
use Rattle.mv_fetch.proofs.memory.Memory.new.Goals as goal

pub invariant_of-result : goal.invariant_of-result
invariant_of-result c =
    let ends : c.in_ok-vec.field-0.items ≡ replicate c.len.result 0 = search rules in
    record {
      room = search rules;
      reserve = c.requires.patchable;
      log = search rules;
      words = search rules;
      linked = rw c.in_ok-with_capacity.ensures.items (subst (λ (xs : List ℕ). IsLinked xs []) (sym ends) (linked_first c.len.result));
      text = search rules;
      globals = search rules;
      stack = ap length c.in_ok-zeros.ensures ∙ length_zeros stack_words;
    }
