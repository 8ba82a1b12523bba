-- A measure isn't more where arms are reached by one jump, code is cleaned and indices are promised to be below numbers, and it is the same where nothing but calls counts.
use Rattle.std.proofs.Common.{arith, ◌≡◌, ℕ, ◌≤◌, List, [], map, ◌⊎◌, inl, inr, refl, sym, ◌∙◌, ap, subst}
use Rattle.mv_ir.specs.declared.stm.Stm.{Stm}
use Rattle.mv_ir.specs.declared.stm.Stm.TheOpen.{Stm-F}
use Rattle.mv_ir.specs.declared.stm.Stm.TheOpen as stm
use Rattle.mv_ir.specs.declared.body.Body.{Body}
use Rattle.mv_ir.specs.Measures.{total, tree_nodes}
use Rattle.mv_ir.specs.Rolled.{number}
use Rattle.mv_ir.specs.Meaning.{unpromised}
use Rattle.mv_arms.specs.Armed.{IsArmed}
use Rattle.mv_arms.proofs.Measures.{Counting, arms_no_more, arms_same}
use Rattle.mv_ranges.specs.Plain.{plain_code}
use Rattle.mv_ranges.proofs.Same.{Blind, same_of_all, same_nodes}
use Rattle.mv_variants.specs.Bound.Shorts.{IsCleaned, IsFinished}
use Rattle.mv_variants.proofs.OfBound.Measures.{Measure}
use Rattle.mv_variants.proofs.OfBound.TidiedMeasures.{CountsCalls, tidied_no_more, tidied_same}
use Rattle.mv_variants.proofs.OfBound.PropagatedMeasures.{propagated_no_more, propagated_same}

-- A block counts what is in it, each jump to the start of a loop the same, and one out of a block no more than a choice besides its sides.
pub record CountsArms (layer : Stm-F ℕ → ℕ) : Type 0 where
  pub blocks : (a : List ℕ) → layer (stm.Block a) ≡ total a
  pub backs : (n k : ℕ) → layer (stm.Back n) ≡ layer (stm.Back k)
  pub jumps : layer (stm.Break 0) ≤ layer (stm.If (number 0) [] [])

module _ {layer : Stm-F ℕ → ℕ} {m : Stm → ℕ} (of : Measure layer m) where
  abbrev all : List Stm → ℕ
  all code = total (map m code)

  -- ---- promises count nothing

  blind : Blind ℕ layer m
  blind = record { roll = of.roll; check = λ a i. of.check (unpromised a) a i i; read = λ t a i. of.read t t (unpromised a) a i i; write = λ a i v. of.write (unpromised a) a i i v v }

  marked_same : (code result : List Stm) → plain_code result ≡ plain_code code → all result ≡ all code
  marked_same code result e = ap total (same_of_all ℕ layer m blind code result e)

  -- ---- arms

  counting : CountsArms layer → Counting layer m
  counting arms = record {
    fork = layer (stm.If (number 0) [] []);
    jump = layer (stm.Break 0);
    roll = of.roll;
    branch = λ t a b. of.branch t (number 0) a b;
    loop = of.loop;
    block = arms.blocks;
    break = λ n. of.break n 0;
    back = arms.backs;
    less = arms.jumps;
  }

  armed_no_more : CountsArms layer → (body arms : Body) → IsArmed body arms ⊎ (arms ≡ body) → all arms.code ≤ all body.code
  armed_no_more counts body arms (inl is) = arms_no_more (counting counts) body.temps [] body.code arms.code is.code
  armed_no_more counts body arms (inr is) = subst (λ (b : Body). all b.code ≤ all body.code) (sym is) (omega arith)

  -- ---- tidied, propagated and tidied again

  cleaned_no_more : (body result : Body) → IsCleaned body result → all result.code ≤ all body.code
  cleaned_no_more body result h =
      let tidied = tidied_no_more of body.temps body.code h.tidied.code h.is_tidied.code in
      let propagated = propagated_no_more of h.tidied.temps h.tidied.code h.propagated.code h.is_propagated.last h.is_propagated.code in
      let again = tidied_no_more of h.propagated.temps h.propagated.code result.code h.again.code in
      omega (arith, tidied, propagated, again)

  pub finished_no_more : CountsArms layer → (body result : Body) → IsFinished body result → all result.code ≤ all body.code
  finished_no_more counts body result h =
      let arms = armed_no_more counts body h.arms h.are_arms in
      let cleaned = cleaned_no_more h.arms h.cleaned h.is_cleaned in
      let marked = marked_same h.cleaned.code result.code h.is_marked.code in
      omega (arith, arms, cleaned, marked)

  -- ---- where nothing but calls counts

  module _ (calls : CountsCalls layer) where
    with_arms : CountsArms layer
    with_arms = record {
      blocks = calls.blocks;
      backs = λ n k. calls.others (stm.Back n) refl ∙ sym (calls.others (stm.Back k) refl);
      jumps = (let none = calls.others (stm.Break 0) refl in omega (arith, none));
    }

    armed_same : (body arms : Body) → IsArmed body arms ⊎ (arms ≡ body) → all arms.code ≡ all body.code
    unfolding counting
    armed_same body arms (inl is) = arms_same (counting with_arms) (calls.others (stm.If (number 0) [] []) refl) body.temps [] body.code arms.code is.code
    armed_same body arms (inr is) = ap (λ (b : Body). all b.code) is

    cleaned_same : (body result : Body) → IsCleaned body result → all result.code ≡ all body.code
    cleaned_same body result h =
        tidied_same of calls h.propagated.temps h.propagated.code result.code h.again.code
        ∙ propagated_same of calls h.tidied.temps h.tidied.code h.propagated.code h.is_propagated.last h.is_propagated.code
        ∙ tidied_same of calls body.temps body.code h.tidied.code h.is_tidied.code

    pub finished_same : (body result : Body) → IsFinished body result → all result.code ≡ all body.code
    finished_same body result h =
        marked_same h.cleaned.code result.code h.is_marked.code
        ∙ cleaned_same h.arms h.cleaned h.is_cleaned
        ∙ armed_same body h.arms h.are_arms

-- ---- nodes of trees

armed_nodes : (body arms : Body) → IsArmed body arms ⊎ (arms ≡ body) → tree_nodes arms.code ≤ tree_nodes body.code
armed_nodes body arms (inl is) = is.smaller.tree_nodes
armed_nodes body arms (inr is) = subst (λ (b : Body). tree_nodes b.code ≤ tree_nodes body.code) (sym is) (omega arith)

cleaned_nodes : (body result : Body) → IsCleaned body result → tree_nodes result.code ≤ tree_nodes body.code
cleaned_nodes body result h = omega (arith, h.is_tidied.smaller.tree_nodes, h.is_propagated.smaller.tree_nodes, h.again.smaller.tree_nodes)

pub finished_nodes : (body result : Body) → IsFinished body result → tree_nodes result.code ≤ tree_nodes body.code
finished_nodes body result h =
    let arms = armed_nodes body h.arms h.are_arms in
    let cleaned = cleaned_nodes h.arms h.cleaned h.is_cleaned in
    let marked = same_nodes h.cleaned.code result.code h.is_marked.code in
    omega (arith, arms, cleaned, marked)
