use Rattle.std.proofs.Common.{rules, ℕ, ◌≡◌, ◌+◌, List, [], ◌∷◌, ◌++◌, map, vec_len, refl, sym, ap, ◌∙◌, append-nil, append_assoc, arith}
use Rattle.mv_ir.specs.declared.stm.Stm.{Stm}
use Rattle.mv_ir.specs.declared.tree.Tree.{Tree}
use Rattle.mv_lower_spec.specs.Lowered.{Lowered, Arguments}
use Rattle.mv_lower_expressions.specs.declared.value.Value.{Value}
use Rattle.mv_lower_expressions.specs.Values.{seen}
use Rattle.mv_lower_expressions.specs.Calls.{arguments_of, prepended}
use Rattle.mv_lower_expressions.proofs.call.all_arguments.Goals as goal

none_of : (code : List Stm) (trees : List Tree) (m k : _) → code ≡ [] → trees ≡ [] → m ≡ k → (let a : Arguments = record { code = code; trees = trees; top = m } in a) ≡ arguments_of [] k
unfolding arguments_of
none_of code trees m k e f h = cc

more_of : (v : Lowered) (vs : List Lowered) (n : _) → arguments_of (v ∷ vs) n ≡ prepended v (arguments_of vs (n + 1)) n
unfolding arguments_of
more_of v vs n = refl

pub loop-value-init : goal.loop-value-init
loop-value-init c = let none : List Value = [] in (none, sym (append-nil _), none_of _ _ _ _ c.new.ensures c.new-2.ensures (ap (λ k. c.args.n + k) c.len.ensures))

step_of : (v : Lowered) (vs : List Lowered) (a b : Arguments) (n len k m : ℕ) → a ≡ prepended v b (n + len) → b ≡ arguments_of vs (n + k) → k ≡ m + 1 → len ≡ m → a ≡ arguments_of (v ∷ vs) (n + m)
step_of v vs a b n len k m e f h l =
    let at : n + k ≡ n + m + 1 = omega arith in
    e ∙ (ap (λ i. prepended v b (n + i)) l ∙ (ap (λ (x : Arguments). prepended v x (n + m)) (f ∙ ap (λ i. arguments_of vs i) at) ∙ sym (more_of v vs (n + m))))

pub loop-value-preserved : goal.loop-value-preserved
loop-value-preserved c =
    let rest = c.loop-value.invariant.0 in
    let taken : c.loop-value.items.items ≡ c.pop.new.self.items ++ c.in-Some.value ∷ [] = search rules in
    let fewer : vec_len c.loop-value.items ≡ vec_len c.pop.new.self + 1 = search rules in (
      c.in-Some.value ∷ rest,
      c.loop-value.invariant.1 ∙ (ap (λ l. l ++ rest) taken ∙ append_assoc c.pop.new.self.items (c.in-Some.value ∷ []) rest),
      step_of (seen c.in-Some.value) (map seen rest) _ _ c.args.n _ _ (vec_len c.pop.new.self) c.in_ok-all.ensures c.loop-value.invariant.2 fewer c.len-in-Some.ensures,
    )
