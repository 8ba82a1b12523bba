use Rattle.std.proofs.Common.{[], ◌∷◌, sym, subst}
use Rattle.mv_select.specs.Bodies.SelectedBodies.{HasWords}
use Rattle.mv_select.proofs.OfBodies.Holding.{code_step, has_set, has_set_global, has_divide, has_check, has_read, has_write, has_zero, has_if, has_loop, has_block, has_break, has_back, has_call, has_known, has_return}
use Rattle.mv_select.proofs.bodies.words.+words.Goals as goal

pub code_has_words-loop-stm-preserved : goal.code_has_words-loop-stm-preserved
code_has_words-loop-stm-preserved t c =
    code_step c.args.code.now c.as_slice-stm-items.result.now c.loop-stm.stm-index c.stm-item.result c.as_slice-stm-items.ensures c.loop-stm-test.true c.stm-item.is
    c.loop-stm.invariant c.stm_has_words.ensures

pub stm_has_words-returns-in-Set : goal.stm_has_words-returns-in-Set
stm_has_words-returns-in-Set t c = subst (λ s. HasWords (s ∷ [])) (sym c.in-Set.is) (has_set _ _ c.tree_has_words.ensures)

pub stm_has_words-returns-in-SetGlobal : goal.stm_has_words-returns-in-SetGlobal
stm_has_words-returns-in-SetGlobal t c = subst (λ s. HasWords (s ∷ [])) (sym c.in-SetGlobal.is) (has_set_global _ _ c.tree_has_words-in-SetGlobal.ensures)

pub stm_has_words-returns-in-Divide : goal.stm_has_words-returns-in-Divide
stm_has_words-returns-in-Divide t c = subst (λ s. HasWords (s ∷ [])) (sym c.in-Divide.is) (has_divide _ _ _ _ c.tree_has_words-in-Divide.ensures c.tree_has_words-in-Divide-2.ensures)

pub stm_has_words-returns-in-Check : goal.stm_has_words-returns-in-Check
stm_has_words-returns-in-Check t c = subst (λ s. HasWords (s ∷ [])) (sym c.in-Check.is) (has_check _ _ c.tree_has_words-in-Check.ensures)

pub stm_has_words-returns-in-Read : goal.stm_has_words-returns-in-Read
stm_has_words-returns-in-Read t c = subst (λ s. HasWords (s ∷ [])) (sym c.in-Read.is) (has_read _ _ _ c.tree_has_words-in-Read.ensures)

pub stm_has_words-returns-in-Write : goal.stm_has_words-returns-in-Write
stm_has_words-returns-in-Write t c = subst (λ s. HasWords (s ∷ [])) (sym c.in-Write.is) (has_write _ _ _ c.tree_has_words-in-Write.ensures c.tree_has_words-in-Write-2.ensures)

pub stm_has_words-returns-in-Zero : goal.stm_has_words-returns-in-Zero
stm_has_words-returns-in-Zero t c = subst (λ s. HasWords (s ∷ [])) (sym c.in-Zero.is) (has_zero _)

pub stm_has_words-returns-in-If : goal.stm_has_words-returns-in-If
stm_has_words-returns-in-If t c = subst (λ s. HasWords (s ∷ [])) (sym c.in-If.is) (has_if _ _ _ c.tree_has_words-in-If.ensures c.code_has_words.ensures c.code_has_words-in-If.ensures)

pub stm_has_words-returns-in-Loop : goal.stm_has_words-returns-in-Loop
stm_has_words-returns-in-Loop t c = subst (λ s. HasWords (s ∷ [])) (sym c.in-Loop.is) (has_loop _ c.code_has_words-in-Loop.ensures)

pub stm_has_words-returns-in-Block : goal.stm_has_words-returns-in-Block
stm_has_words-returns-in-Block t c = subst (λ s. HasWords (s ∷ [])) (sym c.in-Block.is) (has_block _ c.code_has_words-in-Block.ensures)

pub stm_has_words-returns-in-Break : goal.stm_has_words-returns-in-Break
stm_has_words-returns-in-Break t c = subst (λ s. HasWords (s ∷ [])) (sym c.in-Break.is) (has_break _)

pub stm_has_words-returns-in-Back : goal.stm_has_words-returns-in-Back
stm_has_words-returns-in-Back t c = subst (λ s. HasWords (s ∷ [])) (sym c.in-Back.is) (has_back _)

pub stm_has_words-returns-in-Call : goal.stm_has_words-returns-in-Call
stm_has_words-returns-in-Call t c = subst (λ s. HasWords (s ∷ [])) (sym c.in-Call.is) (has_call _ _ _ c.callee_has_words.ensures c.trees_have_words.ensures)

pub stm_has_words-returns-in-Known : goal.stm_has_words-returns-in-Known
stm_has_words-returns-in-Known t c = subst (λ s. HasWords (s ∷ [])) (sym c.in-Known.is) (has_known _ _ _ c.known_has_words.ensures c.trees_have_words-in-Known.ensures)

pub stm_has_words-returns-in-Return : goal.stm_has_words-returns-in-Return
stm_has_words-returns-in-Return t c = subst (λ s. HasWords (s ∷ [])) (sym c.in-Return.is) (has_return _ c.tree_has_words-in-Return.ensures)
