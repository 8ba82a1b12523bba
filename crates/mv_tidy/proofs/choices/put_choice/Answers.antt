use Rattle.std.proofs.Common.{◌≡◌, ◌++◌, ◌∷◌, [], option_to_list, append-nil, reverse, ap, sym, ◌∙◌}
use Rattle.std.proofs.lemmas.Result.{IfOk-weaker}
use Rattle.mv_ir.specs.Rolled.{choose}
use Rattle.mv_regalloc.specs.declared.liveness.Row.TheVariants.{Saved}
use Rattle.mv_regalloc.specs.Shared.{row_of}
use Rattle.mv_tidy.specs.Walking.{IsGone}
use Rattle.mv_tidy.proofs.ChoosingWalked.{put_stands, put_takes, attached_like}
use Rattle.mv_tidy.proofs.choices.put_choice.Goals as goal
use Rattle.mv_tidy.proofs.choices.put_choice.Goals.{in-Some+in_ok-push-in-Some, in-None}

pub returns-in-Some-If : goal.returns-in-Some-If
returns-in-Some-If c =
    let s = c.in-Some-If in
    let first = c.in_ok-first-in-Some-If in
    IfOk-weaker c.put_before.result _ _ (λ all e.
    put_takes (IsGone c.args.temps (row_of c.args.liveness.now (Saved 0))) c.args.kept c.into_vec-stms.result.items c.pop.new.self.items first.first all c.pop.result s.field-0
    c.args.test s.k c.args.a c.args.b s.x s.y c.in_ok-code-in-Some-If.code c.into_vec-stms.ensures c.pop.ensures.items s.is s.field-0-is
    (first.ensures ∙ ap (λ l. l ++ choose c.args.test c.args.a c.args.b ∷ []) c.new.ensures)
    (attached_like (IsGone c.args.temps (row_of c.args.liveness.now (Saved 0))) first.first _ s.k _ s.x _ s.y c.in_ok-code-in-Some-If.code s.k-is s.x-is s.y-is
    c.in_ok-code-in-Some-If.ensures)
    (e ∙ ap (λ l. c.in_ok-code-in-Some-If.code ++ reverse l) c.from_vec.ensures)) c.put_before.ensures

pub returns : goal.returns
returns c =
    let gone = IsGone c.args.temps (row_of c.args.liveness.now (Saved 0)) in
    let stays : c.match-pop.stms.items ≡ c.args.kept =
    elim c.match-pop.branch [
      | in-Some+in_ok-push-in-Some w ↦
          ap (λ v. v.items) w.stms-is ∙ w.in_ok-push-in-Some.ensures.items ∙ sym (c.pop.ensures.items ∙ ap (λ o. c.pop.new.self.items ++ option_to_list o) w.in-Some.is) ∙ c.into_vec-stms.ensures
      | in-None w ↦
          ap (λ v. v.items) w.stms-is ∙ sym (c.pop.ensures.items ∙ ap (λ o. c.pop.new.self.items ++ option_to_list o) w.in-None.is ∙ append-nil c.pop.new.self.items) ∙ c.into_vec-stms.ensures
    ]
    in
    IfOk-weaker c.with_choice-2.result _ _ (λ all e.
    put_stands gone c.args.kept all (choose c.args.test c.args.a c.args.b) (e ∙ ap (λ l. l ++ choose c.args.test c.args.a c.args.b ∷ []) (c.from_vec-2.ensures ∙ stays))) c.with_choice-2.ensures
