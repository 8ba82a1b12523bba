use Rattle.std.proofs.Common.{◌≡◌, true, [], ◌∷◌, sym, subst, ap, ◌∙◌}
use Rattle.mv_expand.specs.Straight.{reads_only}
use Rattle.mv_expand.specs.Walking.{LeadsOn}
use Rattle.mv_expand.proofs.Straightness.{set_leads, divide_leads}
use Rattle.mv_expand.proofs.short.leads_on.Goals as goal

pub returns-in_ok-push-in-Set : goal.returns-in_ok-push-in-Set
returns-in_ok-push-in-Set c = λ e.
    let s = c.in-Set in
    let known = c.args.known.now in
    let behind = c.push.new.self in
    let read : reads_only known s.v ≡ true = ap (λ l. reads_only l s.v) (sym c.as_slice.ensures) ∙ sym c.reads_only.ensures ∙ c.if-not-reads_only.false in
    subst (λ x. LeadsOn c.args.temps known (x ∷ []) behind) (sym s.is) (set_leads c.args.temps known behind s.t c.in_ok-push-in-Set.ensures.ok s.v c.if-t-temps.false read)

pub returns-in_ok-push-in-Divide : goal.returns-in_ok-push-in-Divide
returns-in_ok-push-in-Divide c = λ e.
    let s = c.in-Divide in
    let known = c.args.known.now in
    let behind = c.push-in-Divide.new.self in
    let read : reads_only known s.a ≡ true =
    ap (λ l. reads_only l s.a) (sym c.as_slice-else-not-is_divisor.ensures) ∙ sym c.reads_only-else-not-is_divisor.ensures ∙ c.if-not-reads_only-2.false
    in
    subst (λ x. LeadsOn c.args.temps known (x ∷ []) behind) (sym s.is)
    (divide_leads c.args.temps known behind s.t c.in_ok-push-in-Divide.ensures.ok s.field-1 s.a s.b c.if-t-temps-2.false (c.is_divisor.ensures c.if-not-is_divisor.false) read)
