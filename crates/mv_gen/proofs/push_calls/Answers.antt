use Rattle.std.proofs.Common.{◌≡◌, ℕ, ◌+◌, ◌-◌, List, [], ◌++◌, sym, ap, ◌∙◌, append_assoc, append-nil}
use Rattle.std.specs.String.{string_bytes}
use Rattle.mv_gen.specs.Generated.{call_line, call_lines}
use Rattle.mv_gen.proofs.Lines.{more_calls, no_calls}
use Rattle.mv_gen.proofs.push_calls.Goals as goal

pub loop-index-preserved : goal.loop-index-preserved
loop-index-preserved c =
    let l = c.loop-index in
    let i = l.index in
    let n = c.args.count in
    let rest = call_lines (i + 1) (n - (i + 1)) in
    let added : string_bytes c.push_call.new.text ≡ string_bytes l.text ++ call_line i = c.in_ok-push_call.ensures in
    let more : call_lines i (n - i) ≡ call_line i ++ rest = more_calls i n c.loop-index-test.true in
    ap (λ (t : List ℕ). t ++ rest) added
    ∙ (append_assoc (string_bytes l.text) (call_line i) rest
    ∙ (ap (λ (t : List ℕ). string_bytes l.text ++ t) (sym more)
    ∙ l.invariant))

pub returns : goal.returns
returns c =
    let l = c.loop-index in
    let none : call_lines l.index (c.args.count - l.index) ≡ [] = no_calls l.index c.args.count c.loop-index-test.false in
    sym (append-nil (string_bytes l.text)) ∙ (ap (λ (t : List ℕ). string_bytes l.text ++ t) (sym none) ∙ l.invariant)
