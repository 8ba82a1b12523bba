use Rattle.std.proofs.Common.{◌≡◌, ℕ, ◌+◌, ◌-◌, List, [], ◌++◌, refl, sym, ap, ◌∙◌, append_assoc, append-nil, arith}
use Rattle.std.specs.String.{string_bytes}
use Rattle.mv_gen.specs.Generated.{next, drawn, definition_line, definition_lines}
use Rattle.mv_gen.proofs.Lines.{more_definitions, no_definitions, drawn_more}
use Rattle.mv_gen.proofs.push_definitions.Goals as goal

pub loop-index-init : goal.loop-index-init
unfolding drawn
loop-index-init c =
    let n = c.functions_of-index-end.result in
    let all : n - 0 ≡ n = omega arith in
    record { word = refl; lines = ap (λ (k : ℕ). string_bytes c.args.text.now ++ definition_lines c.args.number 0 k) all }

pub loop-index-preserved : goal.loop-index-preserved
loop-index-preserved c =
    let l = c.loop-index in
    let number = c.args.number in
    let i = l.index in
    let n = c.functions_of-index-end.result in
    let here = next (drawn number i) in
    let rest = definition_lines number (i + 1) (n - (i + 1)) in
    let word : c.next-word.result ≡ here = c.next-word.ensures ∙ ap (λ (w : ℕ). next w) l.invariant.word in
    let added : string_bytes c.push_definition.new.text ≡ string_bytes l.text ++ definition_line i c.next-word.result = c.in_ok-push_definition.ensures in
    let more : definition_lines number i (n - i) ≡ definition_line i here ++ rest = more_definitions number i n c.loop-index-test.true in
    record {
      word = word ∙ sym (drawn_more number i);
      lines =
          ap (λ (t : List ℕ). t ++ rest) (added ∙ ap (λ (w : ℕ). string_bytes l.text ++ definition_line i w) word)
          ∙ (append_assoc (string_bytes l.text) (definition_line i here) rest
          ∙ (ap (λ (t : List ℕ). string_bytes l.text ++ t) (sym more)
          ∙ l.invariant.lines));
    }

pub returns : goal.returns
returns c =
    let l = c.loop-index in
    let number = c.args.number in
    let n = c.functions_of-index-end.result in
    let none : definition_lines number l.index (n - l.index) ≡ [] = no_definitions number l.index n c.loop-index-test.false in
    sym (append-nil (string_bytes l.text))
    ∙ (ap (λ (t : List ℕ). string_bytes l.text ++ t) (sym none)
    ∙ (l.invariant.lines
    ∙ ap (λ (k : ℕ). string_bytes c.args.text.now ++ definition_lines number 0 k) c.functions_of-index-end.ensures))
