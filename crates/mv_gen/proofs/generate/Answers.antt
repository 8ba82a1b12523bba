use Rattle.std.proofs.Common.{◌≡◌, ℕ, List, ◌++◌, ap, ◌∙◌}
use Rattle.std.specs.String.{string_bytes}
use Rattle.std.specs.declared.alloc.Global.{Global}
use Rattle.std.specs.declared.vec.Vec.{Vec}
use Rattle.mv_gen.specs.Generated.{functions, definition_lines, call_lines, switch_lines, loop_lines, last_lines, generated}
use Rattle.mv_gen.proofs.Lines.{joined}
use Rattle.mv_gen.proofs.generate.Goals as goal

pub returns : goal.returns
unfolding generated
returns c =
    let number = c.args.number in
    let definitions = definition_lines number 0 (functions number) in
    let calls = call_lines 0 (functions number) in
    let first : string_bytes c.push_str.new.self ≡ switch_lines =
    c.in_ok-push_str.ensures.bytes ∙ ap (λ (t : List ℕ). t ++ switch_lines) c.new-text.ensures.bytes in
    let second : string_bytes c.push_definitions.new.text ≡ string_bytes c.push_str.new.self ++ definitions = c.in_ok-push_definitions.ensures in
    let third : string_bytes c.push_str-2.new.self ≡ string_bytes c.push_definitions.new.text ++ loop_lines = c.in_ok-push_str-2.ensures.bytes in
    let fourth : string_bytes c.push_calls.new.text ≡ string_bytes c.push_str-2.new.self ++ calls =
    c.in_ok-push_calls.ensures ∙ ap (λ (k : ℕ). string_bytes c.push_str-2.new.self ++ call_lines 0 k) c.functions_of.ensures in
    let fifth : string_bytes c.push_str-3.new.self ≡ string_bytes c.push_calls.new.text ++ last_lines = c.in_ok-push_str-3.ensures.bytes in
    ap (λ (v : Vec ℕ Global). v.items) c.into_bytes.ensures.value
    ∙ joined switch_lines definitions loop_lines calls last_lines
    (string_bytes c.push_str.new.self) (string_bytes c.push_definitions.new.text) (string_bytes c.push_str-2.new.self) (string_bytes c.push_calls.new.text)
    (string_bytes c.push_str-3.new.self) first second third fourth fifth
