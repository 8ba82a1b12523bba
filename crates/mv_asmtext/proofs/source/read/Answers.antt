use Rattle.std.proofs.Common.{◌≡◌, ◌+◌, ◌<◌, ◌≤◌, length, drop, not, true, false, ap, sym, ◌∙◌, arith}
use Rattle.std.proofs.lemmas.Bool.Decides.{nat_tests}
use Rattle.std.proofs.lemmas.List.{length-drop}
use Rattle.mv_asmtext.specs.Sources.{words_in}
use Rattle.mv_asmtext.proofs.LineEnds.{refused_here, last_here, onward_here, counted}
use Rattle.mv_asmtext.proofs.source.read.Goals as goal

pub returns-then-not-branch-clause-reading : goal.returns-then-not-branch-clause-reading
returns-then-not-branch-clause-reading c =
    let is_none : not c.in_ok-read_line.field-0 ≡ true = cc in
    refused_here c.loop-reading.reading c.read_line.new.reading c.args.text.now c.split_at.result.1.now c.split_at-in-loop-reading.result.0.now
    c.loop-reading.at c.line_length-length.result c.split_at.ensures.back c.line_length-length.ensures.value
    c.split_at-in-loop-reading.ensures.front c.loop-reading.invariant.3 c.in_ok-read_line.field-0 c.in_ok-read_line.ensures.read
    c.in_ok-read_line.ensures.number is_none

pub returns-then-is_empty-clause-reading : goal.returns-then-is_empty-clause-reading
returns-then-is_empty-clause-reading c =
    let is_line : not c.in_ok-read_line.field-0 ≡ false = cc in
    let z : length (drop c.line_length-length.result c.split_at.result.1.now) ≡ 0 = ap length (sym c.split_at-in-loop-reading.ensures.back) ∙ grind (arith, nat_tests) in
    last_here c.loop-reading.reading c.read_line.new.reading c.args.text.now c.split_at.result.1.now c.split_at-in-loop-reading.result.0.now
    c.loop-reading.at c.line_length-length.result c.split_at.ensures.back c.line_length-length.ensures.value
    c.split_at-in-loop-reading.ensures.front c.loop-reading.invariant.3 c.in_ok-read_line.field-0 c.in_ok-read_line.ensures.read is_line z

pub loop-reading-preserved : goal.loop-reading-preserved
loop-reading-preserved c =
    let is_line : not c.in_ok-read_line.field-0 ≡ false = cc in
    let some : 0 < length c.split_at-in-loop-reading.result.1.now = grind (arith, nat_tests) in
    let z : 0 < length (drop c.line_length-length.result c.split_at.result.1.now) = omega (arith, ap length c.split_at-in-loop-reading.ensures.back, some) in
    let number = counted (c.read_line.new.reading.number ≡ c.loop-reading.reading.number + 1) _ c.in_ok-read_line.field-0 is_line c.in_ok-read_line.ensures.number in
    let words = counted (words_in c.read_line.new.reading.place ≤ words_in c.loop-reading.reading.place + 1) _ c.in_ok-read_line.field-0 is_line c.in_ok-read_line.ensures.words in (
      omega (arith, z, length-drop c.line_length-length.result c.split_at.result.1.now, ap length c.split_at.ensures.back, length-drop c.loop-reading.at c.args.text.now),
      omega (arith, number, c.loop-reading.invariant.1),
      omega (arith, number, words, c.loop-reading.invariant.2),
      onward_here c.loop-reading.reading c.read_line.new.reading c.args.text.now c.split_at.result.1.now c.split_at-in-loop-reading.result.0.now
          c.loop-reading.at c.line_length-length.result c.split_at.ensures.back c.line_length-length.ensures.value
          c.split_at-in-loop-reading.ensures.front c.loop-reading.invariant.3 c.in_ok-read_line.field-0 c.in_ok-read_line.ensures.read is_line z,
    )
