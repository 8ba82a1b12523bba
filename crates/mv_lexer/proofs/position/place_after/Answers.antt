use Rattle.std.proofs.Common.{◌+◌, drop, ap, ◌∙◌, sym, arith}
use Rattle.mv_lexer.specs.Place.{place_after}
use Rattle.mv_syntax.specs.declared.place.Place.{Place}
use Rattle.mv_lexer.proofs.PlaceLemmas.{place_more}
use Rattle.mv_lexer.proofs.position.place_after.Goals as goal

pub loop-byte-preserved : goal.loop-byte-preserved
loop-byte-preserved c = record {
  value = ap (λ (at : Place). place_after at (drop (c.loop-byte.byte-index + 1) c.args.bytes.now)) c.place_next-place.ensures.value ∙
      sym (place_more c.loop-byte.place c.args.bytes.now c.loop-byte.byte-index c.loop-byte-test.true) ∙ c.loop-byte.invariant.value;
  column = c.place_next-place.ensures.column;
  small = omega (arith, c.place_next-place.ensures.small);
}
