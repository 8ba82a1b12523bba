use Rattle.std.proofs.Common.{◌≡◌, rules}
use Rattle.mv_isa.specs.Code.{code_words}
use Rattle.mv_asm.proofs.Outcomes.{words_under, address_within, addresses_under}
use Rattle.mv_asm.proofs.emit.placed_within.Goals as goal

pub addresses-requires : goal.addresses-requires
addresses-requires c = address_within c.args.base c.args.sizing.now c.args.offsets.now c.requires.offsets c.requires.room

pub returns : goal.returns
returns c =
    let words_are : c.push_lines.new.words ≡ code_words c.args.base c.args.lines.now c.args.sizing.now = search rules in
    record {
      words_are = words_under c.args.base c.args.lines.now c.args.sizing.now c.push_lines.new.words c.requires.code c.requires.fits c.requires.base c.requires.room words_are;
      addresses_are = addresses_under c.args.base c.args.sizing.now c.args.offsets.now _ c.requires.offsets c.in_ok-addresses.ensures;
    }
