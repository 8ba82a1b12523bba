-- The refusal of each error of a stage.
use Rattle.mv_lexer.specs.declared.error.LexError.{LexError}
use Rattle.mv_lexer.specs.declared.error.LexError.TheVariants as lexing
use Rattle.mv_parser.specs.declared.error.ParseError.{ParseError}
use Rattle.mv_parser.specs.declared.error.ParseError.TheVariants as parsing
use Rattle.mv_types.specs.declared.error.TypeError.{TypeError}
use Rattle.mv_types.specs.declared.error.TypeError.TheVariants as checking
use Rattle.mv_front.specs.Codes as refusals
use Rattle.mv_front.specs.Refusals.{at_place, of_rule, counted}
use Rattle.mv_front.specs.declared.refusal.FrontError.{FrontError}
use Rattle.mv_front.specs.declared.refusal.FrontError.TheVariants.{Refused, Memory}

abbrev pub of_lexing : LexError → FrontError
of_lexing (lexing.BadToken place) = Refused (at_place refusals.token place)
of_lexing (lexing.Unsupported place) = Refused (at_place refusals.unsupported place)
of_lexing (lexing.TooLong count) = Refused (counted refusals.length 0 count)
of_lexing (lexing.Memory e) = Memory e

abbrev pub of_parsing : ParseError → FrontError
of_parsing (parsing.Nesting place) = Refused (at_place refusals.nesting place)
of_parsing (parsing.Syntax place) = Refused (at_place refusals.unit place)
of_parsing (parsing.Memory e) = Memory e

abbrev pub of_checking : TypeError → FrontError
of_checking (checking.Rule place rule) = Refused (of_rule place rule)
of_checking (checking.Limit limit count) = Refused (counted refusals.limit limit count)
of_checking (checking.Memory e) = Memory e
