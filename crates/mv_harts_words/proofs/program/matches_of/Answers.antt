use Rattle.std.proofs.Common.{◌∙◌, map}
use Rattle.std.specs.String.{string_bytes}
use Rattle.clap.specs.Walk.{rows_of}
use Rattle.clap.specs.Matches.{found_of}
use Rattle.clap.specs.Simple.{app_of}
use Rattle.mv_harts_words.proofs.Table.{refused, taken}
use Rattle.mv_harts_words.proofs.program.matches_of.Goals as goal

pub returns-in-Ok : goal.returns-in-Ok
returns-in-Ok c =
    taken (app_of c.in_ok-program.program) (map string_bytes c.args.words.now) (rows_of (found_of c.in-Ok.matches)) c.in_ok-program.ensures c.in-Ok.ensures.kinds c.in-Ok.ensures.matches

pub returns : goal.returns
returns c =
    refused (app_of c.in_ok-program.program) (map string_bytes c.args.words.now) c.in-Err.error.kind c.in_ok-program.ensures c.in-Err.ensures.kinds (λ memory. c.in_default.not-OutOfMemory (c.kind.ensures ∙ memory))
