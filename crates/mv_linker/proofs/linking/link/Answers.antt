use Rattle.std.proofs.Common.{arith, rules}
use Rattle.mv_linker.specs.Linked.{IsJoined}
use Rattle.mv_linker.proofs.ImageLinked.{sites_counted}
use Rattle.mv_linker.proofs.linking.link.Goals as goal

pub returns-then-sites-gt-SITE_LIMIT : goal.returns-then-sites-gt-SITE_LIMIT
returns-then-sites-gt-SITE_LIMIT c =
    let is : IsJoined c.args.parts.now c.in_ok-joined.joined = search rules in
    (c.if-sites-gt-SITE_LIMIT.true, sites_counted c.args.parts.now c.in_ok-joined.joined is c.as_slice.result.now c.site_weight-sites.result c.as_slice.ensures c.site_weight-sites.ensures)

pub returns-then-words-gt-DATA_LIMIT : goal.returns-then-words-gt-DATA_LIMIT
returns-then-words-gt-DATA_LIMIT c =
    let is : IsJoined c.args.parts.now c.in_ok-joined.joined = search rules in
    let count = sites_counted c.args.parts.now c.in_ok-joined.joined is c.as_slice.result.now c.site_weight-sites.result c.as_slice.ensures c.site_weight-sites.ensures in
    (omega (arith, count, c.if-sites-gt-SITE_LIMIT.false), c.if-words-gt-DATA_LIMIT.true, c.len-words.ensures)

pub assembled-requires-clause-sites : goal.assembled-requires-clause-sites
assembled-requires-clause-sites c =
    let is : IsJoined c.args.parts.now c.in_ok-joined.joined = search rules in
    let count = sites_counted c.args.parts.now c.in_ok-joined.joined is c.as_slice.result.now c.site_weight-sites.result c.as_slice.ensures c.site_weight-sites.ensures in
    omega (arith, count, c.if-sites-gt-SITE_LIMIT.false)
