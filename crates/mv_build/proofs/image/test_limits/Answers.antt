use Rattle.std.proofs.Common.{◌≤◌, ◌<◌, arith}
use Rattle.mv_link_data.specs.FirstData.{data_words}
use Rattle.mv_linker.specs.Outcome.{data_limit, site_limit}
use Rattle.mv_build.proofs.Limits.{sites_past, few_sites, data_past}
use Rattle.mv_build.proofs.image.test_limits.Goals as goal

pub returns-then-sites-gt-SITE_LIMIT-clause-err : goal.returns-then-sites-gt-SITE_LIMIT-clause-err
returns-then-sites-gt-SITE_LIMIT-clause-err c =
    let past : site_limit < c.site_count-sites.result = omega arith in
    rw c.too_many.ensures (sites_past c.args.program.now c.args.parts.now c.site_count-sites.result c.site_count-sites.ensures past)

pub returns-then-words-gt-DATA_LIMIT-clause-err : goal.returns-then-words-gt-DATA_LIMIT-clause-err
returns-then-words-gt-DATA_LIMIT-clause-err c =
    let words = c.data_words-words.ensures in
    let few : c.site_count-sites.result ≤ site_limit = omega arith in
    let past : data_limit < data_words c.args.program.now = omega (arith, words) in
    let fits = few_sites c.args.program.now c.args.parts.now c.site_count-sites.result c.site_count-sites.ensures few in
    rw (c.too_many-then-words-gt-DATA_LIMIT.ensures, words) (data_past c.args.program.now c.args.parts.now fits past)

pub returns-clause-ok : goal.returns-clause-ok
returns-clause-ok c =
    let words = c.data_words-words.ensures in
    let few : c.site_count-sites.result ≤ site_limit = omega arith in
    let data_fits : data_words c.args.program.now ≤ data_limit = omega (arith, words) in record {
      sites = few_sites c.args.program.now c.args.parts.now c.site_count-sites.result c.site_count-sites.ensures few;
      data_fits = data_fits;
      labels = c.labels_fit.ensures.0 c.if-not-labels_fit.false;
    }
