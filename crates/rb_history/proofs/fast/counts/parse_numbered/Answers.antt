use Rattle.rb_history.proofs.Words.{numbered_from, numbered_json, arith, rules, subst, ℕ, ◌<◌, ◌^◌}
use Rattle.rb_history.proofs.SiteCounts.{fit_all, fit_more, numbered_all, numbered_more, none_behind}
use Rattle.rb_history.proofs.Reading.{BeginsWith, all_read, one_more}
use Rattle.rb_history.proofs.fast.counts.parse_numbered.Goals as goal

abbrev IsWord : ℕ → Type 0
IsWord n = n < 2 ^ 32

pub sites-init : goal.sites-init
sites-init c = record {
  left = search rules;
  comma = search rules;
  few = omega arith;
  sites = search rules;
  none = search rules;
  fit = search rules;
  read = λ later rest e. e;
}

pub sites-preserved : goal.sites-preserved
sites-preserved c =
    let counts = c.sites.counts in
    let least = c.sites.least in
    let site = c.in_ok-site.site in
    let n = c.in_ok-site.count in
    let near = c.in_ok-site.ensures.near in
    let some = c.in_ok-site.ensures.some in
    let inv = c.sites.invariant in
    let more = numbered_more counts least site n inv.sites near.0 near.1 some.0 inv.none in
    record {
      left = search rules;
      comma = search rules;
      few = omega (arith, near);
      sites = search rules;
      none = none_behind counts least site n near.0 near.1 inv.none;
      fit = fit_more IsWord counts least site n inv.sites near.0 near.1 inv.none (omega arith) some.1 inv.fit;
      read = one_more numbered_json c.args.text.now c.sites.left.now c.sites.comma.now _ _ _ (site, n) _ more inv.read
          c.in_ok-parse_prefix.ensures c.in_ok-site.ensures.written;
    }

pub sites-smaller : goal.sites-smaller
sites-smaller c = omega (arith, c.in_ok-site.ensures.near)

pub returns-in-Some : goal.returns-in-Some
returns-in-Some c =
    let text = c.args.text.now in
    let counts = c.sites.counts in
    let least = c.sites.least in
    let inv = c.sites.invariant in
    let read = subst (BeginsWith numbered_json text c.sites.left.now c.sites.comma.now) (numbered_all counts least inv.none) inv.read in
    record {
      sites = inv.sites;
      fit = fit_all IsWord counts least inv.none (omega arith) inv.fit;
      written = all_read numbered_json text _ c.sites.comma.now _ (numbered_from 0 counts) read c.in-Some.ensures;
    }
