use Rattle.rb_history.proofs.Words.{Each, number_json, [], arith, codes, refl, rules, subst, take, ℕ, ◌<◌, ◌^◌, ◌≡◌, take_all}
use Rattle.rb_history.proofs.Words.{take_more_set}
use Rattle.rb_history.proofs.Reading.{BeginsWith, all_read, each_more, one_more}
use Rattle.rb_history.proofs.fast.counts.parse_first.Goals as goal

pub loop-site-init : goal.loop-site-init
loop-site-init c =
    let text = c.args.text.now in
    let counts = c.args.counts.now in
    let made = c.in_ok-first in
    let more = take_more_set counts 0 made.first (omega (arith, c.requires)) in
    let IsWord : ℕ → Type 0 = λ n. n < 2 ^ 32 in
    record {
      left = search rules;
      sites = search rules;
      fit = each_more IsWord [] made.first _ more tt made.ensures.0;
      read = one_more number_json text text [] text made.left.now [] made.first _ more
          (λ later rest e. e) refl made.ensures.1;
    }

pub loop-site-preserved : goal.loop-site-preserved
loop-site-preserved c =
    let made = c.in_ok-count in
    let sites = c.loop-site.invariant.sites in
    let more = take_more_set c.loop-site.counts c.loop-site.site made.count (omega (arith, sites)) in
    let IsWord : ℕ → Type 0 = λ n. n < 2 ^ 32 in
    record {
      left = search rules;
      sites = search rules;
      fit = each_more IsWord _ _ _ more c.loop-site.invariant.fit made.ensures.0;
      read = one_more number_json c.args.text.now c.loop-site.left.now (codes ",") _ _ _ _ _ more
          c.loop-site.invariant.read c.in_ok-parse_prefix.ensures made.ensures.1;
    }

pub returns : goal.returns
returns c =
    let counts = c.loop-site.counts in
    let IsWord : ℕ → Type 0 = λ n. n < 2 ^ 32 in
    let all : take c.loop-site.site counts ≡ counts = take_all c.loop-site.site counts (omega (arith, c.loop-site.invariant.sites)) in
    let read = subst (BeginsWith number_json c.args.text.now c.loop-site.left.now (codes ",")) all c.loop-site.invariant.read in (
      subst (Each IsWord) all c.loop-site.invariant.fit,
      all_read number_json c.args.text.now _ (codes ",") _ counts read c.in_ok-rest.ensures,
    )
