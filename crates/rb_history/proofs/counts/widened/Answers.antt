use Rattle.rb_history.proofs.Words.{MOST_SITES, MOST_SITES_OF_VERSION_1, [], ap, arith, drop, get_or, rules, sym, take-append-drop, ◌++◌}
use Rattle.rb_history.proofs.Words.{◌-◌, ◌∙◌, ◌∷◌, ◌≡◌, take_all, take_more, take_more_set, replicate}
use Rattle.rb_history.proofs.SiteCounts.{none_behind}
use Rattle.rb_history.proofs.counts.widened.Goals as goal

pub loop-site-preserved : goal.loop-site-preserved
loop-site-preserved c =
    let counts = c.loop-site.counts in
    let first = c.args.first.now in
    let site = c.loop-site.site in
    let n = get_or first site 0 in
    record {
      sites = search rules;
      same = take_more_set counts site n (omega (arith, c.loop-site.invariant.sites)) ∙ ap (λ l. l ++ n ∷ []) c.loop-site.invariant.same
          ∙ sym (take_more first site 0 (omega arith));
      none = none_behind counts site site n (omega arith) (omega arith) c.loop-site.invariant.none;
    }

pub returns : goal.returns
returns c =
    let counts = c.loop-site.counts in
    let first = c.args.first.now in
    let site = c.loop-site.site in
    let all : site ≡ MOST_SITES_OF_VERSION_1 = omega arith in
    sym (take-append-drop site counts)
    ∙ ap (λ l. l ++ drop site counts) (c.loop-site.invariant.same ∙ take_all site first (omega arith))
    ∙ ap (λ l. first ++ l) (c.loop-site.invariant.none ∙ ap (λ k. replicate (MOST_SITES - k) 0) all)
