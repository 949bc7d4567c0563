use Rattle.rb_history.proofs.Words.{BeginsWithCounts, BeginsWithNumbered, widened, blue_json, MOST_SITES_OF_VERSION_1, compact_text, List}
use Rattle.rb_history.proofs.Words.{ap, codes, length, rules, subst, sym, ℕ, ◌++◌, ◌∙◌, ◌≡◌, IfSome_then}
use Rattle.rb_history.proofs.SiteCounts.{widened_fits, widened_further, widened_json, widened_length}
use Rattle.rb_history.proofs.fast.counts.parse_counts.Goals as goal

pub returns-then-version-eq1 : goal.returns-then-version-eq1
returns-then-version-eq1 c =
    let first = c.parse_first.new.counts in
    let few : length first ≡ MOST_SITES_OF_VERSION_1 = search rules in
    let text = c.args.text.now in
    let rest = c.in_ok-rest.rest.now in
    let one : c.args.version ≡ 1 = search rules in
    let read = c.in_ok-list.ensures ∙ ap (λ l. codes "[" ++ l) c.in_ok-rest.ensures.1 in
    let written : BeginsWithCounts 1 (widened first) text rest = record {
      sites = widened_length first few;
      fit = widened_fits first c.in_ok-rest.ensures.0;
      further = λ version. widened_further first few;
      written = read ∙ ap (λ blue. compact_text blue ++ rest) (sym (widened_json first few));
    } in
    subst (λ v. BeginsWithCounts v c.widened.result text rest) (sym one) (subst (λ ns. BeginsWithCounts 1 ns text rest)
    (sym c.widened.ensures) written)

-- counts with their numbers, in a version that has them
numbered : (version : ℕ) (ns text list rest : List ℕ) → (version ≡ 1 → ⊥) → text ≡ codes "[" ++ list → BeginsWithNumbered ns list rest
    → BeginsWithCounts version ns text rest
unfolding blue_json
numbered version ns text list rest other e n = record {
  sites = n.sites;
  fit = n.fit;
  further = λ one. absurd (other one);
  written = search rules;
}

pub returns : goal.returns
returns c = IfSome_then c.parse_numbered.result c.parse_numbered.ensures (λ rest n.
    numbered c.args.version c.parse_numbered.new.counts c.args.text.now c.in_ok-list.list.now rest.now
    c.if-version-eq1.false c.in_ok-list.ensures n)
