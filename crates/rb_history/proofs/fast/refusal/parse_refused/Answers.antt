use Rattle.rb_history.proofs.Words.{◌≡◌, ◌++◌, Some, sym, ap, ◌∙◌, rules, escape_byte, compact_text, find_refusal, plain_refusals}
use Rattle.rb_history.proofs.PlainRefusals.{plain_fits, plain_json}
use Rattle.rb_history.proofs.fast.refusal.parse_refused.Goals as goal

pub returns-in_ok-refusal-in-Some : goal.returns-in_ok-refusal-in-Some
unfolding escape_byte
returns-in_ok-refusal-in-Some c =
    let n = c.in-Some.number in
    let r = c.in_ok-refusal-in-Some.refusal in
    let is : find_refusal n plain_refusals ≡ Some r = search rules in
    (plain_fits n r is, c.in-Some.ensures.1 ∙ ap (λ d. compact_text d ++ c.in-Some.rest.now) (sym (plain_json n r is)))
