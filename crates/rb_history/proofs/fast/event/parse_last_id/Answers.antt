use Rattle.std.proofs.Common.{◌≡◌, codes, inl, inr, rules}
use Rattle.rb_history.proofs.fast.event.parse_last_id.Goals as goal

pub returns-then-eq : goal.returns-then-eq
returns-then-eq c = inl (search rules, search rules)

pub returns : goal.returns
returns c =
    let last : c.in_ok-id.rest.now ≡ codes "}" = search rules in
    inr (c.in_ok-id.ensures.0, rw last at c.in_ok-id.ensures.1)
