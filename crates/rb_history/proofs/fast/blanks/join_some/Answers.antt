use Rattle.std.proofs.Common.{◌≡◌, ◌++◌, take, length, length-drop, ap, arith, rules}
use Rattle.std.proofs.lemmas.List.{take_rest}
use Rattle.rb_history.proofs.Blanks.{joins_tokens}
use Rattle.rb_history.proofs.fast.blanks.join_some.Goals as goal

pub returns-clause-shorter : goal.returns-clause-shorter
returns-clause-shorter c =
    let text = c.args.text.now in
    let found = c.in-Some in
    omega (arith, found.ensures.0, found.ensures.1, length-drop found.len text, ap length (take_rest text found.len))

pub returns-clause-joins : goal.returns-clause-joins
returns-clause-joins c =
    let found = c.in-Some in
    let added : c.extend_from_slice.new.self.items ≡ c.args.joined.now.items ++ take found.len c.args.text.now = search rules in
    joins_tokens c.args.joined.now.items c.extend_from_slice.new.self.items c.args.text.now _ found.len found.ensures.2
    (take_rest c.args.text.now found.len) added
