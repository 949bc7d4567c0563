use Rattle.rb_history.proofs.Words.{◌≡◌, sym, ◌∙◌, rules, view, size_of}
use Rattle.rb_history.proofs.read.reply.answer.Goals as goal

pub returns-then-size-eq1 : goal.returns-then-size-eq1
returns-then-size-eq1 c =
    let one : size_of (view c.args.value.now) ≡ 1 = search rules in
    rw one c.short.ensures

pub returns-then-size-eq3 : goal.returns-then-size-eq3
returns-then-size-eq3 c =
    let three : size_of (view c.args.value.now) ≡ 3 = search rules in
    rw three c.statement.ensures

pub returns-in-Some : goal.returns-in-Some
returns-in-Some c =
    let two : size_of (view c.args.value.now) ≡ 2 = search rules in
    rw two (sym c.made.ensures ∙ c.in-Some.is)

pub returns-in-None : goal.returns-in-None
returns-in-None c =
    let two : size_of (view c.args.value.now) ≡ 2 = search rules in
    rw two (sym c.made.ensures ∙ c.in-None.is)
