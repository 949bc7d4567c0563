use Rattle.std.proofs.Common.{◌≡◌, ◌++◌, ◌∷◌, [], take, get_or, true, sym, ap, ◌∙◌, arith, rules}
use Rattle.std.proofs.lemmas.List.{take_rest}
use Rattle.json.specs.Word.{is_operator, is_space}
use Rattle.json.specs.Lex.{between, lex}
use Rattle.rb_history.proofs.Blanks.{joins_number}
use Rattle.rb_history.proofs.fast.blanks.join_number.Goals as goal

pub returns-clause-joins : goal.returns-clause-joins
returns-clause-joins c =
    let read = c.in_ok-len in
    let behind = c.skip_blanks-behind in
    let blank : is_space (get_or c.args.text.now read.len 0) ≡ true = sym c.is_blank.ensures ∙ c.if-not-is_blank.false in
    let mark : is_operator (get_or behind.result.now 0 0) ≡ true = sym c.is_mark.ensures ∙ c.if-not-is_mark.false in
    let added : c.push.new.self.items ≡ (c.args.joined.now.items ++ take read.len c.args.text.now) ++ get_or behind.result.now 0 0 ∷ []
    = search rules in
    joins_number c.args.joined.now.items c.push.new.self.items c.args.text.now behind.result.now _ read.len _
    read.ensures.0 read.ensures.2 (omega arith) blank (behind.ensures.same
    ∙ ap (lex between) (take_rest c.args.text.now read.len)) (omega arith) mark (take_rest behind.result.now 1) added
