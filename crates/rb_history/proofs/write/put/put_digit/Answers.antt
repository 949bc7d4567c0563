use Rattle.rb_history.proofs.Words.{◌+◌, ◌++◌, take, ap, sym, ◌∙◌, arith, refl, decimal_digit, take-set_at}
use Rattle.rb_history.proofs.Digits.{one}
use Rattle.rb_history.proofs.write.put.put_digit.Goals as goal

pub returns : goal.returns
returns c =
    let at = c.args.at in
    let space = c.args.space.now in
    record {
      bytes = take-set_at space at (at + 1) _ refl c.requires.space
          ∙ ap (λ l. take at space ++ l) (sym (decimal_digit c.args.n c.requires.digit));
      moved = omega (arith, one c.args.n c.requires.digit);
    }
