use Rattle.rb_history.proofs.Words.{◌++◌, append_assoc, codes, subst, sym, escape_byte, Adds}
use Rattle.rb_history.proofs.Plain.{account_plain}
use Rattle.rb_history.proofs.write.verdict.append_limit.Goals as goal

pub returns : goal.returns
unfolding escape_byte
returns c =
    let front = codes "{\"account\":\"" in
    let back = codes ",\"fault\":\"limit\"}" in
    rw (account_plain c.args.name.now c.requires)
    (subst (λ t. Adds c.append_three.result c.args.out.now.items c.append_three.new.out.items (front ++ t))
    (sym (append_assoc c.args.name.now (codes "\"") back)) c.append_three.ensures)
