use Rattle.std.proofs.Common.{◌≡◌, ℕ, List, ◌-◌, length, take, drop, ap, ◌∙◌}
use Rattle.std.specs.List.{concat}
use Rattle.std.proofs.lemmas.List.{take_rest}
use Rattle.rb_journal.specs.Lines.{behind_lines, recovered}
use Rattle.rb_journal.proofs.Public.Lines.{parts}
use Rattle.rb_journal.proofs.Intact.{end_is}
use Rattle.rb_journal.proofs.journal.damaged_line.Goals as goal

-- the part of a file after its lines, by their length
rest_is : (file : List ℕ) (end : ℕ) → end ≡ length (concat (recovered file)) → take (length file - end) (drop end file) ≡ behind_lines file
rest_is file end is = take_rest file end ∙ ap (λ (n : ℕ). drop n file) is

pub may_be_behind-requires : goal.may_be_behind-requires
may_be_behind-requires c =
    let file = c.args.bytes.now in
    ap recovered (rest_is file c.args.end c.requires.end ∙ end_is file) ∙ (parts file).nothing
