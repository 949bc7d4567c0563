use Rattle.std.proofs.Common.{◌≡◌, ◌++◌, ◌∙◌, ℕ, None, [], ◌∷◌, codes, decimal, sym, ap, append_assoc}
use Rattle.std.proofs.lemmas.Result.{on_ok_weaker}
use Rattle.json.specs.Print.{escape_byte}
use Rattle.rb_node.specs.Answers.{line_of}
use Rattle.rb_run_site.specs.Journals.{bad_json}
use Rattle.rb_run_site.proofs.bad_line.append_long_line.Goals as goal

-- the parts are the line
line_is : (n : ℕ) → codes "{\"bad\":\"long\",\"line\":" ++ (decimal n ++ codes "}\n") ≡ line_of (bad_json (codes "long") n None)
unfolding escape_byte
line_is n = ap (λ l. codes "{\"bad\":\"long\",\"line\":" ++ l) (sym (append_assoc (decimal n) (codes "}") (10 ∷ [])))

pub returns-clause-ok : goal.returns-clause-ok
returns-clause-ok c =
    on_ok_weaker c.append_whole.result
    (λ said. said ∙ ap (λ l. c.args.out.now.items ++ l) (line_is c.args.number)) c.append_whole.ensures.ok
