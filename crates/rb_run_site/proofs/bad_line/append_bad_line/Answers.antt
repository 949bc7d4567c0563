use Rattle.std.proofs.Common.{◌≡◌, ◌++◌, ◌∙◌, List, ℕ, Some, None, [], ◌∷◌, codes, decimal, inl, inr, refl, sym, ap, append_assoc}
use Rattle.std.proofs.lemmas.Result.{on_ok_weaker}
use Rattle.json.specs.Print.{escape_byte, quoted}
use Rattle.rb_node.specs.Answers.{line_of}
use Rattle.rb_run_site.specs.Journals.{bad_json}
use Rattle.rb_run_site.proofs.bad_line.append_bad_line.Goals as goal

-- the parts are the line, with a reason and without
with_reason : (n : ℕ) (why : List ℕ)
    → codes "{\"bad\":\"line\",\"line\":" ++ (decimal n ++ (codes ",\"why\":" ++ (quoted why ++ codes "}\n")))
    ≡ line_of (bad_json (codes "line") n (Some why))
unfolding escape_byte
with_reason n why = ap (λ l. codes "{\"bad\":\"line\",\"line\":" ++ l) (sym
    (append_assoc (decimal n) (codes ",\"why\":" ++ (quoted why ++ codes "}")) (10 ∷ [])
    ∙ ap (λ l. decimal n ++ (codes ",\"why\":" ++ l)) (append_assoc (quoted why) (codes "}") (10 ∷ []))))

without : (n : ℕ) → codes "{\"bad\":\"line\",\"line\":" ++ (decimal n ++ codes "}\n") ≡ line_of (bad_json (codes "line") n None)
unfolding escape_byte
without n = ap (λ l. codes "{\"bad\":\"line\",\"line\":" ++ l) (sym (append_assoc (decimal n) (codes "}") (10 ∷ [])))

pub returns-in-Some-clause-ok : goal.returns-in-Some-clause-ok
returns-in-Some-clause-ok c =
    let (said, why, text) = c.in-Some.ensures in
    on_ok_weaker c.append_whole.result
    (λ is. (
      Some said,
      inl (sym why),
      is
          ∙ ap (λ l. c.args.out.now.items ++ (codes "{\"bad\":\"line\",\"line\":"
          ++ (decimal c.args.number ++ (codes ",\"why\":" ++ (l ++ codes "}\n"))))) (c.deref.ensures ∙ text)
          ∙ ap (λ l. c.args.out.now.items ++ l) (with_reason c.args.number said),
    ))
    c.append_whole.ensures.ok

pub returns-in-None-clause-ok : goal.returns-in-None-clause-ok
returns-in-None-clause-ok c =
    on_ok_weaker c.append_whole-in-None.result
    (λ is. (None, inr refl, is ∙ ap (λ l. c.args.out.now.items ++ l) (without c.args.number)))
    c.append_whole-in-None.ensures.ok
