use Rattle.std.proofs.Common.{◌≡◌, ◌++◌, List, ℕ, [], codes, decimal, append_assoc, append-nil}
use Rattle.rb_history.proofs.Public.Appended.{both, then}
use Rattle.rb_run_site.proofs.bad_line.append_parts.Goals as goal

-- the parts of the text, one after another
parts : (word number key why : List ℕ)
    → ((codes "{\"bad\":\"" ++ (word ++ codes "\",\"line\":")) ++ (number ++ key)) ++ (why ++ (codes "}\n" ++ []))
    ≡ codes "{\"bad\":\"" ++ (word ++ (codes "\",\"line\":" ++ (number ++ (key ++ (why ++ codes "}\n")))))
parts word number key why = simp (append_assoc, append-nil)

pub returns : goal.returns
returns c =
    then c.append_three-2.result c.args.out.now.items c.append_number.new.out.items c.append_three-2.new.out.items _ _ _
    (both c.args.out.now.items c.append_three.new.out.items c.append_number.new.out.items _ _
    c.in_ok-append_three.ensures c.in_ok-append_number.ensures)
    c.append_three-2.ensures (parts c.args.word.now (decimal c.args.number) c.args.key.now c.args.why.now)
