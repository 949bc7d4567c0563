-- The texts of answers to questions, from their parts.
use Rattle.std.proofs.Common.{◌≡◌, ◌≤◌, ◌+◌, ℕ, Bool, List, [], ◌∷◌, ◌++◌, codes, decimal, length, drop, sym, ap, ◌∙◌}
use Rattle.std.proofs.Common.{append_assoc, append-nil}
use Rattle.std.proofs.lemmas.List.{drop_all}
use Rattle.json.specs.Print.{escape_byte}
use Rattle.serde_json.specs.Data.{boolean}
use Rattle.serde_json.specs.Written.{compact_text}
use Rattle.rb_money.specs.Settings.{Settings}
use Rattle.rb_shadow.specs.declared.shadow.Shadow.{Shadow}
use Rattle.rb_shadow.specs.Operations.{clock_of}
use Rattle.rb_site.specs.Seen.{SeenSite, state_of}
use Rattle.rb_history.specs.declared.question.Question.TheVariants.{About}
use Rattle.rb_history.specs.Entries.{deps_json}
use Rattle.rb_history.specs.Values.{number_json, one_json}
use Rattle.rb_node.specs.Answers.{line_of, sent_line}
use Rattle.rb_node.specs.Index.{lines_again, messages_of}
use Rattle.rb_node.specs.LineAnswers.{question_text, reply_only}
use Rattle.rb_node.specs.declared.sent_entry.SentEntry.{SentEntry}
use Rattle.rb_node.proofs.AnswerTexts.{alone_parts, parts}

-- ---- what entries sent, once more

-- the line of an entry more
pub line_written : (s : Settings) (bank : List ℕ) (us : List Shadow) (out new total : List ℕ) (xs : List SentEntry)
    (i : ℕ) (x : SentEntry) →
    drop i xs ≡ x ∷ drop (i + 1) xs → new ≡ out ++ sent_line s bank (messages_of us x.sent) → out
    ++ lines_again s bank us (drop i xs) ≡ total
    → new ++ lines_again s bank us (drop (i + 1) xs) ≡ total
line_written s bank us out new total xs i x is e h =
    let rest = lines_again s bank us (drop (i + 1) xs) in
    ap (λ l. l ++ rest) e ∙ append_assoc out (sent_line s bank (messages_of us x.sent)) rest
    ∙ ap (λ l. out ++ lines_again s bank us l) (sym is) ∙ h

-- all are written
pub lines_written : (s : Settings) (bank : List ℕ) (us : List Shadow) (out total : List ℕ) (xs : List SentEntry) (i : ℕ) → length xs ≤ i →
    out ++ lines_again s bank us (drop i xs) ≡ total → out ≡ total
lines_written s bank us out total xs i h e = sym (append-nil out) ∙ ap (λ l. out ++ lines_again s bank us l) (sym (drop_all i xs h)) ∙ e

-- the line that says of how many entries that was
pub resent_line : (n : ℕ) → codes "{\"reply\":{\"resent\":" ++ (decimal n ++ codes "},\"sends\":[],\"then\":[]}\n")
    ≡ line_of (reply_only (one_json (codes "resent") (number_json n)))
unfolding escape_byte
resent_line n = alone_parts (codes "{\"reply\":") (codes "{\"resent\":") (decimal n)
    ∙ parts (codes "{") (codes "{\"resent\":" ++ (decimal n ++ codes "}")) (codes "[]") (codes "]")

-- ---- about the site

-- the first part of it
abbrev pub applied_text : List ℕ → List ℕ → List ℕ → List ℕ
applied_text deps entries epoch = codes "{\"reply\":{\"about\":{\"applied\":" ++ (deps ++ (codes ",\"entries\":" ++ (entries
    ++ (codes ",\"epoch\":" ++ epoch))))

-- and the second
abbrev pub held_text : List ℕ → List ℕ → List ℕ → List ℕ
held_text held site token = codes ",\"held\":" ++ (held ++ (codes ",\"site\":" ++ (site ++ (codes ",\"token\":" ++ token))))

about_parts : (deps entries epoch held site token : List ℕ) →
    (applied_text deps entries epoch ++ held_text held site token) ++ codes "}},\"sends\":[],\"then\":[]}\n"
    ≡ (codes "{\"reply\":" ++ ((codes "{\"about\":" ++ ((codes "{\"applied\":" ++ (deps ++ (codes ",\"entries\":" ++ (entries
    ++ (codes ",\"epoch\":" ++ (epoch ++ (codes ",\"held\":" ++ (held ++ (codes ",\"site\":" ++ (site ++ (codes ",\"token\":"
    ++ (token ++ codes "}")))))))))))) ++ codes "}"))
    ++ (codes ",\"sends\":" ++ (codes "[]" ++ (codes ",\"then\":" ++ (codes "[]" ++ codes "}")))))) ++ 10 ∷ []
about_parts deps entries epoch held site token = simp append_assoc

-- the parts are the answer's line
pub about_line : (bank : List ℕ) (x : SeenSite) → (applied_text (compact_text (deps_json x.settings.version (clock_of (state_of x).ops)))
    (decimal (length x.entries)) (decimal (state_of x).token.epoch) ++ held_text (decimal (length (state_of x).held)) (decimal x.me)
    (compact_text (boolean (state_of x).token.held))) ++ codes "}},\"sends\":[],\"then\":[]}\n" ≡ question_text bank x About
unfolding escape_byte
about_line bank x = about_parts (compact_text (deps_json x.settings.version (clock_of (state_of x).ops))) (decimal (length x.entries))
    (decimal (state_of x).token.epoch) (decimal (length (state_of x).held)) (decimal x.me)
    (compact_text (boolean (state_of x).token.held))

-- the parts of the first part, and of the second, one after another
pub applied_parts : (deps entries epoch : List ℕ) → ((codes "{\"reply\":{\"about\":{\"applied\":" ++ deps)
    ++ (codes ",\"entries\":" ++ (entries ++ codes ",\"epoch\":"))) ++ (codes "" ++ (epoch ++ codes "")) ≡ applied_text deps entries epoch
applied_parts deps entries epoch =
    ap (λ l. ((codes "{\"reply\":{\"about\":{\"applied\":" ++ deps) ++ (codes ",\"entries\":" ++ (entries ++ codes ",\"epoch\":"))) ++ l)
    (append-nil epoch) ∙ simp append_assoc

pub held_parts : (held site token : List ℕ) → ((codes ",\"held\":" ++ (held ++ codes ",\"site\":"))
    ++ (codes "" ++ (site ++ codes ",\"token\":"))) ++ token ≡ held_text held site token
held_parts held site token = simp append_assoc

-- the word for a truth value
pub word_of : (b truth : Bool) (word : List ℕ) → b ≡ truth → word ≡ compact_text (boolean truth) → word ≡ compact_text (boolean b)
word_of b truth word is e = e ∙ ap (λ t. compact_text (boolean t)) (sym is)
