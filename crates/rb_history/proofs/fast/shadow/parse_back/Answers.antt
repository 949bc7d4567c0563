use Rattle.rb_history.proofs.Words.{escape_byte, behind_quote, last_members, word_of, name_text, members_text, List, ap, append_assoc}
use Rattle.rb_history.proofs.Words.{codes, decimal, sym, true, ℕ, ◌++◌, ◌∙◌, ◌≡◌}
use Rattle.rb_history.proofs.Plain.{name_written}
use Rattle.rb_history.proofs.fast.shadow.parse_back.Goals as goal

back_text : (red home kind name last rest : List ℕ)
    → (codes "," ++ (red ++ codes "]")) ++ ((codes ",\"home\":" ++ (home ++ codes ",\"kind\":\"")) ++
    (kind ++ (codes ",\"name\":\"" ++ (name ++ (last ++ (codes "}" ++ rest))))))
    ≡ (codes "," ++ (red ++ (codes "],\"home\":" ++ (home ++ (codes ",\"kind\":\"" ++
    (kind ++ (codes ",\"name\":\"" ++ (name ++ (last ++ codes "}"))))))))) ++ rest
back_text red home kind name last rest = simp append_assoc

pub returns : goal.returns
unfolding escape_byte
returns c =
    let red = decimal c.in_ok-red.red in
    let home = decimal c.in_ok-home.home in
    let label = behind_quote (word_of c.in_ok-label.label) in
    let name = behind_quote (name_text c.in_ok-name.name) in
    let last = members_text true (last_members c.args.config.now c.in_ok-kind.kind) in
    let rest = c.in_ok-rest.rest.now in
    let named = name_written c.in_ok-name.name _ _ c.in_ok-name.ensures.0 c.in_ok-name.ensures.1 in
    let read =
    c.in_ok-red.ensures.1 ∙ ap (λ l. (codes "," ++ (red ++ codes "]")) ++ l)
    (c.in_ok-home.ensures.1 ∙ ap (λ l. (codes ",\"home\":" ++ (home ++ codes ",\"kind\":\"")) ++ l)
    (c.in_ok-label.ensures ∙ ap (λ l. label ++ l)
    (c.in_ok-parse_prefix.ensures ∙ ap (λ l. codes ",\"name\":\"" ++ l)
    (named ∙ ap (λ l. name ++ l)
    (c.in_ok-kind.ensures.text ∙ ap (λ l. last ++ l) c.in_ok-rest.ensures))))) in
    let whole = λ (kind : List ℕ). (codes "," ++ (red ++ (codes "],\"home\":" ++ (home ++ (codes ",\"kind\":\"" ++
    (kind ++ (codes ",\"name\":\"" ++ (name ++ (last ++ codes "}"))))))))) ++ rest in
    record {
      red = c.in_ok-red.ensures.0;
      home = c.in_ok-home.ensures.0;
      name = c.in_ok-name.ensures.0;
      kind = c.in_ok-kind.ensures.kind.0;
      written = read ∙ back_text red home label name last rest
          ∙ ap (λ k. whole (behind_quote (word_of k))) (sym c.in_ok-kind.ensures.kind.1);
    }
