use Rattle.rb_history.proofs.Words.{◌≡◌, ◌++◌, List, ℕ, codes, decimal, ap, ◌∙◌, append_assoc, escape_byte}
use Rattle.rb_history.proofs.fast.event.parse_token.Goals as goal

token_written : (text epoch to red one two rest : List ℕ) → text ≡ (codes "\"token\":[" ++ (epoch ++ codes ",")) ++ one
    → one ≡ (to ++ codes ",") ++ two → two ≡ (red ++ codes "]}") ++ rest
    → codes "{" ++ text
    ≡ (codes "{\"token\":" ++ ((codes "[" ++ (epoch ++ (codes "," ++ (to ++ (codes "," ++ (red ++ codes "]")))))) ++ codes "}"))
    ++ rest
token_written text epoch to red one two rest e f g =
    let whole : (codes "{\"token\":[" ++ (epoch ++ codes ",")) ++ ((to ++ codes ",") ++ ((red ++ codes "]}") ++ rest)) ≡ (codes
    "{\"token\":" ++ ((codes "[" ++ (epoch ++ (codes "," ++ (to ++ (codes "," ++ (red ++ codes "]")))))) ++ codes "}"))
    ++ rest = simp append_assoc in
    ap (λ l. codes "{" ++ l) e
    ∙ ap (λ l. (codes "{\"token\":[" ++ (epoch ++ codes ",")) ++ l) (f ∙ ap (λ l. (to ++ codes ",") ++ l) g) ∙ whole

pub returns-clause-event : goal.returns-clause-event
unfolding escape_byte
returns-clause-event c =
    let epoch = decimal c.in_ok-epoch.epoch in
    let to = decimal c.in_ok-to.to in (
      (c.in_ok-epoch.ensures.0, c.in_ok-to.ensures.0, c.in_ok-red.ensures.0),
      token_written c.args.text.now epoch to
          (decimal c.in_ok-red.red) c.in_ok-epoch.rest.now c.in_ok-to.rest.now c.in_ok-red.rest.now c.in_ok-epoch.ensures.1
          c.in_ok-to.ensures.1 c.in_ok-red.ensures.1,
    )
