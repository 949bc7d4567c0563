use Rattle.rb_history.proofs.Words.{name_json, IsName, [], ap, codes, rules, ◌++◌, ◌∙◌, ◌∷◌, ◌≡◌}
use Rattle.rb_history.proofs.Plain.{name_written}
use Rattle.rb_history.proofs.Reading.{all_read, each_more, one_more}
use Rattle.rb_history.proofs.fast.reply.parse_list.Goals as goal

pub loop-init : goal.loop-init
loop-init c = record {
  left = search rules;
  comma = search rules;
  fit = search rules;
  read = rw c.new-names.ensures.items (λ later rest e. e);
}

pub loop-preserved : goal.loop-preserved
loop-preserved c =
    let made = c.in_ok-name in
    let pushed : c.push.new.self.items ≡ c.loop.names.items ++ made.name ∷ [] = search rules in
    record {
      left = search rules;
      comma = search rules;
      fit = each_more IsName _ _ _ pushed c.loop.invariant.fit made.ensures.0;
      read = one_more name_json c.args.text.now c.loop.left.now c.loop.comma.now _ _ _ _ _ pushed c.loop.invariant.read
          c.in_ok-parse_prefix.ensures (c.in_ok-parse_prefix-2.ensures
          ∙ ap (λ l. codes "\"" ++ l) (name_written made.name _ _ made.ensures.0 made.ensures.1));
    }

pub returns-in-Some : goal.returns-in-Some
returns-in-Some c = (
  c.loop.invariant.fit,
  all_read name_json c.args.text.now _ c.loop.comma.now _ c.loop.names.items c.loop.invariant.read c.in-Some.ensures,
)
